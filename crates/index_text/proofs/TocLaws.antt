-- The places of the sections are read again, and a section is cut out by them.
use Rattle.std.proofs.Common.{◌≡◌, ℕ, ◌+◌, ◌-◌, ◌^◌, ◌≤◌, ◌<◌, true, leb, eqb, List, [], ◌++◌, length, take, drop, Some, Ok, refl, sym, ap, ◌∙◌, append_assoc, arith, eq-eqb}
use Rattle.std.specs.Int.{w64, from_be_bytes, to_be_bytes}
use Rattle.std.proofs.lemmas.Bool.{le-leb}
use Rattle.std.proofs.lemmas.Nat.{from_be_bytes-to_be_bytes_8}
use Rattle.std.proofs.lemmas.List.{append-nil, length-append, drop_at, take_at}
use Rattle.hw_bytes.specs.Writing.{big_bytes, big_number}
use Rattle.hw_bytes.specs.Checksum.{crc32c}
use Rattle.index_text.specs.Layout.{number_at}
use Rattle.index_text.specs.declared.toc.Toc.{Toc}
use Rattle.index_text.specs.Layout.{Text, sum_text}
use Rattle.index_text.specs.Index.{toc_text}
use Rattle.index_text.specs.Layout.{sums}
use Rattle.index_text.specs.Reading.{between, are_places, places_of, toc_of}
use Rattle.hw_bytes.specs.Spellings.{IsBytes}
use Rattle.hw_bytes.proofs.SumLaws.{sum_reads, sum_length}

-- a section lies between the lengths of what is before it and with it
pub between-is : (before section rest : Text) → between (length before) (length (before ++ section)) ((before ++ section) ++ rest) ≡ section
between-is before section rest =
    let d : drop (length before) ((before ++ section) ++ rest) ≡ section ++ rest = ap (drop (length before)) (append_assoc before section rest) ∙ drop_at before (section ++ rest) (length before) refl in
    let n : length (before ++ section) - length before ≡ length section = omega (arith, length-append before section) in
    ap (λ k. take k (drop (length before) ((before ++ section) ++ rest))) n ∙ ap (take (length section)) d ∙ take_at section rest (length section) refl

eight : (n : ℕ) (rest : List ℕ) → n < 2 ^ 64 → big_number 8 (big_bytes 8 n ++ rest) ≡ n
eight n rest h = same n rest ∙ from_be_bytes-to_be_bytes_8 n h
  where
    same : (m : ℕ) (xs : List ℕ) → big_number 8 (big_bytes 8 m ++ xs) ≡ from_be_bytes w64 (to_be_bytes w64 m)
    same m xs = omega arith

-- a place fits eight bytes
pub record FitsToc (t : Toc) : Type 0 where
  pub symbols_fits : t.symbols < 2 ^ 64
  pub series_fits : t.series < 2 ^ 64
  pub label_indices_fits : t.label_indices < 2 ^ 64
  pub postings_fits : t.postings < 2 ^ 64
  pub label_table_fits : t.label_table < 2 ^ 64
  pub postings_table_fits : t.postings_table < 2 ^ 64

abbrev pub text_of : Toc → Text
text_of t = toc_text t.symbols t.series t.label_indices t.label_table t.postings t.postings_table

toc_numbers : (t : Toc) (rest : List ℕ) → FitsToc t → places_of (text_of t ++ rest) ≡ t
unfolding places_of
toc_numbers t rest h =
    let a = eight t.symbols (big_bytes 8 t.series ++ (big_bytes 8 t.label_indices ++ (big_bytes 8 t.label_table ++ (big_bytes 8 t.postings ++ (big_bytes 8 t.postings_table ++ rest))))) h.symbols_fits in
    let b = eight t.series (big_bytes 8 t.label_indices ++ (big_bytes 8 t.label_table ++ (big_bytes 8 t.postings ++ (big_bytes 8 t.postings_table ++ rest)))) h.series_fits in
    let c = eight t.label_indices (big_bytes 8 t.label_table ++ (big_bytes 8 t.postings ++ (big_bytes 8 t.postings_table ++ rest))) h.label_indices_fits in
    let d = eight t.label_table (big_bytes 8 t.postings ++ (big_bytes 8 t.postings_table ++ rest)) h.label_table_fits in
    let e = eight t.postings (big_bytes 8 t.postings_table ++ rest) h.postings_fits in
    let f = eight t.postings_table rest h.postings_table_fits in
    rw (a, b, c, d, e, f) refl

toc_length : (t : Toc) → length (text_of t) ≡ 48
toc_length t = refl

pub toc_again : (before : Text) (t : Toc) → FitsToc t → IsBytes (text_of t) → 5 ≤ length before → are_places t (length before) ≡ true
    → toc_of (before ++ (text_of t ++ sum_text (text_of t))) ≡ Ok t
unfolding toc_of
toc_again before t fits bytes long order =
    let tail : Text = text_of t ++ sum_text (text_of t) in
    let len : length (text_of t ++ sum_text (text_of t)) ≡ 52 = omega (arith, length-append (text_of t) (sum_text (text_of t)), toc_length t, sum_length (text_of t)) in
    let all : length (before ++ (text_of t ++ sum_text (text_of t))) ≡ length before + 52 = omega (arith, length-append before (text_of t ++ sum_text (text_of t)), len) in
    let end : length (before ++ (text_of t ++ sum_text (text_of t))) - 52 ≡ length before = omega (arith, all) in
    let back : drop (length before) (before ++ (text_of t ++ sum_text (text_of t))) ≡ text_of t ++ sum_text (text_of t) = drop_at before (text_of t ++ sum_text (text_of t)) (length before) refl in
    let there : leb 57 (length (before ++ (text_of t ++ sum_text (text_of t)))) ≡ true = le-leb 57 (length (before ++ (text_of t ++ sum_text (text_of t)))) (omega (arith, all, long)) in
    let same : sums 48 (text_of t ++ sum_text (text_of t)) ≡ true = summed t bytes in
    rw (there, end, back, same, toc_numbers t (sum_text (text_of t)) fits, order) refl
  where
    summed : (u : Toc) → IsBytes (text_of u) → sums 48 (text_of u ++ sum_text (text_of u)) ≡ true
    summed u h =
        let d : drop 48 (text_of u ++ sum_text (text_of u)) ≡ sum_text (text_of u) = drop_at (text_of u) (sum_text (text_of u)) 48 refl in
        let k : take 48 (text_of u ++ sum_text (text_of u)) ≡ text_of u = take_at (text_of u) (sum_text (text_of u)) 48 refl in
        let n : number_at 4 (sum_text (text_of u)) ≡ Some (crc32c (text_of u)) = ap (number_at 4) (sym (append-nil (sum_text (text_of u)))) ∙ sum_reads (text_of u) [] h in
        let same : eqb (crc32c (text_of u)) (crc32c (text_of u)) ≡ true = eq-eqb (crc32c (text_of u)) (crc32c (text_of u)) refl in
        rw (d, k, n, same) refl
