-- An element with its length and its checksum is read again.
use Rattle.std.proofs.Common.{◌≡◌, ℕ, ◌+◌, ◌^◌, ◌<◌, true, leb, List, ◌++◌, length, take, drop, Ok, refl, ap, ◌∙◌, append_assoc, arith}
use Rattle.std.proofs.lemmas.Bool.{le-leb}
use Rattle.std.proofs.lemmas.List.{length-append, drop_at, take_at}
use Rattle.hw_bytes.specs.Writing.{big_bytes}
use Rattle.hw_bytes.specs.Writing.{uvarint}
use Rattle.hw_bytes.specs.Spellings.{IsBytes}
use Rattle.hw_bytes.proofs.SumLaws.{four-again, sum_drops, sum_length, sums_again}
use Rattle.index_text.proofs.Spelled.{uvarint-again}
use Rattle.index_text.specs.Layout.{sum_text, framed, counted}
use Rattle.index_text.specs.Fields.{four, uvarint_field}
use Rattle.index_text.specs.Reading.{summed_at, framed_at, counted_at}

pub four_field-again : (n : ℕ) (rest : List ℕ) → n < 2 ^ 32 → four (big_bytes 4 n ++ rest) ≡ Ok (n, rest)
unfolding four
four_field-again n rest h = rw (four-again n rest h) refl

pub uvarint_field-again : (n : ℕ) (rest : List ℕ) → n < 2 ^ 64 → uvarint_field (uvarint n ++ rest) ≡ Ok (n, rest)
unfolding uvarint_field
uvarint_field-again n rest h = rw (uvarint-again n rest h, drop_at (uvarint n) rest (length (uvarint n)) refl) refl

pub summed_again : (body rest : List ℕ) → IsBytes body → summed_at (length body) (body ++ (sum_text body ++ rest)) ≡ Ok (body, rest)
unfolding summed_at
summed_again body rest h =
    let t : take (length body) (body ++ (sum_text body ++ rest)) ≡ body = take_at body (sum_text body ++ rest) (length body) refl in
    let d : drop (length body) (body ++ (sum_text body ++ rest)) ≡ sum_text body ++ rest = drop_at body (sum_text body ++ rest) (length body) refl in
    let there : leb (length body + 4) (length (body ++ (sum_text body ++ rest))) ≡ true =
    le-leb (length body + 4) (length (body ++ (sum_text body ++ rest))) (omega (arith, length-append body (sum_text body ++ rest), length-append (sum_text body) rest, sum_length body)) in
    rw (there, sums_again body rest h, t, d, sum_drops body rest) refl

pub framed_again : (body rest : List ℕ) → IsBytes body → length body < 2 ^ 32 → framed_at (framed body ++ rest) ≡ Ok (body, rest)
unfolding framed_at
framed_again body rest h small =
    let regrouped : framed body ++ rest ≡ big_bytes 4 (length body) ++ (body ++ (sum_text body ++ rest)) = parts (big_bytes 4 (length body)) body (sum_text body) rest in
    ap framed_at regrouped
    ∙ rw (four-again (length body) (body ++ (sum_text body ++ rest)) small, drop_at (big_bytes 4 (length body)) (body ++ (sum_text body ++ rest)) 4 refl) (summed_again body rest h)
  where
    parts : (a b c d : List ℕ) → ((a ++ b) ++ c) ++ d ≡ a ++ (b ++ (c ++ d))
    parts a b c d = append_assoc (a ++ b) c d ∙ append_assoc a b (c ++ d)

pub counted_again : (body rest : List ℕ) → IsBytes body → length body < 2 ^ 64 → counted_at (counted body ++ rest) ≡ Ok (body, rest)
unfolding counted_at
counted_again body rest h small =
    let regrouped : counted body ++ rest ≡ uvarint (length body) ++ (body ++ (sum_text body ++ rest)) = parts (uvarint (length body)) body (sum_text body) rest in
    ap counted_at regrouped
    ∙ rw (uvarint-again (length body) (body ++ (sum_text body ++ rest)) small, drop_at (uvarint (length body)) (body ++ (sum_text body ++ rest)) (length (uvarint (length body))) refl) (summed_again body rest h)
  where
    parts : (a b c d : List ℕ) → ((a ++ b) ++ c) ++ d ≡ a ++ (b ++ (c ++ d))
    parts a b c d = append_assoc (a ++ b) c d ∙ append_assoc a b (c ++ d)
