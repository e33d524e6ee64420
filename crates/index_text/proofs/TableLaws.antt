-- Symbols, label indices and tables are read again.
use Rattle.std.proofs.Common.{◌≡◌, ℕ, ◌^◌, ◌<◌, true, ltb, List, [], ◌∷◌, ◌++◌, length, map, Result, Ok, refl, sym, ap, ◌∙◌, append_assoc, arith}
use Rattle.std.specs.List.{flat_map, AllByRecursion}
use Rattle.std.proofs.lemmas.Bool.{lt-ltb}
use Rattle.std.proofs.lemmas.List.{append-nil, drop_at, length-map}
use Rattle.hw_bytes.specs.Writing.{big_bytes}
use Rattle.hw_bytes.specs.Writing.{uvarint, text}
use Rattle.index_text.proofs.Spelled.{text_at-again}
use Rattle.index_text.proofs.Spelled.{uvarint-spells}
use Rattle.wal_record.specs.declared.labels.Label.{Label}
use Rattle.index_text.specs.Gives.{◌>>=◌, nothing_left, rest_of}
use Rattle.index_text.specs.Layout.{Text}
use Rattle.index_text.specs.Index.{symbols_body, label_entry, label_index_body, label_table_body, postings_body, postings_entry, postings_table_body}
use Rattle.index_text.specs.Sets.{rank, text_cmp}
use Rattle.index_text.specs.declared.fault.ReadFault.{ReadFault}
use Rattle.index_text.specs.Fields.{times, four, text_field, symbols_field, fixed, four_below, label_index_done, marked, label_entry_field, label_table_done, postings_done, postings_entry_field, postings_table_done}
use Rattle.index_text.proofs.Again.{times_again}
use Rattle.index_text.proofs.Frames.{four_field-again, uvarint_field-again}

abbrev pub IsLong : Text → Type 0
IsLong t = length t < 2 ^ 64

pub text_field-again : (t : Text) (rest : List ℕ) → IsLong t → text_field (text t ++ rest) ≡ Ok (t, rest)
unfolding text_field
text_field-again t rest h =
    rw (text_at-again (text t) rest t (uvarint (length t), uvarint-spells (length t) h, refl), drop_at (text t) rest (length (text t)) refl) refl

pub symbols-again : (table : List Text) (rest : List ℕ) → length table < 2 ^ 32 → AllByRecursion IsLong table → symbols_field (symbols_body table ++ rest) ≡ Ok (table, rest)
unfolding symbols_field symbols_body
symbols-again table rest few h =
    ap symbols_field (append_assoc (big_bytes 4 (length table)) (flat_map text table) rest)
    ∙ rw (four_field-again (length table) (flat_map text table ++ rest) few) (times_again text_field text IsLong (λ t r k. text_field-again t r k) table rest h)

abbrev pub FitsEntry : Text × ℕ → Type 0
FitsEntry x = IsLong x.0 × (x.1 < 2 ^ 64)

marked_is : (mark : ℕ) (rest : List ℕ) → marked 1 (1 ∷ rest) ≡ Ok rest
unfolding marked
marked_is mark rest = refl

marked_two : (rest : List ℕ) → marked 2 (2 ∷ rest) ≡ Ok rest
unfolding marked
marked_two rest = refl

pub label_entry-again : (x : Text × ℕ) (rest : List ℕ) → FitsEntry x → label_entry_field (label_entry x ++ rest) ≡ Ok (x, rest)
unfolding label_entry_field
label_entry-again x rest h =
    ap (λ t. label_entry_field (1 ∷ t)) (append_assoc (text x.0) (uvarint x.1) rest)
    ∙ rw (marked_is 1 (text x.0 ++ (uvarint x.1 ++ rest)), text_field-again x.0 (uvarint x.1 ++ rest) h.0, uvarint_field-again x.1 rest h.1) refl

-- what was read to the end passes
passed : {X : Type 0} (xs : List X) (r : Result (List X × List ℕ) ReadFault) → r ≡ Ok (xs, []) → (rest_of r >>= nothing_left) ≡ Ok tt
passed xs r e = rw e refl

pub label_table_done-again : (xs : List (Text × ℕ)) → length xs < 2 ^ 32 → AllByRecursion FitsEntry xs → label_table_done (label_table_body xs) ≡ Ok tt
unfolding label_table_done label_table_body
label_table_done-again xs few h =
    rw (four_field-again (length xs) (flat_map label_entry xs) few)
    (passed xs (times label_entry_field (length xs) (flat_map label_entry xs)) (ap (times label_entry_field (length xs)) (sym (append-nil (flat_map label_entry xs))) ∙ times_again label_entry_field label_entry FitsEntry (λ x r k. label_entry-again x r k) xs [] h))

abbrev pub FitsPostings : Label × ℕ → Type 0
FitsPostings x = IsLong x.0.name × IsLong x.0.value × (x.1 < 2 ^ 64)

pub postings_entry-again : (x : Label × ℕ) (rest : List ℕ) → FitsPostings x → postings_entry_field (postings_entry x ++ rest) ≡ Ok (x, rest)
unfolding postings_entry_field
postings_entry-again x rest h =
    ap (λ t. postings_entry_field (2 ∷ t)) (append_assoc (text x.0.name ++ text x.0.value) (uvarint x.1) rest ∙ append_assoc (text x.0.name) (text x.0.value) (uvarint x.1 ++ rest))
    ∙ rw (marked_two (text x.0.name ++ (text x.0.value ++ (uvarint x.1 ++ rest))), text_field-again x.0.name (text x.0.value ++ (uvarint x.1 ++ rest)) h.0, text_field-again x.0.value (uvarint x.1 ++ rest) h.1, uvarint_field-again x.1 rest h.2) refl

pub postings_table_done-again : (xs : List (Label × ℕ)) → length xs < 2 ^ 32 → AllByRecursion FitsPostings xs → postings_table_done (postings_table_body xs) ≡ Ok tt
unfolding postings_table_done postings_table_body
postings_table_done-again xs few h =
    rw (four_field-again (length xs) (flat_map postings_entry xs) few)
    (passed xs (times postings_entry_field (length xs) (flat_map postings_entry xs)) (ap (times postings_entry_field (length xs)) (sym (append-nil (flat_map postings_entry xs))) ∙ times_again postings_entry_field postings_entry FitsPostings (λ x r k. postings_entry-again x r k) xs [] h))

abbrev pub IsSmall : ℕ → Type 0
IsSmall n = n < 2 ^ 32

pub postings_done-again : (ids : List ℕ) → length ids < 2 ^ 32 → AllByRecursion IsSmall ids → postings_done (postings_body ids) ≡ Ok tt
unfolding postings_done postings_body
postings_done-again ids few h =
    rw (four_field-again (length ids) (flat_map (big_bytes 4) ids) few)
    (passed ids (times four (length ids) (flat_map (big_bytes 4) ids)) (ap (times four (length ids)) (sym (append-nil (flat_map (big_bytes 4) ids))) ∙ times_again four (big_bytes 4) IsSmall (λ n r k. four_field-again n r k) ids [] h))

four_below-again : (limit n : ℕ) (rest : List ℕ) → (n < limit) × (n < 2 ^ 32) → four_below limit (big_bytes 4 n ++ rest) ≡ Ok (n, rest)
unfolding four_below
four_below-again limit n rest h =
    let inside : ltb n limit ≡ true = lt-ltb n limit h.0 in
    rw (four_field-again n rest h.1, inside) refl

fixed_one : (rest : List ℕ) → fixed 1 (big_bytes 4 1 ++ rest) ≡ Ok rest
unfolding fixed
fixed_one rest = rw (four_field-again 1 rest (omega arith)) refl

same_ranks : (table values : List Text) → flat_map (λ v. big_bytes 4 (rank text_cmp v table)) values ≡ flat_map (big_bytes 4) (map (λ v. rank text_cmp v table) values)
same_ranks table [] = refl
same_ranks table (v ∷ vs) = ap (λ t. big_bytes 4 (rank text_cmp v table) ++ t) (same_ranks table vs)

pub label_index_done-again : (limit : ℕ) (table values : List Text) → length values < 2 ^ 32 → AllByRecursion (λ n. (n < limit) × (n < 2 ^ 32)) (map (λ v. rank text_cmp v table) values) → label_index_done limit (label_index_body table values) ≡ Ok tt
unfolding label_index_done label_index_body
label_index_done-again limit table values few h =
    let count : length (map (λ v. rank text_cmp v table) values) ≡ length values = length-map values (λ v. rank text_cmp v table) in
    ap (label_index_done limit) (append_assoc (big_bytes 4 1) (big_bytes 4 (length values)) (flat_map (λ v. big_bytes 4 (rank text_cmp v table)) values))
    ∙ rw (fixed_one (big_bytes 4 (length values) ++ flat_map (λ v. big_bytes 4 (rank text_cmp v table)) values), four_field-again (length values) (flat_map (λ v. big_bytes 4 (rank text_cmp v table)) values) few)
    (passed (map (λ v. rank text_cmp v table) values) (times (four_below limit) (length values) (flat_map (λ v. big_bytes 4 (rank text_cmp v table)) values))
    (ap (λ n. times (four_below limit) n (flat_map (λ v. big_bytes 4 (rank text_cmp v table)) values)) (sym count)
    ∙ ap (times (four_below limit) (length (map (λ v. rank text_cmp v table) values))) (same_ranks table values ∙ sym (append-nil (flat_map (big_bytes 4) (map (λ v. rank text_cmp v table) values))))
    ∙ times_again (four_below limit) (big_bytes 4) (λ n. (n < limit) × (n < 2 ^ 32)) (λ n r k. four_below-again limit n r k) (map (λ v. rank text_cmp v table) values) [] h))
