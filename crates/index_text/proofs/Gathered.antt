-- Lists gathered by a loop, one element more.
use Rattle.std.proofs.Common.{◌≡◌, ℕ, suc, ◌+◌, ◌<◌, List, [], ◌∷◌, ◌++◌, length, map, take, sym, ap, ◌∙◌, arith}
use Rattle.std.proofs.lemmas.List.{append-nil, append_assoc, map-append, length-take-le}
use Rattle.wal_record.specs.declared.labels.Label.{Label}
use Rattle.index_text.specs.declared.row.IndexRow.{IndexRow}
use Rattle.index_text.specs.Index.{labels_from}

-- old, what was gathered so far, and one more
pub gathered_more : {A B : Type 0} (f : A → B) (old now : List B) (xs : List A) (i : ℕ) (x : A) → take (i + 1) xs ≡ take i xs ++ x ∷ [] → now ≡ old ++ map f (take i xs) → now ++ f x ∷ [] ≡ old ++ map f (take (i + 1) xs)
gathered_more f old now xs i x more so_far =
    ap (λ t. t ++ f x ∷ []) so_far ∙ append_assoc old (map f (take i xs)) (f x ∷ [])
    ∙ ap (λ t. old ++ t) (sym (map-append f (take i xs) (x ∷ [])) ∙ ap (map f) (sym more))

labels_from-push : (n : ℕ) (rows : List IndexRow) (row : IndexRow) → labels_from n (rows ++ row ∷ []) ≡ labels_from n rows ++ map (λ (l : Label). (l, n + length rows)) row.labels
labels_from-push n [] row =
    let z : n ≡ n + 0 = omega arith in
    append-nil (map (λ (l : Label). (l, n)) row.labels) ∙ ap (λ k. map (λ (l : Label). (l, k)) row.labels) z
labels_from-push n (r ∷ rows) row =
    let k : n + 1 + length rows ≡ n + suc (length rows) = omega arith in
    ap (λ t. map (λ (l : Label). (l, n)) r.labels ++ t) (labels_from-push (n + 1) rows row ∙ ap (λ j. labels_from (n + 1) rows ++ map (λ (l : Label). (l, j)) row.labels) k)
    ∙ sym (append_assoc (map (λ (l : Label). (l, n)) r.labels) (labels_from (n + 1) rows) (map (λ (l : Label). (l, n + suc (length rows))) row.labels))

pub labels_from-more : (rows : List IndexRow) (i : ℕ) (row : IndexRow) → i < length rows → take (i + 1) rows ≡ take i rows ++ row ∷ []
    → labels_from 0 (take i rows) ++ map (λ (l : Label). (l, i)) row.labels ≡ labels_from 0 (take (i + 1) rows)
labels_from-more rows i row lt more =
    let n : 0 + length (take i rows) ≡ i = omega (arith, length-take-le i rows (omega (arith, lt))) in
    ap (λ k. labels_from 0 (take i rows) ++ map (λ (l : Label). (l, k)) row.labels) (sym n)
    ∙ sym (labels_from-push 0 (take i rows) row)
    ∙ ap (labels_from 0) (sym more)
