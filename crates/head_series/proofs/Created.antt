-- A series more, with the row that keeps it.
use Rattle.std.proofs.Common.{◌≡◌, ℕ, ◌<◌, ◌+◌, ◌++◌, ◌∷◌, [], List, false, ap, sym, subst, ◌∙◌, arith, length}
use Rattle.std.specs.Prelude.{map, nat_eq, ◌==◌, if◌then◌else◌}
use Rattle.std.specs.Map.{lookup}
use Rattle.std.proofs.lemmas.List.{map-append, length-map}
use Rattle.wal_record.specs.Labels.{Labels, IsLabelSet}
use Rattle.head_series.specs.declared.rows.Row.{Row}
use Rattle.hash_seed.specs.declared.seed.HashSeed.{HashSeed}
use Rattle.head_series.specs.Rows.{AreWithin, labels_hash, labels_in, or_zero}
use Rattle.head_series.specs.Sound.{IsSound}
use Rattle.head_series.specs.Table.{has_series}
use Rattle.head_series.specs.Texts.{Text, TextTable, with_texts}
use Rattle.head_series.proofs.SoundLemmas.{IsSound-push}

abbrev pub numbers_of : List Row → List (List (ℕ × ℕ))
numbers_of rows = map (λ (r : Row). r.numbers.items) rows

abbrev pub previous_of : List Row → List ℕ
previous_of rows = map (λ (r : Row). r.previous) rows

pub created : (seed : HashSeed) (texts new : TextTable) (us : List Text) (most : ℕ) (rows grown : List Row) (row : Row) (last_by_hash same_by_hash more_by_hash : List (ℕ × ℕ)) (many more : ℕ) (l : Labels) (hash slot : ℕ)
    → IsSound seed texts most (numbers_of rows) (previous_of rows) last_by_hash many
    → new.texts ≡ with_texts texts.texts us → new.most ≡ texts.most → AreWithin (length new.texts) row.numbers.items → labels_in new.texts row.numbers.items ≡ l
    → slot ≡ length rows → slot < most → IsLabelSet l → has_series (map (labels_in texts.texts) (numbers_of rows)) l ≡ false → hash ≡ labels_hash seed l
    → same_by_hash ≡ last_by_hash → row.previous ≡ or_zero (lookup (nat_eq hash) same_by_hash) → ((h : ℕ) → or_zero (lookup (nat_eq h) more_by_hash) ≡ (if hash == h then slot + 1 else or_zero (lookup (nat_eq h) same_by_hash)))
    → grown ≡ rows ++ row ∷ [] → more ≡ many + 1
    → (map (labels_in new.texts) (numbers_of grown) ≡ map (labels_in texts.texts) (numbers_of rows) ++ l ∷ []) × IsSound seed new most (numbers_of grown) (previous_of grown) more_by_hash more
created seed texts new us most rows grown row last_by_hash same_by_hash more_by_hash many more l hash slot s t m w n counted few order absent number kept last noted g b =
    let long : length (numbers_of rows) ≡ length rows = (simp length-map) in
    let slot_is : slot ≡ length (numbers_of rows) = counted ∙ sym long in
    let pushed = IsSound-push seed texts new us most (numbers_of rows) (previous_of rows) last_by_hash more_by_hash many row.numbers.items l row.previous
    s t m w n (omega (arith, few, slot_is)) order absent
    (last ∙ ap (λ k. or_zero (lookup (nat_eq k) same_by_hash)) number ∙ ap (λ es. or_zero (lookup (nat_eq (labels_hash seed l)) es)) kept)
    (λ h. noted h ∙ ap (λ k. if k == h then slot + 1 else or_zero (lookup (nat_eq h) same_by_hash)) number
    ∙ ap (λ k. if labels_hash seed l == h then k + 1 else or_zero (lookup (nat_eq h) same_by_hash)) slot_is
    ∙ ap (λ es. if labels_hash seed l == h then length (numbers_of rows) + 1 else or_zero (lookup (nat_eq h) es)) kept) in
    let listed : numbers_of grown ≡ numbers_of rows ++ row.numbers.items ∷ [] = ap numbers_of g ∙ map-append (λ (x : Row). x.numbers.items) rows (row ∷ []) in
    let chained : previous_of grown ≡ previous_of rows ++ row.previous ∷ [] = ap previous_of g ∙ map-append (λ (x : Row). x.previous) rows (row ∷ []) in (
      ap (map (labels_in new.texts)) listed ∙ pushed.0,
      subst (λ z. IsSound seed new most z (previous_of grown) more_by_hash more) (sym listed)
          (subst (λ z. IsSound seed new most (numbers_of rows ++ row.numbers.items ∷ []) z more_by_hash more) (sym chained)
          (subst (λ z. IsSound seed new most (numbers_of rows ++ row.numbers.items ∷ []) (previous_of rows ++ row.previous ∷ []) more_by_hash z) (sym b) pushed.1)),
    )
