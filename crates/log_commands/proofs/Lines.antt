-- Texts that grow by lines.
use Rattle.std.proofs.Common.{◌≡◌, ℕ, ◌+◌, ◌<◌, List, ◌++◌, ap, get_or, length, slice_get, Some, sym, take, ◌∙◌}
use Rattle.std.specs.List.{flat_map}
use Rattle.std.proofs.lemmas.List.{flat_map_more, take_more}
use Rattle.std.proofs.lemmas.Option.{get_or_from_slice_get, slice_get_within}

module _ {X : Type 0} (line : X → List ℕ) (xs : List X) (i : ℕ) where
  -- the line of the next one is after those so far
  pub lines_more : (d : X) (old before after : List ℕ) → i < length xs → before ≡ old ++ flat_map line (take i xs) → after ≡ before ++ line (get_or xs i d) → after ≡ old ++ flat_map line (take (i + 1) xs)
  lines_more d old before after within so_far is =
      is
      ∙ ap (λ (t : List ℕ). t ++ line (get_or xs i d)) so_far
      ∙ flat_map_more line old (take i xs) (get_or xs i d)
      ∙ ap (λ (ys : List X). old ++ flat_map line ys) (sym (take_more xs i d within))

  -- the same, with the one at the place
  pub lines_more_at : (x : X) (old before after : List ℕ) → slice_get xs i ≡ Some x → before ≡ old ++ flat_map line (take i xs) → after ≡ before ++ line x → after ≡ old ++ flat_map line (take (i + 1) xs)
  lines_more_at x old before after at so_far is =
      lines_more x old before after (slice_get_within xs i x at) so_far (is ∙ ap (λ (y : X). before ++ line y) (sym (get_or_from_slice_get xs i x x at)))
