-- What an earlier sample has reached, an accepted one has.
use Rattle.std.proofs.Common.{◌≡◌, Bool, true, false, List, [], ◌∷◌, ◌++◌, ap, sym, ◌∙◌, refl, arith}
use Rattle.std.specs.Prelude.{ℤ, ◌||◌, int_le, if◌then◌else◌}
use Rattle.std.proofs.lemmas.Bool.{or_left, or_right}
use Rattle.std.proofs.lemmas.Int.{ints}
use Rattle.std.proofs.lemmas.List.Folds.{list_any-append}
use Rattle.hw_bytes.proofs.Lists.{along-push, by_push}
use Rattle.xor_chunk.specs.declared.sample.Sample.{Sample}
use Rattle.head_column.specs.declared.items.Item.{Item}
use Rattle.head_column.specs.declared.items.Item.TheVariants as item
use Rattle.head_column.specs.Items.{is_reached_by, is_stale, accepted, samples_of}
use Rattle.head_column.specs.Histories.{has_reached}
use Rattle.head_column.proofs.Bools.{or_false, or_absorb}

le_chain : (t s u : ℤ) → int_le t s ≡ true → int_le s u ≡ true → int_le t u ≡ true
le_chain t s u h k = grind (arith, ints)

reached_down : (t s : ℤ) (i : Item) → int_le t s ≡ true → is_reached_by s i ≡ true → is_reached_by t i ≡ true
reached_down t s (item.Sample x) h k = le_chain t s x.time h k
reached_down t s (item.Stone r) h k = k

in_either : (a b c : Bool) → (a ≡ true → c ≡ true) → (b ≡ true → c ≡ true) → (a || b) ≡ true → c ≡ true
in_either true b c f g h = f refl
in_either false b c f g h = g h

-- a time before a stale one is stale
stale_down : (t s : ℤ) (items : List Item) → int_le t s ≡ true → is_stale items s ≡ true → is_stale items t ≡ true
stale_down t s [] h k = k
stale_down t s (i ∷ is) h k =
    in_either (is_reached_by s i) (is_stale is s) (is_reached_by t i || is_stale is t)
    (λ e. or_left (is_reached_by t i) (is_stale is t) (reached_down t s i h e))
    (λ e. or_right (is_reached_by t i) (is_stale is t) (stale_down t s is h e))
    k

one_sample : (t : ℤ) (items : List Item) (s : Sample) (b : Bool) → is_stale items s.time ≡ b
    → (is_stale items t || has_reached (if b then [] else s ∷ []) t) ≡ (is_stale items t || int_le t s.time)
one_sample t items s true e = or_false (is_stale items t) ∙ or_absorb (is_stale items t) (int_le t s.time) (λ h. stale_down t s.time items h e)
one_sample t items s false e = ap (λ b. is_stale items t || b) (or_false (int_le t s.time))

one_more : (t : ℤ) (items : List Item) (i : Item) → (is_stale items t || has_reached (accepted items i) t) ≡ (is_stale items t || (is_reached_by t i || false))
one_more t items (item.Sample s) = one_sample t items s (is_stale items s.time) refl ∙ ap (λ b. is_stale items t || b) (sym (or_false (int_le t s.time)))
one_more t items (item.Stone r) = refl

pub has_reached-samples_of : (items : List Item) (t : ℤ) → has_reached (samples_of items) t ≡ is_stale items t
has_reached-samples_of items t = by_push (λ is. has_reached (samples_of is) t ≡ is_stale is t) refl step items where
  step : (is : List Item) (i : Item) → has_reached (samples_of is) t ≡ is_stale is t → has_reached (samples_of (is ++ i ∷ [])) t ≡ is_stale (is ++ i ∷ []) t
  step is i e =
      ap (λ xs. has_reached xs t) (along-push accepted is i)
      ∙ list_any-append (λ s. int_le t s.time) (samples_of is) (accepted is i)
      ∙ ap (λ b. b || has_reached (accepted is i) t) e
      ∙ one_more t is i
      ∙ sym (list_any-append (is_reached_by t) is (i ∷ []))
