-- What the labels before a place were given, and what a whole label set is.
use Rattle.std.proofs.Common.{◌≡◌, ℕ, ◌+◌, ◌-◌, ◌<◌, ◌≤◌, Bool, true, false, List, [], ◌∷◌, ◌++◌, Some, ap, sym, ◌∙◌, refl, arith, length, take, append_assoc, length-append}
use Rattle.std.specs.Prelude.{◌&&◌, ◌||◌, if◌then◌else◌, slice_get}
use Rattle.std.specs.Cmp.Lexicographic.{slice_cmp}
use Rattle.std.specs.Ordering.{nat_cmp}
use Rattle.std.specs.declared.cmp.Ordering.TheVariants.{Less, Equal}
use Rattle.std.proofs.lemmas.Cmp.{nat_list_cmp_total, tied_itself}
use Rattle.std.proofs.lemmas.List.{take_all}
use Rattle.hw_bytes.proofs.Lists.{append_none, flat_map-push}
use Rattle.wal_record.specs.declared.labels.Label.{Label}
use Rattle.wal_record.specs.Labels.{same_text, same_label, IsLabelSet}
use Rattle.wal_record.proofs.SameText.{same_text_exact}
use Rattle.hw_bytes.proofs.Places.{take_more}
use Rattle.head_postings.specs.Postings.{Text, Labels, holds, label}
use Rattle.head_postings.specs.Given.{given}

-- what one label is given
abbrev pub given_at : ℕ → Label → Text → Text → List ℕ
given_at s l n v = if same_label (label n v) l then s ∷ [] else []

pub given-more : (s : ℕ) (ls : Labels) (i : ℕ) (l : Label) (n v : Text) → slice_get ls i ≡ Some l → given s (take (i + 1) ls) n v ≡ given s (take i ls) n v ++ given_at s l n v
given-more s ls i l n v h = ap (λ z. given s z n v) (take_more ls i l h) ∙ flat_map-push (λ l. given_at s l n v) (take i ls) l

-- one label more was given the slot
pub given_next : (s : ℕ) (ls : Labels) (i : ℕ) (l : Label) (n v : Text) (old now new : List ℕ) → slice_get ls i ≡ Some l → now ≡ old ++ given s (take i ls) n v → new ≡ now ++ given_at s l n v → new ≡ old ++ given s (take (i + 1) ls) n v
given_next s ls i l n v old now new h e f =
    f ∙ ap (λ z. z ++ given_at s l n v) e ∙ append_assoc old (given s (take i ls) n v) (given_at s l n v) ∙ ap (λ z. old ++ z) (sym (given-more s ls i l n v h))

front : (xs : List ℕ) (s : ℕ) → take (length (xs ++ s ∷ []) - 1) (xs ++ s ∷ []) ≡ xs
front xs s = ap (λ m. take m (xs ++ s ∷ [])) (simp length-append (omega arith)) ∙ by xs where
  by : (ys : List ℕ) → take (length ys) (ys ++ s ∷ []) ≡ ys
  by [] = refl
  by (y ∷ ys) = ap (λ t. y ∷ t) (by ys)

-- and it was taken back
pub given_back : (s : ℕ) (ls : Labels) (i left : ℕ) (l : Label) (n v : Text) (old now new : List ℕ) → slice_get ls i ≡ Some l → left ≡ i + 1 → now ≡ old ++ given s (take left ls) n v
    → new ≡ (if same_label (label n v) l then take (length now - 1) now else now) → new ≡ old ++ given s (take i ls) n v
given_back s ls i left l n v old now new h k e f =
    f ∙ ap (λ z. if same_label (label n v) l then take (length z - 1) z else z) (e ∙ ap (λ m. old ++ given s (take m ls) n v) k ∙ ap (λ z. old ++ z) (given-more s ls i l n v h) ∙ sym (append_assoc old (given s (take i ls) n v) (given_at s l n v)))
    ∙ at (same_label (label n v) l) (old ++ given s (take i ls) n v) where
      at : (b : Bool) (xs : List ℕ) → (let ys = xs ++ (if b then s ∷ [] else []) in if b then take (length ys - 1) ys else ys) ≡ xs
      at true xs = front xs s
      at false xs = append_none xs

less_apart : (n m : Text) → slice_cmp nat_cmp n m ≡ Less → same_text n m ≡ false
less_apart n m h = at (same_text n m) refl where
  at : (b : Bool) → same_text n m ≡ b → b ≡ false
  at true e =
      let k : n ≡ m = same_text_exact n m e in
      let o : slice_cmp nat_cmp n n ≡ Equal = tied_itself nat_list_cmp_total n in
      let p : slice_cmp nat_cmp n n ≡ Less = ap (slice_cmp nat_cmp n) k ∙ h in absurd (cc)
  at false e = refl

-- a name that comes before the first is not among the labels of a set
none_after : (n v : Text) (m : Label) (more : Labels) → slice_cmp nat_cmp n m.name ≡ Less → IsLabelSet (m ∷ more) → holds (m ∷ more) n v ≡ false
none_after n v m [] h o = ap (λ b. (b && same_text v m.value) || false) (less_apart n m.name h)
none_after n v m (p ∷ more) h o =
    ap (λ b. (b && same_text v m.value) || holds (p ∷ more) n v) (less_apart n m.name h)
    ∙ none_after n v p more (nat_list_cmp_total.trans n m.name p.name h o.1) o.2

given-none : (s : ℕ) (ls : Labels) (n v : Text) → holds ls n v ≡ false → given s ls n v ≡ []
given-none s [] n v h = refl
given-none s (l ∷ ls) n v h = at (same_label (label n v) l) (λ e. given-none s ls n v e) h where
  at : (b : Bool) → (holds ls n v ≡ false → given s ls n v ≡ []) → (b || holds ls n v) ≡ false → (if b then s ∷ [] else []) ++ given s ls n v ≡ []
  at true deep e = absurd cc
  at false deep e = deep e

both_first : (a b : Bool) → (a && b) ≡ true → a ≡ true
both_first true b h = refl
both_first false b h = h

alone : (l : Label) (ls : Labels) (n v : Text) → IsLabelSet (l ∷ ls) → same_label (label n v) l ≡ true → holds ls n v ≡ false
alone l [] n v o e = refl
alone l (m ∷ more) n v o e =
    none_after n v m more (ap (λ z. slice_cmp nat_cmp z m.name) (same_text_exact n l.name (both_first (same_text n l.name) (same_text v l.value) e)) ∙ o.1) o.2

rest_set : (l : Label) (ls : Labels) → IsLabelSet (l ∷ ls) → IsLabelSet ls
rest_set l [] o = tt
rest_set l (m ∷ more) o = o.2

pub given-set : (s : ℕ) (ls : Labels) (n v : Text) → IsLabelSet ls → given s ls n v ≡ (if holds ls n v then s ∷ [] else [])
given-set s [] n v o = refl
given-set s (l ∷ ls) n v o = at (same_label (label n v) l) refl (given-set s ls n v (rest_set l ls o)) where
  at : (b : Bool) → same_label (label n v) l ≡ b → given s ls n v ≡ (if holds ls n v then s ∷ [] else []) → (if b then s ∷ [] else []) ++ given s ls n v ≡ (if b || holds ls n v then s ∷ [] else [])
  at true e deep = ap (λ z. (s ∷ []) ++ z) (given-none s ls n v (alone l ls n v o e))
  at false e deep = deep

-- a label set holds each label once
pub given_all : (s : ℕ) (ls : Labels) (i : ℕ) (n v : Text) (old new : List ℕ) → IsLabelSet ls → length ls ≤ i → new ≡ old ++ given s (take i ls) n v → new ≡ old ++ (if holds ls n v then s ∷ [] else [])
given_all s ls i n v old new o h e = e ∙ ap (λ z. old ++ given s z n v) (take_all i ls h) ∙ ap (λ z. old ++ z) (given-set s ls n v o)

-- no label of a set is without a name
pub named-set : (ls : Labels) (v : Text) → IsLabelSet ls → holds ls [] v ≡ false
named-set [] v o = refl
named-set (l ∷ ls) v o = ap (λ b. (b && same_text v l.value) || holds ls [] v) (some_name l.name (first_name l ls o)) ∙ named-set ls v (rest_set l ls o) where
  first_name : (m : Label) (ms : Labels) → IsLabelSet (m ∷ ms) → 0 < length m.name
  first_name m [] o = o
  first_name m (p ∷ ms) o = o.0

  some_name : (t : Text) → 0 < length t → same_text [] t ≡ false
  some_name [] h = absurd (omega arith)
  some_name (x ∷ t) h = refl
