-- Postings of more slots, and merged postings.
use Rattle.std.proofs.Common.{◌≡◌, ℕ, Bool, true, false, List, [], ◌∷◌, ◌++◌, ap, sym, subst, ◌∙◌, refl, inl, inr}
use Rattle.std.specs.Prelude.{◌||◌, ◌&&◌, ◌⊎◌, nat_eq, if◌then◌else◌}
use Rattle.std.specs.List.{list_any}
use Rattle.std.proofs.lemmas.List.Folds.{list_any-append}
use Rattle.hw_bytes.proofs.Lists.{append_none, map_push}
use Rattle.hw_bytes.proofs.Places.{list_any-map}
use Rattle.head_postings.specs.Slots.{AreAbove, AreBelow, IsAscending, IsUnion}
use Rattle.head_postings.specs.Postings.{Text, Labels, Lists, holds, selected, slots, with_label, AreAlike, AreMerged, IsMergeOf, IsPostingsOf, IsSound}
use Rattle.head_postings.proofs.Ascending.{among, or_cases, below_among, ascending_push, union_is}

-- the slots with a label, once one slot more is there
slots_push : (n v : Text) (sets : List (ℕ × Labels)) (s : ℕ) (ls : Labels) → slots (with_label n v (sets ++ (s, ls) ∷ [])) ≡ slots (with_label n v sets) ++ (if holds ls n v then s ∷ [] else [])
slots_push n v [] s ls = at (holds ls n v) where
  at : (b : Bool) → slots (if b then (s, ls) ∷ [] else []) ≡ (if b then s ∷ [] else [])
  at true = refl
  at false = refl
slots_push n v (x ∷ sets) s ls = at (holds x.1 n v) (slots_push n v sets s ls) where
  at : (b : Bool) → slots (with_label n v (sets ++ (s, ls) ∷ [])) ≡ slots (with_label n v sets) ++ (if holds ls n v then s ∷ [] else [])
      → slots (if b then x ∷ with_label n v (sets ++ (s, ls) ∷ []) else with_label n v (sets ++ (s, ls) ∷ [])) ≡ slots (if b then x ∷ with_label n v sets else with_label n v sets) ++ (if holds ls n v then s ∷ [] else [])
  at true e = ap (λ z. x.0 ∷ z) e
  at false e = e

-- one slot more
pub postings_added : (sets : List (ℕ × Labels)) (p q : Lists) (s : ℕ) (ls : Labels) → IsPostingsOf sets p → q.all ≡ p.all ++ s ∷ []
    → ((n v : Text) → selected q n v ≡ selected p n v ++ (if holds ls n v then s ∷ [] else [])) → IsPostingsOf (sets ++ (s, ls) ∷ []) q
postings_added sets p q s ls h e f = record {
  every = e ∙ ap (λ z. z ++ s ∷ []) h.every ∙ sym (map_push (λ (x : ℕ × Labels). x.0) sets (s, ls));
  each = λ n v. f n v ∙ ap (λ z. z ++ (if holds ls n v then s ∷ [] else [])) (h.each n v) ∙ sym (slots_push n v sets s ls);
}

or_intro : (a b : Bool) → (a ≡ true) ⊎ (b ≡ true) → (a || b) ≡ true
or_intro true b h = refl
or_intro false b (inl e) = absurd cc
or_intro false b (inr e) = e

-- the added slot keeps every list ascending, and among all
pub sound_added : (p q : Lists) (s : ℕ) (ls : Labels) → IsSound p → AreBelow s p.all → q.all ≡ p.all ++ s ∷ []
    → ((n v : Text) → selected q n v ≡ selected p n v ++ (if holds ls n v then s ∷ [] else [])) → ((v : Text) → holds ls [] v ≡ false) → IsSound q
sound_added p q s ls h b e f none = record {
  ascending = subst IsAscending (sym e) (ascending_push p.all s h.ascending b);
  each = λ n v. subst IsAscending (sym (f n v)) (one n v (holds ls n v));
  among = λ n v t k. ap (among t) e ∙ list_any-append (nat_eq t) p.all (s ∷ []) ∙ in_all n v t (holds ls n v) (sym (list_any-append (nat_eq t) (selected p n v) (if holds ls n v then s ∷ [] else [])) ∙ sym (ap (among t) (f n v)) ∙ k);
  named = λ v. f [] v ∙ ap (λ c. selected p [] v ++ (if c then s ∷ [] else [])) (none v) ∙ append_none (selected p [] v) ∙ h.named v;
} where
  one : (n v : Text) (c : Bool) → IsAscending (selected p n v ++ (if c then s ∷ [] else []))
  one n v true = ascending_push (selected p n v) s (h.each n v) (below_among s (selected p n v) p.all (h.among n v) b)
  one n v false = subst IsAscending (sym (append_none (selected p n v))) (h.each n v)

  in_all : (n v : Text) (t : ℕ) (c : Bool) → (among t (selected p n v) || among t (if c then s ∷ [] else [])) ≡ true → (among t p.all || among t (s ∷ [])) ≡ true
  in_all n v t true k = or_intro (among t p.all) (among t (s ∷ [])) (at (or_cases (among t (selected p n v)) (among t (s ∷ [])) k)) where
    at : (among t (selected p n v) ≡ true) ⊎ (among t (s ∷ []) ≡ true) → (among t p.all ≡ true) ⊎ (among t (s ∷ []) ≡ true)
    at (inl y) = inl (h.among n v t y)
    at (inr y) = inr y
  in_all n v t false k = or_intro (among t p.all) (among t (s ∷ [])) (at (or_cases (among t (selected p n v)) false k)) where
    at : (among t (selected p n v) ≡ true) ⊎ (false ≡ true) → (among t p.all ≡ true) ⊎ (among t (s ∷ []) ≡ true)
    at (inl y) = inl (h.among n v t y)
    at (inr y) = absurd cc

pub sound_alike : (p q : Lists) → IsSound p → AreAlike p q → IsSound q
sound_alike p q h a = record {
  ascending = subst IsAscending (sym a.every) h.ascending;
  each = λ n v. subst IsAscending (sym (a.each n v)) (h.each n v);
  among = λ n v t k. ap (among t) a.every ∙ h.among n v t (sym (ap (among t) (a.each n v)) ∙ k);
  named = λ v. a.each [] v ∙ h.named v;
}

pub sound_merged : (p q r : Lists) → IsSound p → IsSound q → AreMerged p q r → IsSound r
sound_merged p q r g h m = record {
  ascending = m.every.0;
  each = λ n v. (m.each n v).0;
  among = λ n v t k. m.every.1 (nat_eq t) ∙ or_intro (among t p.all) (among t q.all) (at n v t (or_cases (among t (selected p n v)) (among t (selected q n v)) (sym ((m.each n v).1 (nat_eq t)) ∙ k)));
  named = λ v. union_is [] [] (selected r [] v) [] (subst (λ z. IsUnion z [] (selected r [] v)) (g.named v) (subst (λ z. IsUnion (selected p [] v) z (selected r [] v)) (h.named v) (m.each [] v))) (tt, λ test. refl);
} where
  at : (n v : Text) (t : ℕ) → (among t (selected p n v) ≡ true) ⊎ (among t (selected q n v) ≡ true) → (among t p.all ≡ true) ⊎ (among t q.all ≡ true)
  at n v t (inl y) = inl (g.among n v t y)
  at n v t (inr y) = inr (h.among n v t y)

-- what is asked of the slots with a label is asked of the sets
any_slots : (test : ℕ → Bool) (sets : List (ℕ × Labels)) → list_any test (slots sets) ≡ list_any (λ x. test x.0) sets
any_slots test sets = sym (list_any-map (λ (x : ℕ × Labels). x.0) test sets)

any_with : (test : ℕ → Bool) (n v : Text) (sets : List (ℕ × Labels)) → list_any test (slots (with_label n v sets)) ≡ list_any (λ x. holds x.1 n v && test x.0) sets
any_with test n v [] = refl
any_with test n v (x ∷ sets) = at (holds x.1 n v) (any_with test n v sets) where
  at : (b : Bool) → list_any test (slots (with_label n v sets)) ≡ list_any (λ x. holds x.1 n v && test x.0) sets
      → list_any test (slots (if b then x ∷ with_label n v sets else with_label n v sets)) ≡ ((b && test x.0) || list_any (λ x. holds x.1 n v && test x.0) sets)
  at true e = ap (λ c. test x.0 || c) e
  at false e = e

above_with : (s : ℕ) (n v : Text) (sets : List (ℕ × Labels)) → AreAbove s (slots sets) → AreAbove s (slots (with_label n v sets))
above_with s n v [] a = tt
above_with s n v (x ∷ sets) (a, b) = at (holds x.1 n v) (above_with s n v sets b) where
  at : (c : Bool) → AreAbove s (slots (with_label n v sets)) → AreAbove s (slots (if c then x ∷ with_label n v sets else with_label n v sets))
  at true deep = (a, deep)
  at false deep = deep

ascending_with : (n v : Text) (sets : List (ℕ × Labels)) → IsAscending (slots sets) → IsAscending (slots (with_label n v sets))
ascending_with n v [] a = tt
ascending_with n v (x ∷ sets) (a, b) = at (holds x.1 n v) (above_with x.0 n v sets a) (ascending_with n v sets b) where
  at : (c : Bool) → AreAbove x.0 (slots (with_label n v sets)) → IsAscending (slots (with_label n v sets)) → IsAscending (slots (if c then x ∷ with_label n v sets else with_label n v sets))
  at true above deep = (above, deep)
  at false above deep = deep

-- the postings of two lists of slots are merged to those of both
pub postings_merged : (xs ys zs : List (ℕ × Labels)) (p q r : Lists) → IsPostingsOf xs p → IsPostingsOf ys q → IsMergeOf xs ys zs → AreMerged p q r → IsPostingsOf zs r
postings_merged xs ys zs p q r g h m u = record {
  every = union_is p.all q.all r.all (slots zs) u.every (m.ascending, λ test. any_slots test zs ∙ m.of_both (λ x. test x.0) ∙ sym (ap (λ c. list_any test p.all || c) (ap (list_any test) h.every ∙ any_slots test ys) ∙ ap (λ c. c || list_any (λ x. test x.0) ys) (ap (list_any test) g.every ∙ any_slots test xs)));
  each = λ n v. union_is (selected p n v) (selected q n v) (selected r n v) (slots (with_label n v zs)) (u.each n v) (
    ascending_with n v zs m.ascending,
    λ test. any_with test n v zs ∙ m.of_both (λ x. holds x.1 n v && test x.0)
        ∙ sym (ap (λ c. list_any test (selected p n v) || c) (ap (list_any test) (h.each n v) ∙ any_with test n v ys) ∙ ap (λ c. c || list_any (λ x. holds x.1 n v && test x.0) ys) (ap (list_any test) (g.each n v) ∙ any_with test n v xs)),
  );
}
