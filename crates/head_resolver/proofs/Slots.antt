-- A slot at an entry's place is its slot for good.
use Rattle.std.proofs.Common.{◌≡◌, ℕ, zero, suc, ◌+◌, arith, eq-eqb, eqb-true, subst, Bool, true, false, List, [], ◌∷◌, ◌++◌, Some, None, Option, ap, sym, ◌∙◌, refl, append_assoc}
use Rattle.std.specs.Prelude.{◌||◌, filter, map, nat_eq, slice_get, if◌then◌else◌}
use Rattle.std.specs.List.{list_any}
use Rattle.std.specs.Option.{option_and_then, option_map}
use Rattle.std.proofs.lemmas.List.{map-append}
use Rattle.hw_bytes.proofs.Lists.{along-push, append_none, by_push}
use Rattle.wal_record.specs.Labels.{same_labels}
use Rattle.wal_record.specs.Entries.{Entry, series, sample, stone}
use Rattle.wal_record.proofs.Equality.{labels_same}
use Rattle.head_column.specs.declared.items.Item.{Item}
use Rattle.head_series.specs.Texts.{place}
use Rattle.head_series.specs.Table.{Labels}
use Rattle.head_series.specs.Bindings.{series_of}
use Rattle.head_series.proofs.Places.{place_none}
use Rattle.head_resolver.specs.Owners.{bindings, owner}
use Rattle.head_resolver.specs.Counts.{sample_item, stone_item, with_owner, known_at, known, items_of}
use Rattle.head_resolver.specs.Resolved.{slot_behind, with_slot, items_at, resolved}
use Rattle.head_resolver.proofs.Known.{is_bound-series_of, label_sets, owner_is_bound}
use Rattle.head_resolver.proofs.Lists.{AreApart, AreApart-distinct, not_at, same_sym_false}
use Rattle.head_resolver.proofs.Limits.{later_series, series_split}

-- a place is the same where more is after
pub place_front : {A : Type 0} (p : A → Bool) (xs ys : List A) → list_any p xs ≡ true → place p (xs ++ ys) ≡ place p xs
place_front p [] ys h = cc
place_front p (x ∷ xs) ys h = at (p x) h (place_front p xs ys) where
  at : (b : Bool) → (b || list_any p xs) ≡ true → (list_any p xs ≡ true → place p (xs ++ ys) ≡ place p xs)
      → (if b then Some 0 else option_map (λ n. n + 1) (place p (xs ++ ys))) ≡ (if b then Some 0 else option_map (λ n. n + 1) (place p xs))
  at true k rest = refl
  at false k rest = ap (option_map (λ n. n + 1)) (rest k)

-- an item with its slot, and with the place of its owner among some series
abbrev with_some : ℕ × Item → Option ℕ × Item
with_some k = (Some k.0, k.1)

abbrev with_place : List Labels → Labels × Item → Option ℕ × Item
with_place ls k = (place (same_labels k.0) ls, k.1)

module _ (es more : List Entry) where
  abbrev all : List Labels
  all = series_of (bindings (es ++ more))

  item_slot : (r : ℕ) (i : Item) → map with_some (with_slot (slot_behind es r) i) ≡ map (with_place all) (with_owner (owner es r) i)
  item_slot r i = by (owner es r) refl where
    at : (l : Labels) → list_any (same_labels l) (series_of (bindings es)) ≡ true → (o : Option ℕ) → place (same_labels l) (series_of (bindings es)) ≡ o
        → map with_some (with_slot o i) ≡ (place (same_labels l) all, i) ∷ []
    at l among None e = let k : list_any (same_labels l) (series_of (bindings es)) ≡ false = place_none (same_labels l) (series_of (bindings es)) e in cc
    at l among (Some s) e =
        ap (λ (o : Option ℕ). (o, i) ∷ [])
        (sym (ap (place (same_labels l)) (series_split es more) ∙ place_front (same_labels l) (series_of (bindings es)) (later_series es more) among ∙ e))

    by : (o : Option Labels) → owner es r ≡ o → map with_some (with_slot (option_and_then (λ l. place (same_labels l) (series_of (bindings es))) o) i) ≡ map (with_place all) (with_owner o i)
    by None e = refl
    by (Some l) e = at l (is_bound-series_of (bindings es) l ∙ owner_is_bound (bindings es) r l e) (place (same_labels l) (series_of (bindings es))) refl

  entry_slot : (e : Entry) → map with_some (items_at es e) ≡ map (with_place all) (known_at es e)
  entry_slot (series x) = refl
  entry_slot (sample s) = item_slot s.reference (sample_item s)
  entry_slot (stone d) = item_slot d.reference (stone_item d)

slots_ahead : (es more : List Entry) → map with_some (resolved es) ≡ map (with_place (series_of (bindings (es ++ more)))) (known es)
slots_ahead es = by_push (λ fs. (more : List Entry) → map with_some (resolved fs) ≡ map (with_place (series_of (bindings (fs ++ more)))) (known fs)) (λ more. refl) step es where
  step : (fs : List Entry) (e : Entry) → ((more : List Entry) → map with_some (resolved fs) ≡ map (with_place (series_of (bindings (fs ++ more)))) (known fs))
      → (more : List Entry) → map with_some (resolved (fs ++ e ∷ [])) ≡ map (with_place (series_of (bindings ((fs ++ e ∷ []) ++ more)))) (known (fs ++ e ∷ []))
  step fs e f more =
      let later : List Labels = series_of (bindings (fs ++ e ∷ more)) in
      ap (map with_some) (along-push items_at fs e)
      ∙ map-append with_some (resolved fs) (items_at fs e)
      ∙ ap (λ (ks : List (Option ℕ × Item)). ks ++ map with_some (items_at fs e)) (f (e ∷ more))
      ∙ ap (λ (ks : List (Option ℕ × Item)). map (with_place later) (known fs) ++ ks) (entry_slot fs (e ∷ more) e)
      ∙ sym (map-append (with_place later) (known fs) (known_at fs e))
      ∙ sym (ap (map (with_place later)) (along-push known_at fs e))
      ∙ ap (λ (gs : List Entry). map (with_place (series_of (bindings gs))) (known (fs ++ e ∷ []))) (sym (append_assoc fs (e ∷ []) more))

pub slots_stay : (es : List Entry) → map {B = Option ℕ × Item} (λ k. (Some k.0, k.1)) (resolved es) ≡ map {B = Option ℕ × Item} (λ k. (place (same_labels k.0) (series_of (bindings es)), k.1)) (known es)
slots_stay es = slots_ahead es [] ∙ ap (λ (gs : List Entry). map (with_place (series_of (bindings gs))) (known es)) (append_none es)

-- the first place of an element of a list without repeats is its only one
place_at : (ls : List Labels) (s : ℕ) (l : Labels) → AreApart same_labels labels_same ls → slice_get ls s ≡ Some l → place (same_labels l) ls ≡ Some s
place_at [] s l d e = cc
place_at (m ∷ ls) zero l d e = let k : m ≡ l = cc in subst (λ (n : Labels). (if same_labels l n then Some 0 else option_map (λ n. n + 1) (place (same_labels l) ls)) ≡ Some 0) (sym k) (ap (λ b. if b then Some 0 else option_map (λ n. n + 1) (place (same_labels l) ls)) (labels_same.reflexive l))
place_at (m ∷ ls) (suc s) l d e =
    ap (λ b. if b then Some 0 else option_map (λ n. n + 1) (place (same_labels l) ls)) (same_sym_false same_labels labels_same m l (not_at same_labels labels_same m l ls s d.0 e))
    ∙ ap (option_map (λ n. n + 1)) (place_at ls s l d.1 e)
    ∙ ap Some (omega arith)

-- what is at the first place of an element is it
pub there : (ls : List Labels) (m : Labels) (s : ℕ) → place (same_labels m) ls ≡ Some s → slice_get ls s ≡ Some m
there [] m s e = cc
there (x ∷ ls) m s e = by (same_labels m x) refl e (there ls m) where
  by : (b : Bool) → same_labels m x ≡ b → (if b then Some 0 else option_map (λ n. n + 1) (place (same_labels m) ls)) ≡ Some s → ((n : ℕ) → place (same_labels m) ls ≡ Some n → slice_get ls n ≡ Some m) → slice_get (x ∷ ls) s ≡ Some m
  by true same k rest = let z : 0 ≡ s = cc in subst (λ n. slice_get (x ∷ ls) n ≡ Some m) z (ap Some (sym (labels_same.exact m x same)))
  by false same k rest = at (place (same_labels m) ls) refl k where
    at : (o : Option ℕ) → place (same_labels m) ls ≡ o → option_map (λ n. n + 1) o ≡ Some s → slice_get (x ∷ ls) s ≡ Some m
    at None p j = cc
    at (Some n) p j = let z : n + 1 ≡ s = cc in subst (λ i. slice_get (x ∷ ls) i ≡ Some m) (let y : suc n ≡ s = omega (arith, z) in y) (rest n p)

-- of items with the places of their owners, those at one place are those of the label set that is there
at_slot : (ls : List Labels) (s : ℕ) (l : Labels) → AreApart same_labels labels_same ls → slice_get ls s ≡ Some l
    → (rs : List (ℕ × Item)) (ks : List (Labels × Item)) → map with_some rs ≡ map (with_place ls) ks → map (λ k. k.1) (filter (λ k. nat_eq s k.0) rs) ≡ map (λ k. k.1) (filter (λ k. same_labels l k.0) ks)
at_slot ls s l d e [] [] h = refl
at_slot ls s l d e [] (k ∷ ks) h = cc
at_slot ls s l d e (r ∷ rs) [] h = cc
at_slot ls s l d e (r ∷ rs) (k ∷ ks) h = by (nat_eq s r.0) (same_labels l k.0) test (at_slot ls s l d e rs ks (let t : map with_some rs ≡ map (with_place ls) ks = cc in t)) where
  place_is : place (same_labels k.0) ls ≡ Some r.0
  place_is = (let t : with_some r ≡ with_place ls k = cc in sym (ap (λ (p : Option ℕ × Item). p.0) t))

  item_is : r.1 ≡ k.1
  item_is = (let t : with_some r ≡ with_place ls k = cc in ap (λ (p : Option ℕ × Item). p.1) t)

  test : nat_eq s r.0 ≡ same_labels l k.0
  test = at (same_labels l k.0) refl where
    at : (b : Bool) → same_labels l k.0 ≡ b → nat_eq s r.0 ≡ b
    at true same =
        let own : l ≡ k.0 = labels_same.exact l k.0 same in
        let z : Some s ≡ Some r.0 = sym (place_at ls s l d e) ∙ ap (λ (m : Labels). place (same_labels m) ls) own ∙ place_is in
        let y : s ≡ r.0 = cc in
        subst (λ n. nat_eq s n ≡ true) y (eq-eqb s s refl)
    at false same = not_same (nat_eq s r.0) refl where
      not_same : (b : Bool) → nat_eq s r.0 ≡ b → b ≡ false
      not_same false q = refl
      not_same true q =
          let y : s ≡ r.0 = eqb-true s r.0 q in
          let z : Some l ≡ Some k.0 = sym e ∙ ap (slice_get ls) y ∙ there ls k.0 r.0 place_is in
          let m : l ≡ k.0 = cc in
          let w : same_labels l k.0 ≡ true = subst (λ (n : Labels). same_labels l n ≡ true) m (labels_same.reflexive l) in
          cc

  by : (a b : Bool) → a ≡ b → map (λ (j : ℕ × Item). j.1) (filter (λ j. nat_eq s j.0) rs) ≡ map (λ (j : Labels × Item). j.1) (filter (λ j. same_labels l j.0) ks)
      → map (λ (j : ℕ × Item). j.1) (if a then r ∷ filter (λ j. nat_eq s j.0) rs else filter (λ j. nat_eq s j.0) rs) ≡ map (λ (j : Labels × Item). j.1) (if b then k ∷ filter (λ j. same_labels l j.0) ks else filter (λ j. same_labels l j.0) ks)
  by true true q rest = ap (λ (i : Item). i ∷ map (λ (j : ℕ × Item). j.1) (filter (λ j. nat_eq s j.0) rs)) item_is ∙ ap (λ (is : List Item). k.1 ∷ is) rest
  by false false q rest = rest
  by true false q rest = cc
  by false true q rest = cc

-- The resolved items at a slot are those that the label set of the slot owns, in order.
pub items_of_slot : (es : List Entry) (s : ℕ) (l : Labels) → slice_get (series_of (bindings es)) s ≡ Some l → map (λ k. k.1) (filter (λ k. nat_eq s k.0) (resolved es)) ≡ items_of l es
items_of_slot es s l e = at_slot (series_of (bindings es)) s l (AreApart-distinct same_labels labels_same (label_sets (bindings es))) e (resolved es) (known es) (slots_stay es)
