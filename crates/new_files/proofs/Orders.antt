-- How orders of calls go on.
use Rattle.std.specs.Prelude.{ℕ, ◌≡◌, ◌⊎◌, Bool, true, false, List, [], ◌∷◌, ◌++◌, refl, Result, Ok, Err, IsErr, MatchResult}
use Rattle.std.specs.List.{AllByRecursion}
use Rattle.std.proofs.Common.{inl, inr, ap, subst, sym, ◌∙◌}
use Rattle.std.proofs.lemmas.Bool.{true≢false, false≢true}
use Rattle.store.specs.Calls.{Call, Called, Remove}
use Rattle.new_files.specs.Orders.{IsRemoval, AreAll, AreFirst, DidAll, DidFirst, Follows}

pub are_all_both : (a b p q : List Call) → AreAll a p → AreAll b q → AreAll (a ++ b) (p ++ q)
are_all_both a b [] q all more = subst (λ made. AreAll (made ++ b) q) (sym all) more
are_all_both a b (call ∷ p) q (inl (rest, is, all)) more = inl (rest ++ b, ap (λ made. made ++ b) is, are_all_both rest b p q all more)
are_all_both a b (call ∷ p) q (inr (removal, all)) more = inr (removal, are_all_both a b p q all more)

pub are_first_behind : (a b p q : List Call) → AreAll a p → AreFirst b q → AreFirst (a ++ b) (p ++ q)
are_first_behind a b [] q all more = subst (λ made. AreFirst (made ++ b) q) (sym all) more
are_first_behind a b (call ∷ p) q (inl (rest, is, all)) more = inr (inl (rest ++ b, ap (λ made. made ++ b) is, are_first_behind rest b p q all more))
are_first_behind a b (call ∷ p) q (inr (removal, all)) more = inr (inr (removal, are_first_behind a b p q all more))

none_first : (q : List Call) → AreFirst [] q
none_first [] = refl
none_first (call ∷ q) = inl refl

pub are_first_of_more : (a p q : List Call) → AreFirst a p → AreFirst a (p ++ q)
are_first_of_more a [] q none = subst (λ made. AreFirst made q) (sym none) (none_first q)
are_first_of_more a (call ∷ p) q (inl none) = inl none
are_first_of_more a (call ∷ p) q (inr (inl (rest, is, first))) = inr (inl (rest, is, are_first_of_more rest p q first))
are_first_of_more a (call ∷ p) q (inr (inr (removal, first))) = inr (inr (removal, are_first_of_more a p q first))

module _ {S : Type 0} (did : S → List Call → S → Type 0) where
  pub called_ok : (old new : S) (call : Call) → did old (call ∷ []) new → DidAll did old (call ∷ []) new
  called_ok old new call done = record { made = call ∷ []; done = done; are_all = inl ([], refl, refl) }

  pub called_err : (old new : S) (call : Call) → (did old [] new ⊎ did old (call ∷ []) new) → DidFirst did old (call ∷ []) new
  called_err old new call (inl none) = record { made = []; done = none; are_first = inl refl }
  called_err old new call (inr done) = record { made = call ∷ []; done = done; are_first = inr (inl ([], refl, refl)) }

  removal_err : (old new : S) (path : List ℕ) → (did old [] new ⊎ did old (Remove path ∷ []) new) → DidAll did old (Remove path ∷ []) new
  removal_err old new path (inl none) = record { made = []; done = none; are_all = inr (tt, refl) }
  removal_err old new path (inr done) = record { made = Remove path ∷ []; done = done; are_all = inl ([], refl, refl) }

  -- a call by itself
  pub follows_call : {T E : Type 0} (old new : S) (call : Call) (result : Result T E) → Called did old call result new → Follows did old (call ∷ []) result new
  follows_call old new call (Ok value) done = called_ok old new call done
  follows_call old new call (Err fault) done = called_err old new call done

  -- a removal, whether it went well or not
  pub removed : {T E : Type 0} (old new : S) (path : List ℕ) (result : Result T E) → Called did old (Remove path) result new → DidAll did old (Remove path ∷ []) new
  removed old new path (Ok value) done = called_ok old new (Remove path) done
  removed old new path (Err fault) done = removal_err old new path done

  pub first_of_more : (old new : S) (p q : List Call) → DidFirst did old p new → DidFirst did old (p ++ q) new
  first_of_more old new p q first = record { made = first.made; done = first.done; are_first = are_first_of_more first.made p q first.are_first }

  -- an error is handed on
  pub handed_on : {T E : Type 0} (old new : S) (p : List Call) (result : Result T E) (fault : E) → result ≡ Err fault → DidFirst did old p new → Follows did old p result new
  handed_on old new p result fault is first = subst (λ r. Follows did old p r new) (sym is) first

  module _ (did_both : (old middle new : S) (first second : List Call) → did old first middle → did middle second new → did old (first ++ second) new) where
    pub all_both : (old middle new : S) (p q : List Call) → DidAll did old p middle → DidAll did middle q new → DidAll did old (p ++ q) new
    all_both old middle new p q all more = record { made = all.made ++ more.made; done = did_both old middle new all.made more.made all.done more.done; are_all = are_all_both all.made more.made p q all.are_all more.are_all }

    pub first_behind : (old middle new : S) (p q : List Call) → DidAll did old p middle → DidFirst did middle q new → DidFirst did old (p ++ q) new
    first_behind old middle new p q all first = record { made = all.made ++ first.made; done = did_both old middle new all.made first.made all.done first.done; are_first = are_first_behind all.made first.made p q all.are_all first.are_first }

    -- an order, and a call that went well
    pub went_well : (old middle new : S) (p : List Call) (call : Call) → DidAll did old p middle → did middle (call ∷ []) new → DidAll did old (p ++ call ∷ []) new
    went_well old middle new p call all done = all_both old middle new p (call ∷ []) all (called_ok middle new call done)

    -- an order, and a call that did not
    pub went_wrong : (old middle new : S) (p q : List Call) (call : Call) → DidAll did old p middle → (did middle [] new ⊎ did middle (call ∷ []) new) → DidFirst did old (p ++ call ∷ q) new
    went_wrong old middle new p q call all done = first_behind old middle new p (call ∷ q) all (first_of_more middle new (call ∷ []) q (called_err middle new call done))

    -- an order, and what follows another one
    pub then_follows : {T E : Type 0} (old middle new : S) (p q : List Call) (result : Result T E) → DidAll did old p middle → Follows did middle q result new → Follows did old (p ++ q) result new
    then_follows old middle new p q (Ok value) all more = all_both old middle new p q all more
    then_follows old middle new p q (Err fault) all first = first_behind old middle new p q all first

    -- an order, and a call whose result is returned
    pub came_last : {T E : Type 0} (old middle new : S) (p : List Call) (call : Call) (result : Result T E) → DidAll did old p middle → Called did middle call result new → Follows did old (p ++ call ∷ []) result new
    came_last old middle new p call (Ok value) all done = went_well old middle new p call all done
    came_last old middle new p call (Err fault) all done = went_wrong old middle new p [] call all done

-- the calls of two orders, apart
pub record AreBoth (made p q : List Call) : Type 0 where
  pub a : List Call
  pub b : List Call
  pub is : made ≡ a ++ b
  pub all : AreAll a p
  pub more : AreAll b q

both_behind : (made rest : List Call) (call : Call) (p q : List Call) → made ≡ call ∷ rest → AreBoth rest p q → AreBoth made (call ∷ p) q
both_behind made rest call p q is both = record { a = call ∷ both.a; b = both.b; is = is ∙ ap (λ r. call ∷ r) both.is; all = inl (both.a, refl, both.all); more = both.more }

both_skipping : (made : List Call) (call : Call) (p q : List Call) → IsRemoval call → AreBoth made p q → AreBoth made (call ∷ p) q
both_skipping made call p q removal both = record { a = both.a; b = both.b; is = both.is; all = inr (removal, both.all); more = both.more }

pub all_apart : (made p q : List Call) → AreAll made (p ++ q) → AreBoth made p q
all_apart made [] q all = record { a = []; b = made; is = refl; all = refl; more = all }
all_apart made (call ∷ p) q (inl (rest, is, all)) = both_behind made rest call p q is (all_apart rest p q all)
all_apart made (call ∷ p) q (inr (removal, all)) = both_skipping made call p q removal (all_apart made p q all)

-- a first part that reaches into the second of two orders
pub record AreBehind (made p q : List Call) : Type 0 where
  pub a : List Call
  pub b : List Call
  pub is : made ≡ a ++ b
  pub all : AreAll a p
  pub first : AreFirst b q

behind_call : (made rest : List Call) (call : Call) (p q : List Call) → made ≡ call ∷ rest → (AreFirst rest p ⊎ AreBehind rest p q) → AreFirst made (call ∷ p) ⊎ AreBehind made (call ∷ p) q
behind_call made rest call p q is (inl first) = inl (inr (inl (rest, is, first)))
behind_call made rest call p q is (inr behind) = inr (record { a = call ∷ behind.a; b = behind.b; is = is ∙ ap (λ r. call ∷ r) behind.is; all = inl (behind.a, refl, behind.all); first = behind.first })

behind_skipping : (made : List Call) (call : Call) (p q : List Call) → IsRemoval call → (AreFirst made p ⊎ AreBehind made p q) → AreFirst made (call ∷ p) ⊎ AreBehind made (call ∷ p) q
behind_skipping made call p q removal (inl first) = inl (inr (inr (removal, first)))
behind_skipping made call p q removal (inr behind) = inr (record { a = behind.a; b = behind.b; is = behind.is; all = inr (removal, behind.all); first = behind.first })

pub first_apart : (made p q : List Call) → AreFirst made (p ++ q) → AreFirst made p ⊎ AreBehind made p q
first_apart made [] q first = inr (record { a = []; b = made; is = refl; all = refl; first = first })
first_apart made (call ∷ p) q (inl none) = inl (inl none)
first_apart made (call ∷ p) q (inr (inl (rest, is, first))) = behind_call made rest call p q is (first_apart rest p q first)
first_apart made (call ∷ p) q (inr (inr (removal, first))) = behind_skipping made call p q removal (first_apart made p q first)

-- all of an order is a first part of it
pub first_of_all : (made p : List Call) → AreAll made p → AreFirst made p
first_of_all made [] none = none
first_of_all made (call ∷ p) (inl (rest, is, all)) = inr (inl (rest, is, first_of_all rest p all))
first_of_all made (call ∷ p) (inr (removal, all)) = inr (inr (removal, first_of_all made p all))

-- where nothing is to be removed all of the order is the order
pub exactly : (made p : List Call) → AllByRecursion (λ call. IsRemoval call → ⊥) p → AreAll made p → made ≡ p
exactly made [] none_removes none = none
exactly made (call ∷ p) (keeps, none_removes) (inl (rest, is, all)) = is ∙ ap (λ r. call ∷ r) (exactly rest p none_removes all)
exactly made (call ∷ p) (keeps, none_removes) (inr (removal, all)) = absurd (keeps removal)

-- what holds of a result holds of it where its fault is reported in other words
pub told : {T E F : Type 0} (P Q : Type 0) (outcome : Result T E) (result : Result T F) → ((value : T) → result ≡ Ok value → outcome ≡ Ok value) → (IsErr result → IsErr outcome)
    → MatchResult outcome (λ _. P) (λ _. Q) → MatchResult result (λ _. P) (λ _. Q)
told P Q outcome (Ok value) ok err has = subst (λ r. MatchResult r (λ _. P) (λ _. Q)) (ok value refl) has
told P Q (Ok other) (Err fault) ok err has = absurd (false≢true (err refl))
told P Q (Err other) (Err fault) ok err has = has

-- ---- first parts of what was called

first_call : Call → List Call → Call
first_call call [] = call
first_call call (other ∷ calls) = other

other_calls : List Call → List Call
other_calls [] = []
other_calls (call ∷ calls) = calls

same_first : (a b : Call) (x y : List Call) → a ∷ x ≡ b ∷ y → a ≡ b
unfolding first_call
same_first a b x y is = ap (first_call a) is

same_others : (a b : Call) (x y : List Call) → a ∷ x ≡ b ∷ y → x ≡ y
unfolding other_calls
same_others a b x y is = ap other_calls is

is_one : List Call → Bool
is_one [] = false
is_one (call ∷ calls) = true

pub not_none : (call : Call) (calls : List Call) → call ∷ calls ≡ [] → ⊥
unfolding is_one
not_none call calls is = true≢false (ap is_one is)

pub first_of_first : (a b p : List Call) → AreFirst (a ++ b) p → AreFirst a p
first_of_first [] b p first = none_first p
first_of_first (x ∷ a) b [] is = absurd (not_none x (a ++ b) is)
first_of_first (x ∷ a) b (call ∷ p) (inl is) = absurd (not_none x (a ++ b) is)
first_of_first (x ∷ a) b (call ∷ p) (inr (inl (rest, is, first))) =
    inr (inl (a, ap (λ c. c ∷ a) (same_first x call (a ++ b) rest is), first_of_first a b p (subst (λ r. AreFirst r p) (sym (same_others x call (a ++ b) rest is)) first)))
first_of_first (x ∷ a) b (call ∷ p) (inr (inr (removal, first))) = inr (inr (removal, first_of_first (x ∷ a) b p first))

none_removed : (p : List Call) → AllByRecursion IsRemoval p → AreAll [] p
none_removed [] all = refl
none_removed (call ∷ p) (removal, all) = inr (removal, none_removed p all)

-- of removals each first part is all that was to be removed
pub first_removed : (a b p : List Call) → AllByRecursion IsRemoval p → AreAll (a ++ b) p → AreAll a p
first_removed [] b p removals all = none_removed p removals
first_removed (x ∷ a) b [] removals is = absurd (not_none x (a ++ b) is)
first_removed (x ∷ a) b (call ∷ p) (removal, removals) (inl (rest, is, all)) =
    inl (a, ap (λ c. c ∷ a) (same_first x call (a ++ b) rest is), first_removed a b p removals (subst (λ r. AreAll r p) (sym (same_others x call (a ++ b) rest is)) all))
first_removed (x ∷ a) b (call ∷ p) (removal, removals) (inr (skipped, all)) = inr (skipped, first_removed (x ∷ a) b p removals all)

-- where two lists are one, the one ends within the first part of the other or after it
pub ends_within : (x y a b : List Call) → x ++ y ≡ a ++ b → ((c : List Call) × (x ≡ a ++ c)) ⊎ ((c : List Call) × (a ≡ x ++ c) × (y ≡ c ++ b))
ends_within [] y a b is = inr (a, refl, is)
ends_within (call ∷ x) y [] b is = inl (call ∷ x, refl)
ends_within (call ∷ x) y (other ∷ a) b is = longer (ends_within x y a b (same_others call other (x ++ y) (a ++ b) is)) where
  same : call ≡ other
  same = same_first call other (x ++ y) (a ++ b) is

  longer : ((c : List Call) × (x ≡ a ++ c)) ⊎ ((c : List Call) × (a ≡ x ++ c) × (y ≡ c ++ b)) → ((c : List Call) × (call ∷ x ≡ other ∷ a ++ c)) ⊎ ((c : List Call) × (other ∷ a ≡ call ∷ x ++ c) × (y ≡ c ++ b))
  longer (inl (c, within)) = inl (c, ap (λ l. call ∷ l) within ∙ ap (λ k. k ∷ (a ++ c)) same)
  longer (inr (c, behind, rest)) = inr (c, ap (λ l. other ∷ l) behind ∙ ap (λ k. k ∷ (x ++ c)) (sym same), rest)
