-- The slots of each worker: one more of them, and those of two runs of workers together.
use Rattle.std.proofs.Common.{◌≡◌, ℕ, zero, suc, ◌+◌, ◌/◌, ◌%◌, ◌<◌, ◌≤◌, Bool, true, false, cond, List, [], ◌∷◌, ◌++◌, length, take, drop, inl, inr, refl, sym, ap, subst, ◌∙◌, arith, length-append}
use Rattle.std.specs.Prelude.{◌&&◌, ◌||◌, ◌⊎◌, nat_le, nat_lt, slice_index_or}
use Rattle.std.specs.List.{enumerate_from, filter, list_any}
use Rattle.std.proofs.Math.Nat.{mod-eq_of_lt, mul-le-mul_left}
use Rattle.std.proofs.lemmas.Bool.{cases_lt}
use Rattle.std.proofs.lemmas.Bool.Decides.{nat_tests}
use Rattle.std.proofs.lemmas.List.{take_all}
use Rattle.std.proofs.lemmas.List.Elements.{filter-append}
use Rattle.std.proofs.lemmas.List.FromFn.{length-enumerate_from}
use Rattle.head_series.specs.Table.{Labels, Table}
use Rattle.head_postings.specs.Slots.{AreAbove, AreBelow, AreOfBoth, IsAscending}
use Rattle.head_postings.specs.Postings.{IsMergeOf, IsPostingsOf, Lists, slots}
use Rattle.head_core.specs.Content.{by_slot}
use Rattle.head_core.proofs.Numbered.{one_more}
use Rattle.crew.specs.Jobs.{AreDone}
use Rattle.head_replay.specs.Partial.{belonging, AreNumbered}
use Rattle.head_replay.specs.declared.postings.Listing.{Listing}

-- numbers with less than w between them differ modulo w
other_rest : (n k w : ℕ) → 0 < k → k < w → (n + k) % w ≡ n % w → ⊥
other_rest n k w some few same = at (cases_lt (n / w) ((n + k) / w)) where
  at : (n / w < (n + k) / w) ⊎ ((n + k) / w ≤ n / w) → ⊥
  at (inl h) = let up : n / w + 1 ≤ (n + k) / w = omega arith in omega (arith, mul-le-mul_left w up)
  at (inr h) = omega (arith, mul-le-mul_left w h)

-- what the test of a worker answers
itself : (w : ℕ) → (nat_le w w && nat_lt w (w + 1)) ≡ true
itself w = grind (arith, nat_tests)

no_other : (w x : ℕ) → (x ≡ w → ⊥) → (nat_le w x && nat_lt x (w + 1)) ≡ false
no_other w x h = grind (arith, nat_tests)

every_one : (n w : ℕ) → 0 < w → (nat_le 0 (n % w) && nat_lt (n % w) w) ≡ true
every_one n w h = grind (arith, nat_tests)

none_between : (x a : ℕ) → (nat_le a x && nat_lt x (a + 0)) ≡ false
none_between x a = grind (arith, nat_tests)

either_one : (x a b c : ℕ) → a ≤ b → b ≤ c → (nat_le a x && nat_lt x c) ≡ ((nat_le a x && nat_lt x b) || (nat_le b x && nat_lt x c))
either_one x a b c h k = grind (arith, nat_tests)

-- a test that all pass, and one that none passes
all_kept : {A : Type 0} (p : A → Bool) (xs : List A) → ((x : A) → p x ≡ true) → filter p xs ≡ xs
all_kept p [] h = refl
all_kept p (x ∷ xs) h = ap (λ b. cond b (x ∷ filter p xs) (filter p xs)) (h x) ∙ ap (λ ys. x ∷ ys) (all_kept p xs h)

none_kept : {A : Type 0} (p : A → Bool) (xs : List A) → ((x : A) → p x ≡ false) → filter p xs ≡ []
none_kept p [] h = refl
none_kept p (x ∷ xs) h = ap (λ b. cond b (x ∷ filter p xs) (filter p xs)) (h x) ∙ none_kept p xs h

pub all_belong : (workers : ℕ) (sets : List (ℕ × Labels)) → 0 < workers → belonging workers 0 workers sets ≡ sets
all_belong workers sets h = all_kept _ sets (λ s. every_one s.0 workers h)

none_belong : (workers first : ℕ) (sets : List (ℕ × Labels)) → belonging workers first (first + 0) sets ≡ []
none_belong workers first sets = none_kept _ sets (λ s. none_between (s.0 % workers) first)

-- The slots that pass a test are below what all are below, and ascend as all do.
put_below : (b : Bool) (m : ℕ) (s : ℕ × Labels) (xs : List (ℕ × Labels)) → s.0 < m → AreBelow m (slots xs) → AreBelow m (slots (cond b (s ∷ xs) xs))
put_below true m s xs h k = (h, k)
put_below false m s xs h k = k

put_above : (b : Bool) (m : ℕ) (s : ℕ × Labels) (xs : List (ℕ × Labels)) → m < s.0 → AreAbove m (slots xs) → AreAbove m (slots (cond b (s ∷ xs) xs))
put_above true m s xs h k = (h, k)
put_above false m s xs h k = k

put_first : (b : Bool) (s : ℕ × Labels) (xs : List (ℕ × Labels)) → AreAbove s.0 (slots xs) → IsAscending (slots xs) → IsAscending (slots (cond b (s ∷ xs) xs))
put_first true s xs h k = (h, k)
put_first false s xs h k = k

below_from : (p : ℕ × Labels → Bool) (m from n : ℕ) (ls : List Labels) → from + n ≤ m → AreBelow m (slots (filter p (take n (enumerate_from from ls))))
below_from p m from zero ls h = tt
below_from p m from (suc n) [] h = tt
below_from p m from (suc n) (l ∷ ls) h = put_below (p (from, l)) m (from, l) _ (omega (arith, h)) (below_from p m (from + 1) n ls (omega (arith, h)))

above_from : (p : ℕ × Labels → Bool) (m from : ℕ) (ls : List Labels) → m < from → AreAbove m (slots (filter p (enumerate_from from ls)))
above_from p m from [] h = tt
above_from p m from (l ∷ ls) h = put_above (p (from, l)) m (from, l) _ h (above_from p m (from + 1) ls (omega (arith, h)))

ascending_from : (p : ℕ × Labels → Bool) (from : ℕ) (ls : List Labels) → IsAscending (slots (filter p (enumerate_from from ls)))
ascending_from p from [] = tt
ascending_from p from (l ∷ ls) = put_first (p (from, l)) (from, l) _ (above_from p from (from + 1) ls (omega arith)) (ascending_from p (from + 1) ls)

-- the first slots of a worker are below the number of all first slots
pub below_number : (workers first end n : ℕ) (ls : List Labels) (p : Lists) → IsPostingsOf (belonging workers first end (take n (by_slot ls))) p → AreBelow n p.all
below_number workers first end n ls p h = subst (AreBelow n) (sym h.every) (below_from _ n 0 n ls (omega arith))

-- one slot more, of the worker or of another
one_slot : (workers worker n : ℕ) (ls : List Labels) → n < length ls
    → belonging workers worker (worker + 1) (take (n + 1) (by_slot ls)) ≡ belonging workers worker (worker + 1) (take n (by_slot ls)) ++ belonging workers worker (worker + 1) ((n, slice_index_or ls n []) ∷ [])
one_slot workers worker n ls h = ap (belonging workers worker (worker + 1)) (one_more n ls _ h refl) ∙ filter-append _ (take n (by_slot ls)) ((n, slice_index_or ls n []) ∷ [])

own_slot : (workers worker n : ℕ) (l : Labels) → n % workers ≡ worker → belonging workers worker (worker + 1) ((n, l) ∷ []) ≡ (n, l) ∷ []
own_slot workers worker n l h = ap (λ b. cond b ((n, l) ∷ []) []) (subst (λ w. (nat_le w (n % workers) && nat_lt (n % workers) (w + 1)) ≡ true) h (itself (n % workers)))

other_slot : (workers worker n : ℕ) (l : Labels) → (n % workers ≡ worker → ⊥) → belonging workers worker (worker + 1) ((n, l) ∷ []) ≡ []
other_slot workers worker n l h = ap (λ b. cond b ((n, l) ∷ []) []) (no_other worker (n % workers) h)

add_none : {A : Type 0} (xs : List A) → xs ++ [] ≡ xs
add_none [] = refl
add_none (x ∷ xs) = ap (λ ys. x ∷ ys) (add_none xs)

-- the next slots, up to the worker's next one, are of others
skipped : (workers worker n k : ℕ) (ls : List Labels) → n % workers ≡ worker → k < workers
    → belonging workers worker (worker + 1) (take (n + 1 + k) (by_slot ls)) ≡ belonging workers worker (worker + 1) (take (n + 1) (by_slot ls))
skipped workers worker n zero ls h few = ap (λ i. belonging workers worker (worker + 1) (take i (by_slot ls))) (let e : n + 1 + 0 ≡ n + 1 = omega arith in e)
skipped workers worker n (suc k) ls h few =
    let next : n + 1 + suc k ≡ (n + 1 + k) + 1 = omega arith in
    ap (λ i. belonging workers worker (worker + 1) (take i (by_slot ls))) next ∙ at (cases_lt (n + 1 + k) (length ls)) ∙ skipped workers worker n k ls h (omega (arith, few)) where
      at : (n + 1 + k < length ls) ⊎ (length ls ≤ n + 1 + k) → belonging workers worker (worker + 1) (take (n + 1 + k + 1) (by_slot ls)) ≡ belonging workers worker (worker + 1) (take (n + 1 + k) (by_slot ls))
      at (inl there) =
          let other : (n + 1 + k) % workers ≡ worker → ⊥ = λ e. (let far : n + (1 + k) ≡ n + 1 + k = omega arith in other_rest n (1 + k) workers (omega arith) (omega (arith, few)) (ap (λ i. i % workers) far ∙ e ∙ sym h)) in
          one_slot workers worker (n + 1 + k) ls there ∙ ap (λ zs. belonging workers worker (worker + 1) (take (n + 1 + k) (by_slot ls)) ++ zs) (other_slot workers worker (n + 1 + k) _ other) ∙ add_none _
      at (inr end) =
          let long = length-enumerate_from 0 ls in
          ap (belonging workers worker (worker + 1)) (take_all (n + 1 + k + 1) (by_slot ls) (omega (arith, long, end)) ∙ sym (take_all (n + 1 + k) (by_slot ls) (omega (arith, long, end))))

-- the worker's next slot
pub next_slot : (workers worker n : ℕ) (ls : List Labels) (l : Labels) → n % workers ≡ worker → 0 < workers → n < length ls → l ≡ slice_index_or ls n []
    → belonging workers worker (worker + 1) (take (n + workers) (by_slot ls)) ≡ belonging workers worker (worker + 1) (take n (by_slot ls)) ++ (n, l) ∷ []
next_slot workers worker n ls l h some there is = at workers refl some where
  at : (w : ℕ) → w ≡ workers → 0 < w → belonging workers worker (worker + 1) (take (n + w) (by_slot ls)) ≡ belonging workers worker (worker + 1) (take n (by_slot ls)) ++ (n, l) ∷ []
  at zero e k = absurd (omega arith)
  at (suc k) e _ =
      let far : n + suc k ≡ n + 1 + k = omega arith in
      ap (λ i. belonging workers worker (worker + 1) (take i (by_slot ls))) far ∙ skipped workers worker n k ls h (omega arith) ∙ one_slot workers worker n ls there
      ∙ ap (λ zs. belonging workers worker (worker + 1) (take n (by_slot ls)) ++ zs) (own_slot workers worker n (slice_index_or ls n []) h ∙ ap (λ m. (n, m) ∷ []) (sym is))

-- before the first slot of a worker there is none of its slots
none_to : (workers worker from n : ℕ) (ls : List Labels) → worker < workers → from + n ≤ worker → belonging workers worker (worker + 1) (take n (enumerate_from from ls)) ≡ []
none_to workers worker from zero ls h k = refl
none_to workers worker from (suc n) [] h k = refl
none_to workers worker from (suc n) (l ∷ ls) h k =
    let small : from < workers = omega (arith, h, k) in
    let other : from % workers ≡ worker → ⊥ = λ e. (let is = mod-eq_of_lt small in omega (arith, e, k)) in
    let more = belonging workers worker (worker + 1) (take n (enumerate_from (from + 1) ls)) in
    ap (λ b. cond b ((from, l) ∷ more) more) (no_other worker (from % workers) other) ∙ none_to workers worker (from + 1) n ls h (omega (arith, k))

pub none_before : (workers worker : ℕ) (ls : List Labels) → worker < workers → belonging workers worker (worker + 1) (take worker (by_slot ls)) ≡ []
none_before workers worker ls h = none_to workers worker 0 worker ls h (omega arith)

-- both of two tests: the members that pass one of them
any_kept : {A : Type 0} (test : A → Bool) (b : Bool) (x : A) (xs : List A) → list_any test (cond b (x ∷ xs) xs) ≡ ((b && test x) || list_any test xs)
any_kept test true x xs = refl
any_kept test false x xs = refl

or_join : (a b t u v : Bool) → (((a || b) && t) || (u || v)) ≡ (((a && t) || u) || ((b && t) || v))
or_join true b true u v = refl
or_join true true false u v = refl
or_join true false false u v = refl
or_join false true true true v = refl
or_join false true true false v = refl
or_join false true false u v = refl
or_join false false t u v = refl

kept_of_both : {A : Type 0} (p q r : A → Bool) (xs : List A) → ((x : A) → r x ≡ (p x || q x)) → AreOfBoth (filter p xs) (filter q xs) (filter r xs)
kept_of_both p q r [] h test = refl
kept_of_both p q r (x ∷ xs) h test =
    ap (λ b. list_any test (cond b (x ∷ filter r xs) (filter r xs))) (h x)
    ∙ any_kept test (p x || q x) x (filter r xs)
    ∙ ap (λ z. ((p x || q x) && test x) || z) (kept_of_both p q r xs h test)
    ∙ or_join (p x) (q x) (test x) (list_any test (filter p xs)) (list_any test (filter q xs))
    ∙ ap (λ z. z || ((q x && test x) || list_any test (filter q xs))) (sym (any_kept test (p x) x (filter p xs)))
    ∙ ap (λ z. list_any test (cond (p x) (x ∷ filter p xs) (filter p xs)) || z) (sym (any_kept test (q x) x (filter q xs)))

-- the slots of two runs of workers, one after the other
pub merged : (workers a b c : ℕ) (ls : List Labels) → a ≤ b → b ≤ c → IsMergeOf (belonging workers a b (by_slot ls)) (belonging workers b c (by_slot ls)) (belonging workers a c (by_slot ls))
merged workers a b c ls h k = record { ascending = ascending_from _ 0 ls; of_both = kept_of_both _ _ _ (by_slot ls) (λ s. either_one (s.0 % workers) a b c h k) }

-- one more with its number, the first of them, and those after
pub numbered_push : {J : Type 0} (P : ℕ → J → Type 0) (first : ℕ) (js : List J) (j : J) → AreNumbered P first js → P (first + length js) j → AreNumbered P first (js ++ j ∷ [])
numbered_push P first [] j h k = let e : first + 0 ≡ first = omega arith in (subst (λ n. P n j) e k, tt)
numbered_push P first (i ∷ js) j h k = let e : first + suc (length js) ≡ first + 1 + length js = omega arith in (h.0, numbered_push P (first + 1) js j h.1 (subst (λ n. P n j) e k))

pub numbered_take : {J : Type 0} (P : ℕ → J → Type 0) (first n : ℕ) (js : List J) → AreNumbered P first js → AreNumbered P first (take n js)
numbered_take P first zero js h = tt
numbered_take P first (suc n) [] h = tt
numbered_take P first (suc n) (j ∷ js) h = (h.0, numbered_take P (first + 1) n js h.1)

pub numbered_drop : {J : Type 0} (P : ℕ → J → Type 0) (first n : ℕ) (js : List J) → AreNumbered P first js → AreNumbered P (first + n) (drop n js)
numbered_drop P first zero js h = let e : first ≡ first + 0 = omega arith in subst (λ i. AreNumbered P i js) e h
numbered_drop P first (suc n) [] h = tt
numbered_drop P first (suc n) (j ∷ js) h = let e : first + 1 + n ≡ first + suc n = omega arith in subst (λ i. AreNumbered P i (drop n js)) e (numbered_drop P (first + 1) n js h.1)

-- The worker's job has the postings of its own slots.
abbrev pub IsListed : ℕ → List Labels → ℕ → Listing → Type 0
IsListed workers series worker job = IsPostingsOf (belonging workers worker (worker + 1) (by_slot series)) job.postings

-- each worker listed its own slots
pub all_listed : (workers first : ℕ) (table : Table) (before after : List Listing) → AreNumbered (λ worker job. (job.worker ≡ worker) × (job.workers.number ≡ workers) × (job.table.now ≡ table)) first before
    → AreDone (λ old new. IsPostingsOf (belonging old.workers.number old.worker (old.worker + 1) (by_slot old.table.now.series)) new.postings) before after
    → AreNumbered (IsListed workers table.series) first after
all_listed workers first table before [] h k = tt
all_listed workers first table [] (a ∷ more) h k = let e : length (a ∷ more) ≡ 0 = k.long in absurd cc
all_listed workers first table (b ∷ before) (a ∷ more) h k =
    let done = k.each 0 b a refl refl in
    let long : length (a ∷ more) ≡ length (b ∷ before) = k.long in
    let rest = all_listed workers (first + 1) table before more h.1 (record { long = cc; each = λ i x y there here. k.each (suc i) x y there here }) in
    let own = h.0 in (
      subst (λ (t : Table). IsPostingsOf (belonging workers first (first + 1) (by_slot t.series)) a.postings) own.2
          (subst (λ (n : ℕ). IsPostingsOf (belonging n first (first + 1) (by_slot b.table.now.series)) a.postings) own.1
          (subst (λ (w : ℕ). IsPostingsOf (belonging b.workers.number w (w + 1) (by_slot b.table.now.series)) a.postings) own.0 done)),
      rest,
    )

-- a list of one job, and of none
pub one_listed : (workers first count : ℕ) (series : List Labels) (jobs left : List Listing) (job : Listing) → jobs ≡ left ++ job ∷ [] → count ≡ length jobs → count ≤ 1 → AreNumbered (IsListed workers series) first jobs
    → IsPostingsOf (belonging workers first (first + count) (by_slot series)) job.postings
one_listed workers first count series jobs [] job is long few h =
    let one : 1 ≡ count = omega (arith, long, ap length is) in
    subst (λ (n : ℕ). IsPostingsOf (belonging workers first (first + n) (by_slot series)) job.postings) one (subst (AreNumbered (IsListed workers series) first) is h).0
one_listed workers first count series jobs (j ∷ left) job is long few h = absurd (omega (arith, long, few, ap length is, length-append left (job ∷ [])))

pub none_listed : (workers first count : ℕ) (series : List Labels) (p : Lists) → count ≡ 0 → IsPostingsOf [] p → IsPostingsOf (belonging workers first (first + count) (by_slot series)) p
none_listed workers first count series p none h =
    subst (λ (n : ℕ). IsPostingsOf (belonging workers first (first + n) (by_slot series)) p) (sym none) (subst (λ (sets : List (ℕ × Labels)). IsPostingsOf sets p) (sym (none_belong workers first (by_slot series))) h)
