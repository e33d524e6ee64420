-- Each kind of step keeps the rule.
use Rattle.std.proofs.Common.{◌≡◌, ◌≢◌, ℕ, zero, suc, ◌+◌, ◌<◌, ◌≤◌, false, true≢false, eqb, eq-eqb, ne_eqb, List, [], ◌∷◌, ◌++◌, get_or, set, cond, MatchBool, refl, sym, ap, ◌∙◌, subst, ⊎_elim, arith, length-set, get_or-set_same}
use Rattle.std.specs.Prelude.{◌==◌, nat_lt, if◌then◌else◌, sum_by}
use Rattle.std.proofs.lemmas.List.Sums.{sum_by-cons, sum_by-append, sum_by_push}
use Rattle.std.proofs.lemmas.Bool.Decides.{nat_tests}
use mathlib.Core.Logic.{dite}
use mathlib.Core.Option.{none, some, some-ne-none, some-injective}
use native.Mathlib.Decide.{ℕ_discrete}
use prog.Atomic.{either}
use lib.ListN.{get_elem?}
use Rattle.atomic_table.specs.Table.{State, Me, step, keeps, stepped, Allows, Splits, Joins}
use Rattle.atomic_table.proofs.Lists.{at_set, at_snoc, set_again}
use Rattle.crew.specs.declared.claims.Known.{Known}
use Rattle.crew.specs.Tickets.{spent, times, times_in_all, HasNoRepeat, Tickets, Ruled, taking, seeing, fresh, joined, Draws, Looks}

-- the sum over the views after a change of one
sum_by-view : (f : Known → ℕ) (views : List Known) (seat : ℕ) (v w : Known) → get_elem? views seat ≡ some v → sum_by f (set views seat w) + f v ≡ sum_by f views + f w
sum_by-view f [] seat v w e = absurd (some-ne-none v (sym e))
sum_by-view f (x ∷ xs) zero v w e = omega (arith, sum_by-cons f w xs, sum_by-cons f x xs, ap f (some-injective x v e))
sum_by-view f (x ∷ xs) (suc k) v w e = omega (arith, sum_by-cons f x (set xs k w), sum_by-cons f x xs, sum_by-view f xs k v w e)

-- one view has no more than all have
le-sum_by-view : (f : Known → ℕ) (views : List Known) (seat : ℕ) (v : Known) → get_elem? views seat ≡ some v → f v ≤ sum_by f views
le-sum_by-view f [] seat v e = absurd (some-ne-none v (sym e))
le-sum_by-view f (x ∷ xs) zero v e = omega (arith, sum_by-cons f x xs, ap f (some-injective x v e))
le-sum_by-view f (x ∷ xs) (suc k) v e = omega (arith, sum_by-cons f x xs, le-sum_by-view f xs k v e)

times-append : (x : ℕ) (xs ys : List ℕ) → times x (xs ++ ys) ≡ times x xs + times x ys
times-append x xs ys = sum_by-append (λ y. cond (y == x) 1 0) xs ys

below_more_once : (x n : ℕ) → (if nat_lt x n then 1 else 0) + times x (n ∷ []) ≡ (if nat_lt x (n + 1) then 1 else 0)
below_more_once x n = grind (arith, nat_tests)

below_at_most_once : (x n : ℕ) → (if nat_lt x n then 1 else 0) ≤ 1
below_at_most_once x n = grind (arith, nat_tests)

-- what the rule says of one view
abbrev Fits : ℕ → ℕ → Known → Type 0
Fits pieces word v = v.is_spent ≡ false → (v.pieces ≡ pieces) × (v.seen ≤ word)

abbrev AllFit : ℕ → ℕ → List Known → Type 0
AllFit pieces word views = (seat : ℕ) (v : Known) → get_elem? views seat ≡ some v → Fits pieces word v

fits_set : (pieces word : ℕ) (views : List Known) (seat : ℕ) (w : Known) → AllFit pieces word views → Fits pieces word w → AllFit pieces word (set views seat w)
fits_set pieces word views seat w others mine j u e =
    ⊎_elim (λ (t : (j ≡ seat) × (w ≡ u)). subst (Fits pieces word) t.1 mine) (λ (t : (j ≢ seat) × (get_elem? views j ≡ some u)). others j u t.1) (at_set views seat j w u e)

fits_snoc : (pieces word : ℕ) (views : List Known) (w : Known) → AllFit pieces word views → Fits pieces word w → AllFit pieces word (views ++ w ∷ [])
fits_snoc pieces word views w others mine j u e =
    ⊎_elim (λ (t : get_elem? views j ≡ some u). others j u t) (λ (t : w ≡ u). subst (Fits pieces word) t mine) (at_snoc views w u j e)

-- no list of a view has a number twice
pub no_repeat : (pieces word : ℕ) (views : List Known) → Tickets pieces word views → (seat : ℕ) (v : Known) → get_elem? views seat ≡ some v → HasNoRepeat v.drawn
no_repeat pieces word views r seat v at x =
    let mine : times x v.drawn ≤ times_in_all x views = le-sum_by-view (λ u. times x u.drawn) views seat v at in
    let all : times_in_all x views ≡ (if nat_lt x word then 1 else 0) = r.once x in
    let few : (if nat_lt x word then 1 else 0) ≤ 1 = below_at_most_once x word in
    omega arith

-- the pass draws the number
pub drew : (pieces n seat : ℕ) (views : List Known) (v : Known) → Tickets pieces n views → get_elem? views seat ≡ some v → v.is_spent ≡ false → n < v.pieces → Tickets pieces (n + 1) (set views seat (taking v n))
drew pieces n seat views v r at used room =
    let mine = r.seen seat v at used in
    record {
      within = omega arith;
      seen = fits_set pieces (n + 1) views seat (taking v n) (λ j u e live. let t = r.seen j u e live in (t.0, omega arith)) (λ _. (mine.0, omega arith));
      once = λ x.
          let set_is : times_in_all x (set views seat (taking v n)) + times x v.drawn ≡ times_in_all x views + times x (v.drawn ++ n ∷ []) = sum_by-view (λ u. times x u.drawn) views seat v (taking v n) at in
          let was : times_in_all x views ≡ (if nat_lt x n then 1 else 0) = r.once x in
          omega (arith, times-append x v.drawn (n ∷ []), below_more_once x n);
    }

-- the pass sees the word
pub saw : (pieces n seat : ℕ) (views : List Known) (v : Known) → Tickets pieces n views → get_elem? views seat ≡ some v → v.is_spent ≡ false → Tickets pieces n (set views seat (seeing v n))
saw pieces n seat views v r at used =
    let mine = r.seen seat v at used in
    record {
      within = r.within;
      seen = fits_set pieces n views seat (seeing v n) (λ j u e. r.seen j u e) (λ _. (mine.0, omega arith));
      once = λ x.
          let set_is : times_in_all x (set views seat (seeing v n)) + times x v.drawn ≡ times_in_all x views + times x v.drawn = sum_by-view (λ u. times x u.drawn) views seat v (seeing v n) at in
          let was : times_in_all x views ≡ (if nat_lt x n then 1 else 0) = r.once x in
          omega arith;
    }

set_there : (views : List Known) (seat : ℕ) (v w : Known) → get_elem? views seat ≡ some v → get_elem? (set views seat w) seat ≡ some w
set_there [] seat v w e = absurd (some-ne-none v (sym e))
set_there (x ∷ xs) zero v w e = refl
set_there (x ∷ xs) (suc k) v w e = set_there xs k v w e

module _ {S : Type 0} where
  placed : (pieces : ℕ) (s : State S Known) (n id : ℕ) (me : Me S Known) (w : Known) → Ruled pieces s → Tickets pieces n (set s.views id w) → Ruled pieces (stepped s 0 n id me.1 w keeps)
  placed pieces s n id me w r t = (length-set s.words 0 n ∙ r.0, subst (λ (z : ℕ). Tickets pieces z (set s.views id w)) (sym (get_or-set_same s.words 0 n 0 (let one = r.0 in omega arith))) t)

  pub claims : (pieces slots id : ℕ) (me : Me S Known) (old : ℕ) → me.0.is_spent ≡ false → me.0.seen ≡ old → old < me.0.pieces
      → Allows (Ruled pieces) slots id me 0 (λ n. either (eqb n old) (old + 1) n) (Draws (step slots 0 old (old + 1) none) me)
  claims pieces slots id me old used is room s r _ at _ =
      let x : ℕ = get_or s.words 0 0 in
      let mine = r.1.seen id me.0 at used in
      let within = r.1.within in
      dite (ℕ_discrete x old)
      (λ hit.
      let w = taking me.0 x in
      let t : Tickets pieces (x + 1) (set s.views id w) = drew pieces x id s.views me.0 r.1 at used (omega arith) in (
        w,
        keeps,
        tt,
        subst (λ b. Ruled pieces (stepped s 0 (either b (old + 1) x) id me.1 w keeps)) (sym (eq-eqb x old hit))
            (placed pieces s (old + 1) id me w r (subst (λ (z : ℕ). Tickets pieces (z + 1) (set s.views id w)) hit t)),
        (
          refl,
          omega arith,
          no_repeat pieces (x + 1) (set s.views id w) t id w (set_there s.views id me.0 w at),
          subst (λ b. MatchBool b (w ≡ taking me.0 x) ((old < x) × (w ≡ seeing me.0 x))) (sym (eq-eqb x old hit)) refl,
        ),
      ))
      (λ miss.
      let w = seeing me.0 x in
      let t : Tickets pieces x (set s.views id w) = saw pieces x id s.views me.0 r.1 at used in (
        w,
        keeps,
        tt,
        subst (λ b. Ruled pieces (stepped s 0 (either b (old + 1) x) id me.1 w keeps)) (sym (ne_eqb x old miss)) (placed pieces s x id me w r t),
        (
          refl,
          omega arith,
          no_repeat pieces x (set s.views id w) t id w (set_there s.views id me.0 w at),
          subst (λ b. MatchBool b (w ≡ taking me.0 x) ((old < x) × (w ≡ seeing me.0 x))) (sym (ne_eqb x old miss)) ((omega arith), refl),
        ),
      ))

  pub looks : (pieces slots id : ℕ) (me : Me S Known) → Allows (Ruled pieces) slots id me 0 (λ n. n) (Looks (step slots 0 0 0 none) me)
  looks pieces slots id me s r _ at _ =
      let x : ℕ = get_or s.words 0 0 in (
        me.0,
        keeps,
        tt,
        placed pieces s x id me me.0 r (subst (Tickets pieces x) (sym (set_again s.views id me.0 at)) r.1),
        (refl, no_repeat pieces x s.views r.1 id me.0 at),
      )

  pub splits : (pieces id : ℕ) (v : Known) → Splits {S = S} (Ruled pieces) id v v (fresh v)
  splits pieces id v s r at =
      let n : ℕ = get_or s.words 0 0 in
      let t = r.1 in
      let same : set s.views id v ≡ s.views = set_again s.views id v at in (
        r.0,
        record {
          within = t.within;
          seen = subst (λ vs. AllFit pieces n (vs ++ fresh v ∷ [])) (sym same) (fits_snoc pieces n s.views (fresh v) t.seen (λ used. t.seen id v at used));
          once = λ x.
              let more : times_in_all x (s.views ++ fresh v ∷ []) ≡ times_in_all x s.views + 0 = sum_by_push (λ u. times x u.drawn) s.views (fresh v) in
              let was : times_in_all x s.views ≡ (if nat_lt x n then 1 else 0) = t.once x in
              ap (λ vs. times_in_all x (vs ++ fresh v ∷ [])) same ∙ omega arith;
        },
      )

  pub joins : (pieces id : ℕ) (v : Known) (other : ℕ) (w : Known) → v.is_spent ≡ false → w.is_spent ≡ false → Joins {S = S} (Ruled pieces) id v other w (joined v w) spent
  joins pieces id v other w used used' s r at apart there =
      let n : ℕ = get_or s.words 0 0 in
      let t = r.1 in
      let both = joined v w in
      let vs : List Known = set s.views id both in
      let was : get_elem? s.views other ≡ some w = ⊎_elim (λ (h : (other ≡ id) × (both ≡ w)). absurd (apart h.0)) (λ (h : (other ≢ id) × (get_elem? s.views other ≡ some w)). h.1) (at_set s.views id other both w there) in
      let mine = t.seen id v at used in
      let theirs = t.seen other w was used' in (
        r.0,
        record {
          within = t.within;
          seen = fits_set pieces n vs other spent (fits_set pieces n s.views id both t.seen (λ _. (mine.0, omega arith))) (λ live. absurd (true≢false live));
          once = λ x.
              let first : times_in_all x vs + times x v.drawn ≡ times_in_all x s.views + times x (v.drawn ++ w.drawn) = sum_by-view (λ u. times x u.drawn) s.views id v both at in
              let second : times_in_all x (set vs other spent) + times x w.drawn ≡ times_in_all x vs + 0 = sum_by-view (λ u. times x u.drawn) vs other w spent there in
              let before : times_in_all x s.views ≡ (if nat_lt x n then 1 else 0) = t.once x in
              omega (arith, times-append x v.drawn w.drawn);
        },
      )

counted_below : (x word : ℕ) → x < word → ◌≡◌ {A = ℕ} (if nat_lt x word then 1 else 0) 1
counted_below x word below = grind (arith, nat_tests)

counted_past : (x word : ℕ) → word ≤ x → ◌≡◌ {A = ℕ} (if nat_lt x word then 1 else 0) 0
counted_past x word past = grind (arith, nat_tests)

-- one of the terms of a sum of 1 is 1, and the others are 0
only_one : (f : Known → ℕ) (views : List Known) → sum_by f views ≡ 1
    → (seat : ℕ) × (v : Known) × (get_elem? views seat ≡ some v) × (f v ≡ 1) × ((j : ℕ) (u : Known) → j ≢ seat → get_elem? views j ≡ some u → f u ≡ 0)
only_one f [] e = absurd (omega arith)
only_one f (x ∷ xs) e =
    let split = sum_by-cons f x xs in
    dite (ℕ_discrete (f x) 0)
    (λ (nothing : f x ≡ 0).
    let t = only_one f xs (omega arith) in
    (suc t.0, t.1, t.2, t.3, other f x xs t.0 nothing t.4))
    (λ some_here.
    let here : f x ≡ 1 = omega arith in
    let rest : sum_by f xs ≡ 0 = omega arith in
    (0, x, refl, here, first f x xs rest))
  where
    other : (f : Known → ℕ) (x : Known) (xs : List Known) (seat : ℕ) → f x ≡ 0 → ((j : ℕ) (u : Known) → j ≢ seat → get_elem? xs j ≡ some u → f u ≡ 0) → (j : ℕ) (u : Known) → j ≢ suc seat → get_elem? (x ∷ xs) j ≡ some u → f u ≡ 0
    other f x xs seat nothing rest zero u ne at = sym (ap f (some-injective x u at)) ∙ nothing
    other f x xs seat nothing rest (suc j) u ne at = rest j u (λ same. ne (ap suc same)) at

    first : (f : Known → ℕ) (x : Known) (xs : List Known) → sum_by f xs ≡ 0 → (j : ℕ) (u : Known) → j ≢ 0 → get_elem? (x ∷ xs) j ≡ some u → f u ≡ 0
    first f x xs rest zero u ne at = absurd (ne refl)
    first f x xs rest (suc j) u ne at = let few = le-sum_by-view f xs j u at in omega arith

-- each number below the word is once in the list of just one view
pub stands_in_one : (pieces word : ℕ) (views : List Known) → Tickets pieces word views → (x : ℕ) → x < word
    → (seat : ℕ) × (v : Known) × (get_elem? views seat ≡ some v) × (times x v.drawn ≡ 1) × ((j : ℕ) (u : Known) → j ≢ seat → get_elem? views j ≡ some u → times x u.drawn ≡ 0)
stands_in_one pieces word views r x below =
    let all : times_in_all x views ≡ (if nat_lt x word then 1 else 0) = r.once x in
    only_one (λ u. times x u.drawn) views (all ∙ counted_below x word below)

-- and the lists hold no other number
pub stands_in_none : (pieces word : ℕ) (views : List Known) → Tickets pieces word views → (x : ℕ) → word ≤ x → (seat : ℕ) (v : Known) → get_elem? views seat ≡ some v → times x v.drawn ≡ 0
stands_in_none pieces word views r x past seat v at =
    let all : times_in_all x views ≡ (if nat_lt x word then 1 else 0) = r.once x in
    let few : times x v.drawn ≤ times_in_all x views = le-sum_by-view (λ u. times x u.drawn) views seat v at in
    let nothing : ◌≡◌ {A = ℕ} (if nat_lt x word then 1 else 0) 0 = counted_past x word past in
    omega arith
