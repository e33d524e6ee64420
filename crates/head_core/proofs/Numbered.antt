-- Series numbered in order.
use Rattle.std.proofs.Common.{◌≡◌, ℕ, zero, suc, ◌+◌, ◌<◌, ◌≤◌, List, [], ◌∷◌, ◌++◌, ap, sym, subst, ◌∙◌, arith, length, take}
use Rattle.std.specs.Prelude.{slice_index_or}
use Rattle.std.specs.List.{enumerate_from}
use Rattle.std.proofs.Math.Seq.{take-suc}
use Rattle.std.proofs.lemmas.List.FromFn.{get_or-enumerate_from, length-enumerate_from}
use Rattle.head_series.specs.Table.{Labels}
use Rattle.head_postings.specs.Slots.{AreBelow}
use Rattle.head_postings.specs.Postings.{Lists, IsPostingsOf, slots}
use Rattle.head_core.specs.Content.{by_slot}

below_from : (m from n : ℕ) (ls : List Labels) → from + n ≤ m → AreBelow m (slots (take n (enumerate_from from ls)))
below_from m from zero ls h = tt
below_from m from (suc n) [] h = tt
below_from m from (suc n) (l ∷ ls) h = (omega (arith, h), below_from m (from + 1) n ls (omega (arith, h)))

-- The postings of the first series have only slots of them.
pub below_first : (n : ℕ) (ls : List Labels) (p : Lists) → IsPostingsOf (take n (by_slot ls)) p → AreBelow n p.all
below_first n ls p h = subst (AreBelow n) (sym h.every) (below_from n 0 n ls (omega arith))

-- the first series and one more
pub one_more : (n : ℕ) (ls : List Labels) (l : Labels) → n < length ls → l ≡ slice_index_or ls n [] → take (n + 1) (by_slot ls) ≡ take n (by_slot ls) ++ (n, l) ∷ []
one_more n ls l h is =
    let long = length-enumerate_from 0 ls in
    let all : take (suc n) (by_slot ls) ≡ take n (by_slot ls) ++ slice_index_or (by_slot ls) n (0, []) ∷ [] = take-suc (by_slot ls) n (0, []) (omega (arith, h, long)) in
    let zero_more : 0 + n ≡ n = omega arith in
    let at : slice_index_or (by_slot ls) n (0, []) ≡ (n, l) = get_or-enumerate_from 0 ls n (0, []) h ∙ ap (λ k. (k, slice_index_or ls n [])) zero_more ∙ ap (λ k. (n, k)) (sym is) in
    let next : suc n ≡ n + 1 = omega arith in
    subst (λ (k : ℕ). take k (by_slot ls) ≡ take n (by_slot ls) ++ (n, l) ∷ []) next (all ∙ ap (λ p. take n (by_slot ls) ++ p ∷ []) at)
