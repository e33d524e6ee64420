use Rattle.std.proofs.Common.{◌≡◌, ◌++◌, ◌∷◌, [], ℕ, List, sym, subst, arith, take}
use Rattle.std.specs.Prelude.{slice_index_or}
use Rattle.std.proofs.Math.Seq.{take-length}
use Rattle.std.proofs.lemmas.List.FromFn.{length-enumerate_from}
use Rattle.head_series.specs.Table.{Labels}
use Rattle.head_postings.specs.Slots.{AreBelow}
use Rattle.head_postings.specs.Postings.{IsPostingsOf}
use Rattle.head_core.specs.Content.{by_slot}
use Rattle.head_core.proofs.Numbered.{below_first, one_more}
use Rattle.head_core.proofs.postings.postings_of.Goals as goal

pub add-requires : goal.add-requires
add-requires c = subst (λ (n : ℕ). AreBelow n c.loop-number.postings.all) (sym c.new-slot.ensures) (below_first c.loop-number.number c.args.table.now.series c.loop-number.postings c.loop-number.invariant)

pub loop-number-preserved : goal.loop-number-preserved
loop-number-preserved c =
    let ls = c.args.table.now.series in
    let n = c.loop-number.number in
    let l = c.in_ok-labels.field-0 in
    let slot = c.new-slot.ensures in
    let count = c.len-number-end.ensures.count in
    let test = c.loop-number-test.true in
    let is : l ≡ slice_index_or ls n [] = subst (λ (k : ℕ). l ≡ slice_index_or ls k []) slot c.in_ok-labels.ensures in
    let posted = c.in_ok-add.ensures.postings (take n (by_slot ls)) c.loop-number.invariant in
    subst (λ (sets : List (ℕ × Labels)). IsPostingsOf sets c.add.new.self) (sym (one_more n ls l (omega (arith, test, count)) is))
    (subst (λ (k : ℕ). IsPostingsOf (take n (by_slot ls) ++ (k, l) ∷ []) c.add.new.self) slot posted)

pub returns : goal.returns
returns c =
    let ls = c.args.table.now.series in
    let n = c.loop-number.number in
    let count = c.len-number-end.ensures.count in
    let ended = c.loop-number-test.false in
    let long = length-enumerate_from 0 ls in
    let up = c.loop-number.auto.number-end in
    let all : take n (by_slot ls) ≡ by_slot ls = subst (λ (k : ℕ). take k (by_slot ls) ≡ by_slot ls) (omega (arith, count, ended, up, long)) (take-length (by_slot ls)) in
    record { postings = subst (λ (sets : List (ℕ × Labels)). IsPostingsOf sets c.loop-number.postings) all c.loop-number.invariant }
