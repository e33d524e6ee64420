use Rattle.std.proofs.Common.{◌≡◌, ◌+◌, ◌++◌, ◌∷◌, ◌∙◌, [], ℕ, List, sym, subst, arith, take}
use Rattle.std.specs.Prelude.{slice_index_or}
use Rattle.std.proofs.Math.Nat.{add-mod_right, mod-eq_of_lt}
use Rattle.std.proofs.lemmas.List.{take_all}
use Rattle.std.proofs.lemmas.List.FromFn.{length-enumerate_from}
use Rattle.head_series.specs.Table.{Labels}
use Rattle.head_postings.specs.Slots.{AreBelow}
use Rattle.head_postings.specs.Postings.{IsPostingsOf}
use Rattle.head_core.specs.Content.{by_slot}
use Rattle.head_replay.specs.Partial.{belonging}
use Rattle.head_replay.proofs.Partial.{below_number, next_slot, none_before}
use Rattle.head_replay.proofs.postings.partial.Goals as goal

pub loop-number-init : goal.loop-number-init
loop-number-init c = (mod-eq_of_lt c.requires, subst (λ (sets : List (ℕ × Labels)). IsPostingsOf sets c.with_seed-postings.result) (sym (none_before c.args.workers.number c.args.worker c.args.table.now.series c.requires)) c.with_seed-postings.ensures)

pub add-requires : goal.add-requires
add-requires c = subst (λ (n : ℕ). AreBelow n c.loop-number.postings.all) (sym c.new-slot.ensures) (below_number c.args.workers.number c.args.worker (c.args.worker + 1) c.loop-number.number c.args.table.now.series c.loop-number.postings c.loop-number.invariant.1)

pub loop-number-preserved : goal.loop-number-preserved
loop-number-preserved c =
    let ls = c.args.table.now.series in
    let n = c.loop-number.number in
    let workers = c.args.workers.number in
    let worker = c.args.worker in
    let l = c.in_ok-labels.field-0 in
    let slot = c.new-slot.ensures in
    let rest = c.loop-number.invariant.0 in
    let is : l ≡ slice_index_or ls n [] = subst (λ (k : ℕ). l ≡ slice_index_or ls k []) slot c.in_ok-labels.ensures in
    let posted = c.in_ok-add.ensures.postings (belonging workers worker (worker + 1) (take n (by_slot ls))) c.loop-number.invariant.1 in
    let next = next_slot workers worker n ls l rest c.args.workers.some (omega arith) is in (
      add-mod_right n workers ∙ rest,
      subst (λ (sets : List (ℕ × Labels)). IsPostingsOf sets c.add.new.self) (sym next)
          (subst (λ (k : ℕ). IsPostingsOf (belonging workers worker (worker + 1) (take n (by_slot ls)) ++ (k, l) ∷ []) c.add.new.self) slot posted),
    )

pub returns : goal.returns
returns c =
    let ls = c.args.table.now.series in
    let n = c.loop-number.number in
    let long = length-enumerate_from 0 ls in
    let all : take n (by_slot ls) ≡ by_slot ls = take_all n (by_slot ls) (omega arith) in
    record { postings = subst (λ (sets : List (ℕ × Labels)). IsPostingsOf (belonging c.args.workers.number c.args.worker (c.args.worker + 1) sets) c.loop-number.postings) all c.loop-number.invariant.1 }
