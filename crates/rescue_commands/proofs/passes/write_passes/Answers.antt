use Rattle.std.proofs.Common.{arith, rules, subst, sym, ◌≡◌, of_z, to_z, w64}
use Rattle.std.proofs.lemmas.Int.{ints, to_z-of_z}
use Rattle.std.specs.Prelude.{IfOk, IsOk, List, ℤ, pos, ◌-ℤ◌, ⊤}
use Rattle.rescue_commands.specs.Rescues.{WritesHoursAt}
use Rattle.rescue_commands.specs.Steps.{AreWhole}
use Rattle.rescue_commands.proofs.InPasses.{Left, first_start, last_pass, none_left, one_failed, one_passed, pass_less, whole_to_end, whole_up_to}
use Rattle.rescue_commands.proofs.Written.{not_ok, ok_is}
use Rattle.rescue_commands.proofs.passes.write_passes.Goals as goal

pub write_pass-requires-after_bounds : goal.write_pass-requires-after_bounds
write_pass-requires-after_bounds g c κs within =
    let request = c.args.request in
    let next = c.in-Some.next.now in
    let left = subst (λ (rest : List ℤ). Left g.S.Store.did g.S.Store.holds request.form request.dir.now request.out.now request.options.min_valid c.args.store.now c.args.bounds.now rest (to_z w64 c.loop-next.min_time-bits) c.loop-next.store) c.in-Some.ensures.cases.0 c.loop-next.invariant in
    let same : to_z w64 (of_z w64 next) ≡ next = search (rules, to_z-of_z) in
    let later = left.are.ascend.0 in
    let last : to_z w64 (of_z w64 (to_z w64 (of_z w64 next) -ℤ pos 1)) ≡ next -ℤ pos 1 = omega (arith, ints, same, later) in
    subst (λ (m : ℤ). AreWhole (record { min_time = (to_z w64 c.loop-next.min_time-bits); max_time = m })) (sym last) (whole_up_to (to_z w64 c.loop-next.min_time-bits) next left.begins (first_start (to_z w64 c.loop-next.min_time-bits) next c.in-Some.later.now left.are))

pub returns-in_err-write_pass : goal.returns-in_err-write_pass
returns-in_err-write_pass g c =
    let request = c.args.request in
    let next = c.in-Some.next.now in
    let left = subst (λ (rest : List ℤ). Left g.S.Store.did g.S.Store.holds request.form request.dir.now request.out.now request.options.min_valid c.args.store.now c.args.bounds.now rest (to_z w64 c.loop-next.min_time-bits) c.loop-next.store) c.in-Some.ensures.cases.0 c.loop-next.invariant in
    let same : to_z w64 (of_z w64 next) ≡ next = search (rules, to_z-of_z) in
    let later = left.are.ascend.0 in
    let last : to_z w64 (of_z w64 (to_z w64 (of_z w64 next) -ℤ pos 1)) ≡ next -ℤ pos 1 = omega (arith, ints, same, later) in
    one_failed g.S.Store.did g.S.Store.holds request.form request.dir.now request.out.now request.options.min_valid c.args.store.now c.loop-next.store c.write_pass.new.store c.args.bounds.now next c.in-Some.later.now (to_z w64 c.loop-next.min_time-bits) _ _
    (not_ok _ c.from_residual.result c.from_residual.ensures.1) left
    (pass_less g.S.Store.did g.S.Store.holds request.form request.dir.now request.out.now request.options.min_valid (record { min_time = (to_z w64 c.loop-next.min_time-bits); max_time = next -ℤ pos 1 }) c.loop-next.store ⊥ (IsOk c.write_pass.result) (λ own. ⊤)
    (λ own. IfOk c.write_pass.result (λ flaw. flaw ≡ own)) c.write_pass.new.store (λ no. absurd no) (λ own no told. tt)
    (subst (λ (m : ℤ). WritesHoursAt g.S.Store.did g.S.Store.holds request.form request.dir.now request.out.now request.options.min_valid (record { min_time = (to_z w64 c.loop-next.min_time-bits); max_time = m }) c.loop-next.store (IsOk c.write_pass.result)
    (λ own. IfOk c.write_pass.result (λ flaw. flaw ≡ own)) c.write_pass.new.store) last c.write_pass.ensures))

pub loop-next-preserved : goal.loop-next-preserved
loop-next-preserved g c =
    let request = c.args.request in
    let next = c.in-Some.next.now in
    let left = subst (λ (rest : List ℤ). Left g.S.Store.did g.S.Store.holds request.form request.dir.now request.out.now request.options.min_valid c.args.store.now c.args.bounds.now rest (to_z w64 c.loop-next.min_time-bits) c.loop-next.store) c.in-Some.ensures.cases.0 c.loop-next.invariant in
    let same : to_z w64 (of_z w64 next) ≡ next = search (rules, to_z-of_z) in
    let later = left.are.ascend.0 in
    let last : to_z w64 (of_z w64 (to_z w64 (of_z w64 next) -ℤ pos 1)) ≡ next -ℤ pos 1 = omega (arith, ints, same, later) in
    subst (λ (to : ℤ). Left g.S.Store.did g.S.Store.holds request.form request.dir.now request.out.now request.options.min_valid c.args.store.now c.args.bounds.now c.in-Some.later.now to c.write_pass.new.store) (sym same)
    (one_passed g.S.Store.did g.S.Store.holds request.form request.dir.now request.out.now request.options.min_valid c.args.store.now c.loop-next.store c.write_pass.new.store c.args.bounds.now next c.in-Some.later.now (to_z w64 c.loop-next.min_time-bits) left
    (pass_less g.S.Store.did g.S.Store.holds request.form request.dir.now request.out.now request.options.min_valid (record { min_time = (to_z w64 c.loop-next.min_time-bits); max_time = next -ℤ pos 1 }) c.loop-next.store ⊤ (IsOk c.write_pass.result) (λ own. ⊤)
    (λ own. IfOk c.write_pass.result (λ flaw. flaw ≡ own)) c.write_pass.new.store (λ _. ok_is c.write_pass.result _ c.in_ok-write_pass.was) (λ own well told. tt)
    (subst (λ (m : ℤ). WritesHoursAt g.S.Store.did g.S.Store.holds request.form request.dir.now request.out.now request.options.min_valid (record { min_time = (to_z w64 c.loop-next.min_time-bits); max_time = m }) c.loop-next.store (IsOk c.write_pass.result)
    (λ own. IfOk c.write_pass.result (λ flaw. flaw ≡ own)) c.write_pass.new.store) last c.write_pass.ensures)))

pub write_pass-requires-2-after_bounds : goal.write_pass-requires-2-after_bounds
write_pass-requires-2-after_bounds g c κs within = whole_to_end (to_z w64 c.loop-next.min_time-bits) c.loop-next.invariant.begins

pub returns : goal.returns
returns g c =
    let request = c.args.request in
    let left = subst (λ (rest : List ℤ). Left g.S.Store.did g.S.Store.holds request.form request.dir.now request.out.now request.options.min_valid c.args.store.now c.args.bounds.now rest (to_z w64 c.loop-next.min_time-bits) c.loop-next.store) (none_left c.loop-next.left.now c.in_default.ensures.cases) c.loop-next.invariant in
    last_pass g.S.Store.did g.S.Store.holds request.form request.dir.now request.out.now request.options.min_valid c.args.store.now c.loop-next.store c.write_pass-2.new.store c.args.bounds.now (to_z w64 c.loop-next.min_time-bits) _ _ left c.write_pass-2.ensures
