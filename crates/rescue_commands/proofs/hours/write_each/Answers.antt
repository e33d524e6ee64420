use Rattle.std.proofs.Common.{arith, length, rules, subst, ◌≡◌}
use Rattle.std.proofs.lemmas.Bool.Decides.{nat_tests}
use Rattle.std.specs.Prelude.{IsOk, ⊤}
use Rattle.rescue_commands.specs.Steps.{IsBlockOfHead}
use Rattle.rescue_commands.proofs.Groups.{Left, none_left, parted, some_failed, some_more}
use Rattle.rescue_commands.proofs.Written.{err_not_ok, have_less, not_ok, ok_is}
use Rattle.rescue_commands.proofs.hours.write_each.Goals as goal

pub returns-in_err-write_next : goal.returns-in_err-write_next
returns-in_err-write_next g c =
    let next = c.split_at.result.0.now in
    let later = c.split_at.result.1.now in
    let left = subst (λ rest. Left g.S.Store.did g.S.Store.holds c.args.shelf.now.out.now c.args.head.now.content c.args.store.now c.args.hours.now rest c.loop-rest.store)
    (parted g.S.Store.did g.S.Store.holds c.args.shelf.now.out.now c.args.head.now.content c.loop-rest.rest.now next later c.min.result c.split_at.ensures.front c.split_at.ensures.back) c.loop-rest.invariant in
    some_failed g.S.Store.did g.S.Store.holds c.args.shelf.now.out.now c.args.head.now.content c.args.store.now c.loop-rest.store c.write_next.new.store c.args.hours.now next later (IsOk c.write_next.result) (IsOk c.from_residual.result)
    (err_not_ok c.write_next.result _ c.in_err-write_next.was) (not_ok _ c.from_residual.result c.from_residual.ensures.1) left c.write_next.ensures

pub loop-rest-preserved : goal.loop-rest-preserved
loop-rest-preserved g c =
    let next = c.split_at.result.0.now in
    let later = c.split_at.result.1.now in
    let left = subst (λ rest. Left g.S.Store.did g.S.Store.holds c.args.shelf.now.out.now c.args.head.now.content c.args.store.now c.args.hours.now rest c.loop-rest.store)
    (parted g.S.Store.did g.S.Store.holds c.args.shelf.now.out.now c.args.head.now.content c.loop-rest.rest.now next later c.min.result c.split_at.ensures.front c.split_at.ensures.back) c.loop-rest.invariant in
    let have = have_less g.S.Store.did g.S.Store.holds c.args.shelf.now.out.now (IsBlockOfHead c.args.head.now.content) c.loop-rest.store c.write_next.new.store next ⊤ (IsOk c.write_next.result)
    (λ _. ok_is c.write_next.result _ c.in_ok-write_next.was) c.write_next.ensures in
    some_more g.S.Store.did g.S.Store.holds c.args.shelf.now.out.now c.args.head.now.content c.args.store.now c.loop-rest.store c.write_next.new.store c.args.hours.now next later left have

pub returns : goal.returns
returns g c =
    let none : length c.loop-rest.rest.now ≡ 0 = first_of (search rules, grind (arith, nat_tests)) in
    none_left g.S.Store.did g.S.Store.holds c.args.shelf.now.out.now c.args.head.now.content c.args.store.now c.loop-rest.store c.args.hours.now c.loop-rest.rest.now _ none c.loop-rest.invariant
