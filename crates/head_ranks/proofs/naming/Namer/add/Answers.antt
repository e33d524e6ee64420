use Rattle.std.proofs.Common.{refl, ap, arith}
use Rattle.std.specs.Vec.{with_item}
use Rattle.std.proofs.lemmas.Result.{on_ok_weaker}
use Rattle.head_ranks.specs.declared.counts.NameCount.{NameCount}
use Rattle.head_ranks.proofs.NameTallies.{name_new, name_old}
use Rattle.head_ranks.proofs.naming.Namer.add.Goals as goal

pub returns-then-at-len : goal.returns-then-at-len
returns-then-at-len c = λ before is.
    let long = c.args.self.now.counts.ok.0 in
    on_ok_weaker c.add.result (λ add.
    name_old before c.args.label.now c.args.self.now (record { seen = c.insert_full.new.self; counts = with_item c.args.self.now.counts c.in_ok-at.at c.add.new.self }) c.in_ok-at.at c.add.new.self is c.in_ok-at.ensures.keys c.in_ok-at.ensures.index
    c.index_mut.result.now (ap (λ (x : NameCount). x.name.now) add) (omega (arith, long)) refl c.index_mut.ensures.value (ap (λ (x : NameCount). x.values) add)) c.add.ensures

pub returns-in_ok-push : goal.returns-in_ok-push
returns-in_ok-push c = λ before is.
    let long = c.args.self.now.counts.ok.0 in
    name_new before c.args.label.now c.args.self.now (record { seen = c.insert_full.new.self; counts = c.push.new.self }) c.in_ok-at.at (record { name = c.args.label.now.name; values = 1 }) is c.in_ok-at.ensures.keys c.in_ok-at.ensures.index
    refl (omega (arith, long)) c.in_ok-push.ensures.items refl
