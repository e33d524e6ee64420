use Rattle.std.proofs.Common.{[], ◌∷◌, ◌++◌, refl}
use Rattle.std.proofs.lemmas.List.{take_all}
use Rattle.store.specs.Views.{view_of}
use Rattle.log_directory.proofs.Whole.{whole_all, whole_bad, whole_more}
use Rattle.unpack_command.proofs.reading.first_damage.Goals as goal

pub loop-named-init : goal.loop-named-init
loop-named-init g c = ([], tt)

pub loop-named-preserved : goal.loop-named-preserved
loop-named-preserved g c =
    let front = c.loop-named.invariant in
    let one = c.in_ok-damage.ensures in (
      front.0 ++ one.0 ∷ [],
      whole_more (view_of (g.S.Store.holds c.args.store.now)) c.args.files.now.dir.now c.args.files.now.names.now c.loop-named.named-index _ front.0 (front.0 ++ one.0 ∷ []) one.0 c.in_ok-damage.damage
          c.loop-named-test.true refl c.in_default.is front.1 one.1,
    )

pub returns-in-Some : goal.returns-in-Some
returns-in-Some g c =
    let front = c.loop-named.invariant in
    let one = c.in_ok-damage.ensures in (
      front.0 ++ one.0 ∷ [],
      whole_bad (view_of (g.S.Store.holds c.args.store.now)) c.args.files.now.dir.now c.args.files.now.in_checkpoint c.args.files.now.names.now c.loop-named.named-index _ front.0 (front.0 ++ one.0 ∷ []) one.0 c.in_ok-damage.damage c.in-Some.damage _
          c.loop-named-test.true refl c.in-Some.is refl front.1 one.1,
    )

pub returns : goal.returns
returns g c =
    let front = c.loop-named.invariant in (
      front.0,
      whole_all (view_of (g.S.Store.holds c.args.store.now)) c.args.files.now.dir.now c.args.files.now.in_checkpoint c.args.files.now.names.now c.loop-named.named-index front.0
          (take_all c.loop-named.named-index c.args.files.now.names.now c.loop-named-test.false) front.1,
    )
