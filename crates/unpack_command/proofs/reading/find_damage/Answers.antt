use Rattle.std.proofs.Common.{[], false, map, subst, sym, ◌∙◌}
use Rattle.std.proofs.lemmas.Result.{IfOk-weaker}
use Rattle.wal_log.specs.Plan.{named as name_of}
use Rattle.store.specs.Views.{view_of}
use Rattle.log_directory.specs.Unpacked.{AreUnpackedIn}
use Rattle.unpack_command.proofs.Log.{behind_damage, behind_whole}
use Rattle.unpack_command.proofs.reading.find_damage.Goals as goal

pub returns-then-is_some : goal.returns-then-is_some
returns-then-is_some g c =
    let inner = c.in_ok-damage.ensures in
    let log = c.args.log.now in (
      inner.0,
      [],
      record {
        first = c.in_ok-damage.damage;
        inner_are = inner.1;
        segments_are = behind_damage (view_of (g.S.Store.holds c.args.store.now)) log.dir.now (map name_of log.segments.now) c.in_ok-damage.damage (sym c.is_some.ensures ∙ c.if-is_some.true);
      },
    )

pub returns : goal.returns
returns g c =
    let inner = c.in_ok-damage.ensures in
    let view = view_of (g.S.Store.holds c.args.store.now) in
    let log = c.args.log.now in
    IfOk-weaker c.first_damage.result _ _
    (λ damage (segments, are). (
      inner.0,
      segments,
      record {
        first = c.in_ok-damage.damage;
        inner_are = inner.1;
        segments_are = behind_whole view log.dir.now (map name_of log.segments.now) c.in_ok-damage.damage segments damage (sym c.is_some.ensures ∙ c.if-is_some.false)
            (subst (λ names. AreUnpackedIn view log.dir.now false (map name_of names) segments damage) c.segments.ensures.names
            (subst (λ dir. AreUnpackedIn view dir false (map name_of c.segments.result.names.now) segments damage) c.segments.ensures.dir
            (subst (λ kind. AreUnpackedIn view c.segments.result.dir.now kind (map name_of c.segments.result.names.now) segments damage) c.segments.ensures.kind are)));
      },
    ))
    c.first_damage.ensures
