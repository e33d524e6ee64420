use Rattle.std.proofs.Common.{rules, ◌≡◌, ◌∙◌, ◌++◌, ◌+◌, [], Err, List, arith, drop, length, sym, ap, subst, take, ◌∷◌}
use Rattle.std.proofs.lemmas.List.{take_all, take_more}
use Rattle.wal_record.specs.declared.record.WalRecord.{WalRecord}
use Rattle.wal_log.specs.declared.reading.Placed.{Placed}
use Rattle.wal_log.specs.Log.{contents}
use Rattle.head_resolver.specs.Ahead.{IsAhead}
use Rattle.head_resolver.specs.Resolved.{IsResolvable}
use Rattle.head_resolver.specs.Taken.{taken_of}
use Rattle.head_resolver.specs.declared.fault.HeadFault.TheVariants.{Full}
use Rattle.head_core.specs.Content.{IsWithinLimits}
use Rattle.replay_rounds.proofs.Said.{contents_more, contents_next, length_so_far, taken_window}
use Rattle.replay_rounds.proofs.binding.bind_records.Goals as goal

pub returns-in_err-bind_ahead-clause-full : goal.returns-in_err-bind_ahead-clause-full
returns-in_err-bind_ahead-clause-full c = λ e m rs back h time at w.
    let full : c.bind_ahead.result ≡ Err Full = search rules in
    let i = c.loop-placed.placed-index in
    let placed : Placed = c.placed-item.result in
    let next : take (i + 1) c.args.records.now ≡ take i c.args.records.now ++ placed ∷ [] = take_more c.args.records.now i placed c.loop-placed-test.true ∙ ap (λ (p : Placed). take i c.args.records.now ++ p ∷ []) (sym c.placed-item.is) in
    let so_far = c.loop-placed.invariant in
    let bound = so_far.1 m rs back h at in
    let here : c.loop-placed.place ≡ length (back ++ contents (take i c.args.records.now)) = so_far.0 ∙ ap (λ n. n + i) at ∙ sym (length_so_far back c.args.records.now i c.loop-placed.auto.placed-index-end) in
    let same = so_far.4 ∙ time in
    let within = c.limits_hold_before.ensures.front m (rs ++ ((back ++ contents (take i c.args.records.now)) ++ placed.content ∷ [])) (contents (drop (i + 1) c.args.records.now))
    (subst (λ (ss : List WalRecord). IsWithinLimits (taken_of m ss)) (contents_next rs back c.args.records.now i placed next) w) in
    c.bind_ahead.ensures.full full (taken_of m rs) [] (back ++ contents (take i c.args.records.now)) bound
    (subst IsResolvable (sym (taken_window c.spread_records.ensures.taken c.loop-placed.resolver.min_valid m rs ((back ++ contents (take i c.args.records.now)) ++ placed.content ∷ []) same)) (c.limits_hold_before.ensures.resolvable _ within))

pub loop-placed-preserved : goal.loop-placed-preserved
loop-placed-preserved c =
    let i = c.loop-placed.placed-index in
    let placed : Placed = c.placed-item.result in
    let next : take (i + 1) c.args.records.now ≡ take i c.args.records.now ++ placed ∷ [] = take_more c.args.records.now i placed c.loop-placed-test.true ∙ ap (λ (p : Placed). take i c.args.records.now ++ p ∷ []) (sym c.placed-item.is) in
    let so_far = c.loop-placed.invariant in (
      (search rules),
      λ m rs back h at.
          (let bound = so_far.1 m rs back h at in
          let here : c.loop-placed.place ≡ length (back ++ contents (take i c.args.records.now)) = so_far.0 ∙ ap (λ n. n + i) at ∙ sym (length_so_far back c.args.records.now i c.loop-placed.auto.placed-index-end) in
          subst (λ (ss : List WalRecord). IsAhead (taken_of m rs) [] ss c.bind_ahead.new.changes c.bind_ahead.new.self) (contents_more back c.args.records.now i placed next)
          (c.in_ok-bind_ahead.ensures.ahead (taken_of m rs) [] (back ++ contents (take i c.args.records.now)) bound here)),
      λ n le below. c.in_ok-bind_ahead.ensures.below n le (so_far.2 n (omega (arith, c.bind_ahead.ensures.more, le)) below),
      omega (arith, so_far.3, c.bind_ahead.ensures.more),
      c.bind_ahead.ensures.time ∙ so_far.4,
      c.in_ok-bind_ahead.ensures.sound,
    )

pub returns-clause-ahead : goal.returns-clause-ahead
returns-clause-ahead c = λ m rs back h at.
    subst (λ (ps : List Placed). IsAhead (taken_of m rs) [] (back ++ contents ps) c.loop-placed.changes c.loop-placed.resolver) (take_all c.loop-placed.placed-index c.args.records.now c.loop-placed-test.false)
    (c.loop-placed.invariant.1 m rs back h at)
