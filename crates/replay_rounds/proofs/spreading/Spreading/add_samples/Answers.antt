use Rattle.std.proofs.Common.{arith, ◌≡◌, ◌∙◌, ◌+◌, ◌++◌, ◌∷◌, [], List, Some, length, length-append, refl, sym, ap, subst, append_assoc}
use Rattle.std.specs.Result.{result_ok}
use Rattle.std.proofs.lemmas.List.{append-nil}
use Rattle.wal_record.specs.declared.record.WalRecord.{WalRecord}
use Rattle.wal_record.specs.declared.record.WalRecord.TheVariants.{Samples}
use Rattle.head_resolver.specs.Ahead.{AreSpreadAt}
use Rattle.replay_rounds.specs.Shares.{slots_of}
use Rattle.replay_rounds.proofs.spreading.Spreading.add_samples.Goals as goal

pub loop-samples-init : goal.loop-samples-init
loop-samples-init c =
    let at : c.args.place ≡ c.args.place + 0 = omega arith in (
      (
        [],
        c.lists-lists.ensures,
        at,
        λ first rs s _.
            subst (λ (ss : List WalRecord). AreSpreadAt c.args.resolver.now.min_valid (slots_of c.args.resolver.now c.args.changes.now) first ss c.args.self.now.spread.items c.args.self.now.counts) (sym (append-nil rs)) s,
      ),
      refl,
    )

pub loop-samples-preserved : goal.loop-samples-preserved
loop-samples-preserved c =
    let so_far = c.loop-samples.invariant.0 in
    let record_here : WalRecord = Samples c.in-Some.samples.now in
    let some : c.checked_add.result ≡ Some c.in_ok-place.place = c.ok_or.ensures.ok_part ∙ ap result_ok c.in_ok-place.was in
    let added = rw some at c.checked_add.ensures in
    let next : c.in_ok-place.place ≡ c.loop-samples.place + 1 = added.1 in (
      (
        so_far.0 ++ record_here ∷ [],
        append_assoc so_far.0 (record_here ∷ []) c.next.new.self ∙ sym (ap (λ (rs : List WalRecord). so_far.0 ++ rs) c.in-Some.ensures.some) ∙ so_far.1,
        omega (arith, next, so_far.2, length-append so_far.0 (record_here ∷ [])),
        λ first rs s at.
            (let here : c.loop-samples.place ≡ first + length (rs ++ so_far.0) =
            omega (arith, so_far.2, at, length-append rs so_far.0) in
            subst (λ (ss : List WalRecord). AreSpreadAt c.args.resolver.now.min_valid (slots_of c.args.resolver.now c.args.changes.now) first ss c.spread_samples_at.new.spread.items c.spread_samples_at.new.counts) (append_assoc rs so_far.0 (record_here ∷ []))
            (c.in-Ok.ensures.spread first (rs ++ so_far.0) (so_far.3 first rs s at) here)),
      ),
      c.in-Ok.ensures.workers ∙ c.loop-samples.invariant.1,
    )
