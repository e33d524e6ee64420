use Rattle.std.proofs.Common.{arith, ◌≡◌, ◌∙◌, ◌+◌, ◌++◌, ◌∷◌, [], List, Some, length, length-append, refl, sym, ap, subst, append_assoc}
use Rattle.std.specs.Result.{result_ok}
use Rattle.std.specs.Vec.Iter.{into_iter_items}
use Rattle.std.proofs.lemmas.List.{append-nil, length-map}
use Rattle.wal_record.specs.declared.record.WalRecord.{WalRecord}
use Rattle.wal_log.specs.declared.reading.Placed.{Placed}
use Rattle.wal_log.specs.Log.{contents}
use Rattle.head_resolver.specs.Ahead.{AreSpreadAt}
use Rattle.replay_rounds.specs.Shares.{slots_of}
use Rattle.replay_rounds.proofs.Windows.{contents_both}
use Rattle.replay_rounds.proofs.spreading.Spreading.add_records.Goals as goal

pub loop-placed-init : goal.loop-placed-init
loop-placed-init c =
    let all : into_iter_items c.into_iter-placed-iterator.result ≡ c.args.records = c.into_iter-placed-iterator.ensures.into_iter_gives.0 ∙ c.into_vec-placed-items.ensures in
    let at : c.args.place ≡ c.args.place + 0 = omega arith in (
      (
        [],
        all,
        at,
        λ first rs s _.
            subst (λ (ss : List WalRecord). AreSpreadAt c.args.resolver.now.min_valid (slots_of c.args.resolver.now c.args.changes.now) first ss c.args.self.now.spread.items c.args.self.now.counts) (sym (append-nil rs)) s,
      ),
      refl,
    )

pub loop-placed-preserved : goal.loop-placed-preserved
loop-placed-preserved c =
    let so_far = c.loop-placed.invariant.0 in
    let p : Placed = c.in-Some.placed in
    let some : c.checked_add.result ≡ Some c.in_ok-place.place = c.ok_or.ensures.ok_part ∙ ap result_ok c.in_ok-place.was in
    let added = rw some at c.checked_add.ensures in
    let next : c.in_ok-place.place ≡ c.loop-placed.place + 1 = added.1 in
    let pushed : (rs : List WalRecord) → (rs ++ contents so_far.0) ++ p.content ∷ [] ≡ rs ++ contents (so_far.0 ++ p ∷ []) =
    λ rs. append_assoc rs (contents so_far.0) (p.content ∷ []) ∙ ap (λ (ss : List WalRecord). rs ++ ss) (sym (contents_both so_far.0 (p ∷ []))) in (
      (
        so_far.0 ++ p ∷ [],
        append_assoc so_far.0 (p ∷ []) (into_iter_items c.next.new.self) ∙ sym (ap (λ (ps : List Placed). so_far.0 ++ ps) c.in-Some.ensures.steps.0) ∙ so_far.1,
        omega (arith, next, so_far.2, length-append so_far.0 (p ∷ [])),
        λ first rs s at.
            (let here : c.loop-placed.place ≡ first + length (rs ++ contents so_far.0) =
            omega (arith, so_far.2, at, length-append rs (contents so_far.0), length-map so_far.0 (λ (q : Placed). q.content)) in
            subst (λ (ss : List WalRecord). AreSpreadAt c.args.resolver.now.min_valid (slots_of c.args.resolver.now c.args.changes.now) first ss c.spread_at.new.spread.items c.spread_at.new.counts) (pushed rs)
            (c.in-Ok.ensures.spread first (rs ++ contents so_far.0) (so_far.3 first rs s at) here)),
      ),
      c.in-Ok.ensures.workers ∙ c.loop-placed.invariant.1,
    )

pub returns-in_default-clause-workers : goal.returns-in_default-clause-workers
returns-in_default-clause-workers c = c.spread_at.ensures.workers ∙ c.loop-placed.invariant.1
