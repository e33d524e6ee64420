use Rattle.std.proofs.Common.{arith, ◌≡◌, ◌∙◌, ◌+◌, ◌++◌, ◌∷◌, [], List, length, length-append, refl, sym, ap, subst, append_assoc}
use Rattle.std.specs.Vec.Iter.{into_iter_items}
use Rattle.std.proofs.lemmas.List.{append-nil, length-map}
use Rattle.wal_record.specs.declared.record.WalRecord.{WalRecord}
use Rattle.wal_log.specs.declared.reading.Placed.{Placed}
use Rattle.wal_log.specs.Log.{contents}
use Rattle.head_resolver.specs.Ahead.{AreSpreadAt}
use Rattle.replay_rounds.specs.Records.{records_of}
use Rattle.replay_rounds.specs.Shares.{slots_of}
use Rattle.replay_rounds.proofs.Windows.{contents_pushed, records_push}
use Rattle.replay_rounds.proofs.spreading.Spreading.add_pages.Goals as goal

pub loop-page-init : goal.loop-page-init
loop-page-init c =
    let all : into_iter_items c.into_iter-page-iterator.result ≡ c.args.pages.items = c.into_iter-page-iterator.ensures.into_iter_gives.0 in
    let at : c.args.place ≡ c.args.place + 0 = omega arith in (
      (
        [],
        all,
        at,
        λ first rs s _.
            subst (λ (ss : List WalRecord). AreSpreadAt c.args.resolver.now.min_valid (slots_of c.args.resolver.now c.args.changes.now) first ss c.args.self.now.spread.items c.args.self.now.counts) (sym (append-nil rs)) s,
      ),
      refl,
    )

pub loop-page-preserved : goal.loop-page-preserved
loop-page-preserved c =
    let so_far = c.loop-page.invariant.0 in
    let p : List Placed = c.in-Some.page in
    let more : length (records_of (so_far.0 ++ p ∷ [])) ≡ length (records_of so_far.0) + length p =
    ap (λ (ps : List Placed). length ps) (records_push so_far.0 p) ∙ length-append (records_of so_far.0) p in (
      (
        so_far.0 ++ p ∷ [],
        append_assoc so_far.0 (p ∷ []) (into_iter_items c.next.new.self) ∙ sym (ap (λ (ps : List (List Placed)). so_far.0 ++ ps) c.in-Some.ensures.steps.0) ∙ so_far.1,
        omega (arith, c.in_ok-place.ensures.place, so_far.2, more),
        λ first rs s at.
            (let here : c.loop-page.place ≡ first + length (rs ++ contents (records_of so_far.0)) =
            omega (arith, so_far.2, at, length-append rs (contents (records_of so_far.0)), length-map (records_of so_far.0) (λ (q : Placed). q.content)) in
            subst (λ (ss : List WalRecord). AreSpreadAt c.args.resolver.now.min_valid (slots_of c.args.resolver.now c.args.changes.now) first ss c.add_page.new.self.spread.items c.add_page.new.self.counts) (contents_pushed rs so_far.0 p)
            (c.in_ok-place.ensures.spread first (rs ++ contents (records_of so_far.0)) (so_far.3 first rs s at) here)),
      ),
      c.add_page.ensures.workers ∙ c.loop-page.invariant.1,
    )
