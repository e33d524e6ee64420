use Rattle.std.proofs.Common.{arith, ◌≡◌, ◌+◌, ◌++◌, ℕ, List, OnOk, length, length-append, subst}
use Rattle.std.proofs.lemmas.List.{length-map}
use Rattle.wal_record.specs.declared.record.WalRecord.{WalRecord}
use Rattle.wal_log.specs.declared.reading.Placed.{Placed}
use Rattle.wal_log.specs.Log.{contents}
use Rattle.head_resolver.specs.Ahead.{AreSpreadAt}
use Rattle.replay_rounds.specs.Shares.{slots_of}
use Rattle.replay_rounds.proofs.Pages.{parts_behind}
use Rattle.replay_rounds.proofs.spreading.Spreading.add_page.Goals as goal

-- the place after more records
more_at : (rs : List WalRecord) (more : List Placed) (first place behind : ℕ) → place ≡ first + length rs → behind ≡ place + length more → behind ≡ first + length (rs ++ contents more)
more_at rs more first place behind at next = omega (arith, at, next, length-append rs (contents more), length-map more (λ (p : Placed). p.content))

pub returns-clause-spread : goal.returns-clause-spread
returns-clause-spread c = λ first rs s at.
    let before : List Placed = c.into_parts-before.result.0 in
    let samples : List Placed = c.into_parts-before.result.1 in
    let behind : List Placed = c.into_parts-before.result.2 in
    let one = more_at rs before first c.args.place c.in_ok-first.first at c.in_ok-first.ensures.place in
    let two = more_at (rs ++ contents before) samples first c.in_ok-first.first c.in_ok-next.next one c.in_ok-next.ensures.place in
    subst (λ (ss : List WalRecord). OnOk c.add_records-2.result (AreSpreadAt c.args.resolver.now.min_valid (slots_of c.args.resolver.now c.args.changes.now) first ss c.add_records-2.new.self.spread.items c.add_records-2.new.self.counts))
    (parts_behind rs c.args.page before samples behind c.into_parts-before.ensures)
    (c.add_records-2.ensures.spread first ((rs ++ contents before) ++ contents samples)
    (c.in_ok-next.ensures.spread first (rs ++ contents before) (c.in_ok-first.ensures.spread first rs s at) one) two)
