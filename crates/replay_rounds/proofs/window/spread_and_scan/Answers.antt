-- A job may go to another thread. For structs with a heap of boxes in them, as a table of series has one, no such lemma is written by itself.
use denote.Param.Send.{IsSync, sendable}
use Rattle.std.proofs.Crossing.{crosses}
use Rattle.crew.proofs.BothDone.{firsts_done, seconds_done}
use Rattle.wal_scan.specs.Drawn.{IsDrawn}
use Rattle.wal_scan.proofs.drawing.ScanJob.TheSendSync as ScanJob
use Rattle.wal_scan.proofs.samples.PageRecords.TheSendSync as PageRecords
use Rattle.head_deal.proofs.seats.Seats.TheSendSync as Seats
use Rattle.series_references.proofs.heap.Heap.TheLaws.TheKnot as Knot
use Rattle.head_series.proofs.interner.Interner.TheSendSync as Interner
use Rattle.series_references.proofs.reference_slots.ReferenceSlots.TheSendSync as ReferenceSlots
use Rattle.head_series.proofs.rows.Row.TheSendSync as Row
use Rattle.series_references.specs.contracts.references.References as References
use Rattle.head_series.specs.contracts.table.SeriesTable as SeriesTable
use Rattle.head_resolver.proofs.changes.Changes.TheSendSync as Changes
use Rattle.head_resolver.specs.contracts.resolver.Resolver as Resolver
use Rattle.replay_rounds.specs.Shares.{HasSpread}
use Rattle.replay_rounds.proofs.spreading.Spreading.TheSendSync as Spreading
use Rattle.replay_rounds.proofs.window.spread_and_scan.Goals as goal

references_sync : IsSync References.the_row
references_sync = search (sendable, crosses, Knot.sync-Heap, Knot.sync-Link, ReferenceSlots.the_sync) depth 30

table_sync : IsSync SeriesTable.the_row
table_sync = search (sendable, crosses, references_sync, Interner.the_sync, Row.the_sync) depth 30

resolver_sync : IsSync Resolver.the_row
resolver_sync = search (sendable, crosses, table_sync) depth 30

pub finish_while-requires-send-J : goal.finish_while-requires-send-J
finish_while-requires-send-J g c κs within =
    search (sendable, crosses, resolver_sync, Changes.the_sync, Seats.the_sync, PageRecords.the_send, Spreading.the_field_send, ScanJob.the_send) depth 20

pub returns-clause-made : goal.returns-clause-made
returns-clause-made g c = (
  c.in_ok-spread.spread.items,
  firsts_done HasSpread IsDrawn c.in_ok-jobs.jobs.items c.in_ok-given.done.items _ _ c.in_ok-given.ensures.done c.in_ok-jobs.ensures.first c.in_ok-spread.ensures.first,
  c.in_ok-all_made.ensures,
)

pub returns-clause-drawn : goal.returns-clause-drawn
returns-clause-drawn g c = seconds_done HasSpread IsDrawn c.in_ok-jobs.jobs.items c.in_ok-given.done.items _ _ c.in_ok-given.ensures.done c.in_ok-jobs.ensures.second c.in_ok-spread.ensures.second
