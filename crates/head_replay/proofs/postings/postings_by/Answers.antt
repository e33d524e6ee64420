-- A job may go to another thread. For structs with a heap of boxes in them, as a table of series has one, no such lemma is written by itself.
use denote.Param.Send.{IsSync, sendable}
use Rattle.std.proofs.Crossing.{crosses}
use Rattle.std.proofs.Common.{◌≡◌, ◌+◌, ℕ, List, vec_len, subst, arith}
use Rattle.series_references.proofs.heap.Heap.TheLaws.TheKnot as Knot
use Rattle.head_series.proofs.interner.Interner.TheSendSync as Interner
use Rattle.series_references.proofs.reference_slots.ReferenceSlots.TheSendSync as ReferenceSlots
use Rattle.head_series.proofs.rows.Row.TheSendSync as Row
use Rattle.series_references.specs.contracts.references.References as References
use Rattle.head_series.specs.contracts.table.SeriesTable as SeriesTable
use Rattle.head_postings.proofs.postings.Postings.TheSendSync as Postings
use Rattle.head_series.specs.Table.{Labels}
use Rattle.head_postings.specs.Postings.{IsPostingsOf}
use Rattle.head_core.specs.Content.{by_slot}
use Rattle.head_replay.specs.Partial.{belonging}
use Rattle.head_replay.proofs.Partial.{all_belong, all_listed}
use Rattle.head_replay.proofs.postings.postings_by.Goals as goal

references_sync : IsSync References.the_row
references_sync = search (sendable, crosses, Knot.sync-Heap, Knot.sync-Link, ReferenceSlots.the_sync) depth 30

table_sync : IsSync SeriesTable.the_row
table_sync = search (sendable, crosses, references_sync, Interner.the_sync, Row.the_sync) depth 30

pub finish-requires-send-J : goal.finish-requires-send-J
finish-requires-send-J g c κs within = search (sendable, crosses, table_sync, Postings.the_send) depth 20

pub returns : goal.returns
returns g c =
    let workers = c.args.workers.number in
    let sets = by_slot c.args.table.now.series in
    let jobs = c.in_ok-jobs.jobs.items in
    let listed = c.in_ok-listed.listed.items in
    let merged = c.in_ok-merge_all.ensures.postings workers 0 c.args.table.now.series (all_listed workers 0 c.args.table.now jobs listed c.in_ok-jobs.ensures.each c.in_ok-listed.ensures) in
    let many : 0 + vec_len c.in_ok-listed.listed ≡ workers = omega (arith, c.in_ok-listed.ensures.long, c.in_ok-jobs.ensures.count) in
    record {
      postings =
          subst (λ (sets : List (ℕ × Labels)). IsPostingsOf sets c.in_ok-merge_all.field-0) (all_belong workers sets c.args.workers.some)
          (subst (λ (end : ℕ). IsPostingsOf (belonging workers 0 end sets) c.in_ok-merge_all.field-0) many merged);
    }
