use Rattle.std.proofs.Common.{sym, ap, ◌∙◌}
use Rattle.wal_record.specs.Entries.{entries_of}
use Rattle.wal_record.specs.Validity.{valid}
use Rattle.wal_log.specs.Log.{contents}
use Rattle.headline.proofs.laws.whole_checkpoint_equivalence.Goals as goal

pub returns : goal.returns
returns c = λ pages n m le old first others new damage other short whole made x y.
    let read = c.whole_checkpoint_reads.ensures pages n old first others new y.placed x.placed other damage made y.reading x.reading in
    let entries = ap (λ rs. entries_of (valid m rs)) read.1.3 ∙ c.whole_records.ensures.entries n m le read.1.0 read.1.1 ∙ ap (λ rs. entries_of (valid m rs)) (sym read.1.2) in
    let same = c.same_entries.ensures m (contents x.placed) (contents y.placed) short whole entries x.content x.min_valid y.content y.min_valid in
    (sym read.0, same.0, same.1)
