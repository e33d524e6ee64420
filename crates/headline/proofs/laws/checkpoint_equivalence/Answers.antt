use Rattle.std.proofs.Common.{List, sym, subst}
use Rattle.wal_record.specs.declared.record.WalRecord.{WalRecord}
use Rattle.head_resolver.specs.Taken.{taken_of}
use Rattle.head_core.specs.Content.{IsContentOf}
use Rattle.headline.proofs.laws.checkpoint_equivalence.Goals as goal

pub returns : goal.returns
returns c = λ pages n m le old first others new damage other short whole made x y.
    let read = c.checkpoint_reads.ensures pages n old first others new y.placed x.placed other damage made y.reading x.reading in
    let a = subst (λ (rs : List WalRecord). IsContentOf (taken_of m rs) short) read.1.3 x.content in
    let b = subst (λ (rs : List WalRecord). IsContentOf (taken_of m rs) whole) read.1.2 y.content in
    let same = c.checkpoint.ensures n m le read.1.0 read.1.1 short whole a x.min_valid b y.min_valid in
    (sym read.0, same.0, same.1)
