use Rattle.std.proofs.Common.{subst}
use Rattle.head_column.specs.Samples.{Rises}
use Rattle.head_column.specs.Stored.{StoredValue, stored}
use Rattle.head_column.proofs.Chunked.{rises_from_place}
use Rattle.head_column.proofs.stored.SampleChunks.latest.Goals as goal

pub returns-clause-rises : goal.returns-clause-rises
returns-clause-rises c =
    let s = c.self.inside in
    subst (λ (v : StoredValue). Rises v.samples) c.self.view_is (rises_from_place s.dropped (stored s.sealed.items s.writer) c.self.invariant.rises)
