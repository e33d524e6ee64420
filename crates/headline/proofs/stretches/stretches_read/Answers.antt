use Rattle.store.specs.Views.{view_of}
use Rattle.headline.proofs.Stretched.{log_just}
use Rattle.headline.proofs.stretches.stretches_read.Goals as goal

pub returns : goal.returns
returns g c = log_just c.text_reads.ensures.whole (view_of (g.S.Store.holds c.args._store.now)) c.args._dir.now
