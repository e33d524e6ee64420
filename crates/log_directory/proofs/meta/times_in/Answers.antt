use Rattle.serde_json.specs.View.{view}
use Rattle.log_directory.proofs.Hints.{meta_text}
use Rattle.log_directory.proofs.meta.times_in.Goals as goal

pub returns-in-Ok : goal.returns-in-Ok
returns-in-Ok c = meta_text c.args.bytes.now (view c.in-Ok.meta) c.times_of.result c.in-Ok.ensures.ok.0 c.in-Ok.ensures.ok.1 c.times_of.ensures
