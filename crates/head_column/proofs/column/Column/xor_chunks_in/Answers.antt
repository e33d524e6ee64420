use Rattle.std.proofs.Common.{◌∙◌, ap}
use Rattle.std.specs.Prelude.{filter}
use Rattle.head_column.specs.Hours.{is_in_hour}
use Rattle.head_column.proofs.column.Column.xor_chunks_in.Goals as goal

pub returns-clause-none : goal.returns-clause-none
returns-clause-none c e = c.xor_chunks.ensures.none (ap (λ v. filter (λ s. is_in_hour c.args.hour s.time) v.history.samples) c.self.view_is ∙ e)
