use Rattle.hour_rows.proofs.SeenRows.{same_rows}
use Rattle.hour_rows.proofs.seen.rows_suffice.Goals as goal

pub returns : goal.returns
returns c = λ k times content covers. same_rows k times covers content
