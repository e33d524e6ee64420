use Rattle.head_column.proofs.ReadLaws.{one_text}
use Rattle.head_column.proofs.laws.one_chunk.Goals as goal

pub returns : goal.returns
returns c = one_text
