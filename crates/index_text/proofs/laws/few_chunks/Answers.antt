use Rattle.index_text.proofs.Few.{few_chunks}
use Rattle.index_text.proofs.laws.few_chunks.Goals as goal

pub returns : goal.returns
returns c = few_chunks
