use Rattle.block_files.proofs.Elements.{one_stands}
use Rattle.block_read.proofs.reading.encoding_of.Goals as goal

pub returns-in-Some : goal.returns-in-Some
returns-in-Some c = λ e body there. (one_stands c.args.files.now 8 c.in-Some.encoding e _ body c.in-Some.ensures.found there).0

pub returns-in-None : goal.returns-in-None
returns-in-None c = λ e body there. absurd (c.in-None.ensures.none e body there)
