use Rattle.index_text.proofs.Spelled.{text_answered}
use Rattle.index_text.proofs.fields.front_text.Goals as goal

pub returns-clause-exact : goal.returns-clause-exact
returns-clause-exact c = text_answered c.args.bytes.now c.text_at.result c.text_at.ensures.found c.text_at.ensures.none
