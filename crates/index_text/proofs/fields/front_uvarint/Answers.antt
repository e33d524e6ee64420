use Rattle.index_text.proofs.Spelled.{uvarint_answered}
use Rattle.index_text.proofs.fields.front_uvarint.Goals as goal

pub returns-clause-exact : goal.returns-clause-exact
returns-clause-exact c = uvarint_answered c.args.bytes.now c.uvarint_at.result c.uvarint_at.ensures.found c.uvarint_at.ensures.none
