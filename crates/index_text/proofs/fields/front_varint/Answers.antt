use Rattle.index_text.proofs.Spelled.{varint_answered}
use Rattle.index_text.proofs.fields.front_varint.Goals as goal

pub returns-clause-exact : goal.returns-clause-exact
returns-clause-exact c = varint_answered c.args.bytes.now c.varint_at.result c.varint_at.ensures.found c.varint_at.ensures.none
