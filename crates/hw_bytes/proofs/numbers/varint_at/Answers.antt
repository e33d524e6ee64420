use Rattle.hw_bytes.proofs.Varints.{varint_found, varint_none}
use Rattle.hw_bytes.proofs.numbers.varint_at.Goals as goal

pub returns-clause-none : goal.returns-clause-none
returns-clause-none c = varint_none c.args.bytes.now c.front_varint.result c.front_varint.ensures

pub returns-clause-found : goal.returns-clause-found
returns-clause-found c = varint_found c.args.bytes.now c.front_varint.result c.front_varint.ensures
