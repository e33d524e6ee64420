use Rattle.hw_bytes.proofs.Groups.{uvarint_found, uvarint_none}
use Rattle.hw_bytes.proofs.numbers.uvarint_at.Goals as goal

pub returns-clause-none : goal.returns-clause-none
returns-clause-none c = uvarint_none c.args.bytes.now c.front_uvarint.result c.front_uvarint.ensures.exact

pub returns-clause-found : goal.returns-clause-found
returns-clause-found c = uvarint_found c.args.bytes.now c.front_uvarint.result c.front_uvarint.ensures.exact
