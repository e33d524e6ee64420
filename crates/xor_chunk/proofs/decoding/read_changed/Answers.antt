use Rattle.xor_chunk.proofs.Reading.{changed_short, changed_found}
use Rattle.xor_chunk.proofs.decoding.read_changed.Goals as goal

pub returns-in_default-clause-exact : goal.returns-in_default-clause-exact
returns-in_default-clause-exact c = changed_short c.args.value c.args.window c.args.bits.now c.in_default.ensures

pub returns-clause-exact : goal.returns-clause-exact
returns-clause-exact c = changed_found c.args.value c.in-Some.xor c.args.window c.args.bits.now c.read_within.new.bits c.in-Some.ensures
