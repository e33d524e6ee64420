use Rattle.std.proofs.Common.{◌∙◌}
use Rattle.xor_chunk.proofs.Reading.{window_short, window_found, mapped}
use Rattle.xor_chunk.proofs.decoding.read_window.Goals as goal

pub returns-in_default-clause-exact : goal.returns-in_default-clause-exact
returns-in_default-clause-exact c = window_short c.args.bits.now c.in_default.ensures.short

pub returns-clause-exact : goal.returns-clause-exact
returns-clause-exact c = mapped c.said_window.result c.read_bits.new.self ∙ window_found c.said_window.result c.in-Some.head c.args.bits.now c.read_bits.new.self c.said_window.ensures.exact c.in-Some.ensures.fits c.in-Some.ensures.taken
