use Rattle.xor_chunk.proofs.Bits.{word_put}
use Rattle.xor_chunk.proofs.writer.put_word.Goals as goal

pub returns-clause-put : goal.returns-clause-put
returns-clause-put c =
    word_put c.args.staged.now.items c.push.new.self.items c.push-2.new.self.items c.push-3.new.self.items _ c.args.count c.args.held c.requires.some c.push.ensures.items c.push-2.ensures.items c.push-3.ensures.items c.push-4.ensures.items
