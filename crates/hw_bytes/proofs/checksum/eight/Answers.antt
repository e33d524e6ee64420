use Rattle.std.proofs.Common.{◌∙◌, ap}
use Rattle.hw_bytes.specs.Checksum.{divided_times}
use Rattle.hw_bytes.proofs.Eight.{eight_is}
use Rattle.hw_bytes.proofs.checksum.eight.Goals as goal

pub returns : goal.returns
returns c =
    eight_is c.args.remainder c.args.bytes.now c.entry-8.result c.entry-7.result c.entry-6.result c.entry-5.result c.entry.result c.entry-2.result c.entry-3.result c.entry-4.result
    c.low-4.result c.low-3.result c.low-2.result c.low.result c.requires
    c.low-4.ensures.value c.low-3.ensures.value c.low-2.ensures.value c.low.ensures.value
    c.entry-8.ensures c.entry-7.ensures c.entry-6.ensures c.entry-5.ensures
    (c.entry.ensures ∙ ap (divided_times 32) c.from.ensures) (c.entry-2.ensures ∙ ap (divided_times 24) c.from-2.ensures) (c.entry-3.ensures ∙ ap (divided_times 16) c.from-3.ensures) (c.entry-4.ensures ∙ ap (divided_times 8) c.from-4.ensures)
