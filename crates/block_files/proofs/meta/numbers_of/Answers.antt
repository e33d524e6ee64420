use Rattle.std.proofs.Common.{rules}
use Rattle.std.specs.Prelude.{string_bytes, FitsSigned}
use Rattle.std.specs.Int.{w64}
use Rattle.block_files.proofs.MetaLaws.{numbers_are}
use Rattle.block_files.proofs.meta.numbers_of.Goals as goal

pub returns : goal.returns
returns c =
    let f : FitsSigned w64 c.args.meta.now.min_time = search rules in
    let g : FitsSigned w64 c.args.meta.now.max_time = search rules in
    numbers_are c.args.meta.now (string_bytes c.in_ok-text.text) f g c.in_ok-text.ensures.ok
