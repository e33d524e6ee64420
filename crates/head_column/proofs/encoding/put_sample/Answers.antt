use Rattle.std.specs.Prelude.{FitsSigned}
use Rattle.std.specs.Int.{w64}
use Rattle.std.proofs.Common.{rules}
use Rattle.head_column.proofs.Texts.{put_both}
use Rattle.head_column.proofs.encoding.put_sample.Goals as goal

pub returns-clause-put : goal.returns-clause-put
returns-clause-put c =
    let s = c.args.sample.now in
    let time : FitsSigned w64 c.args.sample.now.time = search rules in
    let value : FitsSigned w64 c.args.sample.now.value = search rules in
    put_both c.put_be64.result c.args.bytes.now.items c.put_time.new.bytes.items c.put_be64.new.bytes.items c.args.before s.time s.value c.cast_unsigned.result time value c.in_ok-put_time.ensures c.cast_unsigned.ensures c.put_be64.ensures.put
