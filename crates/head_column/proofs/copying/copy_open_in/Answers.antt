use Rattle.std.proofs.Common.{rules, ◌≡◌, ◌<◌, ◌∙◌, sym, true, length, List}
use Rattle.xor_chunk.specs.declared.sample.Sample.{Sample}
use Rattle.head_column.specs.Chunks.{last_time}
use Rattle.head_column.proofs.Chunked.{in_hour_some, some_open}
use Rattle.head_column.proofs.copying.copy_open_in.Goals as goal

pub returns-in_err-copy_open-clause-none : goal.returns-in_err-copy_open-clause-none
returns-in_err-copy_open-clause-none c = λ e.
    let samples : List Sample = c.args.writer.now.samples in
    let yes : c.is_open_in.result ≡ true = search rules in
    let some : 0 < length samples = some_open c.is_open_in.result samples yes c.is_open_in.ensures.none in
    absurd (in_hour_some c.args.hour (last_time samples) samples c.requires.hour some (sym (c.is_open_in.ensures.some some) ∙ yes) e)

pub returns-in_err-push-clause-none : goal.returns-in_err-push-clause-none
returns-in_err-push-clause-none c = λ e.
    let samples : List Sample = c.args.writer.now.samples in
    let yes : c.is_open_in.result ≡ true = search rules in
    let some : 0 < length samples = some_open c.is_open_in.result samples yes c.is_open_in.ensures.none in
    absurd (in_hour_some c.args.hour (last_time samples) samples c.requires.hour some (sym (c.is_open_in.ensures.some some) ∙ yes) e)
