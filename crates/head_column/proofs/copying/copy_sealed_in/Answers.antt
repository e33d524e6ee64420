use Rattle.std.proofs.Common.{rules, ◌≡◌, true}
use Rattle.std.proofs.lemmas.Int.{to_z-of_z}
use Rattle.head_column.specs.Hours.{is_in_hour}
use Rattle.head_column.proofs.Chunked.{in_hour_some}
use Rattle.head_column.proofs.copying.copy_sealed_in.Goals as goal

pub returns-in_err-copy_sealed-clause-none : goal.returns-in_err-copy_sealed-clause-none
returns-in_err-copy_sealed-clause-none c = λ part sealed e.
    let yes : is_in_hour c.args.hour c.args.chunk.max_time ≡ true = search (rules, to_z-of_z) in
    absurd (in_hour_some c.args.hour c.args.chunk.max_time part sealed.hour sealed.some yes e)

pub returns-in_err-push-clause-none : goal.returns-in_err-push-clause-none
returns-in_err-push-clause-none c = λ part sealed e.
    let yes : is_in_hour c.args.hour c.args.chunk.max_time ≡ true = search (rules, to_z-of_z) in
    absurd (in_hour_some c.args.hour c.args.chunk.max_time part sealed.hour sealed.some yes e)
