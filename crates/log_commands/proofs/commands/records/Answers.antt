use Rattle.std.proofs.Common.{[]}
use Rattle.answers.specs.Faults.{TellsNoDamage}
use Rattle.store.specs.Views.{view_of}
use Rattle.log_commands.proofs.MadeLines.{nothing_made, records_told}
use Rattle.log_commands.proofs.commands.records.Goals as goal

-- the lines that are not printed yet, and the one on damage, are the rest of the text
pub returns-in-Ok : goal.returns-in-Ok
returns-in-Ok g c =
    let printed = g.O.Output.printed in
    let (placed, takes, reading) = c.in-Ok.ensures.taken in
    let first = c.new-lines.result in
    records_told printed c.listed.result TellsNoDamage c.args.form (view_of (g.S.Store.holds c.args.store.now)) c.args.dir.now first c.take_records_in.new.taker c.args.out c.in-Ok.flaw placed reading (takes first [] (nothing_made printed first)) c.new-lines.ensures.out c.new-lines.ensures.none c.listed.ensures
