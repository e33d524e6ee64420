use Rattle.std.proofs.Common.{◌∙◌, false, sym, true}
use Rattle.inspect_command.proofs.Told.{all_read, next_read}
use Rattle.inspect_command.proofs.on_file.are_read.Goals as goal

-- the next file hides records
pub returns-then-hides_records : goal.returns-then-hides_records
returns-then-hides_records c =
    sym (next_read c.args.files.now c.loop-at.at c.index-files-at.result c.split_at.result.1.now c.is_empty.result true c.loop-at-test.true c.index-files-at.is c.split_at.ensures.back c.is_empty.ensures
    (sym c.if-hides_records.true ∙ c.hides_records.ensures) c.loop-at.invariant)

pub loop-at-preserved : goal.loop-at-preserved
loop-at-preserved c =
    next_read c.args.files.now c.loop-at.at c.index-files-at.result c.split_at.result.1.now c.is_empty.result false c.loop-at-test.true c.index-files-at.is c.split_at.ensures.back c.is_empty.ensures
    (sym c.if-hides_records.false ∙ c.hides_records.ensures) c.loop-at.invariant

pub returns : goal.returns
returns c = sym (all_read c.args.files.now c.loop-at.at c.loop-at-test.false c.loop-at.invariant)
