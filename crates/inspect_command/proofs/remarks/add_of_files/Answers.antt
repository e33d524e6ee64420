use Rattle.std.proofs.Common.{◌++◌}
use Rattle.inspect_command.specs.Remarking.{file_remarks}
use Rattle.inspect_command.proofs.Told.{all_told, next_told}
use Rattle.inspect_command.proofs.remarks.add_of_files.Goals as goal

-- the remarks on the next file are added
pub loop-at-preserved : goal.loop-at-preserved
loop-at-preserved c =
    next_told c.args.files.now c.loop-at.at c.index-files-at.result c.split_at.result.1.now c.loop-at.told.items c.add_on_file.new.told.items (c.args.told.now.items ++ file_remarks c.args.files.now) c.loop-at-test.true c.index-files-at.is
    c.split_at.ensures.back c.in_ok-add_on_file.ensures c.loop-at.invariant

pub returns : goal.returns
returns c = all_told c.args.files.now c.loop-at.at c.loop-at.told.items (c.args.told.now.items ++ file_remarks c.args.files.now) c.loop-at-test.false c.loop-at.invariant
