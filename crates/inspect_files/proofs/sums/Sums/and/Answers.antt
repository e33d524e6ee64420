use Rattle.std.specs.List.{flat_map}
use Rattle.inspect_files.specs.Sums.{ends_of}
use Rattle.inspect_files.proofs.Totals.{sums_more}
use Rattle.inspect_files.proofs.sums.Sums.and.Goals as goal

-- each figure of the file is added
pub returns : goal.returns
returns c = λ files h.
    sums_more files c.args.file.now c.args.self _ c.in_ok-skipped.skipped h c.in_ok-sum.ensures c.in_ok-sum-2.ensures c.in_ok-sum-3.ensures c.in_ok-both.ensures c.in_ok-both-2.ensures c.in_ok-both-3.ensures (rw c.deref.ensures.value at c.in_ok-skipped.ensures) c.in_ok-sum-4.ensures
    (c.with_ends.ensures (flat_map (λ f. ends_of f.survey.times) files) h.times)
