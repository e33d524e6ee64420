use Rattle.std.proofs.Common.{◌≡◌, ◌+◌, ap, length, rules, ◌∙◌}
use Rattle.std.proofs.lemmas.List.{take_all}
use Rattle.log_directory.specs.Sources.{lost_in}
use Rattle.log_directory.proofs.Counted.{counted_more}
use Rattle.log_directory.proofs.flaws.lost_count.Goals as goal

pub loop-file-preserved : goal.loop-file-preserved
loop-file-preserved c =
    let added : c.in_ok-count.count ≡ c.loop-file.count + c.lost_of_file-lost.result = search rules in
    counted_more c.args.files.now c.loop-file.file-index c.file-item.result c.loop-file.count c.lost_of_file-lost.result c.in_ok-count.count c.loop-file-test.true c.loop-file.invariant
    (c.lost_of_file-lost.ensures ∙ ap (λ f. length f.lost.items) c.file-item.is) added

pub returns : goal.returns
returns c = c.loop-file.invariant ∙ ap (λ files. length (lost_in files)) (take_all c.loop-file.file-index c.args.files.now c.loop-file-test.false)
