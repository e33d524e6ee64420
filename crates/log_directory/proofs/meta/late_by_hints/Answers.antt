use Rattle.std.proofs.Common.{rules, ◌≡◌, Some}
use Rattle.serde_json.specs.Find.{as_array}
use Rattle.serde_json.specs.View.{items_view, view}
use Rattle.log_directory.proofs.Hints.{no_hints, says_late}
use Rattle.log_directory.proofs.meta.late_by_hints.Goals as goal

pub returns-then-are_texts : goal.returns-then-are_texts
returns-then-are_texts c =
    let is : as_array (view c.args.hints.now) ≡ Some (items_view c.as_slice-hints.result.now) = search rules in
    says_late (view c.args.hints.now) c.as_slice-hints.result.now c.has_late.result is (search rules) c.has_late.ensures

pub returns-else-are_texts : goal.returns-else-are_texts
returns-else-are_texts c =
    let is : as_array (view c.args.hints.now) ≡ Some (items_view c.as_slice-hints.result.now) = search rules in
    no_hints (view c.args.hints.now) c.as_slice-hints.result.now is (search rules)
