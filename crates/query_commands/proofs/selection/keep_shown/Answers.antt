use Rattle.std.proofs.Common.{rules}
use Rattle.std.proofs.lemmas.Fn.{filter_same}
use Rattle.query_commands.specs.Selections.{is_shown}
use Rattle.query_commands.proofs.selection.keep_shown.Goals as goal

pub returns : goal.returns
returns c =
    let apart = c.requires in
    filter_same _ (is_shown c.args.selection.now c.args.hidden.now) _ (λ x b f' k. search rules) _ _ c.retain.ensures.filtered
