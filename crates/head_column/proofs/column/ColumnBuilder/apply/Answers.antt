use Rattle.std.proofs.Common.{◌∷◌, ◌++◌, [], sym, subst, ◌∙◌}
use Rattle.std.proofs.lemmas.Result.{on_ok_weaker, IfOk-weaker}
use Rattle.head_column.specs.Histories.{IsHistoryOf}
use Rattle.head_column.proofs.HistoryLaws.{IsHistoryOf-push, history_outcome_is}
use Rattle.head_column.proofs.column.ColumnBuilder.apply.Goals as goal

pub returns-clause-items : goal.returns-clause-items
returns-clause-items c items is =
    on_ok_weaker c.apply_item.result
    (λ e. subst (IsHistoryOf (items ++ c.args.item.now ∷ [])) (sym e) (IsHistoryOf-push items c.args.self.now.history c.args.item.now is))
    c.apply_item.ensures.changed

pub returns-clause-verdict : goal.returns-clause-verdict
returns-clause-verdict c items is =
    IfOk-weaker c.apply_item.result _ _ (λ o e. e ∙ history_outcome_is items c.args.self.now.history c.args.item.now is) c.apply_item.ensures.told
