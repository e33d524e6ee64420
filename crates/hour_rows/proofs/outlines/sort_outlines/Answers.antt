use Rattle.std.proofs.Common.{rules}
use Rattle.std.proofs.lemmas.List.Sorted.{answers_always, ranks_by}
use Rattle.std.proofs.lemmas.Result.{on_ok_weaker}
use Rattle.wal_record.proofs.Comparing.{labels_total}
use Rattle.hour_rows.specs.declared.outlines.RowOutline.{RowOutline}
use Rattle.hour_rows.proofs.outlines.sort_outlines.Goals as goal

pub returns-clause-sorted : goal.returns-clause-sorted
returns-clause-sorted c = on_ok_weaker c.sort_by.result (λ s. s _ (ranks_by labels_total (λ (o : RowOutline). o.labels)) (answers_always _ _ _ (λ f a r f' k. search rules))) c.sort_by.ensures.sorted
