use Rattle.std.proofs.Common.{rules}
use Rattle.head_core.proofs.DraftLemmas.{column_more}
use Rattle.head_core.proofs.draft.RoomDraft.add.Goals as goal
use Rattle.head_core.proofs.draft.RoomDraft.add.Goals.{then-bound, else-bound}

pub returns-in-Ok-clause-columns : goal.returns-in-Ok-clause-columns
returns-in-Ok-clause-columns c = λ h. elim c.if-bound.branch [
  | then-bound w ↦ column_more c.args.self.now c.if-bound.self w.new-column.result c.args.labels.now (search rules) (search rules) (search rules) w.new-column.ensures.history h
  | else-bound w ↦ search rules
]
