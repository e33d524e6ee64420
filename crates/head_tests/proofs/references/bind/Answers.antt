use Rattle.std.proofs.Common.{[]}
use Rattle.head_tests.proofs.references.bind.Goals as goal

pub bind_ready-requires-clause-room : goal.bind_ready-requires-clause-room
bind_ready-requires-clause-room c = (c.in-Ok-reserve.ensures.room [] c.plan-plan.ensures).room
