use Rattle.std.proofs.Common.{◌∷◌, []}
use Rattle.head_tests.proofs.postings.check_ready.Goals as goal

pub add_ready-requires-2 : goal.add_ready-requires-2
add_ready-requires-2 g c = c.in_ok-add_ready.ensures.left (c.args.second.now ∷ []) c.in_ok-made.ensures
