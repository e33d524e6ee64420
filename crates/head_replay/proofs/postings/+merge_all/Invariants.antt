use Rattle.std.proofs.Common.{vec_len}
use Rattle.head_replay.proofs.postings.+merge_all.Given as goal

abbrev pub decreases-merge_all : goal.decreases-merge_all
decreases-merge_all l = vec_len l.jobs
