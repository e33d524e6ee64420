use Rattle.head_intervals.proofs.Summing.{whole}
use Rattle.head_intervals.proofs.laws.counts_are_whole.Goals as goal

pub returns : goal.returns
returns c = λ first last i times counts parts within are. whole first last i parts times counts within are
