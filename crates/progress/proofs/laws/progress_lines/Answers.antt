use Rattle.progress.proofs.Pace.{none_without_terminal, ten_a_second}
use Rattle.progress.proofs.laws.progress_lines.Goals as goal

pub returns : goal.returns
returns c = record { pace = ten_a_second; quiet = none_without_terminal }
