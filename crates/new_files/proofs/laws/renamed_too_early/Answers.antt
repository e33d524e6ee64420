use Rattle.new_files.proofs.Exchanged.{is_not_safe}
use Rattle.new_files.proofs.laws.renamed_too_early.Goals as goal

pub returns : goal.returns
returns c path unfinished bytes differ safe = is_not_safe path unfinished bytes differ safe
