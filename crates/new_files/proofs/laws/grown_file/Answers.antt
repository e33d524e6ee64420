use Rattle.new_files.proofs.GrowingCrash.{grown_after_crash}
use Rattle.new_files.proofs.laws.grown_file.Goals as goal

pub returns : goal.returns
returns c = λ parent path steps inside. grown_after_crash parent path steps inside
