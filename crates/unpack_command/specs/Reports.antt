-- What is reported, part by part. Only private functions and proofs cite this file.
use Rattle.std.specs.Prelude.{◌≡◌, ◌+◌, ◌++◌, ℕ, List, [], length, string_bytes}
use Rattle.log_directory.specs.declared.lost.Lost.{Lost}
use Rattle.unpack_command.specs.declared.lost_report.Report.{Report}
use Rattle.log_directory.specs.LostLines.{AreLines}

-- nothing is reported yet
pub record BeginsReport (report : Report) : Type 0 where
  pub lines : string_bytes report.lines ≡ []
  pub none : report.lost ≡ 0

-- what is lost is reported after what was reported before
pub record Tells (lost : List Lost) (old new : Report) : Type 0 where
  pub text : List ℕ
  pub are : AreLines lost text
  pub appended : string_bytes new.lines ≡ string_bytes old.lines ++ text
  pub counted : new.lost ≡ old.lost + length lost
