-- What a command line asks for, where a data directory may give its least valid time.
use Rattle.std.specs.Prelude.{◌≡◌, ◌⊎◌, ℤ, Option, None, Some, true, MatchOption}
use Rattle.store.specs.Views.{View}
use Rattle.command_line.specs.Least.{from_least}
use Rattle.command_line.specs.declared.asked.Asked.{Asked}
use Rattle.command_line.specs.declared.asked.CommandLine.{CommandLine}
use Rattle.log_directory.specs.Servers.{IsLeastValidOf}

-- The least valid time that the blocks of a data directory give. There is none if the line has no such directory, or if that is only the one
-- that the log is in.
abbrev pub GivesLeast : View → CommandLine → Option ℤ → Type 0
GivesLeast view line None = (line.min_valid_of ≡ None) ⊎ (line.is_beside ≡ true)
GivesLeast view line (Some least) = MatchOption line.min_valid_of ⊥ (λ dir. IsLeastValidOf view dir.now least)

-- what it says, with the least valid time that the blocks of a data directory give, if they give one
abbrev pub IsAskedIn : View → CommandLine → Asked → Type 0
IsAskedIn view line asked = (found : Option ℤ) × GivesLeast view line found × MatchOption found (asked ≡ line.asked) (λ least. asked ≡ from_least least line.asked)
