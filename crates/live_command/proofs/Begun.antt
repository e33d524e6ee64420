-- A store that was begun behind a log.
use Rattle.std.specs.Prelude.{◌≡◌, ◌-◌, ◌<◌, ◌^◌, ◌≤ℤ◌, ℕ, ℤ, List, [], None, Option, Result, Ok, Err, IfOk, IsOk, refl, true, unwrap_or}
use Rattle.std.proofs.Common.{◌∙◌, subst, sym}
use Rattle.wal_log.specs.Inputs.{Files, next_number}
use Rattle.store.specs.Calls.{Call}
use Rattle.store.specs.Views.{View}
use Rattle.head_core.specs.Content.{Content}
use Rattle.head_serial.specs.Replays.{IsReplayed}
use Rattle.log_directory.specs.Directory.{IsLogIn}
use Rattle.log_directory.specs.Replays.{IsNextOf}
use Rattle.live_log.specs.Running.{HasLogged, RunningState}
use Rattle.write_commands.proofs.Numbers.{next_is}
use Rattle.live_command.specs.Runs.{IsBegunBehind}

module _ {S : Type 0} (did : S → List Call → S → Type 0) (view : View) (store : S) (dir : List ℕ) (least : ℤ) {T E : Type 0} (state : T → RunningState S)
    (log : Files) (there : IsLogIn view dir log) (m : ℤ) (late : least ≤ℤ m) (c : Content) (replayed : IsReplayed log m None c)
    (found : Option ℕ) (next : IsNextOf log found) (number : ℕ) (chosen : number ≡ unwrap_or found (2 ^ 64 - 1)) where
  -- the segment behind a log without damage was begun
  pub begun_behind : (q : Result T E) → (IsOk q → number < 10 ^ 19) → IfOk q (λ r. ((state r).content ≡ c) × ((state r).first ≡ store) × ((state r).dir ≡ dir) × ((state r).number ≡ number))
      → IfOk q (λ r. HasLogged did (state r) [] []) → IfOk q (λ r. IsBegunBehind did view store dir least (state r))
  begun_behind (Err fault) short begun logged = tt
  begun_behind (Ok r) short begun logged = record {
    log = log;
    there = there;
    min_valid = m;
    late = late;
    replayed = subst (IsReplayed log m None) (sym begun.0) replayed;
    behind = begun.3 ∙ next_is found (next_number log) number next.some chosen (short (refl {a = true}));
    inside = begun.2;
    first = begun.1;
    logged = logged;
  }
