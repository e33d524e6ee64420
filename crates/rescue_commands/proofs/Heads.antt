-- The blocks of a head are those of its log.
use Rattle.std.specs.Prelude.{ℕ, ℤ, Contains, List, Option, None}
use Rattle.std.proofs.Common.{inl, inr}
use Rattle.wal_log.specs.Inputs.{Files}
use Rattle.head_core.specs.Content.{Content}
use Rattle.head_serial.specs.Replays.{IsReplayed}
use Rattle.block_read.specs.declared.block.Block.{Block}
use Rattle.hw_bytes.specs.Sums.{Text}
use Rattle.store.specs.Calls.{Call}
use Rattle.store.specs.Found.{Found}
use Rattle.store.specs.Views.{view_of}
use Rattle.answers.specs.declared.damage.Flaw.{Flaw}
use Rattle.answers.specs.declared.requests.LogForm.{LogForm}
use Rattle.log_directory.specs.Sources.{IsSourceIn}
use Rattle.answers.specs.Answers.{IsNoDamage}
use Rattle.rescue_commands.specs.Rescues.{AreHours, IsBlockOfHour, WritesHours}
use Rattle.rescue_commands.specs.Steps.{IsBlockOfHead, WritesHead}
use Rattle.rescue_commands.proofs.Written.{have_less, have_more}

pub block_of_hour : (log : Files) (m : ℤ) (content : Content) → IsReplayed log m None content → (hour : ℤ) (name : Text) (block : Block) → IsBlockOfHead content hour name block → IsBlockOfHour log m hour name block
block_of_hour log m content replayed hour name block (ulid, is) = (
  ulid,
  record {
    records = replayed.placed;
    damage = None;
    content = content;
    reading = replayed.reading;
    is_content = replayed.content;
    min_valid = replayed.min_valid;
    is_block = is;
  },
)

module _ {S : Type 0} (did : S → List Call → S → Type 0) (holds : S → List ℕ → Found → Type 0) (form : LogForm) (dir out : List ℕ) (m : ℤ) where
  -- of a head, which may be part of the log's whole content
  pub writes_seen : (Are : Content → List ℤ → Type 0) (old : S) (log : Files) (own : Option Flaw) (whole content : Content) (W : Type 0) (Told : Option Flaw → Type 0) (new : S)
      → IsSourceIn form (view_of (holds old)) dir log own → IsNoDamage own → IsReplayed log m None whole
      → ((hours : List ℤ) → AreHours content hours → Are whole hours)
      → ((hours : List ℤ) → AreHours content hours → (hour : ℤ) → Contains hours hour → (name : Text) (block : Block) → IsBlockOfHead content hour name block → IsBlockOfHour log m hour name block)
      → (W → Told own) → WritesHead did holds out content old W new → WritesHours did holds form dir out m Are old W Told new
  writes_seen Are old log own whole content W Told new source unhurt replayed chosen blocks told (inl failed) = inl failed
  writes_seen Are old log own whole content W Told new source unhurt replayed chosen blocks told (inr (hours, are, have)) =
      inr (log, own, whole, hours, source, unhurt, replayed, chosen hours are, have_more did holds out (IsBlockOfHead content) (IsBlockOfHour log m) old new hours W (blocks hours are) have, told)

  -- of the head of a whole log
  pub writes_hours : (old : S) (log : Files) (own : Option Flaw) (content : Content) (W : Type 0) (Told : Option Flaw → Type 0) (new : S) → IsSourceIn form (view_of (holds old)) dir log own → IsNoDamage own → IsReplayed log m None content
      → (W → Told own) → WritesHead did holds out content old W new → WritesHours did holds form dir out m AreHours old W Told new
  writes_hours old log own content W Told new source unhurt replayed told wrote =
      writes_seen AreHours old log own content content W Told new source unhurt replayed (λ hours are. are) (λ hours are hour among. block_of_hour log m content replayed hour) told wrote

  -- where less is known of whether all went well
  pub hours_less : (Are : Content → List ℤ → Type 0) (old : S) (V W : Type 0) (Less Told : Option Flaw → Type 0) (new : S) → (V → W) → ((own : Option Flaw) → V → Told own → Less own) → WritesHours did holds form dir out m Are old W Told new
      → WritesHours did holds form dir out m Are old V Less new
  hours_less Are old V W Less Told new less turn (inl (same, failed)) = inl (same, (λ v. failed (less v)))
  hours_less Are old V W Less Told new less turn (inr (log, own, content, hours, source, unhurt, replayed, are, have, told)) =
      inr (log, own, content, hours, source, unhurt, replayed, are, have_less did holds out (IsBlockOfHour log m) old new hours V W less have, (λ v. turn own v (told (less v))))
