-- What the commands on a log print.
use Rattle.std.specs.Prelude.{◌≡◌, ℕ, ℤ, List, [], ◌∷◌, ◌++◌, Option, None, Some, codes, length}
use Rattle.std.specs.Fmt.{decimal}
use Rattle.std.specs.List.{flat_map}
use Rattle.std.specs.Option.{option_map}
use Rattle.wal_record.specs.declared.record.WalRecord.{WalRecord}
use Rattle.wal_record.specs.declared.record.WalRecord.TheVariants.{Other, Samples, Series, Stones}
use Rattle.wal_log.specs.declared.reading.Place.{Place}
use Rattle.wal_log.specs.declared.reading.Placed.{Placed}
use Rattle.head_resolver.specs.declared.counts.Counts.{Counts}
use Rattle.head_series.specs.Table.{labels_at}
use Rattle.head_core.specs.Content.{Content}
use Rattle.head_core.specs.Heads.{history_at}
use Rattle.answers.specs.Lines.{number_line, numbers_text}
use Rattle.answers.specs.Damages.{damage_text, file_number, kind_of_file}
use Rattle.store.specs.Views.{View}
use Rattle.answers.specs.declared.damage.Flaw.{Flaw}
use Rattle.answers.specs.declared.damage.Flaw.TheVariants.{Damage, Lost}
use Rattle.answers.specs.declared.requests.LogForm.{LogForm}
use Rattle.answers.specs.declared.requests.Request.{Request}
use Rattle.answers.specs.declared.requests.Request.TheVariants as asked
use Rattle.answers.specs.declared.answer.Answer.{Answer}
use Rattle.answers.specs.Answers.{TellsLog, TellsUpTo}
use Rattle.answers.specs.Outputs.{MakesText}
use Rattle.log_directory.specs.Replays.{IsReadingIn, IsReplayIn, IsTallyIn, slots_of}
use Rattle.answers.specs.Spellings.{SpellsPair, pair_text}

-- ---- lines

-- the last line of what is printed of a log: its damage, how many parts of it are lost, or that it has no damage
abbrev pub damage_line : Option Flaw → List ℕ
damage_line None = codes "damage none\n"
damage_line (Some (Damage damage)) = damage_text damage ++ 10 ∷ []
damage_line (Some (Lost parts)) = number_line (codes "lost", parts)

-- ---- counts

-- the counts of a log, with its number of series after that of series entries
abbrev pub counts_text : Counts → ℕ → List ℕ
counts_text c series = numbers_text (
    (codes "series_records", c.series_records) ∷ (codes "sample_records", c.sample_records) ∷ (codes "stone_records", c.stone_records) ∷ (codes "skipped_records", c.skipped_records)
    ∷ (codes "series_entries", c.series_entries) ∷ (codes "series", series)
    ∷ (codes "accepted", c.accepted) ∷ (codes "stale", c.stale) ∷ (codes "unknown", c.unknown)
    ∷ (codes "hiding", c.hiding) ∷ (codes "empty_stones", c.empty_stones) ∷ (codes "unknown_stones", c.unknown_stones)
    ∷ (codes "expired_samples", c.expired_samples) ∷ (codes "expired_stones", c.expired_stones) ∷ [])

-- the text is that of the counts of the log in a directory, in this form, and of what is wrong with it
pub record IsCountsText (form : LogForm) (view : View) (dir : List ℕ) (min_valid : ℤ) (told : Option Flaw) (text : List ℕ) : Type 0 where
  pub counts : Counts
  pub series : ℕ
  pub tallied : IsTallyIn form view dir min_valid told counts series
  pub is : text ≡ counts_text counts series ++ damage_line told

-- ---- records

-- the kind of a record, and its number of entries
abbrev pub kind_of_record : WalRecord → List ℕ × ℕ
kind_of_record (Series entries) = (codes "series", length entries)
kind_of_record (Samples entries) = (codes "samples", length entries)
kind_of_record (Stones entries) = (codes "stones", length entries)
kind_of_record (Other type) = (codes "skipped", 0)

-- the line of a record: its place, its kind and its number of entries
abbrev pub line_of : Place → List ℕ → ℕ → List ℕ
line_of place kind count =
    kind_of_file place.in_checkpoint ++ (32 ∷ (file_number place.file ++ (32 ∷ (decimal place.offset ++ (32 ∷ (kind ++ (32 ∷ (decimal count ++ 10 ∷ []))))))))

abbrev pub record_line : Placed → List ℕ
record_line p = line_of p.place (kind_of_record p.content).0 (kind_of_record p.content).1

-- the text has a line for each record of the log in a directory, in this form, in order, and one for what is wrong with it
pub record IsRecordsText (form : LogForm) (view : View) (dir : List ℕ) (told : Option Flaw) (text : List ℕ) : Type 0 where
  pub placed : List Placed
  pub reading : IsReadingIn form view dir told placed
  pub is : text ≡ flat_map record_line placed ++ damage_line told

-- ---- series

-- the slot of a series, its number of samples and its labels
abbrev pub series_line : Content → ℕ → List ℕ
series_line c slot =
    decimal slot ++ (32 ∷ (decimal (length (history_at c slot).samples) ++ (flat_map (λ l. 32 ∷ pair_text l.name l.value) (labels_at c.table slot) ++ 10 ∷ [])))

-- the text has a line for each series of the log in a directory, in this form, by slot, or for each that has the label that the word spells
pub record IsSeriesText (form : LogForm) (view : View) (dir : List ℕ) (word : Option (List ℕ)) (min_valid : ℤ) (told : Option Flaw) (text : List ℕ) : Type 0 where
  pub content : Content
  pub replayed : IsReplayIn form view dir min_valid told content
  pub pair : Option (List ℕ × List ℕ)
  pub spelled : SpellsPair word pair
  pub is : text ≡ flat_map (series_line content) (slots_of content pair)

-- ---- answers

-- The answer of each request. Of the lines of records some may be printed meanwhile, and the answer has the rest; else nothing is.
abbrev pub Prints : {O : Type 0} → (O → List ℕ → O → Type 0) → O → O → View → Request → Answer → Type 0
Prints printed old new view (asked.Replay dir form options) answer = TellsLog (λ told text. (new ≡ old) × IsCountsText form view dir.now options.min_valid told text) answer
Prints printed old new view (asked.Records dir form) answer = TellsLog (λ told rest. MakesText printed old new rest (IsRecordsText form view dir.now told)) answer
Prints printed old new view (asked.Series dir form pair options) answer = TellsUpTo (λ told text. (new ≡ old) × IsSeriesText form view dir.now (option_map (λ w. w.now) pair) options.min_valid told text) answer
