-- Passes over a log, one after another.
use Rattle.std.specs.Prelude.{◌≡◌, ◌⊎◌, ℕ, zero, suc, ℤ, pos, true, ◌+ℤ◌, ◌-ℤ◌, ◌≤ℤ◌, ◌<ℤ◌, Contains, IsTrue, length, map, List, [], ◌∷◌, ◌++◌, Option, None, ⊤, refl}
use Rattle.std.proofs.Common.{ap, arith, inl, inr, subst, sym, ◌∙◌}
use Rattle.std.proofs.lemmas.Int.{ints}
use Rattle.std.proofs.lemmas.List.Elements.{All-contains, All-head, All-nil, All-push, All-tail, filter_passes}
use Rattle.wal_log.specs.Inputs.{Files}
use Rattle.head_column.specs.declared.items.Run.{Run}
use Rattle.head_column.specs.Samples.{Sample}
use Rattle.head_column.specs.Histories.{History}
use Rattle.head_column.specs.Hours.{IsEdge, hour_start, is_in_hour}
use Rattle.head_column.specs.Kept.{samples_at, seen_at}
use Rattle.head_column.specs.Runs.{spans}
use Rattle.head_column.proofs.HourLaws.{above_least, begun, below_greatest, inside, not_over}
use Rattle.head_core.specs.Content.{Content}
use Rattle.head_core.specs.Kept.{content_at}
use Rattle.head_serial.specs.Replays.{IsReplayed, IsReplayedAt}
use Rattle.block_cut.specs.Ranges.{Ascends, IsSampled}
use Rattle.block_read.specs.Blocks.{IsBlockOf}
use Rattle.block_read.specs.declared.block.Block.{Block}
use Rattle.block_read.specs.declared.rows.BlockRow.{BlockRow}
use Rattle.block_files.specs.declared.encoding.Encoding.TheVariants.{Xor}
use Rattle.hour_rows.specs.Rows.{rows_of}
use Rattle.hw_bytes.specs.Sums.{Text}
use Rattle.store.specs.Calls.{Call}
use Rattle.store.specs.Found.{Found}
use Rattle.store.specs.Views.{view_of}
use Rattle.answers.specs.declared.damage.Flaw.{Flaw}
use Rattle.answers.specs.declared.requests.LogForm.{LogForm}
use Rattle.answers.specs.Answers.{IsNoDamage}
use Rattle.log_directory.specs.Sources.{IsSourceIn}
use Rattle.rescue_commands.specs.Rescues.{AreBounds, AreHours, IsBlockOfHour, WritesHoursAt, WritesPasses, greatest_time, least_time}
use Rattle.rescue_commands.specs.Steps.{AreBoundsUpTo, AreWhole, IsBlockOfHead, WritesHead, last_or}
use Rattle.rescue_commands.proofs.Heads.{block_of_hour, hours_less, writes_seen}

-- ---- whole hours

-- all times begin here, or an hour does
abbrev pub Begins : ℤ → Type 0
Begins t = (t ≡ least_time) ⊎ ((k : ℤ) × (t ≡ hour_start k))

from_begin : (from : ℤ) → Begins from → (k t u : ℤ) → (IsEdge k → ⊥) → IsTrue (is_in_hour k t) → from ≤ℤ t → IsTrue (is_in_hour k u) → from ≤ℤ u
from_begin from (inl least) k t u whole at past in' =
    let bound = above_least (hour_start k) (inside k whole).0 in
    let a = begun k u in' in
    omega (arith, ints, least, bound, a)
from_begin from (inr (j, start)) k t u whole at past in' =
    let a = not_over k t at in
    let b = begun k u in' in
    omega (arith, ints, start, past, a, b)

to_begin : (j k t u : ℤ) → IsTrue (is_in_hour k t) → t ≤ℤ (hour_start j -ℤ pos 1) → IsTrue (is_in_hour k u) → u ≤ℤ (hour_start j -ℤ pos 1)
to_begin j k t u at before in' =
    let a = begun k t at in
    let b = not_over k u in' in
    omega (arith, ints, before, a, b)

to_end : (k u : ℤ) → (IsEdge k → ⊥) → IsTrue (is_in_hour k u) → u ≤ℤ greatest_time
to_end k u whole in' =
    let bound = below_greatest (hour_start (k +ℤ pos 1) -ℤ pos 1) (inside k whole).1 in
    let b = not_over k u in' in
    omega (arith, ints, bound, b)

within : (a b t : ℤ) → a ≤ℤ t → t ≤ℤ b → IsTrue (spans (record { min_time = a; max_time = b }) t)
within a b t from to = grind (arith, ints)

past_first : (a b t : ℤ) → IsTrue (spans (record { min_time = a; max_time = b }) t) → a ≤ℤ t
past_first a b t is = grind (arith, ints)

before_last : (a b t : ℤ) → IsTrue (spans (record { min_time = a; max_time = b }) t) → t ≤ℤ b
before_last a b t is = grind (arith, ints)

-- the times of a pass up to the next one
pub whole_up_to : (from next : ℤ) → Begins from → (j : ℤ) × (next ≡ hour_start j) → AreWhole (record { min_time = from; max_time = next -ℤ pos 1 })
whole_up_to from next begins (j, start) k t u whole at is in' =
    let low = from_begin from begins k t u whole at (past_first from (next -ℤ pos 1) t is) in' in
    let before : t ≤ℤ (hour_start j -ℤ pos 1) = subst (λ (n : ℤ). t ≤ℤ (n -ℤ pos 1)) start (before_last from (next -ℤ pos 1) t is) in
    let high : u ≤ℤ (next -ℤ pos 1) = subst (λ (n : ℤ). u ≤ℤ (n -ℤ pos 1)) (sym start) (to_begin j k t u at before in') in
    within from (next -ℤ pos 1) u low high

-- those of the last pass
pub whole_to_end : (from : ℤ) → Begins from → AreWhole (record { min_time = from; max_time = greatest_time })
whole_to_end from begins k t u whole at is in' =
    within from greatest_time u (from_begin from begins k t u whole at (past_first from greatest_time t is) in') (to_end k u whole in')

-- ---- bounds

pub first_start : (from next : ℤ) (later : List ℤ) → AreBounds from (next ∷ later) → (k : ℤ) × (next ≡ hour_start k)
first_start from next later are = All-head (λ (t : ℤ). (k : ℤ) × (t ≡ hour_start k)) next later are.starts

pub later_bounds : (from next : ℤ) (later : List ℤ) → AreBounds from (next ∷ later) → AreBounds next later
later_bounds from next later are = record { ascend = are.ascend.1; starts = All-tail (λ (t : ℤ). (k : ℤ) × (t ≡ hour_start k)) next later are.starts }

ascends_more : (from : ℤ) (bounds : List ℤ) (next : ℤ) → Ascends (from ∷ bounds) → last_or from bounds <ℤ next → Ascends (from ∷ (bounds ++ next ∷ []))
ascends_more from [] next up past = (past, tt)
ascends_more from (x ∷ xs) next up past = (up.0, ascends_more x xs next up.1 past)

last_is : (from : ℤ) (bounds : List ℤ) (next : ℤ) → last_or from (bounds ++ next ∷ []) ≡ next
last_is from [] next = refl
last_is from (x ∷ xs) next = last_is x xs next

-- one more, behind the last
pub one_more_bound : (bounds new : List ℤ) (last next : ℤ) → new ≡ bounds ++ next ∷ [] → (k : ℤ) × (next ≡ hour_start k) → last <ℤ next → AreBoundsUpTo bounds last → AreBoundsUpTo new next
one_more_bound bounds new last next is start past (are, at) = subst (λ (bs : List ℤ). AreBoundsUpTo bs next) (sym is) (
  record {
    ascend = ascends_more least_time bounds next are.ascend (subst (λ (t : ℤ). t <ℤ next) (sym at) past);
    starts = All-push (λ (t : ℤ). (k : ℤ) × (t ≡ hour_start k)) bounds next are.starts start;
  },
  last_is least_time bounds next,
)

pub none_left : (bounds : List ℤ) → length bounds ≡ 0 → bounds ≡ []
none_left [] none = refl
none_left (x ∷ xs) none = absurd (omega (arith, none))

append_one : (first : List ℤ) (next : ℤ) (later : List ℤ) → (first ++ next ∷ []) ++ later ≡ first ++ next ∷ later
append_one [] next later = refl
append_one (x ∷ first) next later = ap (λ (xs : List ℤ). x ∷ xs) (append_one first next later)

-- ---- the blocks of a pass are those of the log

mapped : {A B : Type 0} (f : A → B) (xs : List A) (y : B) → Contains (map f xs) y → (x : A) × (f x ≡ y)
mapped f [] y (i, lt, is) = absurd (omega (arith, lt))
mapped f (x ∷ xs) y (zero, lt, is) = (x, is)
mapped f (x ∷ xs) y (suc i, lt, is) = mapped f xs y (i, omega (arith, lt), is)

module _ (times : Run) (whole : AreWhole times) where
  -- an hour with a sample at these times has all of its times among them
  covers : (c : Content) (k : ℤ) → IsSampled k (content_at times c) → (u : ℤ) → IsTrue (is_in_hour k u) → IsTrue (spans times u)
  covers c k sampled u in' =
      let some = sampled.some in
      let (h, is) = mapped (seen_at times) c.histories some.history some.is_history in
      let kept : Contains (samples_at times h.samples) some.sample = subst (λ (x : History). Contains x.samples some.sample) (sym is) some.is_sample in
      let at : spans times some.sample.time ≡ true = All-contains (λ (s : Sample). spans times s.time ≡ true) (samples_at times h.samples) some.sample (filter_passes (λ (s : Sample). spans times s.time) h.samples) kept in
      whole k some.sample.time u sampled.whole some.within at in'

  pub pass_block : ((k : ℤ) (at : Run) (c : Content) → ((t : ℤ) → IsTrue (is_in_hour k t) → IsTrue (spans at t)) → rows_of k (content_at at c) ≡ rows_of k c)
      → (log : Files) (m : ℤ) (c content : Content) → IsReplayed log m None c → content ≡ content_at times c → (hours : List ℤ) → AreHours content hours → (hour : ℤ) → Contains hours hour
      → (name : Text) (block : Block) → IsBlockOfHead content hour name block → IsBlockOfHour log m hour name block
  pass_block suffice log m c content replayed seen hours are hour among name block (ulid, is) =
      let sampled : IsSampled hour (content_at times c) = subst (IsSampled hour) seen ((are.exact hour).0 among) in
      let rows : rows_of hour content ≡ rows_of hour c = ap (rows_of hour) seen ∙ suffice hour times c (covers c hour sampled) in
      block_of_hour log m c replayed hour name block (ulid, subst (λ (rs : List BlockRow). IsBlockOf Xor block (record { ulid = name; hour = hour; rows = rs })) rows is)

-- ---- one after another

module _ {S : Type 0} (did : S → List Call → S → Type 0) (holds : S → List ℕ → Found → Type 0) (form : LogForm) (dir out : List ℕ) (m : ℤ) where
  abbrev At : Run → S → Type 0 → (Option Flaw → Type 0) → S → Type 0
  At times old W Told new = WritesHoursAt did holds form dir out m times old W Told new

  abbrev Writes : S → ℤ → List ℤ → Type 0 → (Option Flaw → Type 0) → S → Type 0
  Writes old from bounds W Told new = WritesPasses did holds form dir out m old from bounds W Told new

  -- what a pass writes
  pub pass_writes : (times : Run) → AreWhole times → ((k : ℤ) (at : Run) (c : Content) → ((t : ℤ) → IsTrue (is_in_hour k t) → IsTrue (spans at t)) → rows_of k (content_at at c) ≡ rows_of k c)
      → (old : S) (log : Files) (own : Option Flaw) (content : Content) (W : Type 0) (Told : Option Flaw → Type 0) (new : S) → IsSourceIn form (view_of (holds old)) dir log own → IsNoDamage own → IsReplayedAt times log m None content
      → (W → Told own) → WritesHead did holds out content old W new → At times old W Told new
  pass_writes times whole suffice old log own content W Told new source unhurt at told wrote =
      writes_seen did holds form dir out m (λ c hours. AreHours (content_at times c) hours) old log own at.whole content W Told new source unhurt at.replayed (λ hours are. subst (λ (c : Content). AreHours c hours) at.seen are)
      (pass_block times whole suffice log m at.whole content at.replayed at.seen) told wrote

  -- where less is known of whether a pass went well
  pub pass_less : (times : Run) (old : S) (V W : Type 0) (Less Told : Option Flaw → Type 0) (new : S) → (V → W) → ((own : Option Flaw) → V → Told own → Less own) → At times old W Told new → At times old V Less new
  pass_less times old V W Less Told new less turn it = hours_less did holds form dir out m (λ content hours. AreHours (content_at times content) hours) old V W Less Told new less turn it

  -- nothing was written, and not all went well
  pub none_written : (old : S) (W : Type 0) (Told : Option Flaw → Type 0) → (W → ⊥) → (bounds : List ℤ) × AreBounds least_time bounds × Writes old least_time bounds W Told old
  none_written old W Told failed = ([], record { ascend = tt; starts = All-nil (λ (t : ℤ). (k : ℤ) × (t ≡ hour_start k)) }, inl (refl, failed))

  -- the passes from one up to another
  abbrev pub Passed : S → ℤ → List ℤ → ℤ → S → Type 0
  Passed old from [] to now = (now ≡ old) × (to ≡ from)
  Passed old from (next ∷ later) to now = (middle : S) × WritesHoursAt did holds form dir out m (record { min_time = from; max_time = next -ℤ pos 1 }) old ⊤ (λ own. ⊤) middle × Passed middle next later to now

  passed_more : (old middle new : S) (from : ℤ) (first : List ℤ) (to next : ℤ) → Passed old from first to middle → At (record { min_time = to; max_time = next -ℤ pos 1 }) middle ⊤ (λ own. ⊤) new
      → Passed old from (first ++ next ∷ []) next new
  passed_more old middle new from [] to next (same, begins) it =
      (new, subst (λ (s : S). At (record { min_time = from; max_time = next -ℤ pos 1 }) s ⊤ (λ own. ⊤) new) same (subst (λ (t : ℤ). At (record { min_time = t; max_time = next -ℤ pos 1 }) middle ⊤ (λ own. ⊤) new) begins it), (refl, refl))
  passed_more old middle new from (x ∷ first) to next (then, one, rest) it = (then, one, passed_more then middle new x first to next rest it)

  passed_then : (old middle new : S) (from : ℤ) (first : List ℤ) (to : ℤ) (rest : List ℤ) (W : Type 0) (Told : Option Flaw → Type 0) → Passed old from first to middle → Writes middle to rest W Told new → Writes old from (first ++ rest) W Told new
  passed_then old middle new from [] to rest W Told (same, begins) it = subst (λ (s : S). Writes s from rest W Told new) same (subst (λ (t : ℤ). Writes middle t rest W Told new) begins it)
  passed_then old middle new from (x ∷ first) to rest W Told (then, one, more) it = inl (then, one, passed_then then middle new x first to rest W Told more it)

  -- these passes are left, the first of which begins at `to`
  pub record Left (old : S) (bounds rest : List ℤ) (to : ℤ) (now : S) : Type 0 where
    pub first : List ℤ
    pub whole : first ++ rest ≡ bounds
    pub passed : Passed old least_time first to now
    pub are : AreBounds to rest
    pub begins : Begins to

  pub none_passed : (old : S) (bounds : List ℤ) → AreBounds least_time bounds → Left old bounds bounds least_time old
  none_passed old bounds are = record { first = []; whole = refl; passed = (refl, refl); are = are; begins = inl refl }

  pub one_passed : (old middle new : S) (bounds : List ℤ) (next : ℤ) (later : List ℤ) (to : ℤ) → Left old bounds (next ∷ later) to middle → At (record { min_time = to; max_time = next -ℤ pos 1 }) middle ⊤ (λ own. ⊤) new
      → Left old bounds later next new
  one_passed old middle new bounds next later to left it = record {
    first = left.first ++ next ∷ [];
    whole = append_one left.first next later ∙ left.whole;
    passed = passed_more old middle new least_time left.first to next left.passed it;
    are = later_bounds to next later left.are;
    begins = inr (first_start to next later left.are);
  }

  pub one_failed : (old middle new : S) (bounds : List ℤ) (next : ℤ) (later : List ℤ) (to : ℤ) (W : Type 0) (Told : Option Flaw → Type 0) → (W → ⊥) → Left old bounds (next ∷ later) to middle
      → At (record { min_time = to; max_time = next -ℤ pos 1 }) middle ⊥ (λ own. ⊤) new → Writes old least_time bounds W Told new
  one_failed old middle new bounds next later to W Told failed left it =
      subst (λ (bs : List ℤ). Writes old least_time bs W Told new) left.whole (passed_then old middle new least_time left.first to (next ∷ later) W Told left.passed (inr (failed, it)))

  pub last_pass : (old middle new : S) (bounds : List ℤ) (to : ℤ) (W : Type 0) (Told : Option Flaw → Type 0) → Left old bounds [] to middle
      → At (record { min_time = to; max_time = greatest_time }) middle W Told new → Writes old least_time bounds W Told new
  last_pass old middle new bounds to W Told left it =
      subst (λ (bs : List ℤ). Writes old least_time bs W Told new) left.whole (passed_then old middle new least_time left.first to [] W Told left.passed it)

  -- where less is known of whether all went well
  pub passes_less : (V W : Type 0) (Less Told : Option Flaw → Type 0) → (V → W) → ((own : Option Flaw) → V → Told own → Less own) → (old : S) (from : ℤ) (bounds : List ℤ) (new : S) → Writes old from bounds W Told new → Writes old from bounds V Less new
  passes_less V W Less Told less turn old from [] new it = hours_less did holds form dir out m (λ content hours. AreHours (content_at (record { min_time = from; max_time = greatest_time }) content) hours) old V W Less Told new less turn it
  passes_less V W Less Told less turn old from (next ∷ later) new (inl (middle, first, rest)) = inl (middle, first, passes_less V W Less Told less turn middle next later new rest)
  passes_less V W Less Told less turn old from (next ∷ later) new (inr (failed, it)) = inr ((λ v. failed (less v)), it)

  pub blocks_less : (V W : Type 0) (Less Told : Option Flaw → Type 0) → (V → W) → ((own : Option Flaw) → V → Told own → Less own) → (old new : S) → (bounds : List ℤ) × AreBounds least_time bounds × Writes old least_time bounds W Told new
      → (bounds : List ℤ) × AreBounds least_time bounds × Writes old least_time bounds V Less new
  blocks_less V W Less Told less turn old new (bounds, are, it) = (bounds, are, passes_less V W Less Told less turn old least_time bounds new it)
