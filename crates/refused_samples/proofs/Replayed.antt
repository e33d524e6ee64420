-- Replaying a log, sample by sample.
use Rattle.std.proofs.Common.{◌≡◌, ℕ, ◌+◌, ◌<◌, Bool, true, false, eqb, List, [], ◌∷◌, ◌++◌, get_or, length, map, take, ap, sym, subst, ◌∙◌, refl, append_assoc, arith}
use Rattle.std.specs.Prelude.{ℤ, count_by, int_le, if◌then◌else◌}
use Rattle.std.specs.List.{flat_map}
use Rattle.std.proofs.lemmas.Grind.{flat_map-append}
use Rattle.std.proofs.lemmas.List.{append-nil, map-append, take_more}
use Rattle.std.proofs.lemmas.Bool.{cond-false, cond-true, eq-eqb, ne_eqb}
use Rattle.hw_bytes.proofs.Lists.{along-push}
use Rattle.wal_record.specs.declared.record.SeriesEntry.{SeriesEntry}
use Rattle.wal_record.specs.declared.record.SampleEntry.{SampleEntry}
use Rattle.wal_record.specs.declared.record.StoneEntry.{StoneEntry}
use Rattle.wal_record.specs.declared.record.WalRecord.{WalRecord}
use Rattle.wal_record.specs.declared.record.WalRecord.TheVariants.{Series, Samples, Stones, Other}
use Rattle.wal_record.specs.Entries.{Entry, series, sample, stone, entries_of}
use Rattle.wal_record.specs.Validity.{valid, valid_in, valid_sample, valid_stone}
use Rattle.wal_log.specs.declared.reading.Placed.{Placed}
use Rattle.wal_log.specs.Log.{contents}
use Rattle.head_resolver.specs.declared.counts.Counts.{Counts}
use Rattle.head_resolver.specs.Taken.{Taken, taken_after}
use Rattle.head_resolver.specs.Counts.{Fate, fate_at, fates, is_fate, counts_of}
use Rattle.head_resolver.proofs.Counting.{count_more, entries_of-push}
use Rattle.head_core.specs.Content.{Content, IsContentOf}
use Rattle.head_intervals.specs.declared.intervals.Intervals.{Intervals}
use Rattle.head_intervals.specs.Intervals.{AreCounts}
use Rattle.refused_samples.specs.declared.counting.RefusedCounts.{RefusedCounts}
use Rattle.refused_samples.specs.declared.replaying.Replaying.{Replaying}
use Rattle.refused_samples.specs.Refused.{time_with, times_with}
use Rattle.refused_samples.specs.Replaying.{left_in, with_grown, HasNoSamples, HasReplayed, IsCounted, IsReplaying, Replays}

-- ---- the times of one entry more

times_more : (wanted : Fate) (es : List Entry) (e : Entry) → times_with wanted (es ++ e ∷ []) ≡ times_with wanted es ++ time_with wanted (fate_at es e) e
times_more wanted es e = along-push (λ before f. time_with wanted (fate_at before f) f) es e

-- series entries and deletions have no such time
series_pass : (wanted : Fate) (es : List Entry) (xs : List SeriesEntry) → times_with wanted (es ++ map series xs) ≡ times_with wanted es
series_pass wanted es [] = ap (times_with wanted) (append-nil es)
series_pass wanted es (x ∷ xs) =
    ap (times_with wanted) (sym (append_assoc es (series x ∷ []) (map series xs)))
    ∙ series_pass wanted (es ++ series x ∷ []) xs
    ∙ times_more wanted es (series x)
    ∙ append-nil (times_with wanted es)

stones_pass : (wanted : Fate) (es : List Entry) (xs : List StoneEntry) → times_with wanted (es ++ map stone xs) ≡ times_with wanted es
stones_pass wanted es [] = ap (times_with wanted) (append-nil es)
stones_pass wanted es (x ∷ xs) =
    ap (times_with wanted) (sym (append_assoc es (stone x ∷ []) (map stone xs)))
    ∙ stones_pass wanted (es ++ stone x ∷ []) xs
    ∙ times_more wanted es (stone x)
    ∙ append-nil (times_with wanted es)

-- ---- one sample

-- how many entries have the fate
abbrev tally : Fate → List Entry → ℕ
tally wanted es = count_by (is_fate wanted) (fates es)

-- a number that is the same has not grown, any other one has
same_grown : (n : ℕ) (t : ℤ) (times : List ℤ) → with_grown n n t times ≡ times
same_grown n t times = cond-true (eqb n n) times (times ++ t ∷ []) (eq-eqb n n refl)

pub other_grown : (before after : ℕ) (t : ℤ) (times : List ℤ) → (before ≡ after → ⊥) → with_grown before after t times ≡ times ++ t ∷ []
other_grown before after t times other = cond-false (eqb before after) times (times ++ t ∷ []) (ne_eqb before after other)

-- whether a sample has the fate is told by the numbers of such samples before and after it
sample_told : (wanted : Fate) (es : List Entry) (s : SampleEntry) → times_with wanted (es ++ sample s ∷ []) ≡ with_grown (tally wanted es) (tally wanted (es ++ sample s ∷ [])) s.time (times_with wanted es)
sample_told wanted es s =
    times_more wanted es (sample s)
    ∙ by (is_fate wanted (fate_at es (sample s)))
    ∙ ap (λ (n : ℕ). with_grown (tally wanted es) n s.time (times_with wanted es)) (sym (count_more wanted es (sample s)))
  where
    by : (b : Bool) → times_with wanted es ++ (if b then s.time ∷ [] else []) ≡ with_grown (tally wanted es) (tally wanted es + (if b then 1 else 0)) s.time (times_with wanted es)
    by true = sym (other_grown (tally wanted es) (tally wanted es + 1) s.time (times_with wanted es) (λ e. absurd (omega arith)))
    by false =
        append-nil (times_with wanted es)
        ∙ sym (same_grown (tally wanted es) s.time (times_with wanted es))
        ∙ ap (λ (n : ℕ). with_grown (tally wanted es) n s.time (times_with wanted es)) (omega arith)

-- the times of one sample more, by the counts before and after
pub one_more : (wanted : Fate) (m : ℤ) (es : List Entry) (s : SampleEntry) → let after = es ++ left_in m (Samples (s ∷ [])) in times_with wanted after ≡ with_grown (tally wanted es) (tally wanted after) s.time (times_with wanted es)
one_more wanted m es s = by (int_le m s.time) where
  by : (b : Bool) → let after = es ++ map sample ((if b then s ∷ [] else []) ++ []) in times_with wanted after ≡ with_grown (tally wanted es) (tally wanted after) s.time (times_with wanted es)
  by true = sample_told wanted es s
  by false = subst (λ (after : List Entry). times_with wanted after ≡ with_grown (tally wanted es) (tally wanted after) s.time (times_with wanted es)) (sym (append-nil es)) (sym (same_grown (tally wanted es) s.time (times_with wanted es)))

-- ---- one record

-- the entries of one record more, with what the least valid time leaves of it
entries_more : (m : ℤ) (t : Taken) (r : WalRecord) (es : List Entry) → entries_of t.kept ≡ es → entries_of (taken_after m t r).kept ≡ es ++ left_in m r
entries_more m t r es e = entries_of-push t.kept (valid_in m r) ∙ ap (λ (fs : List Entry). fs ++ left_in m r) e

module _ (i : Intervals) (m : ℤ) (es : List Entry) (old new : Content) (was : RefusedCounts) (before : IsCounted i m es old was) (time : new.min_valid ≡ old.min_valid) where
  module _ (r : WalRecord) (content : IsContentOf (taken_after old.min_valid before.taken r) new) where
    now_taken : IsContentOf (taken_after m before.taken r) new
    now_taken = subst (λ (k : ℤ). IsContentOf (taken_after k before.taken r) new) before.time content

    -- a record without samples changes no count
    quiet : ((wanted : Fate) → times_with wanted (es ++ left_in m r) ≡ times_with wanted es) → IsCounted i m (es ++ left_in m r) new was
    quiet same = record {
      taken = taken_after m before.taken r;
      content = now_taken;
      entries = entries_more m before.taken r es before.entries;
      time = time ∙ before.time;
      stale = subst (λ (ts : List ℤ). AreCounts i ts was.stale.items) (sym (same Fate.stale)) before.stale;
      unknown = subst (λ (ts : List ℤ). AreCounts i ts was.unknown.items) (sym (same Fate.unknown)) before.unknown;
    }

  pub quiet_counted : (r : WalRecord) → HasNoSamples r → IsContentOf (taken_after old.min_valid before.taken r) new → IsCounted i m (es ++ left_in m r) new was
  quiet_counted (Series xs) none content = quiet (Series xs) content (λ wanted. series_pass wanted es xs)
  quiet_counted (Samples xs) none content = absurd none
  quiet_counted (Stones xs) none content = quiet (Stones xs) content (λ wanted. stones_pass wanted es (flat_map (valid_stone m) xs))
  quiet_counted (Other kind) none content = quiet (Other kind) content (λ wanted. ap (times_with wanted) (append-nil es))

  module _ (s : SampleEntry) (content : IsContentOf (taken_after old.min_valid before.taken (Samples (s ∷ []))) new) (a b : Counts) (is_old : a ≡ old.counts) (is_new : b ≡ new.counts) (t : ℤ) (is_time : t ≡ s.time) where
    abbrev r : WalRecord
    r = Samples (s ∷ [])

    -- the times of one sample more, by the counts of the head before and after
    told : (wanted : Fate) (f : Counts → ℕ) → ((u : Taken) → f (counts_of u) ≡ tally wanted (entries_of u.kept)) → with_grown (f a) (f b) t (times_with wanted es) ≡ times_with wanted (es ++ left_in m r)
    told wanted f is =
        let early : f a ≡ tally wanted es = ap f (is_old ∙ before.content.counted) ∙ is before.taken ∙ ap (tally wanted) before.entries in
        let late : f b ≡ tally wanted (es ++ left_in m r) = ap f (is_new ∙ (now_taken r content).counted) ∙ is (taken_after m before.taken r) ∙ ap (tally wanted) (entries_more m before.taken r es before.entries) in
        ap (λ (n : ℕ). with_grown n (f b) t (times_with wanted es)) early
        ∙ ap (λ (n : ℕ). with_grown (tally wanted es) n t (times_with wanted es)) late
        ∙ ap (λ (u : ℤ). with_grown (tally wanted es) (tally wanted (es ++ left_in m r)) u (times_with wanted es)) is_time
        ∙ sym (one_more wanted m es s)

    pub sample_counted : (now : RefusedCounts)
        → ((times : List ℤ) → AreCounts i times was.stale.items → AreCounts i (with_grown a.stale b.stale t times) now.stale.items)
        → ((times : List ℤ) → AreCounts i times was.unknown.items → AreCounts i (with_grown a.unknown b.unknown t times) now.unknown.items)
        → IsCounted i m (es ++ left_in m r) new now
    sample_counted now stale unknown = record {
      taken = taken_after m before.taken r;
      content = now_taken r content;
      entries = entries_more m before.taken r es before.entries;
      time = time ∙ before.time;
      stale = subst (λ (ts : List ℤ). AreCounts i ts now.stale.items) (told Fate.stale (λ c. c.stale) (λ u. refl)) (stale (times_with Fate.stale es) before.stale);
      unknown = subst (λ (ts : List ℤ). AreCounts i ts now.unknown.items) (told Fate.unknown (λ c. c.unknown) (λ u. refl)) (unknown (times_with Fate.unknown es) before.unknown);
    }

-- ---- records, one after another

-- the samples of one more
pub left_more : (m : ℤ) (ss : List SampleEntry) (n : ℕ) (d : SampleEntry) → n < length ss → left_in m (Samples (take (n + 1) ss)) ≡ left_in m (Samples (take n ss)) ++ left_in m (Samples (get_or ss n d ∷ []))
left_more m ss n d lt =
    ap (λ (these : List SampleEntry). left_in m (Samples these)) (take_more ss n d lt)
    ∙ ap (map sample) (flat_map-append (valid_sample m) (take n ss) (get_or ss n d ∷ []))
    ∙ map-append sample (flat_map (valid_sample m) (take n ss)) (flat_map (valid_sample m) (get_or ss n d ∷ []))

-- a record of a log, behind others
pub took_more : (first old new : Replaying) (records : List Placed) (one : Placed) → HasReplayed first records old → Replays old (λ m. left_in m one.content) new → HasReplayed first (records ++ one ∷ []) new
took_more first old new records one so_far next = λ i m es before.
    subst (λ (fs : List Entry). IsReplaying i m fs new) (all m es) (next i m (es ++ entries_of (valid m (contents records))) (so_far i m es before))
  where
    all : (m : ℤ) (es : List Entry) → (es ++ entries_of (valid m (contents records))) ++ left_in m one.content ≡ es ++ entries_of (valid m (contents (records ++ one ∷ [])))
    all m es =
        append_assoc es (entries_of (valid m (contents records))) (left_in m one.content)
        ∙ ap (λ (fs : List Entry). es ++ fs) (sym (
        ap (λ (rs : List WalRecord). entries_of (valid m rs)) (map-append (λ (p : Placed). p.content) records (one ∷ []))
        ∙ ap entries_of (map-append (valid_in m) (contents records) (one.content ∷ []))
        ∙ entries_of-push (valid m (contents records)) (valid_in m one.content)))

-- before any record
pub took_none : (first : Replaying) → HasReplayed first [] first
took_none first = λ i m es before. subst (λ (fs : List Entry). IsReplaying i m fs first) (sym (append-nil es)) before
