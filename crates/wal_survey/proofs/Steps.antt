-- The survey of records, with one record more.
use Rattle.std.proofs.Common.{◌≡◌, ℕ, ◌+◌, ℤ, List, [], ◌∷◌, ◌++◌, length, map, Option, Some, None, refl, sym, ap, subst, ◌∙◌}
use Rattle.std.specs.Prelude.{Vec}
use Rattle.std.specs.Global.{Global}
use Rattle.std.specs.List.{filter_map}
use Rattle.std.proofs.lemmas.List.{append-nil, length_push}
use Rattle.std.proofs.lemmas.List.Elements.{filter_map-append}
use Rattle.std.proofs.lemmas.List.Sums.{sum_by_push}
use Rattle.hw_bytes.proofs.Lists.{flat_map-push}
use Rattle.wal_record.specs.declared.record.SampleEntry.{SampleEntry}
use Rattle.wal_record.specs.declared.record.SeriesEntry.{SeriesEntry}
use Rattle.wal_record.specs.declared.record.StoneEntry.{StoneEntry}
use Rattle.wal_record.specs.declared.record.WalRecord.{WalRecord}
use Rattle.wal_record.specs.declared.record.WalRecord.TheVariants.{Series, Samples, Stones, Other}
use Rattle.wal_survey.specs.declared.counts.KindCount.{KindCount}
use Rattle.wal_survey.specs.declared.counts.SkippedCount.{SkippedCount}
use Rattle.wal_survey.specs.declared.records.Survey.{Survey}
use Rattle.wal_survey.specs.Surveys.{AreEnds, IsCountOf, IsSurveyOf, counts_of, other_kind, sample_entries, series_entries, stone_entries, times_of}

module _ {A : Type 0} (h : WalRecord → Option A) (rs : List WalRecord) (r : WalRecord) where
  -- a record for which there is nothing
  passed : h r ≡ None → filter_map h (rs ++ r ∷ []) ≡ filter_map h rs
  passed e = filter_map-append h rs (r ∷ []) ∙ rw e (append-nil (filter_map h rs))

  -- a record for which there is something
  gained : (a : A) → h r ≡ Some a → filter_map h (rs ++ r ∷ []) ≡ filter_map h rs ++ a ∷ []
  gained a e = filter_map-append h rs (r ∷ []) ∙ rw e refl

-- a count of one record more
abbrev pub one_more : KindCount → ℕ → KindCount
one_more count entries = record { records = count.records + 1; entries = count.entries + entries }

-- a list more
counted : {A : Type 0} (lists : List (List A)) (list : List A) (count : KindCount) → IsCountOf lists count → IsCountOf (lists ++ list ∷ []) (one_more count (length list))
counted lists list count is = record {
  records = ap (λ n. n + 1) is.records ∙ sym (length_push lists list);
  entries = ap (λ n. n + length list) is.entries ∙ sym (sum_by_push length lists list);
}

module _ (rs : List WalRecord) (old : Survey) (s : IsSurveyOf rs old) where
  pub series_more : (es : List SeriesEntry) (count : KindCount) → count ≡ one_more old.series (length es) → IsSurveyOf (rs ++ Series es ∷ []) (record old { series = count })
  series_more es count is =
      let r = Series es in
      subst (λ (k : KindCount). IsSurveyOf (rs ++ r ∷ []) (record old { series = k })) (sym is) (record {
        series = subst (λ (ls : List (List SeriesEntry)). IsCountOf ls (one_more old.series (length es))) (sym (gained series_entries rs r es refl)) (counted (filter_map series_entries rs) es old.series s.series);
        samples = subst (λ (ls : List (List SampleEntry)). IsCountOf ls old.samples) (sym (passed sample_entries rs r refl)) s.samples;
        stones = subst (λ (ls : List (List StoneEntry)). IsCountOf ls old.stones) (sym (passed stone_entries rs r refl)) s.stones;
        skipped = s.skipped ∙ ap counts_of (sym (passed other_kind rs r refl));
        times = subst (λ (ls : List (List SampleEntry)). AreEnds (times_of ls) old.times) (sym (passed sample_entries rs r refl)) s.times;
      })

  pub samples_more : (es : List SampleEntry) (count : KindCount) (times : Option (ℤ × ℤ)) → count ≡ one_more old.samples (length es) → AreEnds (times_of (filter_map sample_entries rs) ++ map (λ (e : SampleEntry). e.time) es) times
      → IsSurveyOf (rs ++ Samples es ∷ []) (record old { samples = count; times = times })
  samples_more es count times is ends =
      let r = Samples es in
      let all : times_of (filter_map sample_entries (rs ++ r ∷ [])) ≡ times_of (filter_map sample_entries rs) ++ map (λ (e : SampleEntry). e.time) es =
      ap times_of (gained sample_entries rs r es refl) ∙ flat_map-push (λ (ss : List SampleEntry). map (λ (e : SampleEntry). e.time) ss) (filter_map sample_entries rs) es in
      subst (λ (k : KindCount). IsSurveyOf (rs ++ r ∷ []) (record old { samples = k; times = times })) (sym is) (record {
        series = subst (λ (ls : List (List SeriesEntry)). IsCountOf ls old.series) (sym (passed series_entries rs r refl)) s.series;
        samples = subst (λ (ls : List (List SampleEntry)). IsCountOf ls (one_more old.samples (length es))) (sym (gained sample_entries rs r es refl)) (counted (filter_map sample_entries rs) es old.samples s.samples);
        stones = subst (λ (ls : List (List StoneEntry)). IsCountOf ls old.stones) (sym (passed stone_entries rs r refl)) s.stones;
        skipped = s.skipped ∙ ap counts_of (sym (passed other_kind rs r refl));
        times = subst (λ (ts : List ℤ). AreEnds ts times) (sym all) ends;
      })

  pub stones_more : (es : List StoneEntry) (count : KindCount) → count ≡ one_more old.stones (length es) → IsSurveyOf (rs ++ Stones es ∷ []) (record old { stones = count })
  stones_more es count is =
      let r = Stones es in
      subst (λ (k : KindCount). IsSurveyOf (rs ++ r ∷ []) (record old { stones = k })) (sym is) (record {
        series = subst (λ (ls : List (List SeriesEntry)). IsCountOf ls old.series) (sym (passed series_entries rs r refl)) s.series;
        samples = subst (λ (ls : List (List SampleEntry)). IsCountOf ls old.samples) (sym (passed sample_entries rs r refl)) s.samples;
        stones = subst (λ (ls : List (List StoneEntry)). IsCountOf ls (one_more old.stones (length es))) (sym (gained stone_entries rs r es refl)) (counted (filter_map stone_entries rs) es old.stones s.stones);
        skipped = s.skipped ∙ ap counts_of (sym (passed other_kind rs r refl));
        times = subst (λ (ls : List (List SampleEntry)). AreEnds (times_of ls) old.times) (sym (passed sample_entries rs r refl)) s.times;
      })

  pub skipped_more : (kind : Option ℕ) (skipped : Vec SkippedCount Global) → skipped.items ≡ counts_of (filter_map other_kind rs ++ kind ∷ []) → IsSurveyOf (rs ++ Other kind ∷ []) (record old { skipped = skipped })
  skipped_more kind skipped counts =
      let r = Other kind in
      record {
        series = subst (λ (ls : List (List SeriesEntry)). IsCountOf ls old.series) (sym (passed series_entries rs r refl)) s.series;
        samples = subst (λ (ls : List (List SampleEntry)). IsCountOf ls old.samples) (sym (passed sample_entries rs r refl)) s.samples;
        stones = subst (λ (ls : List (List StoneEntry)). IsCountOf ls old.stones) (sym (passed stone_entries rs r refl)) s.stones;
        skipped = counts ∙ ap counts_of (sym (gained other_kind rs r kind refl));
        times = subst (λ (ls : List (List SampleEntry)). AreEnds (times_of ls) old.times) (sym (passed sample_entries rs r refl)) s.times;
      }
