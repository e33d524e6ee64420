use Rattle.std.proofs.Common.{◌∙◌, ◌+◌, [], ◌∷◌, length, sym, ap}
use Rattle.std.proofs.lemmas.List.{length_push}
use Rattle.std.proofs.lemmas.List.Elements.{filter_map-append}
use Rattle.std.proofs.lemmas.List.Sums.{sum_by-append}
use Rattle.std.specs.List.{filter_map, sum_by}
use Rattle.wal_survey.specs.Surveys.{sample_entries}
use Rattle.wal_survey.proofs.records.Readable.add.Goals as goal

pub returns : goal.returns
returns c = λ records passed h. record {
  records = c.in_ok-self.ensures ∙ ap (λ n. n + 1) h.records ∙ sym (length_push records c.args.record.now);
  samples =
      c.in_ok-self-2.ensures ∙ (λ k. h.samples k + c.samples_in.ensures k)
      ∙ sym (ap (sum_by length) (filter_map-append sample_entries records (c.args.record.now ∷ [])) ∙ sum_by-append length (filter_map sample_entries records) (filter_map sample_entries (c.args.record.now ∷ [])));
  places = h.places;
  passed = h.passed;
}
