use Rattle.std.proofs.Common.{[], ◌∷◌, ap, sym, ◌∙◌}
use Rattle.wal_record.specs.declared.record.WalRecord.{WalRecord}
use Rattle.wal_record.specs.Validity.{expired_samples, expired_stones}
use Rattle.head_resolver.proofs.ResolvingValid.{no_samples_in_series, no_stones_in_series, no_stones_in_samples, no_samples_in_stones}
use Rattle.head_resolver.proofs.items.expired_in.Goals as goal

pub returns-in-Series-clause-samples : goal.returns-in-Series-clause-samples
returns-in-Series-clause-samples c = no_samples_in_series c.args.min_valid c.in-Series.field-0 ∙ ap (λ (r : WalRecord). expired_samples c.args.min_valid (r ∷ [])) (sym c.in-Series.is)

pub returns-in-Series-clause-stones : goal.returns-in-Series-clause-stones
returns-in-Series-clause-stones c = no_stones_in_series c.args.min_valid c.in-Series.field-0 ∙ ap (λ (r : WalRecord). expired_stones c.args.min_valid (r ∷ [])) (sym c.in-Series.is)

pub returns-in-Samples-clause-stones : goal.returns-in-Samples-clause-stones
returns-in-Samples-clause-stones c = no_stones_in_samples c.args.min_valid c.in-Samples.entries ∙ ap (λ (r : WalRecord). expired_stones c.args.min_valid (r ∷ [])) (sym c.in-Samples.is)

pub returns-in-Stones-clause-samples : goal.returns-in-Stones-clause-samples
returns-in-Stones-clause-samples c = no_samples_in_stones c.args.min_valid c.in-Stones.entries ∙ ap (λ (r : WalRecord). expired_samples c.args.min_valid (r ∷ [])) (sym c.in-Stones.is)
