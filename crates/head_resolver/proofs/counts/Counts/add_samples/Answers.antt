use Rattle.std.proofs.Common.{rules, ◌≡◌, ◌+◌, ◌<◌, ◌⊎◌, ◌∷◌, [], inr, ap, subst, ◌∙◌}
use Rattle.std.specs.Prelude.{count_by}
use Rattle.std.proofs.lemmas.Int.{to_z-of_z}
use Rattle.std.proofs.lemmas.Result.{on_err_weaker, on_ok_weaker}
use Rattle.wal_record.specs.declared.record.WalRecord.{WalRecord}
use Rattle.wal_record.specs.declared.record.WalRecord.TheVariants.{Samples}
use Rattle.wal_record.specs.Entries.{sample}
use Rattle.wal_record.specs.Validity.{expired_samples}
use Rattle.head_resolver.specs.Limits.{count_limit}
use Rattle.head_resolver.specs.Steps.{with_record}
use Rattle.head_resolver.specs.Validity.{is_expired}
use Rattle.head_resolver.proofs.ResolvingValid.{no_stones_in_samples, samples_expired}
use Rattle.head_resolver.proofs.counts.Counts.add_samples.Goals as goal

pub returns-clause-more : goal.returns-clause-more
returns-clause-more c =
    let m = c.args.min_valid in
    let r : WalRecord = Samples c.args.samples.now in
    let d = with_record r c.args.self.now in
    let counted : c.count_expired.result ≡ count_by (λ s. is_expired m (sample s)) c.args.samples.now = search (rules, to_z-of_z) in
    let samples : c.count_expired.result ≡ expired_samples m (r ∷ []) = counted ∙ samples_expired m c.args.samples.now in
    on_ok_weaker c.add_expired.result
    (λ more.
    more
    ∙ ap (λ n. record d { sample_records = n; expired_samples = d.expired_samples + c.count_expired.result; expired_stones = d.expired_stones + 0 }) c.in_ok-one_more.ensures.more
    ∙ ap (λ n. record d { expired_samples = d.expired_samples + n; expired_stones = d.expired_stones + 0 }) samples
    ∙ ap (λ n. record d { expired_samples = d.expired_samples + expired_samples m (r ∷ []); expired_stones = d.expired_stones + n }) (no_stones_in_samples m c.args.samples.now))
    c.add_expired.ensures.more

pub returns-clause-over : goal.returns-clause-over
returns-clause-over c =
    let m = c.args.min_valid in
    let r : WalRecord = Samples c.args.samples.now in
    let d = c.args.self.now in
    let counted : c.count_expired.result ≡ count_by (λ s. is_expired m (sample s)) c.args.samples.now = search (rules, to_z-of_z) in
    let samples : c.count_expired.result ≡ expired_samples m (r ∷ []) = counted ∙ samples_expired m c.args.samples.now in
    on_err_weaker c.add_expired.result
    (λ over. inr (subst (λ n. (count_limit < d.expired_samples + expired_samples m (r ∷ [])) ⊎ (count_limit < d.expired_stones + n)) (no_stones_in_samples m c.args.samples.now)
    (subst (λ n. (count_limit < d.expired_samples + n) ⊎ (count_limit < d.expired_stones + 0)) samples over)))
    c.add_expired.ensures.full
