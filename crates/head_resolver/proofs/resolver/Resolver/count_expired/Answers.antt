use Rattle.std.proofs.Common.{rules, ◌≡◌, ◌+◌, ◌<◌, ◌⊎◌, ◌∷◌, [], ℕ, subst}
use Rattle.std.proofs.lemmas.Int.{to_z-of_z}
use Rattle.std.proofs.lemmas.Result.{on_err_weaker}
use Rattle.wal_record.specs.Validity.{expired_samples, expired_stones}
use Rattle.head_resolver.specs.declared.counts.Counts.{Counts}
use Rattle.head_resolver.specs.Limits.{count_limit}
use Rattle.head_resolver.proofs.resolver.Resolver.count_expired.Goals as goal

pub returns-clause-full : goal.returns-clause-full
returns-clause-full c =
    let m = c.args.self.now.min_valid in
    let r = c.args.log_record.now in
    let samples : c.expired_in-samples.result.0 ≡ expired_samples m (r ∷ []) = search (rules, to_z-of_z) in
    let stones : c.expired_in-samples.result.1 ≡ expired_stones m (r ∷ []) = search (rules, to_z-of_z) in
    let counts : c.self.inside.counts ≡ c.args.self.now.counts = search rules in
    on_err_weaker c.add_expired.result
    (λ over. subst (λ (n : Counts). (count_limit < n.expired_samples + expired_samples m (r ∷ [])) ⊎ (count_limit < n.expired_stones + expired_stones m (r ∷ []))) counts
    (subst (λ (a : ℕ). (count_limit < c.self.inside.counts.expired_samples + a) ⊎ (count_limit < c.self.inside.counts.expired_stones + expired_stones m (r ∷ []))) samples
    (subst (λ (b : ℕ). (count_limit < c.self.inside.counts.expired_samples + c.expired_in-samples.result.0) ⊎ (count_limit < c.self.inside.counts.expired_stones + b)) stones over)))
    c.add_expired.ensures.full
