use Rattle.std.proofs.Common.{rules}
use Rattle.std.proofs.lemmas.Fn.{filter_same}
use Rattle.block_cut.specs.Cutting.{is_full_in}
use Rattle.block_cut.proofs.Full.{kept_ascends, kept_exact}
use Rattle.block_cut.proofs.ranges.full_ranges.Goals as goal

pub returns-clause-ascending : goal.returns-clause-ascending
returns-clause-ascending c =
    let content = c.args.head.now.content in
    kept_ascends (is_full_in content) _ _ c.in_ok-hours.ensures.ascending (filter_same _ (is_full_in content) _ (λ x b f' k. search rules) _ _ c.retain.ensures.filtered)

pub returns-clause-exact : goal.returns-clause-exact
returns-clause-exact c =
    let content = c.args.head.now.content in
    kept_exact content _ _ c.in_ok-hours.ensures.exact (filter_same _ (is_full_in content) _ (λ x b f' k. search rules) _ _ c.retain.ensures.filtered)
