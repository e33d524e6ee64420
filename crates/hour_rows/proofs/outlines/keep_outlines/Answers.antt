use Rattle.std.proofs.Common.{◌≡◌, List, ◌∙◌, subst}
use Rattle.std.specs.Prelude.{IfOk}
use Rattle.std.specs.Option.{option_to_list}
use Rattle.std.proofs.lemmas.Iterator.{items_from_collect}
use Rattle.std.proofs.lemmas.Iterator.Consumers.{YieldsList-at}
use Rattle.std.proofs.lemmas.Iterator.Adapters.{YieldsList-from_flatten, YieldsList-from_once, YieldsList-from_vec}
use Rattle.hour_rows.specs.declared.outlines.RowOutline.{RowOutline}
use Rattle.hour_rows.proofs.Gathered.{flattened}
use Rattle.hour_rows.proofs.outlines.keep_outlines.Goals as goal

pub returns : goal.returns
returns c =
    let all = YieldsList-at c.flatten.ensures.source (YieldsList-from_vec c.args.outlines.items c.into_iter.ensures.rest (c.into_iter.ensures.len ∙ c.args.outlines.ok.0)) in
    let kept = items_from_collect c.collect.result c.collect.ensures.ran (YieldsList-from_flatten _ _ (λ x. x) option_to_list (λ x j b. YieldsList-from_once x b.0) all c.flatten.ensures.front c.flatten.ensures.back c.flatten.ensures.done) in
    subst (λ (outlines : List RowOutline). IfOk c.collect.result (λ those. those.items ≡ outlines)) (flattened c.args.outlines.items) kept
