use Rattle.std.proofs.Common.{◌≡◌, ap, map, subst, sym, ◌∙◌}
use Rattle.std.specs.Prelude.{IfOk}
use Rattle.rayon.specs.Lists.{min_len_base}
use Rattle.rayon.proofs.ListFacts.{IfOk-then}
use Rattle.rayon.proofs.ToStd.{slice-AllZip}
use Rattle.hour_rows.proofs.Gathered.{at_ok, matched}
use Rattle.rescue_commands.specs.Steps.{AreBlocksOf}
use Rattle.rescue_commands.proofs.Groups.{Cut, are_blocks}
use Rattle.rescue_commands.proofs.cutting.cut_each.Goals as goal

pub returns : goal.returns
returns g c =
    let hours = c.args.hours.now in
    let base : min_len_base c.map.result.base ≡ c.par_iter.result = subst (λ m. min_len_base m ≡ c.par_iter.result) (sym c.map.ensures.base) c.with_min_len.ensures.base in
    let slice = ap (λ it. it.slice.now) base ∙ c.par_iter.ensures in
    let all : IfOk c.collect.result (λ r. IfOk r (λ blocks. AreBlocksOf c.args.head.now.content (map (λ it. it.hour) hours) blocks.items)) =
    IfOk-then c.collect.result _ _ c.collect.ensures (λ v h.
    matched v _ _ _ h.2 (λ blocks made.
    let each = slice-AllZip h.1.0 hours (h.1.1 ∙ slice) (Cut c.map.result.f.2.now.content) h.0 h.1.2 in
    let are = are_blocks c.map.result.f.2.now.content hours h.0 made.0 each made.1 in
    subst (λ f. AreBlocksOf f.2.now.content (map (λ it. it.hour) hours) blocks.items) c.map.ensures.f
    (subst (λ items. AreBlocksOf c.map.result.f.2.now.content (map (λ it. it.hour) hours) items) (sym made.2) are))) in
    at_ok c.in_ok-collect.was _ all
