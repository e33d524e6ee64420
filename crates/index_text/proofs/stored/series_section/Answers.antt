use Rattle.std.proofs.Common.{rules, ◌≡◌, ◌<◌, ◌++◌, ◌∷◌, [], length, ap, ◌∙◌}
use Rattle.std.specs.Prelude.{map}
use Rattle.std.proofs.lemmas.Result.{err_from_is_err_and}
use Rattle.hw_bytes.proofs.Lists.{map_push}
use Rattle.index_text.specs.Reading.{series_element_at, elements}
use Rattle.index_text.specs.Stored.{stored}
use Rattle.index_text.proofs.Loops.{element_goes_on, element_fails, element_none, element_ends}
use Rattle.index_text.proofs.stored.series_section.Goals as goal

pub returns-then-is_empty : goal.returns-then-is_empty
returns-then-is_empty c =
    element_none (series_element_at c.args.limit c.args.stop) (map stored c.loop.found.items) _ c.loop.rest.now (elements (series_element_at c.args.limit c.args.stop) (length c.args.section.now) c.args.section.now) (search (rules, c.if-is_empty.ensures)) c.loop.invariant

pub returns-in_err-series : goal.returns-in_err-series
returns-in_err-series c =
    let p = err_from_is_err_and c.from_residual.result c.from_residual.ensures.1 in
    let some : 0 < length c.loop.rest.now = search (rules, c.if-is_empty.ensures) in
    rw (p.1, p.2) (element_fails (series_element_at c.args.limit c.args.stop) c.in_err-series.field-0.0 (map stored c.loop.found.items) (length c.args.section.now) c.loop.counter c.loop.rest.now (elements (series_element_at c.args.limit c.args.stop) (length c.args.section.now) c.args.section.now) c.loop-test.true some c.in_err-series.ensures c.loop.invariant)

pub loop-preserved : goal.loop-preserved
loop-preserved c =
    let some : 0 < length c.loop.rest.now = search (rules, c.if-is_empty.ensures) in
    let pushed : map stored c.push.new.self.items ≡ map stored c.loop.found.items ++ stored c.in_ok-series.series ∷ [] = (ap (map stored) c.in_ok-push.ensures.items ∙ map_push stored c.loop.found.items c.in_ok-series.series) in
    rw pushed (element_goes_on (series_element_at c.args.limit c.args.stop) (map stored c.loop.found.items) (length c.args.section.now) c.loop.counter c.loop.rest.now (stored c.in_ok-series.series) c.in_ok-series.after.now (elements (series_element_at c.args.limit c.args.stop) (length c.args.section.now) c.args.section.now) c.loop-test.true some c.in_ok-series.ensures c.loop.invariant)

pub returns : goal.returns
returns c = element_ends (series_element_at c.args.limit c.args.stop) (map stored c.loop.found.items) (length c.args.section.now) c.loop.counter c.loop.rest.now (elements (series_element_at c.args.limit c.args.stop) (length c.args.section.now) c.args.section.now) c.loop-test.false c.loop.invariant
