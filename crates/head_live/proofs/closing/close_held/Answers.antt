use Rattle.std.proofs.Common.{◌≡◌, ◌^◌, ◌<◌, ◌≤◌, ◌∙◌, Some, ap, arith, rules, subst, sym, true≢false}
use Rattle.std.specs.Prelude.{MatchOption}
use Rattle.head_core.specs.Content.{Content}
use Rattle.head_live.specs.Agreeing.{Agrees, all_told}
use Rattle.head_live.specs.Closing.{HeldState, held_live}
use Rattle.head_live.specs.Moments.{Leads, Moment}
use Rattle.head_live.proofs.TotalLemmas.{closable_total}
use Rattle.head_live.proofs.closing.close_held.Goals as goal

pub returns-clause-closes : goal.returns-clause-closes
returns-clause-closes g c =
    let inv = c.held.invariant in
    let live = c.held.inside.live in
    let opening = ap (λ (m : Moment). m.content) inv.0 in
    let here : c.head.result.now.content ≡ live.now.content = c.head.ensures.content in
    let counted : c.counts.result.accepted ≡ live.now.content.counts.accepted = ap (λ n. n.accepted) (c.counts.ensures ∙ ap (λ (d : Content). d.counts) c.head-2.ensures.content) in
    let told = c.in-Ok-true.ensures.same c.in-Ok-true.field-0-test g.K.HeadRun.opening.content (c.deref.ensures.value ∙ inv.4) in
    let total : c.held.inside.total ≡ Some c.in-Some.accepted = c.is_total.ensures.0 c.if-not-is_total.false in
    let booked = subst (λ o. MatchOption o (2 ^ 64 ≤ c.held.inside.book.total) (λ t. t ≡ c.held.inside.book.total)) total inv.6 in record {
      leads = subst (λ (m : Moment). Leads m live.now) inv.0 c.head.ensures.leads;
      sum = omega (arith, booked, c.audit_all-appenders.ensures.whole, inv.3);
      growth = omega (arith, c.in-Some.ensures, counted, inv.5);
      agrees = subst (λ (d : Content). Agrees g.K.HeadRun.opening.content d (all_told c.args.appenders.items)) here (subst (λ told. Agrees g.K.HeadRun.opening.content c.head.result.now.content (all_told told)) (c.deref-2.ensures.value ∙ c.audit_all-appenders.ensures.appenders) told);
    }

pub returns-then-not-is_total-clause-differs : goal.returns-then-not-is_total-clause-differs
returns-then-not-is_total-clause-differs g c = λ _ accepted closes.
    let inv = c.held.invariant in
    let shown = ap (λ (h : HeldState). h.now.content.counts.accepted) c.held.view_is in
    let counted : c.counts.result.accepted ≡ c.held.inside.live.now.content.counts.accepted = ap (λ n. n.accepted) (c.counts.ensures ∙ ap (λ (d : Content). d.counts) c.head-2.ensures.content) in
    let few : c.in-Some.accepted < 2 ^ 64 = search rules in
    let total = closable_total g.K.HeadRun.opening (held_live c.args.held) accepted c.in-Some.accepted c.held.inside.book.total c.held.inside.total c.args.appenders.items closes inv.6
    (omega (arith, c.audit_all-appenders.ensures.whole, inv.3)) (omega (arith, c.in-Some.ensures, counted, shown, inv.5)) few in
    true≢false (sym (c.is_total.ensures.1 total) ∙ c.if-not-is_total.true)
