use Rattle.std.proofs.Common.{rules, ◌≡◌, ◌≤◌, sym, refl, ap, ◌∙◌, arith}
use Rattle.crew.proofs.TicketRule.{claims}
use Rattle.crew.proofs.claims.Claims.claim.Goals as goal

pub loop-pass-init : goal.loop-pass-init
loop-pass-init c =
    let same = ap (λ p. p.claims) c.pass.view_is ∙ c.requires ∙ sym c.self.view_is in
    let many = ap (λ v. v.pieces) same in
    let most : c.pass.inside.seen ≤ c.pass.inside.seat.me.0.pieces = c.pass.invariant.1 in
    (refl, c.pass.invariant.0, omega arith, omega arith)

pub compare_exchange-found-requires : goal.compare_exchange-found-requires
compare_exchange-found-requires c =
    let i = c.loop-pass.invariant in
    let live = ap (λ m. m.0.is_spent) i.1 in
    let at = ap (λ m. m.0.seen) i.1 in
    let same = ap (λ p. p.claims) c.pass.view_is ∙ c.requires ∙ sym c.self.view_is in
    let many : c.loop-pass.pass-inside.seat.me.0.pieces ≡ c.self.inside.pieces = ap (λ m. m.0.pieces) i.1 ∙ ap (λ v. v.pieces) same in
    let room = c.loop-pass-test.true in
    (i.0 ∙ ap (λ v. v.id) same, search rules, claims _ _ _ _ _ live at (omega arith))
