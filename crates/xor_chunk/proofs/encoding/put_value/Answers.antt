use Rattle.std.proofs.Common.{arith, rules, ◌≡◌, ◌<◌, ◌++◌, ◌%◌, ◌^◌, eqb, ap, ◌∙◌, sym, List, Bool, ℕ, Some, None, subst, append_assoc}
use Rattle.xor_chunk.specs.Bits.{bits_of}
use Rattle.xor_chunk.specs.Chunks.{opened, opening, within, reused, width}
use Rattle.xor_chunk.specs.Private.{Holds}
use Rattle.xor_chunk.specs.declared.before.BitWindow.{BitWindow}
use Rattle.xor_chunk.proofs.Steps.{value_0, value_new, value_again}
use Rattle.xor_chunk.proofs.Windows.{opened_holds, opened_leading, reused_holds}
use Rattle.xor_chunk.proofs.encoding.put_value.Goals as goal

pub returns-then-xor-eq0-clause-bits : goal.returns-then-xor-eq0-clause-bits
returns-then-xor-eq0-clause-bits c = c.push.ensures.bits ∙ ap (λ (bs : List Bool). c.args.bits.now.bits ++ bs) (value_0 c.args.window c.args.xor c.if-xor-eq0.true).0

pub returns-then-xor-eq0-clause-after : goal.returns-then-xor-eq0-clause-after
returns-then-xor-eq0-clause-after c = (value_0 c.args.window c.args.xor c.if-xor-eq0.true).1

pub returns-then-xor-eq0-clause-whole : goal.returns-then-xor-eq0-clause-whole
returns-then-xor-eq0-clause-whole c = (value_0 c.args.window c.args.xor c.if-xor-eq0.true).2

pub put_opening-requires-clause-leading : goal.put_opening-requires-clause-leading
put_opening-requires-clause-leading c = subst (λ (w : BitWindow). w.leading < 32) (sym c.opened_window-fresh.ensures) (opened_leading c.args.xor)

pub put_opening-requires-clause-some : goal.put_opening-requires-clause-some
put_opening-requires-clause-some c =
    let some : 0 < c.args.xor = search rules in
    let fits : c.args.xor < 2 ^ 64 = omega arith in
    let held = subst (λ (w : BitWindow). Holds w c.args.xor) (sym c.opened_window-fresh.ensures) (opened_holds c.args.xor some fits) in
    held.within

pub put_within-requires-clause-fits : goal.put_within-requires-clause-fits
put_within-requires-clause-fits c =
    let some : 0 < c.args.xor = search rules in
    let fits : c.args.xor < 2 ^ 64 = omega arith in
    subst (λ (w : BitWindow). Holds w c.args.xor) (sym c.opened_window-fresh.ensures) (opened_holds c.args.xor some fits)

pub width-requires : goal.width-requires
width-requires c =
    let some : 0 < c.args.xor = search rules in
    let fits : c.args.xor < 2 ^ 64 = omega arith in
    let held = subst (λ (w : BitWindow). Holds w c.args.xor) (sym c.opened_window-fresh.ensures) (opened_holds c.args.xor some fits) in
    omega (arith, held.within)

pub returns-in_default-clause-bits : goal.returns-in_default-clause-bits
returns-in_default-clause-bits c =
    let ne : c.args.xor ≡ 0 → ⊥ = search rules in
    let w : BitWindow = c.opened_window-fresh.result in
    let is : w ≡ opened c.args.xor = c.opened_window-fresh.ensures in
    let none : reused c.args.window (opened c.args.xor) ≡ None = ap (reused c.args.window) (sym is) ∙ sym c.in_default.ensures in
    c.put_within.ensures.bits ∙ ap (λ (bs : List Bool). bs ++ within w c.args.xor) c.put_opening.ensures.bits ∙ append_assoc c.args.bits.now.bits (opening w) (within w c.args.xor)
    ∙ ap (λ (v : BitWindow). c.args.bits.now.bits ++ (opening v ++ within v c.args.xor)) is ∙ ap (λ (bs : List Bool). c.args.bits.now.bits ++ bs) (value_new c.args.window c.args.xor ne none).0

pub returns-in_default-clause-after : goal.returns-in_default-clause-after
returns-in_default-clause-after c =
    let ne : c.args.xor ≡ 0 → ⊥ = search rules in
    let is = c.opened_window-fresh.ensures in
    let none : reused c.args.window (opened c.args.xor) ≡ None = ap (reused c.args.window) (sym is) ∙ sym c.in_default.ensures in
    ap (λ (v : BitWindow). Some v) is ∙ (value_new c.args.window c.args.xor ne none).1

pub returns-in_default-clause-whole : goal.returns-in_default-clause-whole
returns-in_default-clause-whole c =
    let ne : c.args.xor ≡ 0 → ⊥ = search rules in
    let is = c.opened_window-fresh.ensures in
    let none : reused c.args.window (opened c.args.xor) ≡ None = ap (reused c.args.window) (sym is) ∙ sym c.in_default.ensures in
    ap (λ (k : ℕ). eqb (k % 8) 0) (c.width.ensures ∙ ap (λ (v : BitWindow). width v) is) ∙ (value_new c.args.window c.args.xor ne none).2

pub put_within-requires-2-clause-fits : goal.put_within-requires-2-clause-fits
put_within-requires-2-clause-fits c =
    let some : 0 < c.args.xor = search rules in
    let fits : c.args.xor < 2 ^ 64 = omega arith in
    let again : reused c.args.window (opened c.args.xor) ≡ Some c.in-Some.open = ap (reused c.args.window) (sym c.opened_window-fresh.ensures) ∙ sym c.in-Some.ensures in
    reused_holds c.args.window c.args.xor c.in-Some.open some fits again

pub width-requires-2 : goal.width-requires-2
width-requires-2 c =
    let some : 0 < c.args.xor = search rules in
    let fits : c.args.xor < 2 ^ 64 = omega arith in
    let again : reused c.args.window (opened c.args.xor) ≡ Some c.in-Some.open = ap (reused c.args.window) (sym c.opened_window-fresh.ensures) ∙ sym c.in-Some.ensures in
    let held = reused_holds c.args.window c.args.xor c.in-Some.open some fits again in
    omega (arith, held.within)

pub returns-clause-bits : goal.returns-clause-bits
returns-clause-bits c =
    let ne : c.args.xor ≡ 0 → ⊥ = search rules in
    let w : BitWindow = c.in-Some.open in
    let again : reused c.args.window (opened c.args.xor) ≡ Some w = ap (reused c.args.window) (sym c.opened_window-fresh.ensures) ∙ sym c.in-Some.ensures in
    c.put_within-2.ensures.bits ∙ ap (λ (bs : List Bool). bs ++ within w c.args.xor) c.push-2.ensures.bits ∙ append_assoc c.args.bits.now.bits (bits_of 2 2) (within w c.args.xor)
    ∙ ap (λ (bs : List Bool). c.args.bits.now.bits ++ bs) (value_again c.args.window c.args.xor w ne again).0

pub returns-clause-after : goal.returns-clause-after
returns-clause-after c =
    let ne : c.args.xor ≡ 0 → ⊥ = search rules in
    let again : reused c.args.window (opened c.args.xor) ≡ Some c.in-Some.open = ap (reused c.args.window) (sym c.opened_window-fresh.ensures) ∙ sym c.in-Some.ensures in
    (value_again c.args.window c.args.xor c.in-Some.open ne again).1

pub returns-clause-whole : goal.returns-clause-whole
returns-clause-whole c =
    let ne : c.args.xor ≡ 0 → ⊥ = search rules in
    let again : reused c.args.window (opened c.args.xor) ≡ Some c.in-Some.open = ap (reused c.args.window) (sym c.opened_window-fresh.ensures) ∙ sym c.in-Some.ensures in
    ap (λ (k : ℕ). eqb (k % 8) 0) c.width-2.ensures ∙ (value_again c.args.window c.args.xor c.in-Some.open ne again).2
