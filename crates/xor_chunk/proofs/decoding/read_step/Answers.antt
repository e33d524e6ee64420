use Rattle.std.proofs.Common.{◌∙◌, ◌∷◌, List, Bool, sym, ap, true, false}
use Rattle.xor_chunk.specs.Reading.{step_at}
use Rattle.xor_chunk.proofs.Reading.{then_bit, number_exact}
use Rattle.xor_chunk.proofs.decoding.read_step.Goals as goal

pub returns-in_err-read_bit : goal.returns-in_err-read_bit
unfolding step_at
returns-in_err-read_bit c =
    rw c.from_residual.ensures (sym (ap step_at (c.in_err-read_bit.ensures.short)))

pub returns-then-not-branch : goal.returns-then-not-branch
unfolding step_at
returns-then-not-branch c =
    let bit1 = then_bit c.args.bits.now c.read_bit.new.self c.in_ok-read_bit.field-0 false c.in_ok-read_bit.ensures.taken c.if-not-branch.true in
    sym (ap step_at (bit1))

pub returns-in_err-read_bit-2 : goal.returns-in_err-read_bit-2
unfolding step_at
returns-in_err-read_bit-2 c =
    let bit1 = then_bit c.args.bits.now c.read_bit.new.self c.in_ok-read_bit.field-0 true c.in_ok-read_bit.ensures.taken c.if-not-branch.false in
    rw c.from_residual-in_err-read_bit-2.ensures (sym (ap step_at (bit1 ∙ ap (λ (bs : List Bool). true ∷ bs) (c.in_err-read_bit-2.ensures.short))))

pub returns-then-not-branch-2 : goal.returns-then-not-branch-2
unfolding step_at
returns-then-not-branch-2 c =
    let bit1 = then_bit c.args.bits.now c.read_bit.new.self c.in_ok-read_bit.field-0 true c.in_ok-read_bit.ensures.taken c.if-not-branch.false in
    let bit2 = then_bit c.read_bit.new.self c.read_bit-2.new.self c.in_ok-read_bit-2.field-0 false c.in_ok-read_bit-2.ensures.taken c.if-not-branch-2.true in
    c.read_near.ensures ∙ sym (ap step_at (bit1 ∙ ap (λ (bs : List Bool). true ∷ bs) (bit2)))

pub returns-in_err-read_bit-3 : goal.returns-in_err-read_bit-3
unfolding step_at
returns-in_err-read_bit-3 c =
    let bit1 = then_bit c.args.bits.now c.read_bit.new.self c.in_ok-read_bit.field-0 true c.in_ok-read_bit.ensures.taken c.if-not-branch.false in
    let bit2 = then_bit c.read_bit.new.self c.read_bit-2.new.self c.in_ok-read_bit-2.field-0 true c.in_ok-read_bit-2.ensures.taken c.if-not-branch-2.false in
    rw c.from_residual-in_err-read_bit-3.ensures (sym (ap step_at (bit1 ∙ ap (λ (bs : List Bool). true ∷ bs) (bit2 ∙ ap (λ (bs : List Bool). true ∷ bs) (c.in_err-read_bit-3.ensures.short)))))

pub returns-then-not-branch-3 : goal.returns-then-not-branch-3
unfolding step_at
returns-then-not-branch-3 c =
    let bit1 = then_bit c.args.bits.now c.read_bit.new.self c.in_ok-read_bit.field-0 true c.in_ok-read_bit.ensures.taken c.if-not-branch.false in
    let bit2 = then_bit c.read_bit.new.self c.read_bit-2.new.self c.in_ok-read_bit-2.field-0 true c.in_ok-read_bit-2.ensures.taken c.if-not-branch-2.false in
    let bit3 = then_bit c.read_bit-2.new.self c.read_bit-3.new.self c.in_ok-read_bit-3.field-0 false c.in_ok-read_bit-3.ensures.taken c.if-not-branch-3.true in
    c.read_near-then-not-branch-3.ensures ∙ sym (ap step_at (bit1 ∙ ap (λ (bs : List Bool). true ∷ bs) (bit2 ∙ ap (λ (bs : List Bool). true ∷ bs) (bit3))))

pub returns-in_err-read_bit-4 : goal.returns-in_err-read_bit-4
unfolding step_at
returns-in_err-read_bit-4 c =
    let bit1 = then_bit c.args.bits.now c.read_bit.new.self c.in_ok-read_bit.field-0 true c.in_ok-read_bit.ensures.taken c.if-not-branch.false in
    let bit2 = then_bit c.read_bit.new.self c.read_bit-2.new.self c.in_ok-read_bit-2.field-0 true c.in_ok-read_bit-2.ensures.taken c.if-not-branch-2.false in
    let bit3 = then_bit c.read_bit-2.new.self c.read_bit-3.new.self c.in_ok-read_bit-3.field-0 true c.in_ok-read_bit-3.ensures.taken c.if-not-branch-3.false in
    rw c.from_residual-in_err-read_bit-4.ensures (sym (ap step_at (bit1 ∙ ap (λ (bs : List Bool). true ∷ bs) (bit2 ∙ ap (λ (bs : List Bool). true ∷ bs) (bit3 ∙ ap (λ (bs : List Bool). true ∷ bs) (c.in_err-read_bit-4.ensures.short))))))

pub returns-then-not-branch-4 : goal.returns-then-not-branch-4
unfolding step_at
returns-then-not-branch-4 c =
    let bit1 = then_bit c.args.bits.now c.read_bit.new.self c.in_ok-read_bit.field-0 true c.in_ok-read_bit.ensures.taken c.if-not-branch.false in
    let bit2 = then_bit c.read_bit.new.self c.read_bit-2.new.self c.in_ok-read_bit-2.field-0 true c.in_ok-read_bit-2.ensures.taken c.if-not-branch-2.false in
    let bit3 = then_bit c.read_bit-2.new.self c.read_bit-3.new.self c.in_ok-read_bit-3.field-0 true c.in_ok-read_bit-3.ensures.taken c.if-not-branch-3.false in
    let bit4 = then_bit c.read_bit-3.new.self c.read_bit-4.new.self c.in_ok-read_bit-4.field-0 false c.in_ok-read_bit-4.ensures.taken c.if-not-branch-4.true in
    c.read_near-then-not-branch-4.ensures ∙ sym (ap step_at (bit1 ∙ ap (λ (bs : List Bool). true ∷ bs) (bit2 ∙ ap (λ (bs : List Bool). true ∷ bs) (bit3 ∙ ap (λ (bs : List Bool). true ∷ bs) (bit4)))))

pub returns : goal.returns
unfolding step_at
returns c =
    let bit1 = then_bit c.args.bits.now c.read_bit.new.self c.in_ok-read_bit.field-0 true c.in_ok-read_bit.ensures.taken c.if-not-branch.false in
    let bit2 = then_bit c.read_bit.new.self c.read_bit-2.new.self c.in_ok-read_bit-2.field-0 true c.in_ok-read_bit-2.ensures.taken c.if-not-branch-2.false in
    let bit3 = then_bit c.read_bit-2.new.self c.read_bit-3.new.self c.in_ok-read_bit-3.field-0 true c.in_ok-read_bit-3.ensures.taken c.if-not-branch-3.false in
    let bit4 = then_bit c.read_bit-3.new.self c.read_bit-4.new.self c.in_ok-read_bit-4.field-0 true c.in_ok-read_bit-4.ensures.taken c.if-not-branch-4.false in
    number_exact 64 c.read_long.result c.read_bit-4.new.self c.read_long.new.self c.read_long.ensures.fits c.read_long.ensures.taken c.read_long.ensures.short ∙ sym (ap step_at (bit1 ∙ ap (λ (bs : List Bool). true ∷ bs) (bit2 ∙ ap (λ (bs : List Bool). true ∷ bs) (bit3 ∙ ap (λ (bs : List Bool). true ∷ bs) (bit4)))))
