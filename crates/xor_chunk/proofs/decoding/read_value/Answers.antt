use Rattle.std.proofs.Common.{◌∙◌, true, false}
use Rattle.std.proofs.lemmas.Result.{err_from_is_err_and}
use Rattle.xor_chunk.proofs.Reading.{then_bit, value_none, value_same, value_cut, value_again, value_bad, value_new}
use Rattle.xor_chunk.proofs.decoding.read_value.Goals as goal

pub returns-in_default-clause-exact : goal.returns-in_default-clause-exact
returns-in_default-clause-exact c = value_none c.args.value c.args.window c.args.bits.now c.in_default.ensures.short

pub returns-then-not-changed-clause-exact : goal.returns-then-not-changed-clause-exact
returns-then-not-changed-clause-exact c = value_same c.args.value c.args.window c.args.bits.now c.read_bit.new.self (then_bit c.args.bits.now c.read_bit.new.self c.in-Some.changed false c.in-Some.ensures.taken c.if-not-changed.true)

pub returns-in_default-read_bit-clause-exact : goal.returns-in_default-read_bit-clause-exact
returns-in_default-read_bit-clause-exact c = value_cut c.args.value c.args.window c.args.bits.now c.read_bit.new.self (then_bit c.args.bits.now c.read_bit.new.self c.in-Some.changed true c.in-Some.ensures.taken c.if-not-changed.false) c.in_default-read_bit.ensures.short

pub returns-then-not-opens-clause-exact : goal.returns-then-not-opens-clause-exact
returns-then-not-opens-clause-exact c =
    let one = then_bit c.args.bits.now c.read_bit.new.self c.in-Some.changed true c.in-Some.ensures.taken c.if-not-changed.false in
    let two = then_bit c.read_bit.new.self c.read_bit-2.new.self c.in-Some-read_bit.opens false c.in-Some-read_bit.ensures.taken c.if-not-opens.true in
    c.read_changed.ensures.exact ∙ value_again c.args.value c.args.window c.args.bits.now c.read_bit.new.self c.read_bit-2.new.self one two

pub returns-in_err-window-clause-exact : goal.returns-in_err-window-clause-exact
returns-in_err-window-clause-exact c =
    let one = then_bit c.args.bits.now c.read_bit.new.self c.in-Some.changed true c.in-Some.ensures.taken c.if-not-changed.false in
    let two = then_bit c.read_bit.new.self c.read_bit-2.new.self c.in-Some-read_bit.opens true c.in-Some-read_bit.ensures.taken c.if-not-opens.false in
    let p = err_from_is_err_and c.from_residual.result c.from_residual.ensures.1 in
    rw (p.1, p.2) (value_bad c.args.value c.args.window c.args.bits.now c.read_bit.new.self c.read_bit-2.new.self c.in_err-window.field-0.0 one two c.in_err-window.ensures.exact)

pub returns-clause-exact : goal.returns-clause-exact
returns-clause-exact c =
    let one = then_bit c.args.bits.now c.read_bit.new.self c.in-Some.changed true c.in-Some.ensures.taken c.if-not-changed.false in
    let two = then_bit c.read_bit.new.self c.read_bit-2.new.self c.in-Some-read_bit.opens true c.in-Some-read_bit.ensures.taken c.if-not-opens.false in
    c.read_changed-2.ensures.exact ∙ value_new c.args.value c.args.window c.args.bits.now c.read_bit.new.self c.read_bit-2.new.self c.read_window.new.bits c.in_ok-window.window one two c.in_ok-window.ensures.exact
