use Rattle.std.proofs.Common.{sym, ◌∙◌}
use Rattle.std.proofs.lemmas.Bool.{false≢true}
use Rattle.float_text.proofs.Words.{no_name}
use Rattle.float_text.proofs.reading.name_bits.Goals as goal

pub returns-in_err-strip_prefix : goal.returns-in_err-strip_prefix
returns-in_err-strip_prefix c =
    let other = c.eq_ignore_ascii_case.ensures.test.1 in
    c.from_residual.ensures
    ∙ sym (no_name c.args.text.now (λ same. false≢true (sym c.if-eq_ignore_ascii_case.false ∙ other same)) (sym c.eq.ensures ∙ c.if-eq.false) c.in_err-strip_prefix.ensures.cases)
