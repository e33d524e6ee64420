use Rattle.std.proofs.Common.{ap, sym, subst, ◌∙◌, take}
use Rattle.wal_record.specs.Labels.{same_text}
use Rattle.head_series.specs.Rows.{AreDistinct}
use Rattle.head_series.specs.Texts.{with_text}
use Rattle.head_series.proofs.Distinct.{not_before}
use Rattle.head_series.proofs.Places.{texts_same, with_text_new}
use Rattle.head_series.proofs.TextLemmas.{take_more}
use Rattle.head_series.proofs.interner.Interner.copy.Goals as goal

pub loop-i-preserved : goal.loop-i-preserved
loop-i-preserved c =
    let ts = c.args.self.now.texts in
    let t = c.bytes.result.now in
    let distinct = subst (AreDistinct same_text) (ap (λ t. t.texts) c.self.view_is) c.self.invariant.1 in
    let new = not_before same_text texts_same t ts c.loop-i.i distinct c.bytes.ensures in (
      c.in-Ok.ensures.texts ∙ ap (λ z. with_text z t) c.loop-i.invariant.0 ∙ with_text_new (take c.loop-i.i ts) t new ∙ sym (take_more ts c.loop-i.i t c.bytes.ensures),
      c.in-Ok.ensures.most ∙ c.loop-i.invariant.1,
    )
