use Rattle.std.proofs.Common.{rules, ◌≡◌, ap, sym, subst, ◌∙◌, Some}
use Rattle.wal_record.specs.Labels.{same_text}
use Rattle.head_series.specs.Rows.{AreDistinct}
use Rattle.head_series.proofs.Distinct.{place_at}
use Rattle.head_series.proofs.Places.{texts_same}
use Rattle.head_series.proofs.interner.Interner.is_at.Goals as goal

pub returns-then-number-len : goal.returns-then-number-len
returns-then-number-len c is =
    let same : c.bytes.result.now ≡ c.args.text.now = search (rules, is) in
    let distinct = subst (AreDistinct same_text) (ap (λ t. t.texts) c.self.view_is) c.self.invariant.1 in
    sym (place_at same_text texts_same c.args.text.now c.args.self.now.texts c.args.number distinct (c.bytes.ensures ∙ ap Some same))
