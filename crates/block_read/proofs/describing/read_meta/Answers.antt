use Rattle.std.proofs.Common.{rules, ◌≡◌, ◌∙◌, sym, ap, subst, true}
use Rattle.std.specs.Prelude.{pos, ◌+ℤ◌}
use Rattle.hw_bytes.specs.Sums.{Text}
use Rattle.head_column.specs.Hours.{IsEdge, hour_start}
use Rattle.block_files.specs.Meta.{meta_text}
use Rattle.block_read.specs.Reading.{summary}
use Rattle.block_read.proofs.describing.read_meta.Goals as goal

pub returns-then-is_edge-clause-bad : goal.returns-then-is_edge-clause-bad
returns-then-is_edge-clause-bad c = λ was ulid hour h. h.whole (subst IsEdge (c.hour_of-hour.ensures hour h.within) (c.is_edge.ensures.0 c.if-is_edge.true))

pub returns-then-not-has_rows-clause-bad : goal.returns-then-not-has_rows-clause-bad
returns-then-not-has_rows-clause-bad c = λ was ulid hour h.
    let same = c.hour_of-hour.ensures hour h.within in
    let yes : c.has_rows.result ≡ true = c.has_rows.ensures.complete hour (c.span_of.ensures.start ∙ ap hour_start same) (c.span_of.ensures.end ∙ ap (λ k. hour_start (k +ℤ pos 1)) same) h.within h.hidden_within in
    absurd (cc (yes, c.if-not-has_rows.true))

pub returns-then-ne-clause-bad : goal.returns-then-ne-clause-bad
returns-then-ne-clause-bad c = λ was ulid hour h.
    let same = c.hour_of-hour.ensures hour h.within in
    let found = c.ulid_of.ensures (summary ulid hour c.args.samples.now) h.is_ulid h.described in
    let one : c.in-Some.ulid ≡ ulid = cc (found, c.in-Some.is) in
    let text : c.in_ok-text.text.items ≡ c.args.bytes.now =
    c.in_ok-text.ensures.text ∙ ap (λ (u : Text). meta_text (summary u c.hour_of-hour.result c.args.samples.now)) one ∙ ap (λ k. meta_text (summary ulid k c.args.samples.now)) same ∙ sym h.described in
    let lent : c.as_slice.result.now ≡ c.args.bytes.now = c.as_slice.ensures.value ∙ text in
    search rules

pub returns-clause-only : goal.returns-clause-only
returns-clause-only c = λ ulid hour h.
    let found = c.ulid_of.ensures (summary ulid hour c.args.samples.now) h.is_ulid h.described in
    let one : c.in-Some.ulid ≡ ulid = cc (found, c.in-Some.is) in
    (one, c.hour_of-hour.ensures hour h.within)
