use Rattle.std.proofs.Common.{ap, sym, ◌∙◌, []}
use Rattle.std.specs.Prelude.{slice_index_or}
use Rattle.std.specs.Cmp.Lexicographic.{slice_cmp}
use Rattle.std.specs.Ordering.{nat_cmp}
use Rattle.std.proofs.lemmas.Cmp.{nat_list_cmp_total, tied_itself}
use Rattle.head_series.proofs.RowLemmas.{text_is}
use Rattle.head_series.proofs.comparing.compare_texts.Goals as goal

pub returns-then-first-second : goal.returns-then-first-second
returns-then-first-second c =
    let ts = c.args.texts.now.texts in
    sym (tied_itself nat_list_cmp_total (slice_index_or ts c.args.first [])) ∙ ap (λ n. slice_cmp nat_cmp (slice_index_or ts c.args.first []) (slice_index_or ts n [])) c.if-first-second.true

pub returns : goal.returns
returns c =
    let ts = c.args.texts.now.texts in
    c.cmp.ensures
    ∙ ap (λ t. slice_cmp nat_cmp t c.bytes-2.result.now) (sym (text_is ts c.args.first c.bytes.result.now c.bytes.ensures))
    ∙ ap (slice_cmp nat_cmp (slice_index_or ts c.args.first [])) (sym (text_is ts c.args.second c.bytes-2.result.now c.bytes-2.ensures))
