use Rattle.std.proofs.Common.{◌≡◌, ◌∙◌, List, ap, subst, sym}
use Rattle.head_core.specs.Content.{AreAlike, Content}
use Rattle.block_read.specs.Blocks.{IsBlockOf}
use Rattle.block_read.specs.declared.rows.BlockRow.{BlockRow}
use Rattle.hour_rows.specs.Rows.{rows_of}
use Rattle.headline.proofs.SeenAlike.{seen_alike}
use Rattle.headline.proofs.times.times_suffice.Goals as goal

pub returns-clause-head : goal.returns-clause-head
returns-clause-head c = λ times log m damage other a b x y.
    let (same, alike) = c.however_dealt.ensures.head log m damage other x.whole y.whole x.replayed y.replayed in
    (same, subst (λ (d : Content). AreAlike d b) (sym x.seen) (subst (AreAlike _) (sym y.seen) (seen_alike times x.whole y.whole alike)))

pub returns-clause-block : goal.returns-clause-block
returns-clause-block c = λ times encoding log m hour ulid damage content block covers at is.
    let rows : rows_of hour content ≡ rows_of hour at.whole = ap (rows_of hour) at.seen ∙ c.rows_suffice.ensures hour times at.whole covers in
    c.however_dealt.ensures.block encoding log m hour ulid damage at.whole block at.replayed
    (subst (λ (rs : List BlockRow). IsBlockOf encoding block (record { ulid = ulid; hour = hour; rows = rs })) rows is)
