use Rattle.std.proofs.Common.{◌≡◌, ℤ, List, sym, ap, subst, ◌∙◌}
use Rattle.wal_record.specs.Labels.{Labels}
use Rattle.wal_log.specs.declared.reading.Placed.{Placed}
use Rattle.wal_log.specs.Log.{contents}
use Rattle.head_column.specs.Histories.{History}
use Rattle.head_resolver.specs.Taken.{taken_of}
use Rattle.head_core.specs.Content.{AreAlike, Content, IsContentOf}
use Rattle.block_read.specs.declared.rows.BlockRow.{BlockRow}
use Rattle.block_read.specs.Blocks.{block_text}
use Rattle.hour_rows.specs.Rows.{rows_of}
use Rattle.block_cut.proofs.laws.one_block.Goals as goal

-- contents that are alike have the same rows
alike_rows : (k : ℤ) (c d : Content) → AreAlike c d → rows_of k d ≡ rows_of k c
unfolding rows_of
alike_rows k c d alike =
    ap (λ (ls : List Labels). rows_of k (record d { table = record d.table { series = ls } })) alike.series ∙ ap (λ (hs : List History). rows_of k (record d { table = record d.table { series = c.table.series }; histories = hs })) alike.histories

pub returns-clause-made : goal.returns-clause-made
returns-clause-made c = λ e log m hour ulid records damage content block r i v b. record {
  records = records;
  damage = damage;
  content = content;
  reading = r;
  is_content = i;
  min_valid = v;
  is_block = b;
}

pub returns-clause-one : goal.returns-clause-one
returns-clause-one c = λ e log m hour ulid a b x y.
    let same = c.one_reading.ensures log x.records y.records x.damage y.damage x.reading y.reading in
    let content : IsContentOf (taken_of m (contents x.records)) y.content = subst (λ (ps : List Placed). IsContentOf (taken_of m (contents ps)) y.content) (sym same.0) y.is_content in
    let valid : y.content.min_valid ≡ x.content.min_valid = y.min_valid ∙ sym x.min_valid in
    let rows = alike_rows hour x.content y.content (c.one_content.ensures (taken_of m (contents x.records)) x.content y.content x.is_content content valid) in
    x.is_block.text ∙ ap (λ (rs : List BlockRow). block_text e (record { ulid = ulid; hour = hour; rows = rs })) (sym rows) ∙ sym y.is_block.text
