use Rattle.std.proofs.Common.{List, sym, subst, ◌∙◌}
use Rattle.wal_log.specs.declared.reading.Placed.{Placed}
use Rattle.wal_log.specs.Log.{contents}
use Rattle.head_resolver.specs.Taken.{taken_of}
use Rattle.head_core.specs.Content.{IsContentOf}
use Rattle.wal_record.specs.declared.record.WalRecord.{WalRecord}
use Rattle.headline.proofs.Recorded.{log_whole, one_list}
use Rattle.headline.proofs.laws.however_dealt.Goals as goal

pub returns-clause-head : goal.returns-clause-head
returns-clause-head c = λ log m damage other a b x y.
    let same = c.one_reading.ensures log x.placed y.placed damage other x.reading y.reading in
    let content = subst (λ (ps : List Placed). IsContentOf (taken_of m (contents ps)) b) (sym same.0) y.content in
    (same.1, c.one_content.ensures (taken_of m (contents x.placed)) a b x.content content (y.min_valid ∙ sym x.min_valid))

pub returns-clause-block : goal.returns-clause-block
returns-clause-block c = λ encoding log m hour ulid damage content block x is. c.one_block.ensures.made encoding log m hour ulid x.placed damage content block x.reading x.content x.min_valid is

pub returns-clause-one : goal.returns-clause-one
returns-clause-one c = c.one_block.ensures.one

pub returns-clause-records : goal.returns-clause-records
returns-clause-records c = log_whole c.one_file.ensures

pub returns-clause-rescued : goal.returns-clause-rescued
returns-clause-rescued c = λ encoding records first second m hour ulid a b p q x y.
    let one = (log_whole c.one_file.ensures records first x.records x.damage p x.reading).1 in
    let other = (log_whole c.one_file.ensures records second y.records y.damage q y.reading).1 in
    let same = one_list c.one_record.ensures records (contents x.records) (contents y.records) one other in
    c.one_block.ensures.one encoding first m hour ulid a b x (record {
      records = x.records;
      damage = x.damage;
      content = y.content;
      reading = x.reading;
      is_content = subst (λ (rs : List WalRecord). IsContentOf (taken_of m rs) y.content) (sym same) y.is_content;
      min_valid = y.min_valid;
      is_block = y.is_block;
    })
