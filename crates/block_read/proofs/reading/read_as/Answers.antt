use Rattle.std.proofs.Common.{◌≡◌, Err, length, ap, sym, subst, ◌∙◌, ◌<◌}
use Rattle.std.proofs.Common.{map, arith}
use Rattle.std.proofs.lemmas.Result.{IfErr-at_err}
use Rattle.hw_bytes.specs.Sums.{Text}
use Rattle.index_text.specs.declared.fault.ReadFault.TheVariants as read
use Rattle.index_text.specs.Rows.{IsChain, IsIndex}
use Rattle.block_read.specs.declared.rows.BlockRow.{BlockRow}
use Rattle.block_read.specs.Blocks.{index_rows, samples_of_rows}
use Rattle.block_read.proofs.AllRows.{as_many}
use Rattle.block_read.proofs.Assembled.{hidden_of_rows, index_of}
use Rattle.block_read.proofs.Few.{read_few}
use Rattle.block_read.proofs.Ids.{ids_ascend, ids_count}
use Rattle.block_read.proofs.Whole.{block_found, refused, samples_are, hidden_are, hidden_have, hidden_were, index_was, meta_were, rows_were, samples_were}
use Rattle.block_read.proofs.reading.read_as.Goals as goal

pub returns-in_err-index-clause-refuses : goal.returns-in_err-index-clause-refuses
returns-in_err-index-clause-refuses c = λ rows h.
    refused c.from_residual.result c.in_err-index.field-0.0 c.from_residual.ensures.1
    (IfErr-at_err (λ f. f ≡ read.Memory) c.in_err-index.was (c.read_numbered_index.ensures.refuses (index_rows c.args.encoding rows.rows) (subst (λ (t : Text). IsIndex t (index_rows c.args.encoding rows.rows)) (sym c.as_slice.ensures) (index_of c.args.block.now rows h))))

pub returns-in-Err-Bad-clause-refuses : goal.returns-in-Err-Bad-clause-refuses
returns-in-Err-Bad-clause-refuses c rows h = absurd (c.in-Err-Bad.ensures.bad (ap Err c.in-Err-Bad.field-0-is) (samples_of_rows rows.rows) (samples_were c.args.block.now rows c.as_slice-2.result.now c.as_slice-3.result.now (cc) (c.as_slice-3.ensures ∙ index_was c.args.block.now rows _ _ c.as_slice.ensures c.in_ok-index.ensures.only h) h))

pub read_hidden-requires : goal.read_hidden-requires
read_hidden-requires c = subst (IsChain (λ a b. a < b)) (sym (c.as_slice-5.ensures ∙ c.in_ok-index.ensures.ids)) (ids_ascend c.in_ok-index.index.rows)

pub returns-in-Err-Bad-read_hidden-clause-refuses :
    goal.returns-in-Err-Bad-read_hidden-clause-refuses
returns-in-Err-Bad-read_hidden-clause-refuses c = λ rows h.
    let index = index_was c.args.block.now rows c.as_slice.result.now c.in_ok-index.index.rows c.as_slice.ensures c.in_ok-index.ensures.only h in
    absurd (c.in-Err-Bad-read_hidden.ensures.bad (ap Err c.in-Err-Bad-read_hidden.field-0-is) (hidden_of_rows rows.rows)
    (hidden_were c.args.block.now rows c.as_slice-4.result.now c.in_ok-index.index.rows c.as_slice-5.result.now c.as_slice-4.ensures (c.as_slice-5.ensures ∙ c.in_ok-index.ensures.ids) index h))

pub returns-in-Err-Bad-read_hidden-clause-bad_tombstones :
    goal.returns-in-Err-Bad-read_hidden-clause-bad_tombstones
returns-in-Err-Bad-read_hidden-clause-bad_tombstones c = λ e. (
  c.in_ok-index.index.rows,
  (subst (λ (t : Text). IsIndex t c.in_ok-index.index.rows) c.as_slice.ensures c.in_ok-index.ensures.found),
  c.in-Ok.samples.items,
  (samples_are c.args.block.now c.as_slice-2.result.now c.as_slice-3.result.now c.in_ok-index.index.rows c.in-Ok.samples.items (cc) c.as_slice-3.ensures c.in-Ok.ensures.found),
  λ hidden h. c.in-Err-Bad-read_hidden.ensures.bad (ap Err c.in-Err-Bad-read_hidden.field-0-is) hidden
      (hidden_have c.args.block.now.tombstones c.in_ok-index.index.rows c.as_slice-4.result.now c.as_slice-5.result.now hidden c.as_slice-4.ensures (c.as_slice-5.ensures ∙ c.in_ok-index.ensures.ids) h),
)

pub read_meta-requires-clause-some : goal.read_meta-requires-clause-some
read_meta-requires-clause-some c = omega (arith, c.in_ok-index.ensures.found.rows_are.some, as_many c.as_slice-2.result.now c.as_slice-3.result.now c.in-Ok.samples.items c.in-Ok.ensures.found, ap length c.as_slice-3.ensures, ap length c.deref.ensures.value)

pub read_meta-requires-clause-few_samples : goal.read_meta-requires-clause-few_samples
read_meta-requires-clause-few_samples c =
    (read_few c.as_slice-2.result.now c.in_ok-index.index.rows c.as_slice-3.result.now c.in-Ok.samples.items c.deref.result.now c.as_slice-3.ensures c.deref.ensures.value c.in-Ok.ensures.found (c.few_chunks.ensures c.in_ok-index.index.rows c.in_ok-index.ensures.found.fits)).few_samples

pub read_meta-requires-clause-few_chunks : goal.read_meta-requires-clause-few_chunks
read_meta-requires-clause-few_chunks c =
    (read_few c.as_slice-2.result.now c.in_ok-index.index.rows c.as_slice-3.result.now c.in-Ok.samples.items c.deref.result.now c.as_slice-3.ensures c.deref.ensures.value c.in-Ok.ensures.found (c.few_chunks.ensures c.in_ok-index.index.rows c.in_ok-index.ensures.found.fits)).few_chunks

pub returns-in-Err-Bad-read_meta-clause-refuses : goal.returns-in-Err-Bad-read_meta-clause-refuses
returns-in-Err-Bad-read_meta-clause-refuses c = λ rows h.
    let index = index_was c.args.block.now rows c.as_slice.result.now c.in_ok-index.index.rows c.as_slice.ensures c.in_ok-index.ensures.only h in
    let samples = c.in-Ok.ensures.only (samples_of_rows rows.rows) (samples_were c.args.block.now rows c.as_slice-2.result.now c.as_slice-3.result.now (cc) (c.as_slice-3.ensures ∙ index) h) in
    let hidden = c.in-Ok-read_hidden.ensures.only (hidden_of_rows rows.rows) (hidden_were c.args.block.now rows c.as_slice-4.result.now c.in_ok-index.index.rows c.as_slice-5.result.now c.as_slice-4.ensures (c.as_slice-5.ensures ∙ c.in_ok-index.ensures.ids) index h) in
    absurd (c.in-Err-Bad-read_meta.ensures.bad (ap Err c.in-Err-Bad-read_meta.field-0-is) rows.ulid rows.hour
    (meta_were c.args.block.now rows c.as_slice-6.result.now c.deref.result.now c.deref-2.result.now c.as_slice-6.ensures (c.deref.ensures.value ∙ samples) (c.deref-2.ensures.value ∙ hidden) h))

pub returns-in-Err-Bad-read_meta-clause-bad_meta :
    goal.returns-in-Err-Bad-read_meta-clause-bad_meta
returns-in-Err-Bad-read_meta-clause-bad_meta c = λ e. (
  c.in_ok-index.index.rows,
  (subst (λ (t : Text). IsIndex t c.in_ok-index.index.rows) c.as_slice.ensures c.in_ok-index.ensures.found),
  c.in-Ok.samples.items,
  (samples_are c.args.block.now c.as_slice-2.result.now c.as_slice-3.result.now c.in_ok-index.index.rows c.in-Ok.samples.items (cc) c.as_slice-3.ensures c.in-Ok.ensures.found),
  c.in-Ok-read_hidden.hidden.items,
  (hidden_are c.args.block.now.tombstones c.in_ok-index.index.rows c.as_slice-4.result.now c.as_slice-5.result.now c.in-Ok-read_hidden.hidden.items c.as_slice-4.ensures (c.as_slice-5.ensures ∙ c.in_ok-index.ensures.ids) c.in-Ok-read_hidden.ensures.found),
  λ rows h.
      let index = index_was c.args.block.now rows c.as_slice.result.now c.in_ok-index.index.rows c.as_slice.ensures c.in_ok-index.ensures.only h in
      let samples = c.in-Ok.ensures.only (samples_of_rows rows.rows) (samples_were c.args.block.now rows c.as_slice-2.result.now c.as_slice-3.result.now (cc) (c.as_slice-3.ensures ∙ index) h) in
      let hidden = c.in-Ok-read_hidden.ensures.only (hidden_of_rows rows.rows) (hidden_were c.args.block.now rows c.as_slice-4.result.now c.in_ok-index.index.rows c.as_slice-5.result.now c.as_slice-4.ensures (c.as_slice-5.ensures ∙ c.in_ok-index.ensures.ids) index h) in
      c.in-Err-Bad-read_meta.ensures.bad (ap Err c.in-Err-Bad-read_meta.field-0-is) rows.ulid rows.hour
      (meta_were c.args.block.now rows c.as_slice-6.result.now c.deref.result.now c.deref-2.result.now c.as_slice-6.ensures (c.deref.ensures.value ∙ samples) (c.deref-2.ensures.value ∙ hidden) h),
)

pub join_rows-requires-clause-samples : goal.join_rows-requires-clause-samples
join_rows-requires-clause-samples c = as_many _ _ _ c.in-Ok.ensures.found ∙ cc

pub join_rows-requires-clause-hidden : goal.join_rows-requires-clause-hidden
join_rows-requires-clause-hidden c = c.in-Ok-read_hidden.ensures.found.one_each ∙ ap length (c.as_slice-5.ensures ∙ c.in_ok-index.ensures.ids) ∙ ids_count c.in_ok-index.index.rows ∙ cc

pub returns-clause-found : goal.returns-clause-found
returns-clause-found c =
    block_found c.args.block.now c.in_ok-index.index.rows c.in-Ok.samples.items c.in-Ok-read_hidden.hidden.items c.as_slice-6.result.now c.deref.result.now c.deref-2.result.now
    (record { ulid = c.in-Ok-read_meta.meta.0; hour = c.in-Ok-read_meta.meta.1; rows = c.from_vec.result })
    (subst (λ (t : Text). IsIndex t c.in_ok-index.index.rows) c.as_slice.ensures c.in_ok-index.ensures.found) (samples_are c.args.block.now c.as_slice-2.result.now c.as_slice-3.result.now c.in_ok-index.index.rows c.in-Ok.samples.items (cc) c.as_slice-3.ensures c.in-Ok.ensures.found) (hidden_are c.args.block.now.tombstones c.in_ok-index.index.rows c.as_slice-4.result.now c.as_slice-5.result.now c.in-Ok-read_hidden.hidden.items c.as_slice-4.ensures (c.as_slice-5.ensures ∙ c.in_ok-index.ensures.ids) c.in-Ok-read_hidden.ensures.found)
    c.as_slice-6.ensures c.deref.ensures.value c.deref-2.ensures.value c.in-Ok-read_meta.ensures.found
    (ap (map (λ (r : BlockRow). r.labels)) c.from_vec.ensures ∙ c.in-Ok-join_rows.ensures.labels ∙ cc) (ap samples_of_rows c.from_vec.ensures ∙ c.in-Ok-join_rows.ensures.samples) (ap hidden_of_rows c.from_vec.ensures ∙ c.in-Ok-join_rows.ensures.hidden)

pub returns-clause-only : goal.returns-clause-only
returns-clause-only c = λ rows h.
    let index = index_was c.args.block.now rows c.as_slice.result.now c.in_ok-index.index.rows c.as_slice.ensures c.in_ok-index.ensures.only h in
    let samples = c.in-Ok.ensures.only (samples_of_rows rows.rows) (samples_were c.args.block.now rows c.as_slice-2.result.now c.as_slice-3.result.now (cc) (c.as_slice-3.ensures ∙ index) h) in
    let hidden = c.in-Ok-read_hidden.ensures.only (hidden_of_rows rows.rows) (hidden_were c.args.block.now rows c.as_slice-4.result.now c.in_ok-index.index.rows c.as_slice-5.result.now c.as_slice-4.ensures (c.as_slice-5.ensures ∙ c.in_ok-index.ensures.ids) index h) in
    let meta = c.in-Ok-read_meta.ensures.only rows.ulid rows.hour (meta_were c.args.block.now rows c.as_slice-6.result.now c.deref.result.now c.deref-2.result.now c.as_slice-6.ensures (c.deref.ensures.value ∙ samples) (c.deref-2.ensures.value ∙ hidden) h) in
    rows_were c.args.encoding c.args.block.now rows (record { ulid = c.in-Ok-read_meta.meta.0; hour = c.in-Ok-read_meta.meta.1; rows = c.from_vec.result }) c.in_ok-index.index.rows index meta.0 meta.1
    (ap (map (λ (r : BlockRow). r.labels)) c.from_vec.ensures ∙ c.in-Ok-join_rows.ensures.labels ∙ cc) (ap samples_of_rows c.from_vec.ensures ∙ c.in-Ok-join_rows.ensures.samples ∙ samples) (ap hidden_of_rows c.from_vec.ensures ∙ c.in-Ok-join_rows.ensures.hidden ∙ hidden)
