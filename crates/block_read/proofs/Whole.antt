-- What reading each part says of the block.
use Rattle.std.proofs.Common.{◌≡◌, ℕ, List, map, sym, ap, subst, ◌∙◌}
use Rattle.hw_bytes.specs.Sums.{Text}
use Rattle.head_column.specs.declared.items.Run.{Run}
use Rattle.head_column.specs.Samples.{Sample}
use Rattle.index_text.specs.declared.row.IndexRow.{IndexRow}
use Rattle.index_text.specs.Index.{series_ids}
use Rattle.index_text.specs.Rows.{IsIndex}
use Rattle.block_files.specs.declared.encoding.Encoding.{Encoding}
use Rattle.block_read.specs.declared.block.Block.{Block}
use Rattle.block_read.specs.declared.rows.BlockRow.{BlockRow}
use Rattle.block_read.specs.declared.rows.BlockRows.{BlockRows}
use Rattle.block_read.specs.Blocks.{HasHidden, HasSamples, IsBlockOf, index_rows, samples_of_rows}
use Rattle.block_read.specs.Reading.{HasMeta, HaveRuns}
use Rattle.std.proofs.Common.{Result}
use Rattle.std.specs.Prelude.{IfErr, IsErrAnd}
use Rattle.std.proofs.lemmas.Result.{err_from_is_err_and}
use Rattle.index_text.specs.declared.fault.ReadFault.{ReadFault}
use Rattle.index_text.specs.declared.fault.ReadFault.TheVariants as read
use Rattle.block_read.specs.declared.fault.BlockFault.{BlockFault}
use Rattle.block_read.specs.declared.fault.BlockFault.TheVariants as block_fault
use Rattle.block_read.specs.Faults.{of_index}
use Rattle.block_read.proofs.Assembled.{hidden_of, hidden_of_rows, index_of, joined_block, meta_of_block, same_blocks, same_rows, samples_of}
use Rattle.block_read.proofs.Ids.{hidden_is, hidden_was}
use Rattle.block_read.proofs.Named.{index_labels}

-- The index that was read is that of the rows.
pub index_was : {d : Encoding} (block : Block) (b : BlockRows) (bytes : Text) (index : List IndexRow) → bytes ≡ block.index → ((rows : List IndexRow) → IsIndex bytes rows → index ≡ rows) → IsBlockOf d block b → index ≡ index_rows d b.rows
index_was {d = d} block b bytes index e only h = only (index_rows d b.rows) (subst (λ (t : Text). IsIndex t (index_rows d b.rows)) (sym e) (index_of block b h))

-- The samples of the rows are those of the index that was read.
pub samples_were : {d : Encoding} (block : Block) (b : BlockRows) (files : List Text) (index : List IndexRow) → files ≡ block.chunks → index ≡ index_rows d b.rows → IsBlockOf d block b → HasSamples d files index (samples_of_rows b.rows)
samples_were {d = d} block b files index e i h =
    subst (λ (fs : List Text). HasSamples d fs index (samples_of_rows b.rows)) (sym e) (subst (λ (rs : List IndexRow). HasSamples d block.chunks rs (samples_of_rows b.rows)) (sym i) (samples_of block b h))

-- The hidden runs of the rows are those of the ids that were read.
pub hidden_were : {d : Encoding} (block : Block) (b : BlockRows) (bytes : Text) (index : List IndexRow) (ids : List ℕ) → bytes ≡ block.tombstones → ids ≡ series_ids index → index ≡ index_rows d b.rows → IsBlockOf d block b → HaveRuns bytes ids (hidden_of_rows b.rows)
hidden_were {d = d} block b bytes index ids e n i h =
    subst (λ (t : Text). HaveRuns t ids (hidden_of_rows b.rows)) (sym e) (subst (λ (ns : List ℕ). HaveRuns block.tombstones ns (hidden_of_rows b.rows)) (sym n)
    (hidden_was block.tombstones index (hidden_of_rows b.rows) (subst (λ (rs : List IndexRow). HasHidden block.tombstones rs (hidden_of_rows b.rows)) (sym i) (hidden_of block b h))))

-- What the ids that were read have, the index has.
pub hidden_are : (tombstones : Text) (index : List IndexRow) (bytes : Text) (ids : List ℕ) (hidden : List (List Run)) → bytes ≡ tombstones → ids ≡ series_ids index → HaveRuns bytes ids hidden → HasHidden tombstones index hidden
hidden_are tombstones index bytes ids hidden e n h =
    hidden_is tombstones index hidden (subst (λ (t : Text). HaveRuns t (series_ids index) hidden) e (subst (λ (ns : List ℕ). HaveRuns bytes ns hidden) n h))

-- What the index has, the ids that were read have.
pub hidden_have : (tombstones : Text) (index : List IndexRow) (bytes : Text) (ids : List ℕ) (hidden : List (List Run)) → bytes ≡ tombstones → ids ≡ series_ids index → HasHidden tombstones index hidden → HaveRuns bytes ids hidden
hidden_have tombstones index bytes ids hidden e n h =
    subst (λ (t : Text). HaveRuns t ids hidden) (sym e) (subst (λ (ns : List ℕ). HaveRuns tombstones ns hidden) (sym n) (hidden_was tombstones index hidden h))

-- The meta.json of the rows is that of the samples and runs that were read.
pub meta_were : {d : Encoding} (block : Block) (b : BlockRows) (bytes : Text) (samples : List (List Sample)) (hidden : List (List Run)) → bytes ≡ block.meta → samples ≡ samples_of_rows b.rows → hidden ≡ hidden_of_rows b.rows → IsBlockOf d block b → HasMeta bytes samples hidden b.ulid b.hour
meta_were block b bytes samples hidden e s r h =
    subst (λ (t : Text). HasMeta t samples hidden b.ulid b.hour) (sym e) (subst (λ (ss : List (List Sample)). HasMeta block.meta ss hidden b.ulid b.hour) (sym s)
    (subst (λ (rs : List (List Run)). HasMeta block.meta (samples_of_rows b.rows) rs b.ulid b.hour) (sym r) (meta_of_block block b h)))

-- The rows that were read are those of the block, as its parts are.
pub rows_were : (d : Encoding) (block : Block) (b read : BlockRows) (index : List IndexRow) → index ≡ index_rows d b.rows → read.ulid ≡ b.ulid → read.hour ≡ b.hour → map (λ (r : BlockRow). r.labels) read.rows ≡ map (λ (r : IndexRow). r.labels) index
    → samples_of_rows read.rows ≡ samples_of_rows b.rows → hidden_of_rows read.rows ≡ hidden_of_rows b.rows → read ≡ b
rows_were d block b read index i u k l s h =
    same_blocks read b u k (same_rows read.rows b.rows (l ∙ ap (λ (rs : List IndexRow). map (λ (r : IndexRow). r.labels) rs) i ∙ index_labels d b.rows) s h)

-- An index of which memory ran out leaves a block of which memory ran out.
pub refused : (result : Result BlockRows BlockFault) (fault : ReadFault) → IsErrAnd result (λ e. e ≡ of_index fault) → fault ≡ read.Memory → IfErr result (λ e. e ≡ block_fault.Memory)
refused result fault p m =
    let q = err_from_is_err_and result p in
    subst (λ (r : Result BlockRows BlockFault). IfErr r (λ e. e ≡ block_fault.Memory)) (sym q.1) (q.2 ∙ ap of_index m)

-- The samples that were read are those of the index.
pub samples_are : {d : Encoding} (block : Block) (files : List Text) (named index : List IndexRow) (samples : List (List Sample)) → files ≡ block.chunks → named ≡ index → HasSamples d files named samples → HasSamples d block.chunks index samples
samples_are {d = d} block files named index samples e n h =
    subst (λ (fs : List Text). HasSamples d fs index samples) e (subst (λ (rs : List IndexRow). HasSamples d files rs samples) n h)

-- The parts that were read are the block of the rows that they were joined to.
pub block_found : {d : Encoding} (block : Block) (index : List IndexRow) (samples : List (List Sample)) (hidden : List (List Run)) (meta : Text) (lent_samples : List (List Sample)) (lent_hidden : List (List Run)) (b : BlockRows) → IsIndex block.index index
    → HasSamples d block.chunks index samples → HasHidden block.tombstones index hidden → meta ≡ block.meta → lent_samples ≡ samples → lent_hidden ≡ hidden → HasMeta meta lent_samples lent_hidden b.ulid b.hour
    → map (λ (r : BlockRow). r.labels) b.rows ≡ map (λ (r : IndexRow). r.labels) index → samples_of_rows b.rows ≡ samples → hidden_of_rows b.rows ≡ hidden → IsBlockOf d block b
block_found {d = code} block index samples hidden meta lent_samples lent_hidden b i s h e l m d labels ss hs =
    joined_block block b index i (subst (λ (x : List (List Sample)). HasSamples code block.chunks index x) (sym ss) s) (subst (λ (x : List (List Run)). HasHidden block.tombstones index x) (sym hs) h)
    (subst (λ (t : Text). HasMeta t (samples_of_rows b.rows) (hidden_of_rows b.rows) b.ulid b.hour) e (subst (λ (x : List (List Run)). HasMeta meta (samples_of_rows b.rows) x b.ulid b.hour) (m ∙ sym hs)
    (subst (λ (x : List (List Sample)). HasMeta meta x lent_hidden b.ulid b.hour) (l ∙ sym ss) d)))
    labels
