use Rattle.std.proofs.Common.{rules, ◌≡◌, ◌∙◌, Err, sym, subst}
use Rattle.std.specs.Prelude.{IfErr}
use Rattle.std.proofs.lemmas.Result.{IfErr-at_err, err_from_is_err_and}
use Rattle.block_files.specs.declared.encoding.Encoding.{Encoding}
use Rattle.block_read.specs.declared.fault.BlockFault.TheVariants.{BadChunks, BadMeta, Index, Memory}
use Rattle.block_read.specs.Blocks.{HasSamples, IsBlockOf}
use Rattle.block_read.proofs.First.{told_block, told_samples}
use Rattle.block_read.proofs.reading.read_any_block.Goals as goal

pub returns-in_err-rows-clause-refuses : goal.returns-in_err-rows-clause-refuses
returns-in_err-rows-clause-refuses c = λ e rows h.
    let same = told_block c.short_chunk.ensures c.args.block.now rows c.as_slice.result.now c.encoding_of-encoding.result c.as_slice.ensures c.encoding_of-encoding.ensures h in
    let full = c.read_as.ensures.refuses rows (subst (λ (d : Encoding). IsBlockOf d c.args.block.now rows) (sym same) h) in
    let was = IfErr-at_err (λ f. f ≡ Memory) c.in_err-rows.was full in
    let err = err_from_is_err_and c.from_residual.result c.from_residual.ensures.1 in
    subst (λ r. IfErr r (λ f. f ≡ Memory)) (sym err.1) (err.2 ∙ was)

pub returns-in_err-rows-clause-bad_index : goal.returns-in_err-rows-clause-bad_index
returns-in_err-rows-clause-bad_index c = λ fault was.
    let bad : c.read_as.result ≡ Err (Index fault) = search rules in
    c.read_as.ensures.bad_index fault bad

pub returns-in_err-rows-clause-bad_chunks : goal.returns-in_err-rows-clause-bad_chunks
returns-in_err-rows-clause-bad_chunks c = λ was.
    let bad : c.read_as.result ≡ Err BadChunks = search rules in
    let x = c.read_as.ensures.bad_chunks bad in (
      x.0,
      x.1,
      λ e samples h.
          let same = told_samples c.short_chunk.ensures c.args.block.now.chunks c.as_slice.result.now c.encoding_of-encoding.result x.0 samples c.as_slice.ensures c.encoding_of-encoding.ensures x.1.rows_are.some h in
          x.2 samples (subst (λ (d : Encoding). HasSamples d c.args.block.now.chunks x.0 samples) (sym same) h),
    )

pub returns-in_err-rows-clause-bad_meta : goal.returns-in_err-rows-clause-bad_meta
returns-in_err-rows-clause-bad_meta c = λ was.
    let bad : c.read_as.result ≡ Err BadMeta = search rules in
    let x = c.read_as.ensures.bad_meta bad in (
      x.0,
      x.1,
      c.encoding_of-encoding.result,
      x.2,
      x.3,
      x.4,
      x.5,
      λ d rows h.
          let same = told_block c.short_chunk.ensures c.args.block.now rows c.as_slice.result.now c.encoding_of-encoding.result c.as_slice.ensures c.encoding_of-encoding.ensures h in
          x.6 rows (subst (λ (f : Encoding). IsBlockOf f c.args.block.now rows) (sym same) h),
    )

pub returns-clause-only : goal.returns-clause-only
returns-clause-only c = λ e rows h.
    let same = told_block c.short_chunk.ensures c.args.block.now rows c.as_slice.result.now c.encoding_of-encoding.result c.as_slice.ensures c.encoding_of-encoding.ensures h in
    (same, c.in_ok-rows.ensures.only rows (subst (λ (d : Encoding). IsBlockOf d c.args.block.now rows) (sym same) h))
