use Rattle.std.proofs.Common.{rules, ◌≡◌, arith, Err}
use Rattle.hw_bytes.specs.declared.write_fault.WriteFault.TheVariants.{TooLarge}
use Rattle.block_files.proofs.RowLaws.{chunk_short, row_added, row_count, row_references_are, row_too_large}
use Rattle.block_files.proofs.files.ChunkFiles.add_row.Goals as goal

pub add-requires : goal.add-requires
add-requires c = chunk_short c.args.row.now c.loop-chunk.chunk-index c.chunk-item.result c.loop-chunk-test.true c.chunk-item.is c.requires.short

pub loop-chunk-preserved : goal.loop-chunk-preserved
loop-chunk-preserved c =
    row_added c.args.self.now c.loop-chunk.self c.add.new.self c.args.row.now c.loop-chunk.chunk-index c.chunk-item.result c.loop-chunk.found.items c.push.new.self.items c.in_ok-add.field-0 c.loop-chunk-test.true c.chunk-item.is c.loop-chunk.invariant
    c.add.ensures.encoding c.add.ensures.limit c.in_ok-add.ensures.files c.in_ok-add.ensures.reference c.in_ok-push.ensures.items

pub returns-clause-references : goal.returns-clause-references
returns-clause-references c = λ before e. row_references_are c.args.self.now c.loop-chunk.self before c.args.row.now c.loop-chunk.chunk-index c.loop-chunk.found.items c.loop-chunk-test.false e c.loop-chunk.invariant

pub returns-in_err-add-clause-large : goal.returns-in_err-add-clause-large
returns-in_err-add-clause-large c = λ before e was.
    let bad : c.add.result ≡ Err TooLarge = search rules in
    omega (arith, c.add.ensures.large bad, row_too_large c.args.self.now c.loop-chunk.self before c.args.row.now c.loop-chunk.chunk-index c.chunk-item.result c.loop-chunk.found.items c.loop-chunk-test.true c.chunk-item.is e c.loop-chunk.invariant)

pub returns-clause-count : goal.returns-clause-count
returns-clause-count c = row_count c.args.self.now c.loop-chunk.self c.args.row.now c.loop-chunk.chunk-index c.loop-chunk.found.items c.loop-chunk-test.false c.loop-chunk.invariant
