use Rattle.std.proofs.Common.{rules, ◌≡◌, get_or, refl, Err}
use Rattle.hw_bytes.specs.declared.write_fault.WriteFault.TheVariants.{TooLarge}
use Rattle.block_files.specs.Places.{span_of}
use Rattle.block_files.proofs.LayoutLaws.{flat_stands, no_chunk, row_stands, row_step, row_too_many}
use Rattle.block_files.proofs.places.Placing.place_row.Goals as goal

pub loop-span-preserved : goal.loop-span-preserved
loop-span-preserved c = λ before chunks same h.
    row_step c.args.encoding c.args.limit before chunks c.args.row.now c.loop-span.span-index (span_of no_chunk) (get_or c.args.row.now c.loop-span.span-index (span_of no_chunk)) c.loop-span.self c.place.new.self c.loop-span.found.items c.push.new.self.items c.in_ok-place.field-0
    c.loop-span-test.true refl same c.in_ok-place.ensures.stands c.in_ok-place.ensures.reference c.in_ok-push.ensures.items (c.loop-span.invariant before chunks same h)

pub returns-clause-stands : goal.returns-clause-stands
returns-clause-stands c = λ before chunks same h.
    flat_stands c.args.encoding c.args.limit before chunks c.loop-span.self c.loop-span.found.items
    (row_stands c.args.encoding c.args.limit before chunks c.args.row.now c.loop-span.span-index c.loop-span.self c.loop-span.found.items c.loop-span-test.false same (c.loop-span.invariant before chunks same h))

pub returns-clause-references : goal.returns-clause-references
returns-clause-references c = λ before chunks same h.
    (row_stands c.args.encoding c.args.limit before chunks c.args.row.now c.loop-span.span-index c.loop-span.self c.loop-span.found.items c.loop-span-test.false same (c.loop-span.invariant before chunks same h)).found_is

pub returns-in_err-place-clause-large : goal.returns-in_err-place-clause-large
returns-in_err-place-clause-large c = λ was before chunks same h.
    let bad : c.place.result ≡ Err TooLarge = search rules in
    row_too_many c.args.encoding c.args.limit before chunks c.args.row.now c.loop-span.span-index (span_of no_chunk) (get_or c.args.row.now c.loop-span.span-index (span_of no_chunk)) c.loop-span.self c.loop-span.found.items c.loop-span-test.true refl same (c.place.ensures.large bad)
    (c.loop-span.invariant before chunks same h)
