use Rattle.std.proofs.Common.{rules, ◌≡◌, ◌∙◌, true, [], get_or, length, sym, ap, arith, Err}
use Rattle.block_read.specs.declared.fault.PartFault.TheVariants.{Bad}
use Rattle.block_files.specs.Files.{texts}
use Rattle.block_read.specs.Blocks.{chunks_of_rows, files_of}
use Rattle.block_read.proofs.AllRows.{all_taken, as_many, first_more, here_at, so_far_all, so_far_more, so_far_none}
use Rattle.block_read.proofs.samples.read_samples.Goals as goal

pub loop-row-init : goal.loop-row-init
loop-row-init c = (so_far_none c.args.encoding c.args.rows.now c.new-again.result c.new-samples.result.items c.new-again.ensures.limit c.new-again.ensures.encoding c.new-again.ensures.none c.new-samples.ensures.items, λ all h. c.new-samples.ensures.items)

pub loop-row-preserved : goal.loop-row-preserved
loop-row-preserved c =
    let so_far = c.loop-row.invariant.0 in (
      so_far_more c.args.rows.now c.loop-row.again c.read_checked_row.new.again c.loop-row.samples.items c.push.new.self.items c.loop-row.row-index c.row-item.result c.in_ok-read.read.items c.from_vec.result c.loop-row-test.true c.row-item.is so_far
          c.read_checked_row.ensures.limit c.read_checked_row.ensures.encoding c.in_ok-read.ensures.column (c.in_ok-read.ensures.written (texts (chunks_of_rows c.args.encoding c.loop-row.samples.items)) so_far.files)
          (sym c.as_slice.ensures ∙ c.in_ok-read.ensures.named (texts (chunks_of_rows c.args.encoding c.loop-row.samples.items)) so_far.files) c.from_vec.ensures c.in_ok-push.ensures.items,
      λ all h.
          let first = c.loop-row.invariant.1 all h in
          let here = here_at c.short_chunk.ensures c.args.files.now c.args.rows.now all c.loop-row.samples.items c.loop-row.row-index c.row-item.result c.as_slice.result.now c.loop-row-test.true c.row-item.is c.as_slice.ensures first h in
          first_more all c.loop-row.samples.items c.push.new.self.items c.loop-row.row-index c.in_ok-read.read.items c.from_vec.result (omega (arith, as_many c.args.files.now c.args.rows.now all h, c.loop-row-test.true)) first
          (c.in_ok-read.ensures.only (get_or all c.loop-row.row-index []) here.column here.are_there) c.from_vec.ensures c.in_ok-push.ensures.items,
    )

pub returns-in_err-read-clause-bad : goal.returns-in_err-read-clause-bad
returns-in_err-read-clause-bad c = λ was all h.
    let bad : c.read_checked_row.result ≡ Err Bad = search rules in
    let here = here_at c.short_chunk.ensures c.args.files.now c.args.rows.now all c.loop-row.samples.items c.loop-row.row-index c.row-item.result c.as_slice.result.now c.loop-row-test.true c.row-item.is c.as_slice.ensures (c.loop-row.invariant.1 all h) h in
    c.read_checked_row.ensures.bad bad (texts (chunks_of_rows c.args.encoding c.loop-row.samples.items)) c.loop-row.invariant.0.files (get_or all c.loop-row.row-index []) here.column here.are_there here.named here.few

pub returns-then-not-are_same-clause-bad : goal.returns-then-not-are_same-clause-bad
returns-then-not-are_same-clause-bad c = λ was all h.
    let is = all_taken c.args.files.now c.args.rows.now all c.loop-row.samples.items c.loop-row.row-index c.loop-row-test.false (c.loop-row.invariant.1 all h) h in
    let same : c.deref.result.now ≡ c.args.files.now = c.deref.ensures.value ∙ c.in_ok-written.ensures.files ∙ c.loop-row.invariant.0.files ∙ ap (files_of c.args.encoding) is ∙ sym h.files_are in
    let yes : c.are_same.result ≡ true = c.are_same.ensures.complete same in
    absurd (cc (yes, c.if-not-are_same.true))

pub returns-clause-found : goal.returns-clause-found
returns-clause-found c =
    let same : c.deref.result.now ≡ c.args.files.now = c.are_same.ensures.sound c.if-not-are_same.false in
    so_far_all c.args.files.now c.args.rows.now c.loop-row.again c.loop-row.samples.items c.loop-row.row-index c.loop-row-test.false c.loop-row.invariant.0 (sym (c.deref.ensures.value ∙ c.in_ok-written.ensures.files) ∙ same)
    (omega (arith, c.in_ok-written.ensures.few, ap length same, ap length c.deref.ensures.value))

pub returns-clause-only : goal.returns-clause-only
returns-clause-only c = λ all h. all_taken c.args.files.now c.args.rows.now all c.loop-row.samples.items c.loop-row.row-index c.loop-row-test.false (c.loop-row.invariant.1 all h) h
