use Rattle.std.proofs.Common.{rules, ◌≡◌, Err}
use Rattle.hw_bytes.specs.declared.write_fault.WriteFault.TheVariants.{TooLarge}
use Rattle.block_files.proofs.LayoutLaws.{opens, stays_open, too_many}
use Rattle.block_files.proofs.places.Placing.make_room.Goals as goal

pub returns-then-has_room-clause-open : goal.returns-then-has_room-clause-open
returns-then-has_room-clause-open c = λ all body n h.
    let room = c.has_room.ensures.0 c.if-has_room.true in
    stays_open c.args.encoding c.args.limit all body c.args.size c.args.self.now n room.0 room.1 h

pub returns-clause-open : goal.returns-clause-open
returns-clause-open c = λ all body n h.
    opens c.args.encoding c.args.limit all body c.args.size c.args.self.now c.begin.new.self c.has_room.result n c.has_room.ensures.1 c.if-has_room.false c.in_ok-begin.ensures.first c.in_ok-begin.ensures.another c.in_ok-begin.ensures.from c.in_ok-begin.ensures.none
    c.in_ok-begin.ensures.len h

pub returns-in_err-begin-clause-large : goal.returns-in_err-begin-clause-large
returns-in_err-begin-clause-large c = λ was all body n h.
    let bad : c.begin.result ≡ Err TooLarge = search rules in
    too_many c.args.encoding c.args.limit all body c.args.size c.args.self.now c.has_room.result n c.has_room.ensures.1 c.if-has_room.false (c.begin.ensures.large bad) h
