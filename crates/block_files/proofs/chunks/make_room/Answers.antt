use Rattle.std.proofs.Common.{rules, ◌≡◌, length, ap, arith, Err}
use Rattle.hw_bytes.specs.declared.write_fault.WriteFault.TheVariants.{TooLarge}
use Rattle.block_files.proofs.FileLaws.{stays, moves, moves_length, no_room}
use Rattle.block_files.proofs.chunks.make_room.Goals as goal

pub returns-then-has_room-clause-placed : goal.returns-then-has_room-clause-placed
returns-then-has_room-clause-placed c = λ body n.
    let room = c.has_room.ensures.0 c.if-has_room.true in
    stays c.args.encoding c.args.limit c.args.full.now.items c.args.last.now.items body (omega (arith, room.0, ap length c.deref.ensures.value)) (omega (arith, room.1, n, ap length c.deref.ensures.value))

pub returns-clause-placed : goal.returns-clause-placed
returns-clause-placed c = λ body n.
    rw c.in_ok-begin_file.ensures.begun
    (moves c.args.encoding c.args.limit c.begin_file.new.full.items c.args.full.now.items c.args.last.now.items body c.requires.held
    (no_room c.has_room.result c.args.encoding c.args.limit c.deref.result.now c.args.last.now.items body c.args.len c.deref.ensures.value n c.has_room.ensures.1 c.if-has_room.false) c.in_ok-begin_file.ensures.files)

pub returns-in_err-begin_file-clause-large : goal.returns-in_err-begin_file-clause-large
returns-in_err-begin_file-clause-large c = λ e body n.
    let bad : c.begin_file.result ≡ Err TooLarge = search rules in
    omega (
      arith,
      c.begin_file.ensures.large bad,
      moves_length c.args.encoding c.args.limit c.args.full.now.items c.args.last.now.items body c.requires.held
          (no_room c.has_room.result c.args.encoding c.args.limit c.deref.result.now c.args.last.now.items body c.args.len c.deref.ensures.value n c.has_room.ensures.1 c.if-has_room.false),
    )
