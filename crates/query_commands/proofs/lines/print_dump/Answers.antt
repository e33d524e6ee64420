use Rattle.std.proofs.Common.{rules, ◌≡◌, [], List, arith, string_bytes, subst, sym, take, ℕ}
use Rattle.std.proofs.lemmas.List.{take_all}
use Rattle.query_commands.specs.Dumps.{MakesLines}
use Rattle.query_commands.proofs.Dumped.{makes_dump, series_more}
use Rattle.query_commands.proofs.Growing.{makes_none}
use Rattle.query_commands.proofs.lines.print_dump.Goals as goal

pub loop-slot-init : goal.loop-slot-init
loop-slot-init g c =
    let none : string_bytes c.new-text.result ≡ [] = search rules in
    subst (λ (t : List ℕ). MakesLines g.O.Output.printed c.args.floats [] c.args.out.now [] c.args.out.now t) (sym none) (makes_none g.O.Output.printed c.args.floats c.args.out.now [])

-- the lines of the next series are made
pub loop-slot-preserved : goal.loop-slot-preserved
loop-slot-preserved g c =
    series_more g.O.Output.printed c.args.floats c.args.selection.now c.args.head.now.content c.args.slots.now c.loop-slot.slot-index c.slot-item.result c.args.out.now c.loop-slot.out c.print_series.new.out [] (string_bytes c.loop-slot.text) (string_bytes c.print_series.new.text)
    c.loop-slot-test.true c.slot-item.is c.loop-slot.invariant c.in_ok-print_series.ensures

pub returns : goal.returns
returns g c =
    let so_far = c.loop-slot.invariant in
    let all : take c.loop-slot.slot-index c.args.slots.now ≡ c.args.slots.now = take_all c.loop-slot.slot-index c.args.slots.now (omega (arith, c.loop-slot-test.false)) in
    makes_dump g.O.Output.printed c.args.floats c.args.selection.now c.args.head.now.content c.args.slots.now c.args.out.now c.loop-slot.out (string_bytes c.loop-slot.text) (rw all at so_far)
