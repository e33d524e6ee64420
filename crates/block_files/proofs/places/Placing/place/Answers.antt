use Rattle.std.proofs.Common.{◌+◌, sym, subst, refl, arith}
use Rattle.block_files.specs.Layouts.{IsOpen, Layout}
use Rattle.block_files.proofs.LayoutLaws.{open_reference, put_stands}
use Rattle.block_files.proofs.places.Placing.place.Goals as goal

pub returns-clause-stands : goal.returns-clause-stands
returns-clause-stands c = λ all body n h.
    let size = sym (c.element_len-size.ensures.size body n) in
    let now : Layout = record { full = c.self.inside.full.items; last = c.self.inside.last; len = c.self.inside.len } in
    let room = subst (λ (p : Layout). IsOpen c.args.encoding c.args.limit all body p) (sym c.self.view_is) (c.in_ok-make_room.ensures.open all body size h) in
    put_stands c.args.encoding c.args.limit all body c.element_len-size.result now
    record { full = c.self.inside.full.items; last = record { first = c.self.inside.last.first; count = c.self.inside.last.count + 1 }; len = c.self.inside.len + c.element_len-size.result } size refl refl refl refl room

pub returns-clause-reference : goal.returns-clause-reference
returns-clause-reference c = λ all body n h.
    let size = sym (c.element_len-size.ensures.size body n) in
    let now : Layout = record { full = c.self.inside.full.items; last = c.self.inside.last; len = c.self.inside.len } in
    let room = subst (λ (p : Layout). IsOpen c.args.encoding c.args.limit all body p) (sym c.self.view_is) (c.in_ok-make_room.ensures.open all body size h) in
    omega (arith, open_reference c.args.encoding c.args.limit all body now room, c.len-file.ensures, c.self.inside.full.ok)
