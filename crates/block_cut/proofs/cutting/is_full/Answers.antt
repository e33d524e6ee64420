use Rattle.std.proofs.Common.{◌≡◌, ℤ, IsTrue, rules, sym, subst, of_z, to_z, w64}
use Rattle.std.proofs.lemmas.Int.{to_z-of_z}
use Rattle.head_column.specs.Hours.{is_in_hour}
use Rattle.block_cut.proofs.Full.{full_both, full_none, full_test}
use Rattle.block_cut.proofs.cutting.is_full.Goals as goal

pub returns-in-None : goal.returns-in-None
returns-in-None c = (let test = full_none c.args.head.now.content c.args.hour (sym c.in-None.ensures) in record { full = full_both c.args.head.now.content c.args.hour _ test; test = test })

pub returns-in-Some : goal.returns-in-Some
returns-in-Some c =
    let t : to_z w64 (of_z w64 c.in-Some.time) ≡ c.in-Some.time = search (rules, to_z-of_z) in
    let inside = subst (λ (u : ℤ). IsTrue (is_in_hour c.of.result u)) t c.of.ensures in
    let test = full_test c.args.head.now.content c.args.hour c.of.result c.in-Some.time c.is_before.result (sym c.in-Some.ensures) inside c.is_before.ensures.0 c.is_before.ensures.1 in
    record { full = full_both c.args.head.now.content c.args.hour _ test; test = test }
