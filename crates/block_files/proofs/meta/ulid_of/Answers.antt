use Rattle.std.proofs.Common.{◌≡◌, arith, sym, subst}
use Rattle.block_files.specs.Ulids.{IsUlid}
use Rattle.block_files.proofs.MetaLaws.{ulid_there, ulid_fits}
use Rattle.block_files.proofs.meta.ulid_of.Goals as goal

pub returns-then-text : goal.returns-then-text
returns-then-text c = λ meta h e. absurd (omega (arith, ulid_fits meta c.args.text.now e h.long, c.if-text.true))

pub returns : goal.returns
returns c = λ meta h e.
    let is : c.split_at-2.result.0.now ≡ meta.ulid = ulid_there meta c.args.text.now c.split_at.result.1.now c.split_at-2.result.0.now e c.split_at.ensures.back c.split_at-2.ensures.front h.long in
    let good : IsUlid c.split_at-2.result.0.now = subst IsUlid (sym is) h in
    grind (arith, is, good)
