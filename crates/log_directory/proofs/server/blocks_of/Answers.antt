use Rattle.std.proofs.Common.{rules, ◌≡◌, List, [], ◌∷◌, ◌++◌, true, false, sym, ap, ◌∙◌}
use Rattle.std.proofs.lemmas.Bool.{true≢false}
use Rattle.std.specs.Prelude.{Vec}
use Rattle.std.specs.declared.alloc.Global.{Global}
use Rattle.log_directory.specs.declared.meta.BlockTimes.{BlockTimes}
use Rattle.std.specs.Prelude.{string_bytes}
use Rattle.block_files.specs.Ulids.{IsUlid}
use Rattle.store.specs.Views.{view_of}
use Rattle.log_directory.proofs.Blocks.{name_passed, name_taken}
use Rattle.log_directory.proofs.server.blocks_of.Goals as goal
use Rattle.log_directory.proofs.server.blocks_of.Goals.{then-is_ulid+in_ok-block+in_ok-push, else-is_ulid}

pub loop-name-preserved : goal.loop-name-preserved
loop-name-preserved g c =
    let spelled : c.as_str-text.result.now ≡ string_bytes c.name-item.result = search rules in
    elim c.if-is_ulid.branch [
      | then-is_ulid+in_ok-block+in_ok-push w ↦
          let ulid : IsUlid c.as_str-text.result.now = c.is_ulid.ensures.0 w.if-is_ulid.true in
          let new : c.if-is_ulid.blocks.items ≡ c.loop-name.blocks.items ++ w.in_ok-block.block ∷ [] = ap (λ (v : Vec BlockTimes Global). v.items) w.blocks-is ∙ w.in_ok-push.ensures.items in
          name_taken (view_of (g.S.Store.holds c.args.store.now)) c.args.dir.now c.args.names.now c.loop-name.name-index c.name-item.result c.as_str-text.result.now c.loop-name.blocks.items c.if-is_ulid.blocks.items w.in_ok-block.block
          c.loop-name-test.true c.name-item.is spelled c.loop-name.invariant ulid w.in_ok-block.ensures new
      | else-is_ulid w ↦
          let same : c.if-is_ulid.blocks.items ≡ c.loop-name.blocks.items = ap (λ (v : Vec BlockTimes Global). v.items) w.blocks-is in
          let none : IsUlid c.as_str-text.result.now → ⊥ = λ ulid. let yes : c.is_ulid.result ≡ true = c.is_ulid.ensures.1 ulid in let no : c.is_ulid.result ≡ false = w.if-is_ulid.false in absurd (true≢false (sym yes ∙ no)) in
          name_passed (view_of (g.S.Store.holds c.args.store.now)) c.args.dir.now c.args.names.now c.loop-name.name-index c.name-item.result c.as_str-text.result.now c.loop-name.blocks.items c.if-is_ulid.blocks.items
          c.loop-name-test.true c.name-item.is spelled c.loop-name.invariant none same
    ]
