-- The folder of a block, written in parts: it is begun, filled, and finished.
use Rattle.std.specs.Prelude.{ℕ, ◌≡◌, ◌<◌, true, List, [], ◌∷◌, ◌++◌, length, Result, Ok, Err, refl}
use Rattle.std.proofs.Common.{subst, sym}
use Rattle.store.specs.Calls.{Call, CreateDir}
use Rattle.store.specs.Disk.{is_in}
use Rattle.block_read.specs.declared.block.Block.{Block}
use Rattle.new_files.specs.Folders.{AreInside, FileAt, create_dirs, files_calls, new_folder}
use Rattle.new_files.specs.Orders.{DidAll, DidFirst, Follows}
use Rattle.new_files.specs.Targets.{TargetPaths, unfinished_of}
use Rattle.new_files.proofs.FolderSafe.{begun_first, finishing, is_safe, not_ended, then_finished}
use Rattle.new_files.proofs.Orders.{all_both, first_behind, first_of_more}
use Rattle.new_files.proofs.Paths.{unfinished_longer}
use Rattle.new_files.proofs.Safety.{for_less}
use Rattle.block_commands.specs.Folders.{WritesFolder, block_files, chunks_in}
use Rattle.block_commands.proofs.Folders.{block_inside}

module _ {S : Type 0} (did : S → List Call → S → Type 0) (did_both : (old middle new : S) (first second : List Call) → did old first middle → did middle second new → did old (first ++ second) new)
    (at : TargetPaths) (block : Block) (behind : at.unfinished ≡ unfinished_of at.path) (W : Type 0) where
  abbrev dirs : List (List ℕ)
  dirs = chunks_in at.unfinished ∷ []

  abbrev files : List FileAt
  files = block_files at.unfinished (chunks_in at.unfinished) block

  abbrev begun : List Call
  begun = CreateDir at.unfinished ∷ create_dirs dirs

  shorter : length at.path < length at.unfinished
  shorter = subst (λ (u : List ℕ). length at.path < length u) (sym behind) (unfinished_longer at.path)

  inside : AreInside at.unfinished dirs files
  inside = block_inside at.unfinished (chunks_in at.unfinished) block files refl refl

  -- it was not even begun whole
  pub not_begun : (old new : S) → (W → ⊥) → DidFirst did old begun new → WritesFolder did old at block W new
  not_begun old new failed first =
      not_ended did old at.parent at.path at.unfinished dirs files W new failed shorter inside (begun_first did at.parent at.path at.unfinished dirs files old new (first_of_more did old new begun (files_calls files) first))

  -- it was begun and not filled
  pub not_filled : (old middle new : S) → (W → ⊥) → DidAll did old begun middle → DidFirst did middle (files_calls files) new → WritesFolder did old at block W new
  not_filled old middle new failed all first =
      not_ended did old at.parent at.path at.unfinished dirs files W new failed shorter inside (begun_first did at.parent at.path at.unfinished dirs files old new (first_behind did did_both old middle new begun (files_calls files) all first))

  -- it was filled, and finished or not
  pub was_filled : {T E : Type 0} (old middle filled new : S) (result : Result T E) → is_in at.parent at.path ≡ true → DidAll did old begun middle → DidAll did middle (files_calls files) filled
      → Follows did filled (finishing at.parent at.path at.unfinished dirs) result new → Follows did old (new_folder at.parent at.path at.unfinished dirs files) result new
  was_filled old middle filled new result within all more last =
      then_finished did at.parent at.path at.unfinished dirs files did_both old filled new result (all_both did did_both old middle filled begun (files_calls files) all more) last

  pub not_finished : {E : Type 0} (old middle filled new : S) (fault : E) → is_in at.parent at.path ≡ true → (W → ⊥) → DidAll did old begun middle → DidAll did middle (files_calls files) filled
      → DidFirst did filled (finishing at.parent at.path at.unfinished dirs) new → WritesFolder did old at block W new
  not_finished {E} old middle filled new fault within failed all more last =
      not_ended did old at.parent at.path at.unfinished dirs files W new failed shorter inside (was_filled {T = E} {E = E} old middle filled new (Err fault) within all more last)

  pub finished : (old middle filled new : S) → is_in at.parent at.path ≡ true → DidAll did old begun middle → DidAll did middle (files_calls files) filled
      → DidAll did filled (finishing at.parent at.path at.unfinished dirs) new → WritesFolder did old at block W new
  finished old middle filled new within all more last =
      for_less did old _ _ new W _ (λ w. refl) (is_safe {T = S} {E = S} did old at.parent at.path at.unfinished dirs files (Ok new) new shorter within inside (was_filled {T = S} {E = S} old middle filled new (Ok new) within all more last))

-- what holds of two paths holds of the same paths, spelled otherwise
pub at_paths : (P : List ℕ → List ℕ → Type 0) (u v d e : List ℕ) → u ≡ v → d ≡ e → P u d → P v e
at_paths P u v d e uv de has = subst (λ (y : List ℕ). P v y) de (subst (λ (x : List ℕ). P x d) uv has)
