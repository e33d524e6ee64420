-- The blocks in a server's data directory, by what is seen of it, and the least valid time that they give.
use Rattle.std.specs.Prelude.{◌≡◌, ℕ, ℤ, ◌^◌, ◌-◌, negsuc, List, All, Any, Option, codes, unwrap_or}
use Rattle.std.specs.Path.{path_join}
use Rattle.block_files.specs.Ulids.{IsUlid}
use Rattle.store.specs.Views.{View}
use Rattle.log_directory.specs.declared.meta.BlockTimes.{BlockTimes}
use Rattle.log_directory.specs.Greatest.{IsGreatest, times_in_order}
use Rattle.log_directory.specs.Metas.{IsMetaText}

-- the block of this name in a data directory, by the bytes of its meta.json
abbrev pub IsBlockIn : View → List ℕ → List ℕ → BlockTimes → Type 0
IsBlockIn view dir name times = (bytes : List ℕ) × view.bytes (path_join dir name) (codes "meta.json") bytes × IsMetaText bytes times

-- The blocks among these names in a data directory: one of each name that is a ULID, and no others.
pub record AreBlocksOf (view : View) (dir : List ℕ) (names : List (List ℕ)) (blocks : List BlockTimes) : Type 0 where
  pub each : All (λ name. IsUlid name → Any (IsBlockIn view dir name) blocks) names
  pub only : All (λ times. Any (λ name. IsUlid name × IsBlockIn view dir name times) names) blocks

-- The blocks in a data directory.
pub record AreBlocksIn (view : View) (dir : List ℕ) (blocks : List BlockTimes) : Type 0 where
  pub names : List (List ℕ)
  pub listed : view.names dir names
  pub blocks_of : AreBlocksOf view dir names blocks

-- the least of all times, before which nothing is
abbrev pub no_limit : ℤ
no_limit = negsuc (2 ^ 63 - 1)

-- The least valid time of a server with this data directory: the greatest of its blocks that were not made of samples that came late.
pub record IsLeastValidOf (view : View) (dir : List ℕ) (least : ℤ) : Type 0 where
  pub blocks : List BlockTimes
  pub in_data : AreBlocksIn view dir blocks
  pub greatest : Option ℤ
  pub of_blocks : IsGreatest (times_in_order blocks) greatest
  pub is : least ≡ unwrap_or greatest no_limit
