-- The blocks among the names of a data directory, name after name.
use Rattle.std.proofs.Common.{◌≡◌, ℕ, ◌+◌, ◌<◌, List, [], ◌∷◌, ◌++◌, length, map, take, get_or, ap, sym, ◌∙◌, subst, arith, All, Any, length-append}
use Rattle.std.specs.Prelude.{String, string_bytes}
use Rattle.std.specs.declared.alloc.Global.{Global}
use Rattle.std.proofs.Math.ListN.{get_or-append}
use Rattle.std.proofs.lemmas.List.{map_more}
use Rattle.std.proofs.lemmas.List.Elements.{All-nil, All-push, All-weaker}
use Rattle.std.proofs.lemmas.List.Quantifiers.{Any-push}
use Rattle.block_files.specs.Ulids.{IsUlid}
use Rattle.store.specs.Views.{View}
use Rattle.log_directory.specs.declared.meta.BlockTimes.{BlockTimes}
use Rattle.log_directory.specs.Servers.{AreBlocksOf, IsBlockIn}

any_kept : {X : Type 0} (P : X → Type 0) (xs : List X) (y : X) → Any P xs → Any P (xs ++ y ∷ [])
any_kept P xs y (k, x, lt, e, p) = (k, x, omega (arith, length-append xs (y ∷ [])), get_or-append xs (y ∷ []) x k lt ∙ e, p)

pub no_blocks : (view : View) (dir : List ℕ) → AreBlocksOf view dir [] []
no_blocks view dir = record { each = All-nil (λ name. IsUlid name → Any (IsBlockIn view dir name) []); only = All-nil (λ times. Any (λ name. IsUlid name × IsBlockIn view dir name times) []) }

-- a name that is none of a block
pub other_name : (view : View) (dir : List ℕ) (names : List (List ℕ)) (name : List ℕ) (blocks : List BlockTimes) → AreBlocksOf view dir names blocks
    → (IsUlid name → ⊥) → AreBlocksOf view dir (names ++ name ∷ []) blocks
other_name view dir names name blocks are none = record {
  each = All-push (λ name. IsUlid name → Any (IsBlockIn view dir name) blocks) names name are.each (λ is. absurd (none is));
  only = All-weaker (λ times. Any (λ name. IsUlid name × IsBlockIn view dir name times) names) (λ times. Any (λ name. IsUlid name × IsBlockIn view dir name times) (names ++ name ∷ []))
      (λ times. any_kept (λ name. IsUlid name × IsBlockIn view dir name times) names name) blocks are.only;
}

-- a block's name
pub one_more : (view : View) (dir : List ℕ) (names : List (List ℕ)) (name : List ℕ) (blocks : List BlockTimes) (block : BlockTimes) → AreBlocksOf view dir names blocks
    → IsUlid name → IsBlockIn view dir name block → AreBlocksOf view dir (names ++ name ∷ []) (blocks ++ block ∷ [])
one_more view dir names name blocks block are ulid is = record {
  each = All-push (λ name. IsUlid name → Any (IsBlockIn view dir name) (blocks ++ block ∷ [])) names name
      (All-weaker (λ name. IsUlid name → Any (IsBlockIn view dir name) blocks) (λ name. IsUlid name → Any (IsBlockIn view dir name) (blocks ++ block ∷ []))
      (λ name found u. any_kept (IsBlockIn view dir name) blocks block (found u)) names are.each)
      (λ u. Any-push (IsBlockIn view dir name) blocks block is);
  only = All-push (λ times. Any (λ name. IsUlid name × IsBlockIn view dir name times) (names ++ name ∷ [])) blocks block
      (All-weaker (λ times. Any (λ name. IsUlid name × IsBlockIn view dir name times) names) (λ times. Any (λ name. IsUlid name × IsBlockIn view dir name times) (names ++ name ∷ []))
      (λ times. any_kept (λ name. IsUlid name × IsBlockIn view dir name times) names name) blocks are.only)
      (Any-push (λ name. IsUlid name × IsBlockIn view dir name block) names name (ulid, is));
}

-- the names so far, with the next
next_name : (names : List (String Global)) (i : ℕ) (item : String Global) → i < length names → item ≡ get_or names i item
    → map string_bytes (take (i + 1) names) ≡ map string_bytes (take i names) ++ string_bytes item ∷ []
next_name names i item lt is = map_more string_bytes names i item lt ∙ ap (λ (it : String Global). map string_bytes (take i names) ++ string_bytes it ∷ []) (sym is)

pub name_passed : (view : View) (dir : List ℕ) (names : List (String Global)) (i : ℕ) (item : String Global) (text : List ℕ) (blocks new : List BlockTimes) → i < length names → item ≡ get_or names i item → text ≡ string_bytes item
    → AreBlocksOf view dir (map string_bytes (take i names)) blocks → (IsUlid text → ⊥) → new ≡ blocks → AreBlocksOf view dir (map string_bytes (take (i + 1) names)) new
name_passed view dir names i item text blocks new lt is spelled are none same =
    let more : AreBlocksOf view dir (map string_bytes (take (i + 1) names)) blocks = subst (λ (all : List (List ℕ)). AreBlocksOf view dir all blocks) (sym (next_name names i item lt is))
    (other_name view dir (map string_bytes (take i names)) (string_bytes item) blocks are (subst (λ (t : List ℕ). IsUlid t → ⊥) spelled none)) in
    subst (λ (all : List BlockTimes). AreBlocksOf view dir (map string_bytes (take (i + 1) names)) all) (sym same) more

pub name_taken : (view : View) (dir : List ℕ) (names : List (String Global)) (i : ℕ) (item : String Global) (text : List ℕ) (blocks new : List BlockTimes) (block : BlockTimes) → i < length names → item ≡ get_or names i item
    → text ≡ string_bytes item → AreBlocksOf view dir (map string_bytes (take i names)) blocks → IsUlid text → IsBlockIn view dir text block → new ≡ blocks ++ block ∷ []
    → AreBlocksOf view dir (map string_bytes (take (i + 1) names)) new
name_taken view dir names i item text blocks new block lt is spelled are ulid in_dir same =
    let more : AreBlocksOf view dir (map string_bytes (take (i + 1) names)) (blocks ++ block ∷ []) = subst (λ (all : List (List ℕ)). AreBlocksOf view dir all (blocks ++ block ∷ [])) (sym (next_name names i item lt is))
    (one_more view dir (map string_bytes (take i names)) (string_bytes item) blocks block are (subst IsUlid spelled ulid) (subst (λ (t : List ℕ). IsBlockIn view dir t block) spelled in_dir)) in
    subst (λ (all : List BlockTimes). AreBlocksOf view dir (map string_bytes (take (i + 1) names)) all) (sym same) more
