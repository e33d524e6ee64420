-- The calls that write chunk files, one file after another, and then the other files of a block.
use Rattle.std.specs.Prelude.{ℕ, ◌≡◌, ◌+◌, ◌<◌, List, [], ◌∷◌, ◌++◌, length, take, drop, codes, refl, Result, Err}
use Rattle.std.specs.Path.{path_join}
use Rattle.std.proofs.Common.{ap, append_assoc, append-nil, get_or, subst, sym, ◌∙◌}
use Rattle.std.proofs.lemmas.List.{get_or_default, take-append-drop}
use Rattle.hw_bytes.specs.Sums.{Text}
use Rattle.block_read.specs.declared.block.Block.{Block}
use Rattle.store.specs.Calls.{Call}
use Rattle.new_files.specs.Files.{file_calls}
use Rattle.new_files.specs.Folders.{FileAt, files_calls}
use Rattle.new_files.specs.Orders.{DidAll, DidFirst, Follows}
use Rattle.new_files.specs.Targets.{zero_filled}
use Rattle.new_files.proofs.Orders.{all_both, first_behind, first_of_more, handed_on, then_follows}
use Rattle.block_commands.specs.Folders.{block_files, chunk_paths, named}
use Rattle.block_commands.proofs.Folders.{one_more, paths-append}

calls-append : (a b : List FileAt) → files_calls (a ++ b) ≡ files_calls a ++ files_calls b
calls-append [] b = refl
calls-append (x ∷ a) b = ap (λ more. file_calls x.path x.bytes ++ more) (calls-append a b) ∙ sym (append_assoc (file_calls x.path x.bytes) (files_calls a) (files_calls b))

abbrev chunk_calls : List ℕ → List Text → List Call
chunk_calls dir chunks = files_calls (chunk_paths dir 1 chunks)

module _ (dir : List ℕ) (chunks : List Text) (i : ℕ) (number : ℕ) (text : Text) (lt : i < length chunks) (is : text ≡ get_or chunks i []) (n : number ≡ i + 1) where
  abbrev here : List Call
  here = file_calls (path_join dir (zero_filled 6 number)) text

  text_is : text ≡ get_or chunks i text
  text_is = is ∙ get_or_default chunks i [] text lt

  -- the calls of one file more
  with_one_more : chunk_calls dir (take (i + 1) chunks) ≡ chunk_calls dir (take i chunks) ++ here
  with_one_more =
      ap files_calls (one_more dir i chunks text (zero_filled 6 number) text lt text_is (ap (zero_filled 6) n) refl)
      ∙ calls-append (chunk_paths dir 1 (take i chunks)) (named dir (zero_filled 6 number) text ∷ [])
      ∙ ap (λ more. chunk_calls dir (take i chunks) ++ more) (append-nil here)

  -- the calls of all files, from this one on
  abbrev rest : List Call
  rest = files_calls (chunk_paths dir (1 + length (take (i + 1) chunks)) (drop (i + 1) chunks))

  with_the_rest : chunk_calls dir chunks ≡ chunk_calls dir (take i chunks) ++ (here ++ rest)
  with_the_rest =
      ap (chunk_calls dir) (sym (take-append-drop (i + 1) chunks))
      ∙ ap files_calls (paths-append dir 1 (take (i + 1) chunks) (drop (i + 1) chunks))
      ∙ calls-append (chunk_paths dir 1 (take (i + 1) chunks)) (chunk_paths dir (1 + length (take (i + 1) chunks)) (drop (i + 1) chunks))
      ∙ ap (λ first. first ++ rest) with_one_more ∙ append_assoc (chunk_calls dir (take i chunks)) here rest

  module _ {S : Type 0} (did : S → List Call → S → Type 0) (did_both : (old middle new : S) (first second : List Call) → did old first middle → did middle second new → did old (first ++ second) new)
      (old middle new : S) (before : DidAll did old (chunk_calls dir (take i chunks)) middle) where
    pub goes_on : DidAll did middle here new → DidAll did old (chunk_calls dir (take (i + 1) chunks)) new
    goes_on done = subst (λ all. DidAll did old all new) (sym with_one_more) (all_both did did_both old middle new (chunk_calls dir (take i chunks)) here before done)

    pub ends : {T E : Type 0} (result : Result T E) (fault : E) → result ≡ Err fault → DidFirst did middle here new → Follows did old (chunk_calls dir chunks) result new
    ends result fault e first = handed_on did old new (chunk_calls dir chunks) result fault e (subst (λ all. DidFirst did old all new) (sym with_the_rest)
        (first_behind did did_both old middle new (chunk_calls dir (take i chunks)) (here ++ rest) before (first_of_more did middle new here rest first)))

-- the calls of the files of a block
pub block_calls : (folder dir : List ℕ) (block : Block) → file_calls (path_join folder (codes "index")) block.index
    ++ (chunk_calls dir block.chunks ++ (file_calls (path_join folder (codes "tombstones")) block.tombstones ++ file_calls (path_join folder (codes "meta.json")) block.meta)) ≡ files_calls (block_files folder dir block)
block_calls folder dir block =
    let index = file_calls (path_join folder (codes "index")) block.index in
    let stones = named folder (codes "tombstones") block.tombstones in
    let meta = named folder (codes "meta.json") block.meta in
    ap (λ more. index ++ (chunk_calls dir block.chunks ++ (file_calls stones.path stones.bytes ++ more))) (sym (append-nil (file_calls meta.path meta.bytes)))
    ∙ ap (λ more. index ++ more) (sym (calls-append (chunk_paths dir 1 block.chunks) (stones ∷ meta ∷ [])))

-- the files of a block, of which these are the bytes, written in their order
module _ {S : Type 0} (did : S → List Call → S → Type 0) (did_both : (old middle new : S) (first second : List Call) → did old first middle → did middle second new → did old (first ++ second) new)
    (folder dir : List ℕ) (block : Block) where
  abbrev index : List Call
  index = file_calls (path_join folder (codes "index")) block.index

  abbrev chunk_files : List Call
  chunk_files = chunk_calls dir block.chunks

  abbrev tombstones : List Call
  tombstones = file_calls (path_join folder (codes "tombstones")) block.tombstones

  abbrev meta : List Call
  meta = file_calls (path_join folder (codes "meta.json")) block.meta

  abbrev all_files : List Call
  all_files = files_calls (block_files folder dir block)

  first_of_files : {T E : Type 0} (old new : S) (result : Result T E) (fault : E) → result ≡ Err fault → DidFirst did old (index ++ (chunk_files ++ (tombstones ++ meta))) new → Follows did old all_files result new
  first_of_files old new result fault e first = handed_on did old new all_files result fault e (subst (λ all. DidFirst did old all new) (block_calls folder dir block) first)

  pub without_index : {T E : Type 0} (old new : S) (result : Result T E) (fault : E) → result ≡ Err fault → DidFirst did old index new → Follows did old all_files result new
  without_index old new result fault e first = first_of_files old new result fault e (first_of_more did old new index (chunk_files ++ (tombstones ++ meta)) first)

  pub without_chunks : {T E : Type 0} (old a new : S) (result : Result T E) (fault : E) → result ≡ Err fault → DidAll did old index a → DidFirst did a chunk_files new → Follows did old all_files result new
  without_chunks old a new result fault e one first =
      first_of_files old new result fault e (first_behind did did_both old a new index (chunk_files ++ (tombstones ++ meta)) one (first_of_more did a new chunk_files (tombstones ++ meta) first))

  pub without_tombstones : {T E : Type 0} (old a b new : S) (result : Result T E) (fault : E) → result ≡ Err fault → DidAll did old index a → DidAll did a chunk_files b → DidFirst did b tombstones new → Follows did old all_files result new
  without_tombstones old a b new result fault e one two first =
      first_of_files old new result fault e (first_behind did did_both old a new index (chunk_files ++ (tombstones ++ meta)) one
      (first_behind did did_both a b new chunk_files (tombstones ++ meta) two (first_of_more did b new tombstones meta first)))

  pub with_meta : {T E : Type 0} (old a b c new : S) (result : Result T E) → DidAll did old index a → DidAll did a chunk_files b → DidAll did b tombstones c → Follows did c meta result new → Follows did old all_files result new
  with_meta old a b c new result one two three last =
      subst (λ all. Follows did old all result new) (block_calls folder dir block) (then_follows did did_both old a new index (chunk_files ++ (tombstones ++ meta)) result one
      (then_follows did did_both a b new chunk_files (tombstones ++ meta) result two (then_follows did did_both b c new tombstones meta result three last)))
