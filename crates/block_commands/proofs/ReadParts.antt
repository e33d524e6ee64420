-- The parts of a block, as they are found.
use Rattle.std.specs.Prelude.{◌≡◌, ℕ, zero, suc, ◌+◌, All, List, [], ◌∷◌, ◌++◌, String, Vec, codes, map, string_bytes}
use Rattle.std.specs.Global.{Global}
use Rattle.std.specs.List.{AllByRecursion, AllZip}
use Rattle.std.specs.Path.{path_join}
use Rattle.std.proofs.Common.{ap, arith, subst, sym, ◌∙◌}
use Rattle.std.proofs.lemmas.List.{map-append}
use Rattle.std.proofs.lemmas.List.Elements.{All-from_recursion, recursion_from_All}
use Rattle.hw_bytes.specs.Sums.{Text}
use Rattle.block_read.specs.declared.block.Block.{Block}
use Rattle.store.specs.Found.{Bytes, Found}
use Rattle.new_files.specs.Folders.{FileAt}
use Rattle.new_files.specs.Targets.{zero_filled}
use Rattle.new_files.proofs.Disks.{all_then}
use Rattle.block_commands.specs.Folders.{block_files, chunk_paths, chunks_in, named, numbered}

-- one path more
numbered_suc : (dir : List ℕ) (n k : ℕ) → numbered dir n (suc k) ≡ numbered dir n k ++ path_join dir (zero_filled 6 (n + k)) ∷ []
numbered_suc dir n zero = ap (λ (m : ℕ). path_join dir (zero_filled 6 m) ∷ []) (omega arith)
numbered_suc dir n (suc k) =
    ap (λ (ps : List (List ℕ)). path_join dir (zero_filled 6 n) ∷ ps)
    (numbered_suc dir (n + 1) k ∙ ap (λ (m : ℕ). numbered dir (n + 1) k ++ path_join dir (zero_filled 6 m) ∷ []) (omega arith))

pub one_more_path : (dir : List ℕ) (k : ℕ) (before after : List (String Global)) (path : String Global) (name : List ℕ) → map string_bytes before ≡ numbered dir 1 k → after ≡ before ++ path ∷ []
    → string_bytes path ≡ path_join dir name → name ≡ zero_filled 6 (k + 1) → map string_bytes after ≡ numbered dir 1 (k + 1)
one_more_path dir k before after path name are new is n =
    let last : string_bytes path ≡ path_join dir (zero_filled 6 (1 + k)) = is ∙ ap (path_join dir) (n ∙ ap (zero_filled 6) (omega arith)) in
    let next : suc k ≡ k + 1 = omega arith in
    ap (map string_bytes) new
    ∙ map-append string_bytes before (path ∷ [])
    ∙ ap (λ (ps : List (List ℕ)). ps ++ string_bytes path ∷ []) are
    ∙ ap (λ (p : List ℕ). numbered dir 1 k ++ p ∷ []) last
    ∙ sym (numbered_suc dir 1 k)
    ∙ ap (numbered dir 1) next

module _ (found : List ℕ → Found → Type 0) where
  abbrev IsFound : FileAt → Type 0
  IsFound file = found file.path (Bytes file.bytes)

  -- files that were read at the paths of chunk files
  chunks_found : (dir : List ℕ) (n count : ℕ) (paths : List (String Global)) (files : List (Vec ℕ Global)) → map string_bytes paths ≡ numbered dir n count
      → AllZip (λ path bytes. found (string_bytes path) (Bytes bytes.items)) paths files → AllByRecursion IsFound (chunk_paths dir n (map (λ (v : Vec ℕ Global). v.items) files))
  chunks_found dir n zero [] [] e zip = tt
  chunks_found dir n zero (p ∷ ps) (f ∷ fs) e zip = absurd cc
  chunks_found dir n (suc more) [] [] e zip = absurd cc
  chunks_found dir n (suc more) (p ∷ ps) (f ∷ fs) e zip =
      let first : string_bytes p ≡ path_join dir (zero_filled 6 n) = cc in
      let rest : map string_bytes ps ≡ numbered dir (n + 1) more = cc in
      (subst (λ (path : List ℕ). found path (Bytes f.items)) first zip.0, chunks_found dir (n + 1) more ps fs rest zip.1)
  chunks_found dir n count [] (f ∷ fs) e zip = absurd zip
  chunks_found dir n count (p ∷ ps) [] e zip = absurd zip

  pub all_chunks : (dir : List ℕ) (count : ℕ) (paths : List (String Global)) (files : List (Vec ℕ Global)) (chunks : List Text) → map string_bytes paths ≡ numbered dir 1 count
      → AllZip (λ path bytes. found (string_bytes path) (Bytes bytes.items)) paths files → chunks ≡ map (λ (v : Vec ℕ Global). v.items) files → All IsFound (chunk_paths dir 1 chunks)
  all_chunks dir count paths files chunks e zip is =
      subst (λ (cs : List Text). All IsFound (chunk_paths dir 1 cs)) (sym is) (All-from_recursion IsFound (chunk_paths dir 1 (map (λ (v : Vec ℕ Global). v.items) files)) (chunks_found dir 1 count paths files e zip))

  -- all files of a block
  pub all_parts : (folder dir : List ℕ) (block : Block) → dir ≡ chunks_in folder → found (path_join folder (codes "index")) (Bytes block.index) → All IsFound (chunk_paths dir 1 block.chunks)
      → found (path_join folder (codes "tombstones")) (Bytes block.tombstones) → found (path_join folder (codes "meta.json")) (Bytes block.meta) → All IsFound (block_files folder (chunks_in folder) block)
  all_parts folder dir block e index chunks tombstones meta =
      All-from_recursion IsFound (block_files folder (chunks_in folder) block) (subst (λ (d : List ℕ). AllByRecursion IsFound (block_files folder d block)) e
      (index, all_then IsFound (chunk_paths dir 1 block.chunks) (named folder (codes "tombstones") block.tombstones ∷ named folder (codes "meta.json") block.meta ∷ []) (recursion_from_All IsFound (chunk_paths dir 1 block.chunks) chunks) (tombstones, (meta, tt))))
