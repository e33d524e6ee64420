-- The files of a block lie in its folder.
use Rattle.std.specs.Prelude.{ℕ, suc, ◌≡◌, ◌+◌, ◌<◌, ◌||◌, ◌==◌, not, Bool, true, false, T, IsTrue, List, [], ◌∷◌, ◌++◌, length, take, codes, refl, All}
use Rattle.std.specs.List.{AllByRecursion}
use Rattle.std.specs.Path.{HasNoSlash, has_no_slash, path_join, slash}
use Rattle.std.proofs.Common.{ap, subst, sym, ◌∙◌, arith, get_or}
use Rattle.std.proofs.lemmas.Bool.{eqb-true, false≢true}
use Rattle.std.proofs.lemmas.List.{length-take-le, take_more}
use Rattle.hw_bytes.specs.Sums.{Text}
use Rattle.block_files.specs.Ulids.{IsUlid, is_digit}
use Rattle.block_read.specs.declared.block.Block.{Block}
use Rattle.store.specs.Disk.{is_in}
use Rattle.new_files.specs.Folders.{AreInside, FileAt, is_inside}
use Rattle.new_files.specs.Targets.{IsName, zero_filled}
use Rattle.new_files.proofs.Digits.{both, filled_is_name}
use Rattle.new_files.proofs.Disks.{all_then}
use Rattle.new_files.proofs.Paths.{joined_in}
use Rattle.block_commands.specs.Folders.{block_files, chunk_paths, chunks_in, named}

-- ---- chunk files, up to one of them

pub paths-append : (dir : List ℕ) (n : ℕ) (xs ys : List Text) → chunk_paths dir n (xs ++ ys) ≡ chunk_paths dir n xs ++ chunk_paths dir (n + length xs) ys
paths-append dir n [] ys = ap (λ m. chunk_paths dir m ys) (omega arith)
paths-append dir n (x ∷ xs) ys = ap (λ more. named dir (zero_filled 6 n) x ∷ more) (paths-append dir (n + 1) xs ys ∙ ap (λ m. chunk_paths dir (n + 1) xs ++ chunk_paths dir m ys) (omega arith))

pub one_more : (dir : List ℕ) (i : ℕ) (chunks : List Text) (x : Text) (name bytes : List ℕ) → i < length chunks → x ≡ get_or chunks i x → name ≡ zero_filled 6 (i + 1) → bytes ≡ x
    → chunk_paths dir 1 (take (i + 1) chunks) ≡ chunk_paths dir 1 (take i chunks) ++ named dir name bytes ∷ []
one_more dir i chunks x name bytes lt is n b =
    ap (chunk_paths dir 1) (take_more chunks i x lt)
    ∙ paths-append dir 1 (take i chunks) (get_or chunks i x ∷ [])
    ∙ ap (λ y. chunk_paths dir 1 (take i chunks) ++ named dir (zero_filled 6 (1 + length (take i chunks))) y ∷ []) (sym is ∙ sym b)
    ∙ ap (λ m. chunk_paths dir 1 (take i chunks) ++ named dir (zero_filled 6 m) bytes ∷ []) (omega (arith, length-take-le i chunks (omega (arith, lt))))
    ∙ ap (λ m. chunk_paths dir 1 (take i chunks) ++ named dir m bytes ∷ []) (sym n)

-- ---- all lie in the folder

both_in : (folder dir path : List ℕ) → is_in folder path ≡ true → is_inside (dir ∷ folder ∷ []) path ≡ true
both_in folder dir path is = by_first (is_in dir path) where
  by_first : (b : Bool) → (b || (is_in folder path || false)) ≡ true
  by_first true = refl
  by_first false = ap (λ c. c || false) is

first_in : (folder dir path : List ℕ) → is_in dir path ≡ true → is_inside (dir ∷ folder ∷ []) path ≡ true
first_in folder dir path is = ap (λ b. b || (is_in folder path || false)) is

paths_inside : (folder dir : List ℕ) (n : ℕ) (chunks : List Text) → AllByRecursion (λ (file : FileAt). is_inside (dir ∷ folder ∷ []) file.path ≡ true) (chunk_paths dir n chunks)
paths_inside folder dir n [] = tt
paths_inside folder dir n (chunk ∷ chunks) = (first_in folder dir (path_join dir (zero_filled 6 n)) (joined_in dir (zero_filled 6 n) (filled_is_name 6 n)), paths_inside folder dir (n + 1) chunks)

in_folder : (folder dir name : List ℕ) → IsName name → is_inside (dir ∷ folder ∷ []) (path_join folder name) ≡ true
in_folder folder dir name is = both_in folder dir (path_join folder name) (joined_in folder name is)

pub block_inside : (folder dir : List ℕ) (block : Block) (files : List FileAt) → dir ≡ chunks_in folder → files ≡ block_files folder dir block → AreInside folder (dir ∷ []) files
block_inside folder dir block files d is = subst (AreInside folder (dir ∷ [])) (sym is) (record {
  dirs_in = (ap (is_in folder) d ∙ joined_in folder (codes "chunks") (record { some = omega arith; no_slash = tt }), tt);
  files_in = (
    in_folder folder dir (codes "index") (record { some = omega arith; no_slash = tt }),
    all_then (λ (file : FileAt). is_inside (dir ∷ folder ∷ []) file.path ≡ true) (chunk_paths dir 1 block.chunks) (named folder (codes "tombstones") block.tombstones ∷ named folder (codes "meta.json") block.meta ∷ [])
        (paths_inside folder dir 1 block.chunks)
        (in_folder folder dir (codes "tombstones") (record { some = omega arith; no_slash = tt }), (in_folder folder dir (codes "meta.json") (record { some = omega arith; no_slash = tt }), tt)),
  );
})

-- ---- a ULID is a name

slash_is_none : IsTrue (is_digit slash) → ⊥
slash_is_none is = false≢true is

digit_differs : (c : ℕ) → IsTrue (is_digit c) → T (not (c == slash))
digit_differs c is = by_slash (c == slash) refl where
  by_slash : (b : Bool) → (c == slash) ≡ b → T (not b)
  by_slash false e = tt
  by_slash true e = absurd (slash_is_none (subst (λ d. IsTrue (is_digit d)) (eqb-true c slash e) is))

no_slash_digits : (text : Text) → All (λ c. IsTrue (is_digit c)) text → HasNoSlash text
no_slash_digits [] all = tt
no_slash_digits (c ∷ text) all = both (not (c == slash)) (has_no_slash text) (digit_differs c (all 0 c (omega arith))) (no_slash_digits text (λ k d l. all (suc k) d (omega (arith, l))))

pub ulid_is_name : (text : Text) → IsUlid text → IsName text
ulid_is_name text is = record { some = omega (arith, is.long); no_slash = no_slash_digits text is.digits }
