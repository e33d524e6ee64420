-- Paths and their lengths.
use Rattle.std.specs.Prelude.{ℕ, ◌≡◌, ◌≢◌, ◌-◌, ◌<◌, ◌≤◌, ◌&&◌, ◌||◌, Bool, true, false, if◌then◌else◌, List, [], ◌∷◌, ◌++◌, length, take, drop, nat_lt, bytes_eq, codes, refl, slice_index, not, T, ◌==◌}
use Rattle.std.specs.List.{AllByRecursion}
use Rattle.std.specs.Path.{HasNoSlash, has_no_slash, path_join, slash, with_separator}
use Rattle.std.proofs.Common.{ap, subst, sym, ◌∙◌, arith}
use Rattle.std.proofs.lemmas.Bool.{false≢true, true≢false, lt-ltb, ltb-true}
use Rattle.std.proofs.lemmas.Paths.{path_join_relative}
use Rattle.std.proofs.lemmas.List.{length-append, length-drop}
use Rattle.std.proofs.lemmas.Slice.Eq.{bytes_eq-Decides}
use Rattle.std.proofs.Math.Seq.{drop-append_seam, take-append_seam}
use Rattle.store.specs.Disk.{is_in}
use Rattle.new_files.specs.Folders.{is_inside}
use Rattle.new_files.specs.Targets.{IsName, TargetPaths, unfinished_of}

pub longer_differs : (a b : List ℕ) → length a < length b → a ≡ b → ⊥
longer_differs a b l is = let e : length a ≡ length b = ap length is in omega (arith, l, e)

separator_longer : (dir : List ℕ) → length dir ≤ length (with_separator dir)
separator_longer dir = by_case (length dir == 0 || slice_index dir (length dir - 1) == slash) where
  by_case : (b : Bool) → length dir ≤ length (if b then dir else dir ++ slash ∷ [])
  by_case true = omega arith
  by_case false = omega (arith, length-append dir (slash ∷ []))

-- a name has a byte or more
name_longer : (start path : List ℕ) → nat_lt 0 (length (drop (length start) path)) ≡ true → length start < length path
name_longer start path is = omega (arith, length-drop (length start) path, ltb-true 0 (length (drop (length start) path)) is)

middle_of : (a b c : Bool) → (a && b && c) ≡ true → b ≡ true
middle_of true true true is = refl
middle_of true true false is = refl
middle_of true false c is = absurd (false≢true is)
middle_of false b c is = absurd (false≢true is)

pub in_longer : (dir path : List ℕ) → is_in dir path ≡ true → length dir < length path
in_longer dir path is =
    let start = with_separator dir in
    let name = drop (length start) path in
    omega (arith, separator_longer dir, name_longer start path (middle_of (bytes_eq start (take (length start) path)) (nat_lt 0 (length name)) (has_no_slash name) is))

inside_or : (a b : Bool) (P : Type 0) → (a ≡ true → P) → (b ≡ true → P) → a || b ≡ true → P
inside_or true b P here later is = here refl
inside_or false b P here later is = later is

pub inside_longer : (n : ℕ) (dirs : List (List ℕ)) (path : List ℕ) → AllByRecursion (λ dir. n ≤ length dir) dirs → is_inside dirs path ≡ true → n < length path
inside_longer n [] path long inside = absurd (false≢true inside)
inside_longer n (dir ∷ dirs) path (l, long) inside = inside_or (is_in dir path) (is_inside dirs path) (n < length path) (λ is. omega (arith, l, in_longer dir path is)) (λ is. inside_longer n dirs path long is) inside

pub unfinished_longer : (path : List ℕ) → length path < length (unfinished_of path)
unfinished_longer path = omega (arith, length-append path (codes ".tmp"))

not_slash : (byte : ℕ) (bytes : List ℕ) → HasNoSlash (byte ∷ bytes) → byte ≢ slash
not_slash byte bytes has is = absurd (true≢false (sym (and_front (not (byte == slash)) (has_no_slash bytes) has) ∙ ap (λ b. not (b == slash)) is)) where
  and_front : (a b : Bool) → T (a && b) → a ≡ true
  and_front true b has = refl
  and_front false b has = absurd has

-- a name is relative, so it is after the directory
pub joined : (dir name : List ℕ) → IsName name → path_join dir name ≡ with_separator dir ++ name
joined dir [] is = absurd (omega (arith, is.some))
joined dir (byte ∷ bytes) is = path_join_relative dir (byte ∷ bytes) (not_slash byte bytes is.no_slash)

-- the path of a name in a directory is in it
pub joined_in : (dir name : List ℕ) → IsName name → is_in dir (path_join dir name) ≡ true
joined_in dir name is =
    let start = with_separator dir in
    ap (is_in dir) (joined dir name is)
    ∙ (λ i. bytes_eq start (take-append_seam start name i) && nat_lt 0 (length (drop-append_seam start name i)) && has_no_slash (drop-append_seam start name i))
    ∙ all_three (bytes_eq start start) (nat_lt 0 (length name)) (has_no_slash name) ((bytes_eq-Decides start start).1 refl) (lt-ltb 0 (length name) is.some) is.no_slash where
      all_three : (a b c : Bool) → a ≡ true → b ≡ true → T c → (a && b && c) ≡ true
      all_three a b true p q c = ap (λ x. x && b && true) p ∙ ap (λ x. x && true) q
      all_three a b false p q c = absurd c

pub inside_one : (folder path : List ℕ) → is_in folder path ≡ true → is_inside (folder ∷ []) path ≡ true
inside_one folder path is = ap (λ b. b || false) is

module _ (at : TargetPaths) (parent path unfinished : List ℕ) (p : parent ≡ at.parent) (q : path ≡ at.path) (u : unfinished ≡ at.unfinished) where
  -- what was done at the paths of a target was done at these
  pub at_target : (P : List ℕ → List ℕ → List ℕ → Type 0) → P parent path unfinished → P at.parent at.path at.unfinished
  at_target P has = subst (λ x. P at.parent at.path x) u (subst (λ x. P at.parent x unfinished) q (subst (λ x. P x path unfinished) p has))
