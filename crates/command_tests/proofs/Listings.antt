-- What is in a list of files, and what is found in its directories.
use Rattle.std.specs.Prelude.{◌≡◌, ◌≢◌, ◌↔◌, ℕ, Bool, true, false, cond, not, ◌||◌, ◌⊎◌, List, [], ◌∷◌, ◌++◌, Option, None, Some, Contains, IsTrue, if◌then◌else◌, bytes_eq, is_some, map, string_bytes, refl}
use Rattle.std.specs.List.{IsDistinct, find, list_any}
use Rattle.std.specs.Option.{option_map}
use Rattle.std.specs.Path.{path_join, with_separator}
use Rattle.new_files.specs.Shown.{AreNamesIn}
use Rattle.std.proofs.Common.{◌<◌, ◌+◌, Bor, ap, arith, get_or, inl, inr, length, subst, sym, take, ◌∙◌}
use Rattle.std.proofs.lemmas.Bool.{false≢true, true≢false}
use Rattle.std.proofs.lemmas.List.Elements.{Contains-append_left, Contains-append_right, Contains-push, Contains-push_cases}
use Rattle.std.proofs.lemmas.List.{append_cancel_left}
use Rattle.std.proofs.lemmas.Cmp.{nat_list_eq_equiv}
use Rattle.std.proofs.lemmas.Map.Keys.{IsDistinct-push}
use Rattle.std.proofs.lemmas.Option.{none-some}
use Rattle.std.proofs.lemmas.Slice.Eq.{bytes_eq-Decides}
use Rattle.new_files.specs.Folders.{FileAt}
use Rattle.store.specs.Calls.{Call}
use Rattle.command_tests.specs.declared.listed.Listed.{Listed}
use Rattle.command_tests.specs.Listings.{AreNamesAt, MayBe, creation, file_of, is_at, longer, relisted, renames, standing_in, without}
use Rattle.new_files.proofs.Paths.{joined}
use Rattle.command_tests.proofs.ListLemmas.{find_map, map_more}
use Rattle.new_files.specs.Targets.{IsName}

-- whether a file of this path is listed
abbrev pub has : List FileAt → List ℕ → Bool
has [] path = false
has (file ∷ files) path = is_at path file || has files path

-- where none is, nothing is
pub none_stands : (files : List FileAt) (path : List ℕ) → has files path ≡ false → standing_in files path ≡ None
none_stands [] path none = refl
none_stands (file ∷ files) path none = by (is_at path file) none (none_stands files path) where
  by : (b : Bool) → (b || has files path) ≡ false → (has files path ≡ false → standing_in files path ≡ None) → option_map (λ (f : FileAt). f.bytes) (cond b (Some file) (find (is_at path) files)) ≡ None
  by true none rest = absurd (true≢false none)
  by false none rest = rest none

-- where nothing is, none is
pub none_has : (files : List FileAt) (path : List ℕ) → standing_in files path ≡ None → has files path ≡ false
none_has [] path none = refl
none_has (file ∷ files) path none = by (is_at path file) none (none_has files path) where
  by : (b : Bool) → option_map (λ (f : FileAt). f.bytes) (cond b (Some file) (find (is_at path) files)) ≡ None → (standing_in files path ≡ None → has files path ≡ false) → (b || has files path) ≡ false
  by true none rest = absurd (none-some file.bytes (sym none))
  by false none rest = rest none

pub has_more : (files : List FileAt) (file : FileAt) (path : List ℕ) → has (files ++ file ∷ []) path ≡ (has files path || is_at path file)
has_more [] file path = last (is_at path file) where
  last : (b : Bool) → (b || false) ≡ b
  last true = refl
  last false = refl
has_more (other ∷ files) file path = by (is_at path other) (has_more files file path) where
  by : (b : Bool) → has (files ++ file ∷ []) path ≡ (has files path || is_at path file) → (b || has (files ++ file ∷ []) path) ≡ (b || has files path || is_at path file)
  by true rest = refl
  by false rest = rest

-- what has each path has it still if the paths stay
pub has_mapped : (f : FileAt → FileAt) → ((file : FileAt) → (f file).path ≡ file.path) → (files : List FileAt) (path : List ℕ) → has (map f files) path ≡ has files path
has_mapped f same [] path = refl
has_mapped f same (file ∷ files) path = (λ i. bytes_eq (same file i) path || has (map f files) path) ∙ ap (λ b. is_at path file || b) (has_mapped f same files path)

pub longer_path : (path bytes : List ℕ) (file : FileAt) → (longer path bytes file).path ≡ file.path
longer_path path bytes file = by (is_at path file) where
  by : (b : Bool) → (if b then record { path = file.path; bytes = file.bytes ++ bytes } else file).path ≡ file.path
  by true = refl
  by false = refl

-- what has another path is listed without one
pub has_without : (gone path : List ℕ) (files : List FileAt) → (gone ≡ path → ⊥) → has (without gone files) path ≡ has files path
has_without gone path [] other = refl
has_without gone path (file ∷ files) other = by (is_at gone file) refl (has_without gone path files other) where
  by : (b : Bool) → is_at gone file ≡ b → has (without gone files) path ≡ has files path → has (cond (not b) (file ∷ without gone files) (without gone files)) path ≡ (is_at path file || has files path)
  by false is rest = ap (λ b. is_at path file || b) rest
  by true is rest = rest ∙ sym (ap (λ b. b || has files path) (apart (is_at path file) refl)) where
    apart : (b : Bool) → is_at path file ≡ b → is_at path file ≡ false
    apart false same = same
    apart true same = absurd (other (sym ((bytes_eq-Decides file.path gone).0 is) ∙ (bytes_eq-Decides file.path path).0 same))

-- ---- the names in a directory

stands_or : (a b : Bool) → (a || b) ≡ true → (a ≡ true) ⊎ (b ≡ true)
stands_or true b is = inl refl
stands_or false b is = inr is

is_or : (a b : Bool) → (a ≡ true) ⊎ (b ≡ true) → (a || b) ≡ true
is_or true b is = refl
is_or false b (inl is) = absurd (false≢true is)
is_or false b (inr is) = is

-- something is at the path just if it is listed
pub stands : (files : List FileAt) (path : List ℕ) → (standing_in files path ≢ None) ↔ (has files path ≡ true)
stands files path = (there (has files path) refl, λ is none. true≢false (sym is ∙ none_has files path none)) where
  there : (b : Bool) → has files path ≡ b → standing_in files path ≢ None → has files path ≡ true
  there true is some = is
  there false is some = absurd (some (none_stands files path is))

module _ (files : List FileAt) (file : FileAt) (front : List ℕ) (names : List (List ℕ)) (are : AreNamesAt files front names) where
  -- a file that is not in the directory
  pub name_of_none : ((name : List ℕ) → IsName name → file.path ≡ front ++ name → ⊥) → AreNamesAt (files ++ file ∷ []) front names
  name_of_none none = record { once = are.once; all = λ name is. ((λ has_name. (stands (files ++ file ∷ []) (front ++ name)).1 (more name ((stands files (front ++ name)).0 ((are.all name is).0 has_name)))), (λ some. (are.all name is).1 ((stands files (front ++ name)).1 (before name is ((stands (files ++ file ∷ []) (front ++ name)).0 some))))) } where
    more : (name : List ℕ) → has files (front ++ name) ≡ true → has (files ++ file ∷ []) (front ++ name) ≡ true
    more name is = has_more files file (front ++ name) ∙ is_or (has files (front ++ name)) (is_at (front ++ name) file) (inl is)

    before : (name : List ℕ) → IsName name → has (files ++ file ∷ []) (front ++ name) ≡ true → has files (front ++ name) ≡ true
    before name is there = elim (stands_or (has files (front ++ name)) (is_at (front ++ name) file) (sym (has_more files file (front ++ name)) ∙ there)) [
      | inl old ↦ old
      | inr new ↦ absurd (none name is ((bytes_eq-Decides file.path (front ++ name)).0 new))
    ]

  -- a file whose name is known already
  pub name_known : (known : List ℕ) → file.path ≡ front ++ known → Contains names known → AreNamesAt (files ++ file ∷ []) front names
  name_known known at there = record { once = are.once; all = λ name is. ((λ has_name. (stands (files ++ file ∷ []) (front ++ name)).1 (has_more files file (front ++ name) ∙ is_or (has files (front ++ name)) (is_at (front ++ name) file) (inl ((stands files (front ++ name)).0 ((are.all name is).0 has_name))))), (λ some. found name is ((stands (files ++ file ∷ []) (front ++ name)).0 some))) } where
    found : (name : List ℕ) → IsName name → has (files ++ file ∷ []) (front ++ name) ≡ true → Contains names name
    found name is whole = elim (stands_or (has files (front ++ name)) (is_at (front ++ name) file) (sym (has_more files file (front ++ name)) ∙ whole)) [
      | inl old ↦ (are.all name is).1 ((stands files (front ++ name)).1 old)
      | inr new ↦ subst (Contains names) (append_cancel_left front known name (sym at ∙ (bytes_eq-Decides file.path (front ++ name)).0 new)) there
    ]

  -- a file whose name is new
  pub name_new : (new : List ℕ) → file.path ≡ front ++ new → list_any (bytes_eq new) names ≡ false → AreNamesAt (files ++ file ∷ []) front (names ++ new ∷ [])
  name_new new at none = record { once = IsDistinct-push nat_list_eq_equiv names new are.once none; all = λ name is. ((λ has_name. (stands (files ++ file ∷ []) (front ++ name)).1 (has_more files file (front ++ name) ∙ is_or (has files (front ++ name)) (is_at (front ++ name) file) (there name is (Contains-push_cases names new name has_name)))), (λ some. found name is ((stands (files ++ file ∷ []) (front ++ name)).0 some))) } where
    there : (name : List ℕ) → IsName name → Contains names name ⊎ (new ≡ name) → (has files (front ++ name) ≡ true) ⊎ (is_at (front ++ name) file ≡ true)
    there name is (inl old) = inl ((stands files (front ++ name)).0 ((are.all name is).0 old))
    there name is (inr same) = inr ((bytes_eq-Decides file.path (front ++ name)).1 (at ∙ ap (λ n. front ++ n) same))

    found : (name : List ℕ) → IsName name → has (files ++ file ∷ []) (front ++ name) ≡ true → Contains (names ++ new ∷ []) name
    found name is whole = elim (stands_or (has files (front ++ name)) (is_at (front ++ name) file) (sym (has_more files file (front ++ name)) ∙ whole)) [
      | inl old ↦ Contains-append_left names (new ∷ []) name ((are.all name is).1 ((stands files (front ++ name)).1 old))
      | inr same ↦ subst (Contains (names ++ new ∷ [])) (append_cancel_left front new name (sym at ∙ (bytes_eq-Decides file.path (front ++ name)).0 same)) (Contains-push names new)
    ]

no_names : (front name : List ℕ) → Contains [] name → standing_in [] (front ++ name) ≢ None
no_names front name has_name = λ none. absurd (omega (arith, has_name.1))

nothing : IsDistinct bytes_eq []
unfolding IsDistinct
nothing = tt

-- no file, no names
pub none_listed : (front : List ℕ) (names : List (List ℕ)) → names ≡ [] → AreNamesAt [] front names
none_listed front names are = subst (AreNamesAt [] front) (sym are) (record { once = nothing; all = λ name is. (no_names front name, λ some. absurd (some refl)) })

-- whether a name is among the names
pub any_is : {A : Type 0} (f : A → List ℕ) (wanted : List ℕ) (names : List A) → list_any (λ name. bytes_eq (f name) wanted) names ≡ list_any (bytes_eq wanted) (map f names)
any_is f wanted [] = refl
any_is f wanted (name ∷ names) = (λ i. nat_list_eq_equiv.symm (f name) wanted i || any_is f wanted names i)

pub any_contains : (wanted : List ℕ) (names : List (List ℕ)) → list_any (bytes_eq wanted) names ≡ true → Contains names wanted
any_contains wanted [] is = absurd (false≢true is)
any_contains wanted (name ∷ names) is = elim (stands_or (bytes_eq wanted name) (list_any (bytes_eq wanted) names) is) [
  | inl same ↦ subst (λ n. Contains (n ∷ names) wanted) ((bytes_eq-Decides wanted name).0 same) (Contains-append_left (wanted ∷ []) names wanted (Contains-push [] wanted))
  | inr rest ↦ Contains-append_right (name ∷ []) names wanted (any_contains wanted names rest)
]

-- ---- a file that is found

found_bytes : (r : Option (Bor Listed)) → option_map (λ (f : FileAt). f.bytes) (option_map file_of (option_map (λ (f : Bor Listed). f.now) r)) ≡ option_map (λ (f : Bor Listed). f.now.bytes.items) r
found_bytes None = refl
found_bytes (Some f) = refl

pub standing_found : (files : List Listed) (path : List ℕ) (r : Option (Bor Listed)) → option_map (λ (f : Bor Listed). f.now) r ≡ find (λ (file : Listed). bytes_eq (string_bytes file.path) path) files
    → standing_in (map file_of files) path ≡ option_map (λ (f : Bor Listed). f.now.bytes.items) r
standing_found files path r is = ap (option_map (λ (f : FileAt). f.bytes)) (sym (find_map file_of (is_at path) files) ∙ ap (option_map file_of) (sym is)) ∙ found_bytes r

none_is : (r : Option (Bor Listed)) → is_some r ≡ false → option_map (λ (f : Bor Listed). f.now.bytes.items) r ≡ None
none_is None is = refl
none_is (Some f) is = absurd (true≢false is)

pub none_found : (files : List Listed) (path : List ℕ) (r : Option (Bor Listed)) → option_map (λ (f : Bor Listed). f.now) r ≡ find (λ (file : Listed). bytes_eq (string_bytes file.path) path) files → is_some r ≡ false
    → standing_in (map file_of files) path ≡ None
none_found files path r is none = standing_found files path r is ∙ none_is r none

-- ---- a file that is created

pub created : (is_dir : Bool) (files later : List FileAt) (was : Bool) (path : List ℕ) (P : Call → Type 0) → standing_in files path ≡ None → was ≡ false → later ≡ files ++ record { path = path; bytes = [] } ∷ []
    → (MayBe files was (creation is_dir path) → later ≡ relisted files (creation is_dir path) → false ≡ renames was (creation is_dir path) → P (creation is_dir path)) → P (creation is_dir path)
created true files later was path P none not_yet are made = made (none, not_yet) are (sym not_yet)
created false files later was path P none not_yet are made = made (none, not_yet) are (sym not_yet)

-- the names of one file more
pub next_listed : (files : List Listed) (i : ℕ) (file : Listed) (start : List ℕ) (names : List (List ℕ)) (path : List ℕ) → i < length files → file ≡ get_or files i file → path ≡ string_bytes file.path
    → AreNamesAt (map file_of (take i files) ++ record { path = path; bytes = file.bytes.items } ∷ []) start names → AreNamesAt (map file_of (take (i + 1) files)) start names
next_listed files i file start names path lt is at are =
    let one : (λ (p : List ℕ). map file_of (take i files) ++ record { path = p; bytes = file.bytes.items } ∷ []) path ≡ map file_of (take i files) ++ file_of (get_or files i file) ∷ [] =
    ap (λ (p : List ℕ). map file_of (take i files) ++ record { path = p; bytes = file.bytes.items } ∷ []) at ∙ ap (λ (f : Listed). map file_of (take i files) ++ file_of f ∷ []) is in
    subst (λ (fs : List FileAt). AreNamesAt fs start names) (one ∙ sym (map_more file_of files i file lt)) are

-- the names after a directory and its slash are those in it
pub names_at : (files : List FileAt) (dir : List ℕ) (names : List (List ℕ)) → AreNamesAt files (with_separator dir) names → AreNamesIn (standing_in files) dir names
names_at files dir names are = record { once = are.once; all = λ name is. subst (λ path. Contains names name ↔ (standing_in files path ≢ None)) (sym (joined dir name is)) (are.all name is) }
