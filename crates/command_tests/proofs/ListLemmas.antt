-- Lists of files: their maps, and the fronts of paths.
use Rattle.std.specs.Prelude.{◌≡◌, ◌≢◌, ℕ, ◌<◌, ◌+◌, Bool, true, false, cond, not, ◌&&◌, ◌==◌, T, List, [], ◌∷◌, ◌++◌, Option, None, Some, length, map, take, drop, if◌then◌else◌, bytes_eq, refl}
use Rattle.std.specs.List.{find, list_all}
use Rattle.std.specs.Option.{option_map}
use Rattle.std.specs.Path.{has_no_slash}
use Rattle.std.proofs.Common.{ap, get_or, subst, sym, take-append-drop, ◌∙◌}
use Rattle.std.proofs.lemmas.Bool.{and_from, false≢true, true≢false}
use Rattle.std.proofs.lemmas.List.{map-append, take_more}
use Rattle.std.proofs.lemmas.Slice.Eq.{bytes_eq-Decides}
use Rattle.std.proofs.Math.Seq.{drop-append_seam, take-append_seam}
use Rattle.command_tests.specs.Listings.{is_below, renamed}

-- the first one of a mapped list
pub find_map : {A B : Type 0} (f : A → B) (p : B → Bool) (xs : List A) → option_map f (find (λ x. p (f x)) xs) ≡ find p (map f xs)
find_map f p [] = refl
find_map f p (x ∷ xs) = by (p (f x)) (find_map f p xs) where
  by : (b : Bool) → option_map f (find (λ y. p (f y)) xs) ≡ find p (map f xs) → option_map f (cond b (Some x) (find (λ y. p (f y)) xs)) ≡ cond b (Some (f x)) (find p (map f xs))
  by true rest = refl
  by false rest = rest

-- one more of a mapped list
pub map_more : {A B : Type 0} (f : A → B) (xs : List A) (i : ℕ) (d : A) → i < length xs → map f (take (i + 1) xs) ≡ map f (take i xs) ++ f (get_or xs i d) ∷ []
map_more f xs i d lt = ap (map f) (take_more xs i d lt) ∙ map-append f (take i xs) (get_or xs i d ∷ [])

abbrev pub with_front : Bool → List ℕ → List ℕ → List ℕ → List ℕ
with_front is to rest path = if is then to ++ rest else path

-- a path in what was renamed
pub renamed_to : (from to path rest : List ℕ) → path ≡ from ++ rest → is_below rest ≡ true → renamed from to path ≡ to ++ rest
renamed_to from to path rest is below =
    let front : take (length from) path ≡ from = ap (take (length from)) is ∙ take-append_seam from rest in
    let back : drop (length from) path ≡ rest = ap (drop (length from)) is ∙ drop-append_seam from rest in
    let whole : (bytes_eq (take (length from) path) from && is_below (drop (length from) path)) ≡ true =
    and_from (bytes_eq (take (length from) path) from) (is_below (drop (length from) path)) ((bytes_eq-Decides (take (length from) path) from).1 front) (ap is_below back ∙ below) in
    ap (λ b. with_front b to (drop (length from) path) path) whole ∙ ap (λ r. to ++ r) back

parts : (a b : Bool) → (a && b) ≡ true → (a ≡ true) × (b ≡ true)
parts true true is = (refl, refl)
parts true false is = absurd (false≢true is)
parts false b is = absurd (false≢true is)

-- any other path
pub renamed_not : (from to path : List ℕ) → ((rest : List ℕ) → path ≡ from ++ rest → is_below rest ≡ true → ⊥) → renamed from to path ≡ path
renamed_not from to path other = by (bytes_eq (take (length from) path) from && is_below (drop (length from) path)) refl where
  by : (b : Bool) → (bytes_eq (take (length from) path) from && is_below (drop (length from) path)) ≡ b → with_front b to (drop (length from) path) path ≡ path
  by false is = refl
  by true is =
      let both = parts (bytes_eq (take (length from) path) from) (is_below (drop (length from) path)) is in
      let front : take (length from) path ≡ from = (bytes_eq-Decides (take (length from) path) from).0 both.0 in
      absurd (other (drop (length from) path) (sym (take-append-drop (length from) path) ∙ ap (λ t. t ++ drop (length from) path) front) both.1)
