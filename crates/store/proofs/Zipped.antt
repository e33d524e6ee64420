-- Files that are read place by place, or in two parts.
use Rattle.std.specs.Prelude.{ℕ, ◌≡◌, ◌+◌, ◌<◌, List, [], ◌∷◌, ◌++◌, IfErr, IfOk, Result, Ok, Err, String, Vec, ⊤, length, map, string_bytes, take, drop, refl}
use Rattle.std.specs.Global.{Global}
use Rattle.std.specs.List.{AllZip, HoldsAt}
use Rattle.std.proofs.Common.{add-one, ap, arith, get_or, inl, inr, subst, sym, ◌∙◌, take-append-drop}
use Rattle.std.proofs.lemmas.List.{take-append-le, take_all, take_more}
use Rattle.std.proofs.lemmas.Slice.Zip.{AllZip-long, all_zipped_more}
use Rattle.std.proofs.Math.ListN.{set}
use Rattle.std.proofs.Math.Seq.{take-suc-set}
use Rattle.store.specs.declared.store.StoreFault.{StoreFault}
use Rattle.store.specs.declared.store.StoreFault.TheVariants.{OutOfMemory}
use Rattle.store.specs.Several.{Gave, IsRefused, StopsAt}

-- the element of one place more
pub zipped_place : {A B : Type 0} (R : A → B → Type 0) (xs : List A) (ys : List B) (i : ℕ) (d : A) (y : B) → i < length xs → i < length ys → AllZip R (take i xs) (take i ys) → R (get_or xs i d) y → AllZip R (take (i + 1) xs) (take (i + 1) (set ys i y))
zipped_place R xs ys i d y within there h r =
    subst (λ zs. AllZip R (take (i + 1) xs) zs) (sym (ap (λ n. take n (set ys i y)) (add-one i) ∙ take-suc-set ys i y there))
    (subst (λ ws. AllZip R ws (take i ys ++ y ∷ [])) (sym (take_more xs i d within)) (all_zipped_more R (take i xs) (take i ys) (get_or xs i d) y h r))

-- two parts, one after the other
pub both_zipped : {A B : Type 0} (R : A → B → Type 0) (xs more : List A) (ys others : List B) → AllZip R xs ys → AllZip R more others → AllZip R (xs ++ more) (ys ++ others)
both_zipped R [] more [] others h k = k
both_zipped R [] more (y ∷ ys) others h k = absurd h
both_zipped R (x ∷ xs) more [] others h k = absurd h
both_zipped R (x ∷ xs) more (y ∷ ys) others h k = (h.0, both_zipped R xs more ys others h.1 k)

pub zipped_weaker : {A B : Type 0} (R S : A → B → Type 0) → ((x : A) (y : B) → R x y → S x y) → (xs : List A) (ys : List B) → AllZip R xs ys → AllZip S xs ys
zipped_weaker R S more [] [] h = tt
zipped_weaker R S more [] (y ∷ ys) h = absurd h
zipped_weaker R S more (x ∷ xs) [] h = absurd h
zipped_weaker R S more (x ∷ xs) (y ∷ ys) h = (more x y h.0, zipped_weaker R S more xs ys h.1)

-- both parts of what was split at a place
pub parts_zipped : {A B : Type 0} (R S T : A → B → Type 0) (n : ℕ) (xs : List A) (ys zs whole : List B) → whole ≡ ys ++ zs → ((x : A) (y : B) → R x y → T x y) → ((x : A) (y : B) → S x y → T x y) → AllZip R (take n xs) ys → AllZip S (drop n xs) zs → AllZip T xs whole
parts_zipped R S T n xs ys zs whole is left right front back =
    subst (λ all. AllZip T all whole) (take-append-drop n xs)
    (subst (λ all. AllZip T (take n xs ++ drop n xs) all) (sym is) (both_zipped T (take n xs) (drop n xs) ys zs (zipped_weaker R T left (take n xs) ys front) (zipped_weaker S T right (drop n xs) zs back)))

-- what two readers gave for what was split at a place
pub parts_read : (here there : List ℕ → Result (Vec ℕ Global) StoreFault → Type 0) (n : ℕ) (paths first others : List (String Global)) (front back : List (Result (Vec ℕ Global) StoreFault)) → first ≡ take n paths → others ≡ drop n paths
    → AllZip (λ path file. Gave here there (string_bytes path) file) first front → AllZip (λ path file. there (string_bytes path) file) others back
    → AllZip (λ path file. Gave here there (string_bytes path) file) paths (front ++ back)
parts_read here there n paths first others front back is are fronts backs =
    parts_zipped (λ path file. Gave here there (string_bytes path) file) (λ path file. there (string_bytes path) file) (λ path file. Gave here there (string_bytes path) file) n paths front back (front ++ back) refl (λ x y h. h) (λ x y h. inr h)
    (subst (λ ps. AllZip (λ path file. Gave here there (string_bytes path) file) ps front) is fronts)
    (subst (λ ps. AllZip (λ path file. there (string_bytes path) file) ps back) are backs)

-- ---- files up to the first that was not read

module _ (files yielded rest left : List (Result (Vec ℕ Global) StoreFault)) (file : Result (Vec ℕ Global) StoreFault) (read : List (Vec ℕ Global)) (place : ℕ) (are : yielded ≡ map Ok read) (whole : yielded ++ left ≡ files) (next : left ≡ file ∷ rest) (long : place ≡ length read) where
  in_parts : (it : Result (Vec ℕ Global) StoreFault) → file ≡ it → files ≡ map Ok read ++ it ∷ rest
  in_parts it is = sym whole ∙ ap (λ xs. yielded ++ xs) (next ∙ ap (λ x. x ∷ rest) is) ∙ ap (λ xs. xs ++ it ∷ rest) are

  pub stops_bad : (fault : StoreFault) → file ≡ Err fault → StopsAt files place fault
  stops_bad fault is = (read, rest, long, inl (in_parts (Err fault) is))

  pub stops_full : (bytes : Vec ℕ Global) (fault : StoreFault) → file ≡ Ok bytes → fault ≡ OutOfMemory → StopsAt files place fault
  stops_full bytes fault is memory = (read, rest, long, inr (bytes, in_parts (Ok bytes) is, memory))

-- what a `Vec` holds whose slice was written whole
pub written_whole : {A B : Type 0} (R : A → B → Type 0) (xs : List A) (new old : List B) (len : ℕ) → length old ≡ length xs → len ≡ length old → AllZip R xs new → AllZip R xs (take len (new ++ drop (length new) old))
written_whole R xs new old len long is each =
    let all : len ≡ length new = is ∙ long ∙ sym (AllZip-long R xs new each) in
    subst (λ zs. AllZip R xs zs) (sym (take-append-le len new (drop (length new) old) (omega (arith, all)) ∙ take_all len new (omega (arith, all)))) each

-- ---- what was given for a path is what was collected

module _ (gave : List ℕ → Result (Vec ℕ Global) StoreFault → Type 0) where
  abbrev Gives : String Global → Result (Vec ℕ Global) StoreFault → Type 0
  Gives path file = gave (string_bytes path) file

  given_all : (paths : List (String Global)) (read : List (Vec ℕ Global)) → AllZip Gives paths (map Ok read) → AllZip (λ path bytes. gave (string_bytes path) (Ok bytes)) paths read
  given_all [] [] h = tt
  given_all [] (b ∷ read) h = absurd h
  given_all (p ∷ paths) [] h = absurd h
  given_all (p ∷ paths) (b ∷ read) h = (h.0, given_all paths read h.1)

  pub given_ok : {E : Type 0} (r : Result (Vec (Vec ℕ Global) Global) E) (paths : List (String Global)) (files : List (Result (Vec ℕ Global) StoreFault)) → AllZip Gives paths files → IfOk r (λ read. files ≡ map Ok read.items) → IfOk r (λ read. AllZip (λ path bytes. gave (string_bytes path) (Ok bytes)) paths read.items)
  given_ok (Ok read) paths files each is = given_all paths read.items (subst (λ fs. AllZip Gives paths fs) is each)
  given_ok (Err e) paths files each is = tt

  -- the one after some that were read is at the place
  at_place : (paths : List (String Global)) (read : List (Vec ℕ Global)) (it : Result (Vec ℕ Global) StoreFault) (rest : List (Result (Vec ℕ Global) StoreFault)) → AllZip Gives paths (map Ok read ++ it ∷ rest) → (length read < length paths) × HoldsAt (λ path. Gives path it) paths (length read)
  at_place [] [] it rest h = absurd h
  at_place [] (b ∷ read) it rest h = absurd h
  at_place (p ∷ paths) [] it rest h = (omega arith, λ d. h.0)
  at_place (p ∷ paths) (b ∷ read) it rest h = let more = at_place paths read it rest h.1 in (omega (arith, more.0), more.1)

  given_stop : (paths : List (String Global)) (files : List (Result (Vec ℕ Global) StoreFault)) (place : ℕ) (fault : StoreFault) → AllZip Gives paths files → StopsAt files place fault → IsRefused gave paths place fault
  given_stop paths files place fault each (read, rest, long, inl is) =
      let at = at_place paths read (Err fault) rest (subst (λ fs. AllZip Gives paths fs) is each) in
      subst (λ n. IsRefused gave paths n fault) (sym long) (at.0, inr at.1)
  given_stop paths files place fault each (read, rest, long, inr (bytes, is, memory)) =
      let at = at_place paths read (Ok bytes) rest (subst (λ fs. AllZip Gives paths fs) is each) in
      subst (λ n. IsRefused gave paths n fault) (sym long) (at.0, inl memory)

  pub given_err : {T : Type 0} (r : Result T (ℕ × StoreFault)) (paths : List (String Global)) (files : List (Result (Vec ℕ Global) StoreFault)) → AllZip Gives paths files → IfErr r (λ refused. StopsAt files refused.0 refused.1) → IfErr r (λ refused. IsRefused gave paths refused.0 refused.1)
  given_err (Ok read) paths files each stops = tt
  given_err (Err refused) paths files each stops = given_stop paths files refused.0 refused.1 each stops

-- of what was read nothing is said
pub any_read : {A B C E : Type 0} (r : Result C E) (R : A → B → Type 0) (items : C → List B) (paths : List A) → IfOk r (λ c. AllZip R paths (items c)) → IfOk r (λ c. AllZip (λ (x : A) (y : B). ⊤) paths (items c))
any_read (Ok c) R items paths each = zipped_weaker R (λ x y. ⊤) (λ x y h. tt) paths (items c) each
any_read (Err e) R items paths each = tt
