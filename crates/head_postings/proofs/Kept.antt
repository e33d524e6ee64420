-- A map whose keys are kept as vectors of bytes, seen as lists beside texts.
use Rattle.std.proofs.Common.{◌≡◌, ℕ, ◌-◌, true, List, [], ◌∷◌, ◌++◌, refl, Some, None, Vec, Global, ap, sym, subst, ◌∙◌, is_some}
use Rattle.std.specs.Prelude.{Bool, ◌&&◌, if◌then◌else◌, slice_get, position, false}
use Rattle.std.specs.Vec.{vec_capacity, vec_len}
use Rattle.std.specs.Map.{lookup, keys_of, values_of}
use Rattle.indexmap.specs.IndexMap.{set_value_at, insert_entry}
use Rattle.wal_record.specs.Labels.{same_text}
use Rattle.hw_bytes.proofs.Places.{position-map}
use Rattle.wal_record.proofs.SameText.{same_text_exact, same_text_refl}
use Rattle.head_postings.specs.Placed.{places, NamedPlaced, Placed}
use Rattle.head_postings.specs.Postings.{Text, Lists, listed}
use Rattle.head_postings.proofs.Listed.{seen, listed-last, listed-found, listed-none, listed-written, listed-inserted, none_found, IsPut}

abbrev pub bytes : Vec ℕ Global → Text
bytes v = v.items

module _ {X A : Type 0} (g : X → List A) (t : Text) (es : List (Vec ℕ Global × X)) (now : List (Text × List A)) (is : seen bytes g es ≡ now) where
  pub put_at : (i : ℕ) (w : X) → Some i ≡ position (λ k. same_text t k.items) (keys_of es) → IsPut t (g w) now (seen bytes g (set_value_at es i w))
  put_at i w h = subst (λ z. IsPut t (g w) z (seen bytes g (set_value_at es i w))) is (λ q. listed-written bytes g t es i w q (sym (h ∙ position-map bytes (same_text t) (keys_of es))))

  pub was_at : (i : ℕ) (o : X) → slice_get (values_of es) i ≡ lookup (λ k. same_text t k.items) es → slice_get (values_of es) i ≡ Some o → listed now t ≡ g o
  was_at i o h k = ap (λ z. listed z t) (sym is) ∙ listed-found bytes g t es o (sym h ∙ k)

  pub put_new : (k : Vec ℕ Global) (w : X) (new : List (Vec ℕ Global × X)) → k.items ≡ t → false ≡ is_some (lookup (λ k. same_text t k.items) es)
      → new ≡ insert_entry (λ a b. same_text a.items b.items) es k w → IsPut t (g w) now (seen bytes g new)
  put_new k w new e h n = subst (λ z. IsPut t (g w) z (seen bytes g new)) is (λ q. listed-inserted bytes g t es new k w q e (none_found (lookup (λ k. same_text t k.items) es) h) n)

  pub was_none : false ≡ is_some (lookup (λ k. same_text t k.items) es) → listed now t ≡ []
  was_none h = ap (λ z. listed z t) (sym is) ∙ listed-none bytes g t es (none_found (lookup (λ k. same_text t k.items) es) h)

-- the last entry is taken out
pub put_popped : {X A : Type 0} (g : X → List A) (k : Vec ℕ Global) (o : X) (old new : List (Vec ℕ Global × X)) → old ≡ new ++ (k, o) ∷ [] → lookup (λ x. same_text k.items x.items) new ≡ None
    → IsPut k.items (g o) (seen bytes g new) (seen bytes g old)
put_popped g k o old new e n q = ap (λ z. listed (seen bytes g z) q) e ∙ listed-last bytes g k.items new k o q refl n

pub gone : {X A : Type 0} (g : X → List A) (t : Text) (new : List (Vec ℕ Global × X)) → lookup (λ x. same_text t x.items) new ≡ None → (q : Text) → same_text q t ≡ true → listed (seen bytes g new) q ≡ []
gone g t new n q e = ap (listed (seen bytes g new)) (same_text_exact q t e) ∙ listed-none bytes g t new n

-- what the last entry had
pub popped_had : {A : Type 0} (t : Text) (w : List A) (old new : List (Text × List A)) → IsPut t w new old → listed old t ≡ w
popped_had t w old new put = put t ∙ ap (λ b. if b then w else listed new t) (same_text_refl t)

-- what is kept beside a name: the slots of its values, and the places beside them
abbrev pub slots_in : Placed → List (Text × List ℕ)
slots_in p = p.slots

abbrev pub rooms_in : Placed → List (Text × List (Unit {0}))
rooms_in p = p.rooms

-- what is kept in all
abbrev pub named_slots : NamedPlaced → List (Text × List (Text × List ℕ))
named_slots p = p.slots

abbrev pub named_rooms : NamedPlaced → List (Text × List (Text × List (Unit {0})))
named_rooms p = p.rooms

-- what is kept beside a value: its slots are its `bytes`, and the places that its list has room for
abbrev pub spaces : Vec ℕ Global → List (Unit {0})
spaces v = places (vec_capacity v - vec_len v)

-- what the fields of postings show
abbrev pub shown : NamedPlaced → Vec ℕ Global → Lists
shown names all = record { all = all.items; names = names.slots; rooms = record { all = vec_capacity all - vec_len all; names = names.rooms } }

-- a list of lists that is one of two
pub listed-if : {A : Type 0} (b : Bool) (xs ys : List (Text × List A)) (q : Text) → listed (if b then xs else ys) q ≡ (if b then listed xs q else listed ys q)
listed-if true xs ys q = refl
listed-if false xs ys q = refl

-- what h makes of nothing is nothing
pub kept_both : {A : Type 0} (b d : Bool) (xs : List A) (h : List A → List A) → (b ≡ true → xs ≡ []) → h [] ≡ [] → xs ≡ (if b && d then h xs else xs)
kept_both true true xs h e n = e refl ∙ sym n ∙ ap h (sym (e refl))
kept_both true false xs h e n = refl
kept_both false d xs h e n = refl
