-- Counts beside a set of keys, with one key more.
use Rattle.std.proofs.Common.{◌≡◌, ℕ, ◌+◌, ◌<◌, ◌≤◌, Bool, true, false, cond, List, [], ◌∷◌, ◌++◌, length, map, refl, sym, ap, subst, ◌∙◌, arith}
use Rattle.std.specs.Prelude.{◌||◌, if◌then◌else◌, not, slice_set, slice_index_or}
use Rattle.std.specs.Cmp.{IsEquivalence}
use Rattle.std.specs.List.{AllByRecursion, list_any, position_or_len}
use Rattle.std.proofs.lemmas.List.{get_or-map, length-map, map-append, map-set}
use Rattle.std.proofs.Math.Seq.{get_or-append_seam}
use Rattle.hw_bytes.specs.Lists.{distinct}
use Rattle.hw_bytes.proofs.Places.{list_any-map}
use Rattle.indexmap.specs.IndexSet.{insert_key}
use Rattle.head_ranks.proofs.Distinct.{IsFound, any_found, distinct-IsDistinct, distinct_new, distinct_old, map_alike, map_set}

module _ {L : Type 0} (same : L → L → Bool) (law : IsEquivalence same) (exact : (a b : L) → same a b ≡ true → a ≡ b) where
  module _ {K : Type 0} (lab : K → L) (x : L) where
    abbrev pub at_in : List K → ℕ
    at_in ks = position_or_len (λ k. same x (lab k)) ks

    -- the place of x is where it is
    pub found : (ks : List K) → at_in ks < length ks → IsFound same law exact x (map lab ks) (at_in ks)
    found [] h = absurd (omega arith)
    found (k ∷ ks) h = by (same x (lab k)) refl (found ks) h where
      by : (b : Bool) → same x (lab k) ≡ b → (at_in ks < length ks → IsFound same law exact x (map lab ks) (at_in ks)) → cond (not b) (1 + at_in ks) 0 < length (k ∷ ks)
          → IsFound same law exact x (lab k ∷ map lab ks) (cond (not b) (1 + at_in ks) 0)
      by true e f g = record { front = []; back = map lab ks; parts = ap (λ z. z ∷ map lab ks) (sym (exact x (lab k) e)); long = refl }
      by false e f g =
          let deep = f (omega arith) in
          record { front = lab k ∷ deep.front; back = deep.back; parts = ap (λ z. lab k ∷ z) deep.parts; long = (let long = deep.long in omega (arith, long)) }

    -- x is none of these
    pub not_found : (ks : List K) → length ks ≤ at_in ks → list_any (same x) (map lab ks) ≡ false
    not_found [] h = refl
    not_found (k ∷ ks) h = by (same x (lab k)) (not_found ks) h where
      by : (b : Bool) → (length ks ≤ at_in ks → list_any (same x) (map lab ks) ≡ false) → length (k ∷ ks) ≤ cond (not b) (1 + at_in ks) 0 → (b || list_any (same x) (map lab ks)) ≡ false
      by true f g = absurd (omega arith)
      by false f g = f (omega arith)

  module _ {K C S : Type 0} (lab : K → L) (shown : C → S) (f g : L → S) (ls : List L) (k : K) (ks : List K) (cs : List C)
      (alike : (l : L) → same l (lab k) ≡ false → f l ≡ g l) (seen : map lab ks ≡ distinct same ls) (counts : map shown cs ≡ map f (distinct same ls)) where
    -- the keys, with one more
    pub seen_on : (new : List K) → new ≡ insert_key (λ a b. same (lab a) (lab b)) ks k → map lab new ≡ distinct same (ls ++ lab k ∷ [])
    seen_on new is = ap (map lab) is ∙ by (list_any (λ b. same (lab k) (lab b)) ks) (sym (list_any-map lab (same (lab k)) ks) ∙ refl) where
      by : (b : Bool) → list_any (same (lab k)) (map lab ks) ≡ b → map lab (if b then ks else ks ++ k ∷ []) ≡ distinct same (ls ++ lab k ∷ [])
      by true e = seen ∙ sym (distinct_old same law exact ls (lab k) (ap (list_any (same (lab k))) (sym seen) ∙ e))
      by false e = map-append lab ks (k ∷ []) ∙ ap (λ z. z ++ lab k ∷ []) seen ∙ sym (distinct_new same law exact ls (lab k) (ap (list_any (same (lab k))) (sym seen) ∙ e))

    -- as many counts as keys
    pub as_many : length cs ≡ length ks
    as_many = sym (length-map cs shown) ∙ ap length counts ∙ length-map (distinct same ls) f ∙ ap length (sym seen) ∙ length-map ks lab

    any_of : (ds : List L) (i : ℕ) → IsFound same law exact (lab k) ds i → list_any (same (lab k)) ds ≡ true
    any_of ds i p = ap (list_any (same (lab k))) p.parts ∙ any_found same law exact (lab k) p.front p.back

    -- a key that was there changes no keys
    pub seen_here : (at : ℕ) → IsFound same law exact (lab k) (distinct same ls) at → map lab ks ≡ distinct same (ls ++ lab k ∷ [])
    seen_here at here = seen ∙ sym (distinct_old same law exact ls (lab k) (any_of (distinct same ls) at here))

    -- a key that was there has one count more
    pub counts_here : (at : ℕ) → IsFound same law exact (lab k) (distinct same ls) at → at < length cs → (c old : C) → old ≡ slice_index_or cs at old → (shown old ≡ f (lab k) → shown c ≡ g (lab k))
        → map shown (slice_set cs at c) ≡ map g (distinct same (ls ++ lab k ∷ []))
    counts_here at here within c old was step =
        let said : shown old ≡ f (lab k) = ap shown was ∙ sym (get_or-map shown cs at old (shown old) within) ∙ ap (λ ss. slice_index_or ss at (shown old)) counts ∙ map_at f (distinct same ls) at (shown old) here in
        map-set shown cs at c
        ∙ ap (λ ss. slice_set ss at (shown c)) counts
        ∙ ap (slice_set (map f (distinct same ls)) at) (step said)
        ∙ map_set same law exact f g (lab k) alike (distinct same ls) at (distinct-IsDistinct same law exact ls) here
        ∙ ap (map g) (sym (distinct_old same law exact ls (lab k) (any_of (distinct same ls) at here))) where
          map_at : (h : L → S) (ds : List L) (i : ℕ) (d : S) → IsFound same law exact (lab k) ds i → slice_index_or (map h ds) i d ≡ h (lab k)
          map_at h ds i d p =
              ap (λ zs. slice_index_or (map h zs) i d) p.parts
              ∙ ap (λ zs. slice_index_or zs i d) (map-append h p.front (lab k ∷ p.back))
              ∙ ap (λ n. slice_index_or (map h p.front ++ h (lab k) ∷ map h p.back) n d) (sym (length-map p.front h ∙ p.long))
              ∙ get_or-append_seam (map h p.front) (h (lab k)) (map h p.back) d

    pub counts_old : (at : ℕ) → at ≡ at_in lab (lab k) ks → at < length cs → (c old : C) → old ≡ slice_index_or cs at old → (shown old ≡ f (lab k) → shown c ≡ g (lab k))
        → map shown (slice_set cs at c) ≡ map g (distinct same (ls ++ lab k ∷ []))
    counts_old at is within =
        let there : IsFound same law exact (lab k) (map lab ks) (at_in lab (lab k) ks) = found lab (lab k) ks (let many = as_many in omega arith) in
        counts_here at (subst (IsFound same law exact (lab k) (distinct same ls)) (sym is) (subst (λ ds. IsFound same law exact (lab k) ds (at_in lab (lab k) ks)) seen there)) within

    -- a key that is new has the last count
    pub counts_new : (at : ℕ) → at ≡ at_in lab (lab k) ks → length cs ≤ at → (c : C) → (list_any (same (lab k)) (distinct same ls) ≡ false → shown c ≡ g (lab k))
        → map shown (cs ++ c ∷ []) ≡ map g (distinct same (ls ++ lab k ∷ []))
    counts_new at is beyond c step =
        let none : list_any (same (lab k)) (distinct same ls) ≡ false = ap (list_any (same (lab k))) (sym seen) ∙ not_found lab (lab k) ks (let many = as_many in omega arith) in
        map-append shown cs (c ∷ [])
        ∙ ap (λ ss. ss ++ shown c ∷ []) counts
        ∙ ap (λ s. map f (distinct same ls) ++ s ∷ []) (step none)
        ∙ ap (λ ss. ss ++ g (lab k) ∷ []) (map_alike same law exact f g (lab k) alike (distinct same ls) (apart_all (distinct same ls) none))
        ∙ sym (map-append g (distinct same ls) (lab k ∷ []))
        ∙ ap (map g) (sym (distinct_new same law exact ls (lab k) none)) where
          apart_all : (ds : List L) → list_any (same (lab k)) ds ≡ false → AllByRecursion (λ l. same l (lab k) ≡ false) ds
          apart_all [] h = tt
          apart_all (d ∷ ds) h = by (same (lab k) d) refl (apart_all ds) h where
            by : (b : Bool) → same (lab k) d ≡ b → (list_any (same (lab k)) ds ≡ false → AllByRecursion (λ l. same l (lab k) ≡ false) ds) → (b || list_any (same (lab k)) ds) ≡ false
                → (same d (lab k) ≡ false) × AllByRecursion (λ l. same l (lab k) ≡ false) ds
            by true e deep h = absurd cc
            by false e deep h = (law.symm d (lab k) ∙ e, deep h)
