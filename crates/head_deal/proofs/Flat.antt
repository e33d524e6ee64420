-- A worker's items in the lists in which they came.
use Rattle.std.proofs.Common.{◌≡◌, ℕ, suc, zero, ◌+◌, ◌-◌, ◌<◌, ◌≤◌, All, List, [], ◌∷◌, ◌++◌, map, length, get_or, set, take, refl, sym, ap, ◌∙◌, arith}
use Rattle.std.proofs.lemmas.List.{length-append, length-map, get_or-map, map-append, append_assoc, append-nil, get_or_append_left, get_or-append_right}
use Rattle.std.proofs.lemmas.Grind.{flat_map-append}
use Rattle.head_deal.specs.declared.parts.Due.{Due}
use Rattle.head_deal.specs.declared.batches.ItemBatch.{ItemBatch}
use Rattle.head_deal.specs.Jobs.{Queued, Finished}
use Rattle.head_deal.specs.Entries.{entry, entries}
use Rattle.head_deal.specs.Batches.{shifted, dues_in, flat}

module _ {I : Type 0} where
  pub length-dues : (b : ItemBatch I) → length (dues_in b) ≡ length b.dues.items
  length-dues b = length-map b.dues.items (shifted b.base)

  -- one batch more of the first
  flat-take-suc : (bs : List (ItemBatch I)) (k : ℕ) (b : ItemBatch I) → k < length bs → length (flat (take (suc k) bs)) ≡ length (flat (take k bs)) + length (get_or bs k b).dues.items
  flat-take-suc [] k b low = absurd (omega arith)
  flat-take-suc (x ∷ bs) zero b low = length-append (dues_in x) [] ∙ (let n = length-dues x in omega arith)
  flat-take-suc (x ∷ bs) (suc k) b low =
      let n = length-append (dues_in x) (flat (take (suc k) bs)) in
      let m = length-append (dues_in x) (flat (take k bs)) in
      let r = flat-take-suc bs k b (omega arith) in
      omega arith

  pub flat-take : (bs : List (ItemBatch I)) (k : ℕ) (b : ItemBatch I) → k < length bs → length (flat (take (k + 1) bs)) ≡ length (flat (take k bs)) + length (get_or bs k b).dues.items
  flat-take bs k b low = let e : k + 1 ≡ suc k = omega arith in rw e (flat-take-suc bs k b low)

  flat-take-most : (bs : List (ItemBatch I)) (k : ℕ) → length (flat (take k bs)) ≤ length (flat bs)
  flat-take-most bs zero = omega arith
  flat-take-most [] (suc k) = omega arith
  flat-take-most (x ∷ bs) (suc k) =
      let n = length-append (dues_in x) (flat bs) in
      let m = length-append (dues_in x) (flat (take k bs)) in
      let r = flat-take-most bs k in
      omega arith

  pub flat-take-all : (bs : List (ItemBatch I)) (k : ℕ) → length bs ≤ k → length (flat (take k bs)) ≡ length (flat bs)
  flat-take-all [] zero high = refl
  flat-take-all (x ∷ bs) zero high = absurd (omega arith)
  flat-take-all [] (suc k) high = refl
  flat-take-all (x ∷ bs) (suc k) high =
      let n = length-append (dues_in x) (flat bs) in
      let m = length-append (dues_in x) (flat (take k bs)) in
      let r = flat-take-all bs k (omega arith) in
      omega arith

  -- a due of a batch among all
  flat-at : (bs : List (ItemBatch I)) (k p : ℕ) (b : ItemBatch I) (d : Due I) → k < length bs → get_or bs k b ≡ b → p < length b.dues.items → get_or b.dues.items p d ≡ d
      → get_or (flat bs) (length (flat (take k bs)) + p) (shifted b.base d) ≡ shifted b.base d
  flat-at [] k p b d low at within is = absurd (omega arith)
  flat-at (x ∷ bs) zero p b d low at within is =
      let n = length-dues b in
      let e : length (flat (take zero (x ∷ bs))) + p ≡ p = omega arith in
      rw (e, at) (get_or_append_left (dues_in b) (flat bs) (shifted b.base d) p (omega arith) ∙ (get_or-map (shifted b.base) b.dues.items p d (shifted b.base d) (omega arith) ∙ ap (shifted b.base) is))
  flat-at (x ∷ bs) (suc k) p b d low at within is =
      let m = length-append (dues_in x) (flat (take k bs)) in
      let e : length (flat (take (suc k) (x ∷ bs))) + p ≡ length (dues_in x) + (length (flat (take k bs)) + p) = omega arith in
      let r = get_or-append_right (dues_in x) (flat bs) (length (dues_in x)) (length (dues_in x) + (length (flat (take k bs)) + p)) (shifted b.base d) refl (omega arith) in
      let f : (length (dues_in x) + (length (flat (take k bs)) + p)) - length (dues_in x) ≡ length (flat (take k bs)) + p = omega arith in
      rw e (r ∙ (rw f (flat-at bs k p b d (omega arith) at within is)))

  -- the same, as a part finds it
  pub due-among : (bs : List (ItemBatch I)) (k p place : ℕ) (b : ItemBatch I) (d : Due I) → k < length bs → b ≡ get_or bs k b → p < length b.dues.items → d ≡ get_or b.dues.items p d
      → length (flat (take k bs)) + p ≡ place → (place < length (flat bs)) × (shifted b.base d ≡ get_or (flat bs) place (shifted b.base d))
  due-among bs k p place b d low at within is there =
      let t = flat-take bs k b low in
      let m = flat-take-most bs (k + 1) in
      let w : p < length (get_or bs k b).dues.items = rw (← at) within in
      (omega arith, sym (rw there at (flat-at bs k p b d low (sym at) within (sym is))))

  pub flat-push : (bs : List (ItemBatch I)) (b : ItemBatch I) → flat (bs ++ b ∷ []) ≡ flat bs ++ dues_in b
  flat-push bs b = flat_map-append dues_in bs (b ∷ []) ∙ ap (λ x. flat bs ++ x) (append-nil (dues_in b))

  -- one due more in the last batch
  flat-last : (bs : List (ItemBatch I)) (k : ℕ) (b b' : ItemBatch I) (d : Due I) → k + 1 ≡ length bs → b ≡ get_or bs k b → b'.base ≡ b.base → b'.dues.items ≡ b.dues.items ++ d ∷ []
      → flat (set bs k b') ≡ flat bs ++ shifted b.base d ∷ []
  flat-last [] k b b' d last at same is = absurd (omega arith)
  flat-last (x ∷ y ∷ bs) zero b b' d last at same is = absurd (omega arith)
  flat-last (x ∷ []) zero b b' d last at same is =
      let e : dues_in b' ≡ dues_in x ++ shifted b.base d ∷ [] = ap (λ n. map (shifted n) b'.dues.items) same ∙ (ap (map (shifted b.base)) is ∙ (map-append (shifted b.base) b.dues.items (d ∷ []) ∙ ap (λ z. dues_in z ++ shifted b.base d ∷ []) at)) in
      append-nil (dues_in b') ∙ (e ∙ ap (λ z. z ++ shifted b.base d ∷ []) (sym (append-nil (dues_in x))))
  flat-last (x ∷ bs) (suc k) b b' d last at same is =
      ap (λ z. dues_in x ++ z) (flat-last bs k b b' d (omega arith) at same is) ∙ sym (append_assoc (dues_in x) (flat bs) (shifted b.base d ∷ []))

  -- the same, with the due's number among all
  pub flat-taken : (bs bs' : List (ItemBatch I)) (k number element : ℕ) (item : I) (b b' : ItemBatch I) → flat bs' ≡ flat bs → k + 1 ≡ length bs' → b ≡ get_or bs' k b → b.base ≤ number → b'.base ≡ b.base
      → b'.dues.items ≡ b.dues.items ++ record { number = number - b.base; element = element; item = item } ∷ []
      → flat (set bs' k b') ≡ flat bs ++ record { number = number; element = element; item = item } ∷ []
  flat-taken bs bs' k number element item b b' old last at low same is =
      let n : b.base + (number - b.base) ≡ number = omega arith in
      flat-last bs' k b b' (record { number = number - b.base; element = element; item = item }) last at same is
      ∙ (ap (λ x. x ++ record { number = b.base + (number - b.base); element = element; item = item } ∷ []) old
      ∙ ap (λ x. flat bs ++ record { number = x; element = element; item = item } ∷ []) n)

  -- a batch whose dues are as they were
  pub flat-kept : (bs : List (ItemBatch I)) (k : ℕ) (b b' : ItemBatch I) → b ≡ get_or bs k b → b'.base ≡ b.base → b'.dues.items ≡ b.dues.items → flat (set bs k b') ≡ flat bs
  flat-kept [] k b b' at same is = refl
  flat-kept (x ∷ bs) zero b b' at same is =
      ap (λ z. z ++ flat bs) (ap (λ n. map (shifted n) b'.dues.items) same ∙ (ap (map (shifted b.base)) is ∙ ap dues_in at))
  flat-kept (x ∷ bs) (suc k) b b' at same is = ap (λ z. dues_in x ++ z) (flat-kept bs k b b' at same is)

-- the items after those that have outcomes
pub entries-append : {I O : Type 0} (w m : ℕ) (ds es : List (Due I)) (os : List O) → length os ≤ length ds → entries w m (ds ++ es) os ≡ entries w m ds os ++ entries w m es []
entries-append w m [] es [] some = refl
entries-append w m [] es (o ∷ os) some = absurd (omega arith)
entries-append w m (d ∷ ds) es [] some = ap (λ x. entry w m d (Queued d.item) ∷ x) (entries-append w m ds es [] (omega arith))
entries-append w m (d ∷ ds) es (o ∷ os) some = ap (λ x. entry w m d (Finished o) ∷ x) (entries-append w m ds es os (omega arith))

pub all-append : {T : Type 0} (P : T → Type 0) (xs ys : List T) → All P xs → All P ys → All P (xs ++ ys)
all-append P [] ys all more k d low = more k d low
all-append P (x ∷ xs) ys all more zero d low = all 0 d (omega arith)
all-append P (x ∷ xs) ys all more (suc k) d low = all-append P xs ys (λ i e under. all (suc i) e (omega arith)) more k d (omega arith)

-- a claim on elements alone, of dues with other numbers
pub all-shifted : {I : Type 0} (base n : ℕ) (ds : List (Due I)) → All (λ due. due.element < n) ds → All (λ due. due.element < n) (map (shifted base) ds)
all-shifted base n [] all k d low = absurd (omega arith)
all-shifted base n (x ∷ ds) all zero d low = all 0 x (omega arith)
all-shifted base n (x ∷ ds) all (suc k) d low = all-shifted base n ds (λ i e under. all (suc i) e (omega arith)) k d (omega arith)
