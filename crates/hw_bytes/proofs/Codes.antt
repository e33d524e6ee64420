-- Spellings one after another.
use Rattle.std.proofs.Common.{◌≡◌, ℕ, zero, suc, ◌+◌, ◌<◌, ◌≤◌, List, [], ◌∷◌, ◌++◌, length, take, drop, Option, Some, None, refl, sym, ap, subst, ◌∙◌, arith, append_assoc, IfSome, IfNone, inl, inr}
use Rattle.std.proofs.lemmas.Bool.{cases_lt}
use Rattle.std.proofs.lemmas.List.{get_or-take, get_or_past, length-take, append-nil, drop_at, length-append, length-drop, length-take-le, take-append-drop, take_all, take-take, drop-take, get_or-drop}
use Rattle.hw_bytes.specs.Spellings.{IsBytes, Each, IsAt, IsNowhere, IsCode}

-- the rest of bytes are bytes
pub bytes_drop : (bytes rest : List ℕ) (n : ℕ) → IsBytes bytes → rest ≡ drop n bytes → IsBytes rest
bytes_drop bytes rest n small e i = rw (e, get_or-drop n bytes i 0) (small (n + i))

-- the first of bytes are bytes
pub bytes_take : (n : ℕ) (bytes : List ℕ) → IsBytes bytes → IsBytes (take n bytes)
bytes_take n bytes small i = elim (cases_lt i n) [
  | inl lt ↦ rw (get_or-take n bytes i 0 lt) (small i)
  | inr le ↦ rw (get_or_past (take n bytes) i 0 (omega (arith, length-take n bytes))) (omega arith)
]

pub bytes_cons : (b : ℕ) (bytes : List ℕ) → b < 256 → IsBytes bytes → IsBytes (b ∷ bytes)
bytes_cons b bytes byte small zero = byte
bytes_cons b bytes byte small (suc i) = small i

pub bytes_append : (front rest : List ℕ) → IsBytes front → IsBytes rest → IsBytes (front ++ rest)
bytes_append [] rest f r = r
bytes_append (b ∷ front) rest f r = bytes_cons b (front ++ rest) (f 0) (bytes_append front rest (λ i. f (suc i)) r)

pub bytes_front : (front rest : List ℕ) → IsBytes (front ++ rest) → IsBytes front
bytes_front [] rest h = λ i. omega arith
bytes_front (b ∷ front) rest h = bytes_cons b front (h 0) (bytes_front front rest (λ i. h (suc i)))

pub take_then : (n m : ℕ) (xs : List ℕ) → take (n + m) xs ≡ take n xs ++ take m (drop n xs)
take_then n m xs = sym (take-append-drop n (take (n + m) xs)) ∙ ap (λ a. a ++ drop n (take (n + m) xs)) (take-take n (n + m) xs (omega arith)) ∙ ap (λ b. take n xs ++ b) (drop-take n m xs)

same_pair : {X : Type 0} (p q : X × ℕ) (o : Option (X × ℕ)) → o ≡ Some p → o ≡ Some q → p ≡ q
same_pair p q o h k = cc

pair_is : {X : Type 0} (x y : X) (m n : ℕ) (o : Option (X × ℕ)) → o ≡ Some (x, m) → o ≡ Some (y, n) → (x ≡ y) × (m ≡ n)
pair_is {X = X} x y m n o h k = (let e = same_pair (x, m) (y, n) o h k in (ap (λ (p : X × ℕ). p.0) e, ap (λ (p : X × ℕ). p.1) e))

-- a reader that finds each spelling again gives the first half of a code
pub one_by : {X : Type 0} (P : List ℕ → X → Type 0) (front_of : List ℕ → Option (X × ℕ)) → ((front rest : List ℕ) (x : X) → P front x → front_of (front ++ rest) ≡ Some (x, length front))
    → (f r g s : List ℕ) (x y : X) → P f x → P g y → f ++ r ≡ g ++ s → (x ≡ y) × (r ≡ s)
one_by P front_of again f r g s x y p q e =
    let both = pair_is x y (length f) (length g) (front_of (g ++ s)) (sym (ap front_of e) ∙ again f r x p) (again g s y q) in
    let len = both.1 in
    (both.0, sym (drop_at f r (length f) refl) ∙ ap (drop (length f)) e ∙ ap (λ (n : ℕ). drop n (g ++ s)) len ∙ drop_at g s (length g) refl)

pub nowhere_by : {X : Type 0} (P : List ℕ → X → Type 0) (front_of : List ℕ → Option (X × ℕ)) → ((front rest : List ℕ) (x : X) → P front x → front_of (front ++ rest) ≡ Some (x, length front))
    → (bytes : List ℕ) → front_of bytes ≡ None → IsNowhere P bytes
nowhere_by P front_of again bytes none front rest x p e = (let there : front_of bytes ≡ Some (x, length front) = ap front_of e ∙ again front rest x p in cc)

-- the contract of a reader, from a law on what it found
pub at_some : {X : Type 0} (P : List ℕ → X → Type 0) (bytes : List ℕ) (o : Option (X × ℕ)) → ((x : X) (len : ℕ) → o ≡ Some (x, len) → IsAt P bytes x len) → IfSome o (λ found. IsAt P bytes found.0 found.1)
at_some P bytes None h = tt
at_some P bytes (Some x) h = h x.0 x.1 refl

pub at_none : {X Y : Type 0} (P : List ℕ → X → Type 0) (bytes : List ℕ) (o : Option Y) → (o ≡ None → IsNowhere P bytes) → IfNone o (IsNowhere P bytes)
at_none P bytes None h = h refl
at_none P bytes (Some x) h = tt

-- what was found is what is there, and the rest is what comes after it
pub after : {X : Type 0} (P : List ℕ → X → Type 0) → ((f r g s : List ℕ) (x y : X) → P f x → P g y → f ++ r ≡ g ++ s → (x ≡ y) × (r ≡ s))
    → (bytes front rest : List ℕ) (x y : X) (len : ℕ) → IsAt P bytes x len → P front y → bytes ≡ front ++ rest → (x ≡ y) × (drop len bytes ≡ rest)
after P one bytes front rest x y len at p e = one (take len bytes) (drop len bytes) front rest x y at.spelled p (take-append-drop len bytes ∙ e)

-- the parts of more entries than were taken
pub record OneMore {X : Type 0} (P : List ℕ → X → Type 0) (rest : List ℕ) (xs es : List X) : Type 0 where
  pub next : X
  pub others : List X
  pub front : List ℕ
  pub behind : List ℕ
  pub is : es ≡ xs ++ next ∷ others
  pub parts : rest ≡ front ++ behind
  pub spelled : P front next

module _ {X : Type 0} (P : List ℕ → X → Type 0) (code : IsCode P) where
  pub each_push : (taken : List ℕ) (xs : List X) (front : List ℕ) (x : X) → Each P taken xs → P front x → Each P (taken ++ front) (xs ++ x ∷ [])
  each_push taken [] front x e p = (front, [], ap (λ (t : List ℕ). t ++ front) e ∙ sym (append-nil front), p, refl)
  each_push taken (y ∷ ys) front x (f, r, e, q, more) p = (f, r ++ front, ap (λ (t : List ℕ). t ++ front) e ∙ append_assoc f r front, q, each_push r ys front x more p)

  pub each_rest : (taken rest : List ℕ) (xs es : List X) → Each P taken xs → Each P (taken ++ rest) es → (ys : List X) × (es ≡ xs ++ ys) × Each P rest ys
  each_rest taken rest [] es e h = (es, refl, subst (λ (t : List ℕ). Each P t es) (ap (λ (t : List ℕ). t ++ rest) e) h)
  each_rest taken rest (x ∷ xs) [] (f, r, e, p, more) h = absurd (omega (arith, ap length h, length-append taken rest, ap length e, length-append f r, code.some f x p))
  each_rest taken rest (x ∷ xs) (y ∷ es) (f, r, e, p, more) (g, s, k, q, others) =
      let one = code.one f (r ++ rest) g s x y p q (sym (append_assoc f r rest) ∙ ap (λ (t : List ℕ). t ++ rest) (sym e) ∙ k) in
      let next = each_rest r rest xs es more (subst (λ (t : List ℕ). Each P t es) (sym one.1) others) in
      (next.0, ap (λ (z : X). z ∷ es) (sym one.0) ∙ ap (λ (zs : List X). x ∷ zs) next.1, next.2)

  -- where nothing is found in the rest, the whole has no reading
  pub each_none : (taken rest : List ℕ) (xs es : List X) → 0 < length rest → IsNowhere P rest → Each P taken xs → Each P (taken ++ rest) es → ⊥
  each_none taken rest xs es long none e h = at_rest (each_rest taken rest xs es e h)
    where
      at_rest : ((ys : List X) × (es ≡ xs ++ ys) × Each P rest ys) → ⊥
      at_rest ([], is, k) = absurd (omega (arith, ap length k))
      at_rest (y ∷ ys, is, (f, r, k, p, more)) = none f r y p k

  -- as many at the front of the same bytes are the same
  pub each_same : (f r g s : List ℕ) (xs ys : List X) → length xs ≡ length ys → Each P f xs → Each P g ys → f ++ r ≡ g ++ s → (xs ≡ ys) × (r ≡ s)
  each_same f r g s [] [] n h k e = (refl, ap (λ (t : List ℕ). t ++ r) (sym h) ∙ e ∙ ap (λ (t : List ℕ). t ++ s) k)
  each_same f r g s [] (y ∷ ys) n h k e = absurd (omega arith)
  each_same f r g s (x ∷ xs) [] n h k e = absurd (omega arith)
  each_same f r g s (x ∷ xs) (y ∷ ys) n (a, b, i, p, more) (c, d, j, q, others) e =
      let one = code.one a (b ++ r) c (d ++ s) x y p q (sym (append_assoc a b r) ∙ ap (λ (t : List ℕ). t ++ r) (sym i) ∙ e ∙ ap (λ (t : List ℕ). t ++ s) j ∙ append_assoc c d s) in
      let next = each_same b r d s xs ys (omega arith) more others one.1 in
      (ap (λ (z : X). z ∷ xs) one.0 ∙ ap (λ (zs : List X). y ∷ zs) next.0, next.1)

  -- more entries go on where fewer end
  pub each_more : (taken rest front more : List ℕ) (xs es : List X) → Each P taken xs → Each P front es → taken ++ rest ≡ front ++ more → length xs < length es → OneMore P rest xs es
  each_more taken rest front more [] [] h k e lt = absurd (omega arith)
  each_more taken rest front more [] (y ∷ ys) h (f, r, i, p, others) e lt = record {
    next = y;
    others = ys;
    front = f;
    behind = r ++ more;
    is = refl;
    parts = sym (ap (λ (t : List ℕ). t ++ rest) h) ∙ e ∙ ap (λ (t : List ℕ). t ++ more) i ∙ append_assoc f r more;
    spelled = p;
  }
  each_more taken rest front more (x ∷ xs) [] h k e lt = absurd (omega arith)
  each_more taken rest front more (x ∷ xs) (y ∷ es) (a, b, i, p, here) (c, d, j, q, there) e lt =
      let one = code.one a (b ++ rest) c (d ++ more) x y p q (sym (append_assoc a b rest) ∙ ap (λ (t : List ℕ). t ++ rest) (sym i) ∙ e ∙ ap (λ (t : List ℕ). t ++ more) j ∙ append_assoc c d more) in
      let o = each_more b rest d more xs es here there one.1 (omega arith) in
      record {
        next = o.next;
        others = o.others;
        front = o.front;
        behind = o.behind;
        is = ap (λ (z : X). z ∷ es) (sym one.0) ∙ ap (λ (zs : List X). x ∷ zs) o.is;
        parts = o.parts;
        spelled = o.spelled;
      }

  -- bytes are read in one way
  pub each_one : (bytes : List ℕ) (xs ys : List X) → Each P bytes xs → Each P bytes ys → xs ≡ ys
  each_one bytes [] [] h k = refl
  each_one bytes [] (y ∷ ys) h (g, s, e, q, others) = absurd (omega (arith, ap length h, ap length e, length-append g s, code.some g y q))
  each_one bytes (x ∷ xs) [] (f, r, e, p, more) k = absurd (omega (arith, ap length k, ap length e, length-append f r, code.some f x p))
  each_one bytes (x ∷ xs) (y ∷ ys) (f, r, e, p, more) (g, s, k, q, others) =
      let one = code.one f r g s x y p q (sym e ∙ k) in
      let rest = each_one r xs ys more (subst (λ (t : List ℕ). Each P t ys) (sym one.1) others) in
      ap (λ (z : X). z ∷ xs) one.0 ∙ ap (λ (zs : List X). y ∷ zs) rest

  -- ---- a loop that goes on at a place

  pub Upto : List ℕ → ℕ → List X → Type 0
  Upto bytes at xs = (at ≤ length bytes) × Each P (take at bytes) xs

  pub upto_none : (bytes : List ℕ) → Upto bytes 0 []
  unfolding Upto
  upto_none bytes = (omega arith, refl)

  pub upto_more : (bytes rest : List ℕ) (at : ℕ) (xs : List X) (x : X) (len : ℕ) → Upto bytes at xs → rest ≡ drop at bytes → IsAt P rest x len → Upto bytes (at + len) (xs ++ x ∷ []) × (0 < len)
  unfolding Upto
  upto_more bytes rest at xs x len h r f =
      let both : take (at + len) bytes ≡ take at bytes ++ take len rest = take_then at len bytes ∙ ap (λ (t : List ℕ). take at bytes ++ take len t) (sym r) in (
        (omega (arith, ap length r, length-drop at bytes, f.within, h.0), subst (λ (t : List ℕ). Each P t (xs ++ x ∷ [])) (sym both) (each_push (take at bytes) xs (take len rest) x h.1 f.spelled)),
        omega (arith, code.some (take len rest) x f.spelled, length-take-le len rest f.within),
      )

  pub upto_whole : (bytes : List ℕ) (at : ℕ) (xs : List X) → Upto bytes at xs → length bytes ≤ at → Each P bytes xs
  unfolding Upto
  upto_whole bytes at xs h past = subst (λ (t : List ℕ). Each P t xs) (take_all at bytes past) h.1

  pub upto_bad : (bytes rest : List ℕ) (at : ℕ) (xs : List X) → Upto bytes at xs → at < length bytes → rest ≡ drop at bytes → IsNowhere P rest → (es : List X) → Each P bytes es → ⊥
  unfolding Upto
  upto_bad bytes rest at xs h lt r e es k =
      each_none (take at bytes) (drop at bytes) xs es (omega (arith, length-drop at bytes)) (subst (IsNowhere P) r e) h.1 (subst (λ (t : List ℕ). Each P t es) (sym (take-append-drop at bytes)) k)

  pub upto_at : (bytes : List ℕ) (at : ℕ) (xs : List X) → Upto bytes at xs → at ≤ length bytes
  unfolding Upto
  upto_at bytes at xs h = h.0

  pub upto_read : (bytes : List ℕ) (at : ℕ) (xs : List X) → Upto bytes at xs → Each P (take at bytes) xs
  unfolding Upto
  upto_read bytes at xs h = h.1
