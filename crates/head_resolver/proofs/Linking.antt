-- A change's place among others of its reference, and the slot before it.
use Rattle.std.proofs.Common.{◌≡◌, ℕ, zero, suc, ◌+◌, ◌-◌, ◌<◌, ◌≤◌, ◌==◌, Bool, true, false, List, [], ◌∷◌, ◌++◌, Option, None, Some, refl, ap, sym, subst, ◌∙◌, arith, length, take, get_or, eqb-true, add-zero, ◌⊎◌, inl, inr, add-one, eq-eqb}
use Rattle.std.specs.Prelude.{◌&&◌, map, nat_eq, nat_le, slice_get, if◌then◌else◌, IfSome}
use Rattle.std.specs.Map.{lookup}
use Rattle.std.specs.Option.{option_map, unwrap_or}
use Rattle.std.proofs.lemmas.List.{length-map, take-append-le, take-take}
use Rattle.std.proofs.lemmas.Bool.Decides.{nat_tests}
use Rattle.std.proofs.lemmas.Option.{get_or_from_slice_get, slice_get-get_or, slice_get-map, slice_get_read, slice_get_within}
use Rattle.hw_bytes.specs.Lists.{along}
use Rattle.hw_bytes.proofs.Lists.{along-push, by_push, map_push}
use Rattle.head_resolver.specs.Changes.{Change, slot_before, AreBelow}
use Rattle.head_resolver.specs.Links.{last_from, last_of, links_of, AreInOrder, AreJumps, AreLinked}

-- ---- lists

get_front : {A : Type 0} (xs ys : List A) (s : ℕ) → s < length xs → slice_get (xs ++ ys) s ≡ slice_get xs s
get_front [] ys s h = absurd (omega arith)
get_front (x ∷ xs) ys zero h = refl
get_front (x ∷ xs) ys (suc s) h = get_front xs ys s (omega arith)

get_end : {A : Type 0} (xs : List A) (y : A) → slice_get (xs ++ y ∷ []) (length xs) ≡ Some y
get_end [] y = refl
get_end (x ∷ xs) y = get_end xs y

take_all : {A : Type 0} (xs ys : List A) → take (length xs) (xs ++ ys) ≡ xs
take_all [] ys = refl
take_all (x ∷ xs) ys = ap (λ zs. x ∷ zs) (take_all xs ys)

get_taken : {A : Type 0} (k : ℕ) (xs : List A) (s : ℕ) (x : A) → slice_get (take k xs) s ≡ Some x → (slice_get xs s ≡ Some x) × (s < k)
get_taken zero xs s x h = cc
get_taken (suc k) [] s x h = cc
get_taken (suc k) (y ∷ xs) zero x h = (h, omega arith)
get_taken (suc k) (y ∷ xs) (suc s) x h = let r = get_taken k xs s x h in (r.0, (let l = r.1 in omega (arith, l)))

along_at : {A B : Type 0} (f : List A → A → B) (xs : List A) (k : ℕ) (x : A) → slice_get xs k ≡ Some x → slice_get (along (λ before a. f before a ∷ []) xs) k ≡ Some (f (take k xs) x)
along_at f [] k x h = cc
along_at f (y ∷ xs) zero x h = let e : y ≡ x = cc in ap (λ a. Some (f [] a)) e
along_at f (y ∷ xs) (suc k) x h = along_at (λ before. f (y ∷ before)) xs k x h

-- ---- the last change of a reference

last_push : (n found : ℕ) (cs : List Change) (c : Change) (r : ℕ) → last_from n found (cs ++ c ∷ []) r ≡ (if c.reference == r then suc (n + length cs) else last_from n found cs r)
last_push n found [] c r = ap (λ k. if c.reference == r then suc k else found) (sym (add-zero n))
last_push n found (d ∷ cs) c r =
    let e : suc n + length cs ≡ n + length (d ∷ cs) = omega arith in
    last_push (suc n) (if d.reference == r then suc n else found) cs c r
    ∙ ap (λ k. if c.reference == r then suc k else last_from (suc n) (if d.reference == r then suc n else found) cs r) e

pub last_more : (cs : List Change) (c : Change) (r : ℕ) → last_of (cs ++ c ∷ []) r ≡ (if c.reference == r then length cs + 1 else last_of cs r)
last_more cs c r =
    let e : suc (0 + length cs) ≡ length cs + 1 = omega arith in
    last_push 0 0 cs c r ∙ ap (λ k. if c.reference == r then k else last_of cs r) e

pub links_more : (cs : List Change) (c : Change) → links_of (cs ++ c ∷ []) ≡ links_of cs ++ last_of cs c.reference ∷ []
links_more cs c = along-push (λ before d. last_of before d.reference ∷ []) cs c

split : (j b : ℕ) → (j < b) ⊎ (b ≤ j)
split j zero = inr (omega arith)
split zero (suc b) = inl (omega arith)
split (suc j) (suc b) = at (split j b) where
  at : (j < b) ⊎ (b ≤ j) → (suc j < suc b) ⊎ (suc b ≤ suc j)
  at (inl h) = inl (omega arith)
  at (inr h) = inr (omega arith)

length_push : {A : Type 0} (xs : List A) (x : A) → length (xs ++ x ∷ []) ≡ length xs + 1
length_push [] x = refl
length_push (y ∷ ys) x = let k = length_push ys x in omega (arith, k)

jumps_more : (rs jumps : List ℕ) (r q : ℕ) → AreJumps rs jumps → length jumps ≡ length rs → ((j : ℕ) → q ≡ suc j → slice_get rs j ≡ Some r) → AreJumps (rs ++ r ∷ []) (jumps ++ q ∷ [])
jumps_more rs jumps r q h many to k j at = by (split k (length jumps)) where
  by : (k < length jumps) ⊎ (length jumps ≤ k) → (j < k) × (slice_get (rs ++ r ∷ []) j ≡ slice_get (rs ++ r ∷ []) k)
  by (inl low) =
      let old = h k j (sym (get_front jumps (q ∷ []) k low) ∙ at) in
      let l = old.0 in
      let front : k < length rs = omega (arith, low, many) in
      (old.0, get_front rs (r ∷ []) j (omega (arith, l, front)) ∙ old.1 ∙ sym (get_front rs (r ∷ []) k front))
  by (inr high) =
      let w = slice_get_within (jumps ++ q ∷ []) k (suc j) at in
      let long = length_push jumps q in
      let here : k ≡ length jumps = omega (arith, high, w, long) in
      let both : Some q ≡ Some (suc j) = sym (ap (slice_get (jumps ++ q ∷ [])) here ∙ get_end jumps q) ∙ at in
      let is : q ≡ suc j = cc in
      let found = to j is in
      let within : j < length rs = slice_get_within rs j r found in (
        omega (arith, within, here, many),
        get_front rs (r ∷ []) j within ∙ found ∙ sym (ap (slice_get (rs ++ r ∷ [])) (here ∙ many) ∙ get_end rs r),
      )

all_before : (xs : List Change) (q : ℕ) → AreInOrder xs → ((k : ℕ) (x : Change) → length xs ≡ k + 1 → slice_get xs k ≡ Some x → x.place ≤ q) → (i : ℕ) (x : Change) → i < length xs → slice_get xs i ≡ Some x → x.place ≤ q
all_before xs q order end i x low got = from (length xs) refl where
  from : (n : ℕ) → length xs ≡ n → x.place ≤ q
  from zero many = absurd (omega (arith, low, many))
  from (suc k) many =
      let y : Change = get_or xs k x in
      let y_at : slice_get xs k ≡ Some y = slice_get-get_or xs k x (omega (arith, many)) in
      let a = order i k x y (omega (arith, low, many)) got y_at in
      let b = end k y (omega (arith, many)) y_at in
      omega (arith, a, b)

-- the places stay in order
pub order_more : (cs : List Change) (c : Change) → AreInOrder cs → ((k : ℕ) (d : Change) → length cs ≡ k + 1 → slice_get cs k ≡ Some d → d.place ≤ c.place) → AreInOrder (cs ++ c ∷ [])
order_more cs c h last i j d e low at to = by (split j (length cs)) where
  by : (j < length cs) ⊎ (length cs ≤ j) → d.place ≤ e.place
  by (inl front) = h i j d e low (sym (get_front cs (c ∷ []) i (omega (arith, front, low))) ∙ at) (sym (get_front cs (c ∷ []) j front) ∙ to)
  by (inr high) = here (split i (length cs)) where
    w : j < length (cs ++ c ∷ [])
    w = slice_get_within (cs ++ c ∷ []) j e to

    where_is : j ≡ length cs
    where_is = let k = w in let l = length_push cs c in omega (arith, k, l, high)

    is : e ≡ c
    is = let both : Some e ≡ Some c = sym to ∙ ap (slice_get (cs ++ c ∷ [])) where_is ∙ get_end cs c in cc

    here : (i < length cs) ⊎ (length cs ≤ i) → d.place ≤ e.place
    here (inl front) = subst (λ (x : Change). d.place ≤ x.place) (sym is) (all_before cs c.place h last i d front (sym (get_front cs (c ∷ []) i front) ∙ at))
    here (inr past) =
        let a = where_is in
        let same : i ≡ j = omega (arith, past, low, a) in
        let both : Some d ≡ Some e = sym at ∙ ap (slice_get (cs ++ c ∷ [])) same ∙ to in
        let alike : d ≡ e = cc in
        subst (λ (x : Change). d.place ≤ x.place) alike (omega arith)

-- one change more
pub linked_more : (cs : List Change) (previous jumps : List ℕ) (lasts more : List (ℕ × ℕ)) (in_order after : Bool) (c : Change) (p q : ℕ) → AreLinked cs previous jumps lasts in_order → length jumps ≡ length cs → p ≡ last_of cs c.reference
    → ((j : ℕ) → q ≡ suc j → slice_get (map (λ (d : Change). d.reference) cs) j ≡ Some c.reference)
    → ((r : ℕ) → lookup (nat_eq r) more ≡ (if c.reference == r then Some (length cs + 1) else lookup (nat_eq r) lasts)) → (after ≡ true → AreInOrder (cs ++ c ∷ []))
    → AreLinked (cs ++ c ∷ []) (previous ++ p ∷ []) (jumps ++ q ∷ []) more after
linked_more cs previous jumps lasts more in_order after c p q h many is to put order = record {
  previous_are = ap (λ ps. ps ++ p ∷ []) h.previous_are ∙ ap (λ k. links_of cs ++ k ∷ []) is ∙ sym (links_more cs c);
  jumps_are = subst (λ rs. AreJumps rs (jumps ++ q ∷ [])) (sym (map_push (λ (d : Change). d.reference) cs c))
      (jumps_more (map (λ (d : Change). d.reference) cs) jumps c.reference q h.jumps_are (many ∙ sym same) to);
  lasts_are = λ r. ap (λ o. unwrap_or o 0) (put r) ∙ at r (c.reference == r) ∙ sym (last_more cs c r);
  order_is = order;
} where
  same : length (map (λ (d : Change). d.reference) cs) ≡ length cs
  same = simp length-map

  at : (r : ℕ) (b : Bool) → unwrap_or (if b then Some (length cs + 1) else lookup (nat_eq r) lasts) 0 ≡ (if b then length cs + 1 else last_of cs r)
  at r true = refl
  at r false = h.lasts_are r

pub link_at : (cs : List Change) (k : ℕ) (c : Change) → slice_get cs k ≡ Some c → slice_get (links_of cs) k ≡ Some (last_of (take k cs) c.reference)
link_at cs k c h = along_at (λ before d. last_of before d.reference) cs k c h

-- ---- the slot before the changes

before_push : (cs : List Change) (f : ℕ → Option ℕ) (p r : ℕ) (c : Change) → slot_before (cs ++ c ∷ []) f p r ≡ slot_before cs (λ q. if (c.reference == q) && nat_le p c.place then c.before else f q) p r
before_push [] f p r c = refl
before_push (d ∷ cs) f p r c = ap (λ o. if (d.reference == r) && nat_le p d.place then d.before else o) (before_push cs f p r c)

before_same : (cs : List Change) (f g : ℕ → Option ℕ) (p r : ℕ) → f r ≡ g r → slot_before cs f p r ≡ slot_before cs g p r
before_same [] f g p r e = e
before_same (d ∷ cs) f g p r e = ap (λ o. if (d.reference == r) && nat_le p d.place then d.before else o) (before_same cs f g p r e)

-- the last change of the reference, if there is one, and the slot before it
abbrev pub IsFound : List Change → (ℕ → Option ℕ) → ℕ → ℕ → ℕ → Type 0
IsFound cs f p r zero = slot_before cs f p r ≡ f r
IsFound cs f p r (suc k) = (c : Change) × (slice_get cs k ≡ Some c) × (c.reference ≡ r) × (slot_before cs f p r ≡ slot_before (take k cs) (λ q. if nat_le p c.place then c.before else f r) p r)

pub found_last : (p r : ℕ) (cs : List Change) (f : ℕ → Option ℕ) → IsFound cs f p r (last_of cs r)
found_last p r cs = by_push (λ cs. (f : ℕ → Option ℕ) → IsFound cs f p r (last_of cs r)) (λ f. refl) step cs where
  keep : (cs : List Change) (c : Change) (f g : ℕ → Option ℕ) → slot_before (cs ++ c ∷ []) f p r ≡ slot_before cs f p r → (n : ℕ) → IsFound cs f p r n → IsFound (cs ++ c ∷ []) f p r n
  keep cs c f g e zero h = e ∙ h
  keep cs c f g e (suc k) h =
      let within = slice_get_within cs k h.0 h.1 in
      let low : k ≤ length cs = omega (arith, within) in (
        h.0,
        get_front cs (c ∷ []) k within ∙ h.1,
        h.2,
        e ∙ h.3 ∙ ap (λ ds. slot_before ds (λ q. if nat_le p h.0.place then h.0.before else f r) p r) (sym (take-append-le k cs (c ∷ []) low)),
      )

  step : (cs : List Change) (c : Change) → ((f : ℕ → Option ℕ) → IsFound cs f p r (last_of cs r)) → (f : ℕ → Option ℕ) → IsFound (cs ++ c ∷ []) f p r (last_of (cs ++ c ∷ []) r)
  step cs c before f = subst (IsFound (cs ++ c ∷ []) f p r) (sym (last_push 0 0 cs c r)) (at (c.reference == r) refl) where
    at : (b : Bool) → (c.reference == r) ≡ b → IsFound (cs ++ c ∷ []) f p r (if b then suc (0 + length cs) else last_of cs r)
    at true e =
        let here : 0 + length cs ≡ length cs = omega arith in
        subst (λ n. IsFound (cs ++ c ∷ []) f p r (suc n)) (sym here) (
          c,
          get_end cs c,
          eqb-true c.reference r e,
          before_push cs f p r c
              ∙ before_same cs (λ q. if (c.reference == q) && nat_le p c.place then c.before else f q) (λ q. if nat_le p c.place then c.before else f r) p r (ap (λ b. if b && nat_le p c.place then c.before else f r) e)
              ∙ ap (λ ds. slot_before ds (λ q. if nat_le p c.place then c.before else f r) p r) (sym (take_all cs (c ∷ []))),
        )
    at false e =
        keep cs c f f
        (before_push cs f p r c ∙ before_same cs (λ q. if (c.reference == q) && nat_le p c.place then c.before else f q) f p r (ap (λ b. if b && nat_le p c.place then c.before else f r) e))
        (last_of cs r) (before f)

-- ---- the walk from a reference's last change to its first

-- The changes from the number `b` on are looked at: the next one is the last before them of the reference.
pub record IsWalk (cs : List Change) (after : ℕ → Option ℕ) (p r next : ℕ) (found : Option ℕ) : Type 0 where
  pub upto : ℕ
  pub within : upto ≤ length cs
  pub next_is : next ≡ last_of (take upto cs) r
  pub found_is : slot_before (take upto cs) (λ q. found) p r ≡ slot_before cs after p r

take_whole : {A : Type 0} (xs : List A) → take (length xs) xs ≡ xs
take_whole [] = refl
take_whole (x ∷ xs) = ap (λ zs. x ∷ zs) (take_whole xs)

pub walk_first : (cs : List Change) (after : ℕ → Option ℕ) (p r next : ℕ) (found : Option ℕ) → next ≡ last_of cs r → found ≡ after r → IsWalk cs after p r next found
walk_first cs after p r next found n f = record {
  upto = length cs;
  within = omega arith;
  next_is = n ∙ ap (λ ds. last_of ds r) (sym (take_whole cs));
  found_is = ap (λ ds. slot_before ds (λ q. found) p r) (take_whole cs) ∙ before_same cs (λ q. found) after p r f;
}

pub walk_done : (cs : List Change) (after : ℕ → Option ℕ) (p r next : ℕ) (found : Option ℕ) → IsWalk cs after p r next found → next ≡ 0 → found ≡ slot_before cs after p r
walk_done cs after p r next found w e =
    sym (subst (IsFound (take w.upto cs) (λ q. found) p r) (sym w.next_is ∙ e) (found_last p r (take w.upto cs) (λ q. found))) ∙ w.found_is

pub walk_within : (cs : List Change) (after : ℕ → Option ℕ) (p r next k : ℕ) (found : Option ℕ) → IsWalk cs after p r next found → next ≡ suc k → k < length cs
walk_within cs after p r next k found w e =
    let here = subst (IsFound (take w.upto cs) (λ q. found) p r) (sym w.next_is ∙ e) (found_last p r (take w.upto cs) (λ q. found)) in
    slice_get_within cs k here.0 (get_taken w.upto cs k here.0 here.1).0

-- a change that was looked at
pub walk_more : (cs : List Change) (after : ℕ → Option ℕ) (p r next k : ℕ) (found : Option ℕ) (c : Change) (n : ℕ) (o : Option ℕ) → IsWalk cs after p r next found → next ≡ suc k → slice_get cs k ≡ Some c
    → n ≡ last_of (take k cs) c.reference → o ≡ (if nat_le p c.place then c.before else found) → IsWalk cs after p r n o
walk_more cs after p r next k found c n o w e at is are =
    let here = subst (IsFound (take w.upto cs) (λ q. found) p r) (sym w.next_is ∙ e) (found_last p r (take w.upto cs) (λ q. found)) in
    let there = get_taken w.upto cs k here.0 here.1 in
    let below : k ≤ w.upto = (let l = there.1 in omega (arith, l)) in
    let within : k < length cs = slice_get_within cs k here.0 there.0 in
    let both : Some c ≡ Some here.0 = sym at ∙ there.0 in
    let same : c ≡ here.0 = cc in
    record {
      upto = k;
      within = omega (arith, within);
      next_is = is ∙ ap (λ (d : Change). last_of (take k cs) d.reference) same ∙ ap (last_of (take k cs)) here.2;
      found_is =
          ap (λ x. slot_before (take k cs) (λ q. x) p r) (are ∙ ap (λ (d : Change). if nat_le p d.place then d.before else found) same)
          ∙ ap (λ ds. slot_before ds (λ q. if nat_le p here.0.place then here.0.before else found) p r) (sym (take-take k w.upto cs below))
          ∙ sym here.3
          ∙ w.found_is;
    }

pub below_at : (n : ℕ) (cs : List Change) (k : ℕ) (c : Change) → AreBelow n cs → slice_get cs k ≡ Some c → IfSome c.before (λ s. s < n)
below_at n cs k c all at = subst (λ (d : Change). IfSome d.before (λ s. s < n)) (get_or_from_slice_get cs k c c at) (all k c (slice_get_within cs k c at))

-- the number before is lesser
either : (b : Bool) (n found : ℕ) → found ≤ n → (if b then suc n else found) ≤ suc n
either true n found h = omega arith
either false n found h = omega arith

last_low : (n found : ℕ) (cs : List Change) (r : ℕ) → found ≤ n → last_from n found cs r ≤ n + length cs
last_low n found [] r h = omega arith
last_low n found (c ∷ cs) r h =
    let k = last_low (suc n) (if c.reference == r then suc n else found) cs r (either (c.reference == r) n found h) in
    omega (arith, k)

take_short : {A : Type 0} (k : ℕ) (xs : List A) → length (take k xs) ≤ k
take_short zero xs = omega arith
take_short (suc k) [] = omega arith
take_short (suc k) (x ∷ xs) = let l = take_short k xs in omega (arith, l)

pub last_falls : (k : ℕ) (cs : List Change) (r : ℕ) → last_of (take k cs) r ≤ k
last_falls k cs r = let a = last_low 0 0 (take k cs) r (omega arith) in let b = take_short k cs in omega (arith, a, b)

-- ---- jumps

take_length : {A : Type 0} (j : ℕ) (xs : List A) → j < length xs → length (take j xs) ≡ j
take_length zero xs h = refl
take_length (suc j) [] h = absurd (omega arith)
take_length (suc j) (x ∷ xs) h = let k = take_length j xs (omega arith) in omega (arith, k)

take_one : {A : Type 0} (xs : List A) (j : ℕ) (x : A) → slice_get xs j ≡ Some x → take (suc j) xs ≡ take j xs ++ x ∷ []
take_one [] j x h = cc
take_one (y ∷ xs) zero x h = let e : y ≡ x = cc in ap (λ z. z ∷ []) e
take_one (y ∷ xs) (suc j) x h = ap (λ zs. y ∷ zs) (take_one xs j x h)

at_most : (p q : ℕ) → p ≤ q → nat_le p q ≡ true
at_most p q h = grind (arith, nat_tests)

not_most : (p q : ℕ) → q < p → nat_le p q ≡ false
not_most p q h = grind (arith, nat_tests)

pass : (b : Bool) (x y : Option ℕ) → (if b && false then x else y) ≡ y
pass true x y = refl
pass false x y = refl

-- the last of the first changes up to one of the reference
last_here : (cs : List Change) (j : ℕ) (d : Change) (r : ℕ) → slice_get cs j ≡ Some d → d.reference ≡ r → last_of (take (suc j) cs) r ≡ suc j
last_here cs j d r at is =
    let here : (d.reference == r) ≡ true = eq-eqb d.reference r is in
    let many : length (take j cs) ≡ j = take_length j cs (slice_get_within cs j d at) in
    ap (λ ds. last_of ds r) (take_one cs j d at) ∙ last_more (take j cs) d r ∙ ap (λ b. if b then length (take j cs) + 1 else last_of (take j cs) r) here ∙ ap (λ n. n + 1) many ∙ add-one j

-- a change that is found hides all after it
match_upto : (cs : List Change) (j k p r : ℕ) (d : Change) (f g : ℕ → Option ℕ) → slice_get cs j ≡ Some d → d.reference ≡ r → p ≤ d.place → j < k → slot_before (take k cs) f p r ≡ slot_before (take (suc j) cs) g p r
match_upto [] j k p r d f g at is low h = cc
match_upto (x ∷ cs) zero zero p r d f g at is low h = absurd (omega arith)
match_upto (x ∷ cs) zero (suc k) p r d f g at is low h =
    let same : x ≡ d = cc in
    let here : (x.reference == r) ≡ true = eq-eqb x.reference r (ap (λ (c : Change). c.reference) same ∙ is) in
    let yes : nat_le p x.place ≡ true = subst (λ (c : Change). nat_le p c.place ≡ true) (sym same) (at_most p d.place low) in
    let rest : Option ℕ = slot_before (take k cs) f p r in
    let end : Option ℕ = slot_before (take zero cs) g p r in
    ap (λ b. if b && nat_le p x.place then x.before else rest) here ∙ ap (λ b. if b then x.before else rest) yes
    ∙ sym (ap (λ b. if b && nat_le p x.place then x.before else end) here ∙ ap (λ b. if b then x.before else end) yes)
match_upto (x ∷ cs) (suc j) zero p r d f g at is low h = absurd (omega arith)
match_upto (x ∷ cs) (suc j) (suc k) p r d f g at is low h =
    ap (λ o. if (x.reference == r) && nat_le p x.place then x.before else o) (match_upto cs j k p r d f g at is low (let l = h in omega (arith, l)))

-- changes before the place say nothing of it
none_match : (cs : List Change) (f : ℕ → Option ℕ) (p r : ℕ) → ((i : ℕ) (d : Change) → slice_get cs i ≡ Some d → d.place < p) → slot_before cs f p r ≡ f r
none_match [] f p r h = refl
none_match (x ∷ cs) f p r h =
    let no : nat_le p x.place ≡ false = not_most p x.place (h 0 x refl) in
    ap (λ b. if (x.reference == r) && b then x.before else slot_before cs f p r) no ∙ pass (x.reference == r) x.before (slot_before cs f p r) ∙ none_match cs f p r (λ i d at. h (suc i) d at)

-- a jump to an earlier change of the reference
pub walk_jump : (cs : List Change) (after : ℕ → Option ℕ) (p r next k j : ℕ) (found o : Option ℕ) (d : Change) → IsWalk cs after p r next found → next ≡ suc k → j < k → slice_get (map (λ (c : Change). c.reference) cs) j ≡ slice_get (map (λ (c : Change). c.reference) cs) k
    → slice_get cs j ≡ Some d → p ≤ d.place → IsWalk cs after p r (suc j) o
walk_jump cs after p r next k j found o d w e low same at match =
    let here = subst (IsFound (take w.upto cs) (λ q. found) p r) (sym w.next_is ∙ e) (found_last p r (take w.upto cs) (λ q. found)) in
    let there = get_taken w.upto cs k here.0 here.1 in
    let below : k ≤ w.upto = (let l = there.1 in omega (arith, l)) in
    let within : k < length cs = slice_get_within cs k here.0 there.0 in
    let mine : Some d.reference ≡ Some here.0.reference =
    sym (slice_get-map (λ (c : Change). c.reference) cs j ∙ ap (option_map (λ (c : Change). c.reference)) at) ∙ same ∙ slice_get-map (λ (c : Change). c.reference) cs k ∙ ap (option_map (λ (c : Change). c.reference)) there.0 in
    let owned : d.reference ≡ here.0.reference = cc in
    let is : d.reference ≡ r = owned ∙ here.2 in
    record {
      upto = suc j;
      within = omega (arith, within, low);
      next_is = sym (last_here cs j d r at is);
      found_is =
          sym (match_upto cs j k p r d (λ q. if nat_le p here.0.place then here.0.before else found) (λ q. o) at is match low)
          ∙ ap (λ ds. slot_before ds (λ q. if nat_le p here.0.place then here.0.before else found) p r) (sym (take-take k w.upto cs below))
          ∙ sym here.3
          ∙ w.found_is;
    }

-- the places come in order, so no earlier change is at the place or after it
pub walk_stop : (cs : List Change) (after : ℕ → Option ℕ) (p r next k : ℕ) (found : Option ℕ) (c : Change) → IsWalk cs after p r next found → next ≡ suc k → slice_get cs k ≡ Some c → c.place < p → AreInOrder cs → found ≡ slot_before cs after p r
walk_stop cs after p r next k found c w e at low order =
    let here = subst (IsFound (take w.upto cs) (λ q. found) p r) (sym w.next_is ∙ e) (found_last p r (take w.upto cs) (λ q. found)) in
    let there = get_taken w.upto cs k here.0 here.1 in
    let both : Some c ≡ Some here.0 = sym at ∙ there.0 in
    let same : c ≡ here.0 = cc in
    let no : nat_le p here.0.place ≡ false = subst (λ (d : Change). nat_le p d.place ≡ false) same (not_most p c.place low) in
    let none = none_match (take k (take w.upto cs)) (λ q. if nat_le p here.0.place then here.0.before else found) p r
    (λ i d into. let a = get_taken k (take w.upto cs) i d into in let b = get_taken w.upto cs i d a.0 in let l = a.1 in let m = order i k d c (omega (arith, l)) b.0 at in omega (arith, m, low)) in
    sym (ap (λ b. if b then here.0.before else found) no) ∙ sym none ∙ sym here.3 ∙ w.found_is

-- the changes that a list of notes shows, and the note that the walk looks at
pub note_within : {N : Type 0} (shown : N → Change) (notes : List N) (cs : List Change) (k : ℕ) → map shown notes ≡ cs → k < length cs → k < length notes
note_within shown notes cs k are within = let many : length cs ≡ length notes = ap length (sym are) ∙ simp length-map in omega (arith, within, many)

module _ {N : Type 0} (shown : N → Change) (linked jumped : N → ℕ) (notes : List N) (cs : List Change) (lasts : List (ℕ × ℕ)) (in_order : Bool) (are : map shown notes ≡ cs) (links : AreLinked (map shown notes) (map linked notes) (map jumped notes) lasts in_order)
    (k : ℕ) (note : N) (within : k < length cs) (here : note ≡ get_or notes k note) where
  at : slice_get notes k ≡ Some note
  at = slice_get_read notes (length notes) k note refl (note_within shown notes cs k are within) here

  pub note_shown : slice_get cs k ≡ Some (shown note)
  note_shown = subst (λ ds. slice_get ds k ≡ Some (shown note)) are (slice_get-map shown notes k ∙ ap (option_map shown) at)

  pub note_linked : linked note ≡ last_of (take k cs) (shown note).reference
  note_linked =
      let a : slice_get (map linked notes) k ≡ Some (linked note) = slice_get-map linked notes k ∙ ap (option_map linked) at in
      let b : slice_get (map linked notes) k ≡ Some (last_of (take k cs) (shown note).reference) = ap (λ ls. slice_get ls k) (links.previous_are ∙ ap links_of are) ∙ link_at cs k (shown note) note_shown in
      let both : Some (linked note) ≡ Some (last_of (take k cs) (shown note).reference) = sym a ∙ b in
      cc

  pub note_jumped : (j : ℕ) → jumped note ≡ suc j → (j < k) × (slice_get (map (λ (c : Change). c.reference) cs) j ≡ slice_get (map (λ (c : Change). c.reference) cs) k)
  note_jumped j e = subst (λ (ds : List Change). (j < k) × (slice_get (map (λ (c : Change). c.reference) ds) j ≡ slice_get (map (λ (c : Change). c.reference) ds) k)) are
      (links.jumps_are k j (slice_get-map jumped notes k ∙ ap (option_map jumped) at ∙ ap Some e))

  pub note_order : in_order ≡ true → AreInOrder cs
  note_order e = subst AreInOrder are (links.order_is e)

pub at_or_behind : (p q : ℕ) (o found : Option ℕ) → p ≤ q → o ≡ (if nat_le p q then o else found)
at_or_behind p q o found h = let e : nat_le p q ≡ true = grind (arith, nat_tests) in sym (ap (λ b. if b then o else found) e)

pub in_front : (p q : ℕ) (o found : Option ℕ) → q < p → found ≡ (if nat_le p q then o else found)
in_front p q o found h = let e : nat_le p q ≡ false = grind (arith, nat_tests) in sym (ap (λ b. if b then o else found) e)

-- ---- what the private functions need

pub of_test : (p q : ℕ) → nat_le p q ≡ true → p ≤ q
of_test p q h = grind (arith, nat_tests)

pub last_within : (cs : List Change) (r : ℕ) → last_of cs r ≤ length cs
last_within cs r = let k = last_low 0 0 cs r (omega arith) in omega (arith, k)

last_is : (cs : List Change) (r i : ℕ) → last_of cs r ≡ suc i → slice_get (map (λ (c : Change). c.reference) cs) i ≡ Some r
last_is cs r i e =
    let here = subst (IsFound cs (λ q. None) 0 r) e (found_last 0 r cs (λ q. None)) in
    slice_get-map (λ (c : Change). c.reference) cs i ∙ ap (option_map (λ (c : Change). c.reference)) here.1 ∙ ap Some here.2

-- the change to jump to is of the reference, since the last one is
pub jump_to : (cs : List Change) (r p q : ℕ) → p ≡ last_of cs r → (p ≡ 0 → q ≡ 0)
    → ((i j : ℕ) → p ≡ suc i → q ≡ suc j → slice_get (map (λ (c : Change). c.reference) cs) j ≡ slice_get (map (λ (c : Change). c.reference) cs) i)
    → (j : ℕ) → q ≡ suc j → slice_get (map (λ (c : Change). c.reference) cs) j ≡ Some r
jump_to cs r zero q is none same j e = let z = none refl in absurd (omega (arith, z, e))
jump_to cs r (suc i) q is none same j e = same i j refl e ∙ last_is cs r i (sym is)

pub shown_at : {N : Type 0} (shown : N → Change) (notes xs : List N) (cs : List Change) (k : ℕ) (note : N) → map shown notes ≡ cs → xs ≡ notes → k < length xs → note ≡ get_or xs k note → slice_get cs k ≡ Some (shown note)
shown_at shown notes xs cs k note are same within here =
    subst (λ ds. slice_get ds k ≡ Some (shown note)) (ap (map shown) same ∙ are) (slice_get-map shown xs k ∙ ap (option_map shown) (slice_get_read xs (length xs) k note refl within here))

pub last_shown : {N : Type 0} (shown : N → Change) (notes xs : List N) (cs : List Change) (note : N) → map shown notes ≡ cs → xs ≡ notes → Some note ≡ slice_get xs (length xs - 1) → (k : ℕ) (d : Change) → length cs ≡ k + 1 → slice_get cs k ≡ Some d
    → d ≡ shown note
last_shown shown notes xs cs note are same last k d many at =
    let long : length cs ≡ length xs = ap length (sym (ap (map shown) same ∙ are)) ∙ simp length-map in
    let here : length xs - 1 ≡ k = omega (arith, many, long) in
    let got : slice_get cs k ≡ Some (shown note) = subst (λ ds. slice_get ds k ≡ Some (shown note)) (ap (map shown) same ∙ are) (slice_get-map shown xs k ∙ ap (option_map shown) (sym (last ∙ ap (slice_get xs) here))) in
    let both : Some d ≡ Some (shown note) = sym at ∙ got in
    cc
