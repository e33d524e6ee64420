-- Groups of seven bits, front to back.
use Rattle.std.proofs.Common.{◌≡◌, ℕ, zero, suc, ◌+◌, ◌-◌, ◌*◌, ◌%◌, ◌^◌, ◌<◌, ◌≤◌, Bool, true, false, cond, ltb, List, [], ◌∷◌, ◌++◌, length, get_or, take, drop, Option, Some, None, refl, sym, ap, subst, ◌∙◌, arith, drop-cons, add-one}
use Rattle.std.specs.Option.{option_map, IfSome, IfNone}
use Rattle.std.proofs.lemmas.Bool.{ltb-false, ltb-true, lt-ltb, le-ltb}
use Rattle.std.proofs.lemmas.List.{drop_all, length-take-le}
use Rattle.std.proofs.lemmas.List.{take_at}
use Rattle.hw_bytes.specs.Spellings.{IsAt, IsNowhere, IsCode}
use Rattle.hw_bytes.specs.Numbers.{groups, IsContinued, IsUvarint}
use Rattle.hw_bytes.specs.Reading.{◌>>=◌, end_at, uvarint_at}
use Rattle.hw_bytes.proofs.Codes.{one_by, nowhere_by}

pub groups-drop : (i : ℕ) (bytes : List ℕ) → groups (drop i bytes) ≤ groups bytes
groups-drop zero bytes = omega arith
groups-drop (suc i) [] = omega arith
groups-drop (suc i) (b ∷ more) = omega (arith, groups-drop i more)

-- what is found from place i on, counted from the front
abbrev pub past : ℕ → Option ℕ → Option ℕ
past i o = option_map (λ n. i + n) o

past-more : (i : ℕ) (o : Option ℕ) → past i (option_map (λ n. n + 1) o) ≡ past (i + 1) o
past-more i None = refl
past-more i (Some n) = ap Some (omega arith)

some_is : (m n : ℕ) → m ≡ n → Some m ≡ Some n
some_is m n e = ap Some e

-- at a place below k and the end, end_at looks at the byte there
pub end_at-here : (k i : ℕ) (bytes : List ℕ) → i < k → i < length bytes → get_or bytes i 0 < 128 → past i (end_at (k - i) (drop i bytes)) ≡ Some (i + 1)
unfolding end_at
end_at-here k i bytes lt within small =
    let left : k - i ≡ suc (k - (i + 1)) = omega arith in
    let here : drop i bytes ≡ get_or bytes i 0 ∷ drop (suc i) bytes = drop-cons bytes i 0 within in
    rw (left, here, lt-ltb (get_or bytes i 0) 128 small) refl

pub end_at-next : (k i : ℕ) (bytes : List ℕ) → i < k → i < length bytes → 128 ≤ get_or bytes i 0 → past i (end_at (k - i) (drop i bytes)) ≡ past (i + 1) (end_at (k - (i + 1)) (drop (i + 1) bytes))
unfolding end_at
end_at-next k i bytes lt within large =
    let left : k - i ≡ suc (k - (i + 1)) = omega arith in
    let here : drop i bytes ≡ get_or bytes i 0 ∷ drop (i + 1) bytes = rw add-one (drop-cons bytes i 0 within) in
    rw (left, here, le-ltb (get_or bytes i 0) 128 large) (past-more i (end_at (k - (i + 1)) (drop (i + 1) bytes)))

pub end_at-past : (k i : ℕ) (bytes : List ℕ) → i < k → length bytes ≤ i → past i (end_at (k - i) (drop i bytes)) ≡ None
unfolding end_at
end_at-past k i bytes lt over =
    let left : k - i ≡ suc (k - (i + 1)) = omega arith in
    let here : drop i bytes ≡ [] = drop_all i bytes over in
    rw (left, here) refl

pub end_at-full : (k i : ℕ) (bytes : List ℕ) → k ≤ i → past i (end_at (k - i) (drop i bytes)) ≡ None
unfolding end_at
end_at-full k i bytes over =
    let left : k - i ≡ 0 = omega arith in
    rw left refl

-- ---- a front that ends where it should, and the search for its end

abbrev pub Found : ℕ → List ℕ → ℕ → Type 0
Found k bytes len = IsContinued (take len bytes) × (len ≤ k) × (len ≤ length bytes)

continued : (b : ℕ) (more : List ℕ) → 128 ≤ b → IsContinued more → IsContinued (b ∷ more)
continued b [] large h = absurd h
continued b (c ∷ more) large h = (large, h)

one_more : (k b n : ℕ) (more : List ℕ) → 128 ≤ b → Found k more n → Found (suc k) (b ∷ more) (suc n)
one_more k b n more large h = (continued b (take n more) large h.0, omega arith, omega arith)

-- the two cases at the first byte
first : (k b : ℕ) (more : List ℕ) (len : ℕ) (small : Bool) (end : Option ℕ) → ltb b 128 ≡ small → ((n : ℕ) → end ≡ Some n → Found k more n)
    → cond small (Some 1) (option_map (λ n. n + 1) end) ≡ Some len → Found (suc k) (b ∷ more) len
first k b more len true end s ih e =
    let one : 1 ≡ len = cc in
    subst (Found (suc k) (b ∷ more)) one (ltb-true b 128 s, omega arith, omega arith)
first k b more len false None s ih e = absurd cc
first k b more len false (Some n) s ih e =
    let plus : n + 1 ≡ len = cc in
    let next : suc n ≡ len = omega arith in
    subst (Found (suc k) (b ∷ more)) next (one_more k b n more (ltb-false b 128 s) (ih n refl))

pub end_at-found : (k : ℕ) (bytes : List ℕ) (len : ℕ) → end_at k bytes ≡ Some len → Found k bytes len
unfolding end_at
end_at-found zero bytes len e = absurd cc
end_at-found (suc k) [] len e = absurd cc
end_at-found (suc k) (b ∷ more) len e = first k b more len (ltb b 128) (end_at k more) refl (λ n h. end_at-found k more n h) e

pub end_at-again : (k : ℕ) (front rest : List ℕ) → IsContinued front → length front ≤ k → end_at k (front ++ rest) ≡ Some (length front)
unfolding end_at
end_at-again zero [] rest h lt = absurd h
end_at-again zero (b ∷ more) rest h lt = absurd (omega arith)
end_at-again (suc k) [] rest h lt = absurd h
end_at-again (suc k) (b ∷ []) rest h lt = rw (lt-ltb b 128 h) refl
end_at-again (suc k) (b ∷ c ∷ more) rest h lt = rw (le-ltb b 128 h.0, end_at-again k (c ∷ more) rest h.1 (omega arith)) (ap Some (omega arith))

-- ---- a number at the front

bounded : (n len : ℕ) (small : Bool) (x : ℕ × ℕ) → ltb n (2 ^ 64) ≡ small → cond small (Some (n, len)) None ≡ Some x → (n < 2 ^ 64) × (x ≡ (n, len))
bounded n len true x s e = (ltb-true n (2 ^ 64) s, cc)
bounded n len false x s e = absurd cc

uvarint_of : (bytes : List ℕ) (end : Option ℕ) (x : ℕ × ℕ) → end_at 10 bytes ≡ end
    → (end >>= λ len. cond (ltb (groups (take len bytes)) (2 ^ 64)) (Some (groups (take len bytes), len)) None) ≡ Some x → IsAt IsUvarint bytes x.0 x.1
uvarint_of bytes None x h e = absurd cc
uvarint_of bytes (Some len) x h e =
    let f = end_at-found 10 bytes len h in
    let g = bounded (groups (take len bytes)) len (ltb (groups (take len bytes)) (2 ^ 64)) x refl e in
    let P : ℕ × ℕ → Type 0 = λ y. IsAt IsUvarint bytes y.0 y.1 in
    subst P (sym g.1) (record {
      spelled = record { continued = f.0; short = omega (arith, length-take-le len bytes f.2); value = refl; fits = g.0 };
      within = f.2;
    })

pub uvarint_at-found : (bytes : List ℕ) (x : ℕ × ℕ) → uvarint_at bytes ≡ Some x → IsAt IsUvarint bytes x.0 x.1
unfolding uvarint_at
uvarint_at-found bytes x e = uvarint_of bytes (end_at 10 bytes) x refl e

pub uvarint_at-again : (front rest : List ℕ) (n : ℕ) → IsUvarint front n → uvarint_at (front ++ rest) ≡ Some (n, length front)
unfolding uvarint_at
uvarint_at-again front rest n h =
    let end = end_at-again 10 front rest h.continued h.short in
    let small : ltb (groups front) (2 ^ 64) ≡ true = lt-ltb (groups front) (2 ^ 64) (rw (← h.value) h.fits) in
    rw (end, take_at front rest (length front) refl, small, ← h.value) refl

-- ---- what the functions at the front promise

pub uvarint_found : (bytes : List ℕ) (r : Option (ℕ × ℕ)) → r ≡ uvarint_at bytes → IfSome r (λ x. IsAt IsUvarint bytes x.0 x.1)
uvarint_found bytes None e = tt
uvarint_found bytes (Some x) e = uvarint_at-found bytes x (sym e)

pub uvarint_none : (bytes : List ℕ) (r : Option (ℕ × ℕ)) → r ≡ uvarint_at bytes → IfNone r (IsNowhere IsUvarint bytes)
uvarint_none bytes None e = nowhere_by IsUvarint uvarint_at uvarint_at-again bytes (sym e)
uvarint_none bytes (Some x) e = tt

pub some_bytes : (front : List ℕ) → IsContinued front → 0 < length front
some_bytes [] h = absurd h
some_bytes (b ∷ more) h = omega arith

pub uvarint_code : IsCode IsUvarint
uvarint_code = record { one = one_by IsUvarint uvarint_at uvarint_at-again; some = λ front n h. some_bytes front h.continued }

pub too_large : (i value : ℕ) (bytes : List ℕ) → 0 < i → i ≤ length bytes → value ≡ groups (drop i bytes) → 144115188075855871 < value → ltb (groups bytes) (2 ^ 64) ≡ false
too_large i value bytes pos within is large =
    let here : drop (i - 1) bytes ≡ get_or bytes (i - 1) 0 ∷ drop i bytes =
    (let next : suc (i - 1) ≡ i = omega arith in drop-cons bytes (i - 1) 0 (omega arith) ∙ ap (λ j. get_or bytes (i - 1) 0 ∷ drop j bytes) next) in
    let more : groups (drop (i - 1) bytes) ≡ get_or bytes (i - 1) 0 % 128 + 128 * groups (drop i bytes) = ap groups here in
    le-ltb (groups bytes) (2 ^ 64) (omega (arith, groups-drop (i - 1) bytes))

-- a number of one byte
pub uvarint_at-one : (bytes : List ℕ) → 0 < length bytes → get_or bytes 0 0 < 128 → uvarint_at bytes ≡ Some (get_or bytes 0 0, 1)
uvarint_at-one [] some small = absurd (omega arith)
uvarint_at-one (b ∷ more) some small =
    uvarint_at-again (b ∷ []) more b (record { continued = small; short = omega arith; value = omega (arith, small); fits = omega (arith, small) })
