-- Items in the lists of their workers.
use Rattle.std.proofs.Common.{◌≡◌, ◌≢◌, inl, inr, ℕ, suc, zero, ◌+◌, ◌-◌, ◌*◌, ◌%◌, ◌/◌, ◌<◌, ◌≤◌, ◌==◌, All, true, false, List, [], ◌∷◌, ◌++◌, map, length, get_or, set, refl, sym, ap, ◌∙◌, arith, Some, slice_get, nat_lt, Vec, Global}
use Rattle.std.specs.List.{enumerate_from, flat_map}
use Rattle.std.proofs.lemmas.Bool.Decides.{nat_tests}
use Rattle.std.proofs.lemmas.List.{length-append, length-map, append_assoc, append-nil, get_or_append_left, get_or-append_right, get_or-set_same, get_or-set_other, length-set, map-set, set-get_or, get_or_default}
use Rattle.std.proofs.Math.ListN.{get_or-map}
use Rattle.std.proofs.lemmas.List.{get_or-map as get_or-map-within}
use Rattle.std.proofs.lemmas.List.Elements.{filter-append}
use Rattle.std.proofs.lemmas.Option.{slice_get_cases}
use Rattle.std.proofs.Math.Nat.{mod-lt, mod-add-div'}
use Rattle.head_deal.specs.Jobs.{Job, Queued}
use Rattle.head_deal.specs.declared.parts.Due.{Due}
use Rattle.head_deal.specs.Endings.{is_of, jobs_of}
use Rattle.head_deal.specs.Dealing.{Dealing, Share}
use Rattle.head_deal.specs.Entries.{entries}
use Rattle.head_deal.specs.Batches.{shifted, queued_as}
use Rattle.head_deal.specs.declared.seats.Seat.{Seat}
use Rattle.head_deal.specs.Holding.{AreSeats, Holds}
use Rattle.head_deal.specs.Spreads.{SpreadValue, dealt, dealt_all, dues_of, placed, spread_items, IsSpread}
use Rattle.head_deal.proofs.Theory.{bool_cases}
use Rattle.head_deal.proofs.Scatter.{Right, has_key, scattered}
use Rattle.head_deal.proofs.Joins.{get-after, length-enumerate}
use Rattle.head_deal.proofs.Holding.{right-flat, key-flat, element_within}
use Rattle.head_deal.proofs.Flat.{all-append}

get_or-enumerate : {T : Type 0} (n : ℕ) (xs : List T) (k : ℕ) (p : ℕ × T) → k < length xs → get_or (enumerate_from n xs) k p ≡ (n + k, get_or xs k p.1)
get_or-enumerate n [] k p low = absurd (omega arith)
get_or-enumerate n (x ∷ xs) zero p low = let e : n ≡ n + 0 = omega arith in ap (λ y. (y, x)) e
get_or-enumerate n (x ∷ xs) (suc k) p low = let e : (n + 1) + k ≡ n + suc k = omega arith in get_or-enumerate (n + 1) xs k p (omega arith) ∙ ap (λ y. (y, get_or xs k p.1)) e

enumerated : {T : Type 0} (xs : List T) (k : ℕ) (p : ℕ × T) → k < length xs → get_or (enumerate_from 0 xs) k p ≡ (k, get_or xs k p.1)
enumerated xs k p low = let e : 0 + k ≡ k = omega arith in get_or-enumerate 0 xs k p low ∙ ap (λ y. (y, get_or xs k p.1)) e

module _ {I : Type 0} (m : ℕ) where
  -- a worker's items stand at their numbers
  right-placed : (k : ℕ) (pre items : List (ℕ × I)) → Right (pre ++ items) (placed m k (dues_of m k (length pre) items))
  right-placed k pre [] = tt
  right-placed k pre ((s, i) ∷ items) =
      let n : length (pre ++ (s, i) ∷ []) ≡ suc (length pre) = (let l = length-append pre ((s, i) ∷ []) in omega arith) in
      let rest0 : Right ((pre ++ (s, i) ∷ []) ++ items) (placed m k (dues_of m k (length (pre ++ (s, i) ∷ [])) items)) = right-placed k (pre ++ (s, i) ∷ []) items in
      let rest : Right (pre ++ (s, i) ∷ items) (placed m k (dues_of m k (suc (length pre)) items)) = rw (append_assoc pre ((s, i) ∷ []) items, n) at rest0 in
      elim (bool_cases (is_of m k s)) [
        | inl hit ↦ (
            let e : s % m ≡ k = grind (arith, nat_tests) in
            let d = mod-add-div' s m in
            let f : s ≡ k + (s / m) * m = omega arith in
            let here : slice_get (pre ++ (s, i) ∷ items) (length pre) ≡ Some (k + (s / m) * m, i) = get-after pre (s, i) items ∙ ap (λ x. Some (x, i)) f in
            rw hit (here, rest)
            )
        | inr miss ↦ rw miss rest
      ]

  -- each number is there, in the list of the item's worker
  key-placed : (w n t : ℕ) (items : List (ℕ × I)) (k : ℕ) (d : ℕ × I) → t ≡ n + k → k < length items → (get_or items k d).0 % m ≡ w → has_key t (placed m w (dues_of m w n items)) ≡ true
  key-placed w n t [] k d is low of = absurd (omega arith)
  key-placed w n t ((s, i) ∷ items) zero d is low of =
      let hit : is_of m w s ≡ true = grind (arith, nat_tests) in
      let e : (n == t) ≡ true = grind (arith, nat_tests) in
      rw hit (rw e refl)
  key-placed w n t ((s, i) ∷ items) (suc k) d is low of =
      let rest = key-placed w (suc n) t items k d (omega arith) (omega arith) of in
      let apart : (n == t) ≡ false = grind (arith, nat_tests) in
      elim (bool_cases (is_of m w s)) [
        | inl mine ↦ rw mine (rw apart rest)
        | inr other ↦ rw other rest
      ]

  -- one item more
  dues-hit : (w n : ℕ) (items : List (ℕ × I)) (s : ℕ) (i : I) → is_of m w s ≡ true → dues_of m w n (items ++ (s, i) ∷ []) ≡ dues_of m w n items ++ record { number = n + length items; element = s / m; item = i } ∷ []
  dues-hit w n [] s i hit = let e : n ≡ n + 0 = omega arith in rw hit (ap (λ x. record { number = x; element = s / m; item = i } ∷ []) e)
  dues-hit w n ((t, j) ∷ items) s i hit =
      let e : suc n + length items ≡ n + suc (length items) = omega arith in
      let rest = dues-hit w (suc n) items s i hit ∙ ap (λ x. dues_of m w (suc n) items ++ record { number = x; element = s / m; item = i } ∷ []) e in
      elim (bool_cases (is_of m w t)) [
        | inl mine ↦ rw mine (ap (λ x. record { number = n; element = t / m; item = j } ∷ x) rest)
        | inr other ↦ rw other rest
      ]

  dues-miss : (w n : ℕ) (items : List (ℕ × I)) (s : ℕ) (i : I) → is_of m w s ≡ false → dues_of m w n (items ++ (s, i) ∷ []) ≡ dues_of m w n items
  dues-miss w n [] s i miss = rw miss refl
  dues-miss w n ((t, j) ∷ items) s i miss =
      elim (bool_cases (is_of m w t)) [
        | inl mine ↦ rw mine (ap (λ x. record { number = n; element = t / m; item = j } ∷ x) (dues-miss w (suc n) items s i miss))
        | inr other ↦ rw other (dues-miss w (suc n) items s i miss)
      ]

module _ {I : Type 0} where
  -- a spread is what its lists hold
  pub spread_is : (s : SpreadValue I) (count : ℕ) (lists : List (List (Due I))) → IsSpread s count lists → spread_items s.workers count lists ≡ s.items
  spread_is s count lists h =
      let each = h.each in
      scattered s.items (flat_map (λ p. placed s.workers p.0 p.1) (enumerate_from 0 lists)) count h.count
      (right-flat (λ p. placed s.workers p.0 p.1) s.items (enumerate_from 0 lists) (λ k p low. (
      let l : k < length lists = omega (arith, length-enumerate 0 lists) in
      rw (enumerated lists k p l, h.lists k p.1 (omega arith)) (right-placed s.workers k [] s.items)
      )))
      (λ n low. (
      elim ((slice_get_cases s.items n).1) [
        | inl c ↦ (
            let w = (get_or s.items n c.0).0 % s.workers in
            let under : ((get_or s.items n c.0).0 % s.workers) < s.workers = mod-lt (get_or s.items n c.0).0 h.some in
            let e = length-enumerate 0 lists in
            key-flat (λ p. placed s.workers p.0 p.1) n (enumerate_from 0 lists) w (0, []) (omega arith)
            (rw (enumerated lists w (0, []) (omega arith), h.lists w [] under) (key-placed s.workers w 0 n s.items n c.0 (omega arith) low refl))
            )
        | inr c ↦ absurd (omega arith)
      ]
      ))

  pub spread_view : (s : SpreadValue I) (count : ℕ) (lists : List (List (Due I))) → IsSpread s count lists → IsSpread (record { workers = s.workers; items = spread_items s.workers count lists }) count lists
  spread_view s count lists h = rw (spread_is s count lists h) h

  -- one item more
  spread_put : (s : SpreadValue I) (count : ℕ) (lists : List (List (Due I))) (slot worker element : ℕ) (item : I) (l : List (Due I)) → IsSpread s count lists
      → worker ≡ slot % s.workers → element ≡ slot / s.workers → l ≡ get_or lists worker l
      → IsSpread (record s { items = s.items ++ (slot, item) ∷ [] }) (count + 1) (set lists worker (l ++ record { number = count; element = element; item = item } ∷ []))
  spread_put s count lists slot worker element item l h of_worker of_element at =
      let each = h.each in
      let long = length-append s.items ((slot, item) ∷ []) in
      let count' = h.count in
      let under : (slot % s.workers) < s.workers = mod-lt slot h.some in
      let l' = l ++ record { number = count; element = element; item = item } ∷ [] in
      record {
        some = h.some;
        most = h.most;
        count = omega arith;
        each = length-set lists worker l' ∙ each;
        lists = λ k d low. (
            elim (bool_cases (k == worker)) [
              | inl here ↦ (
                  let i : k ≡ worker = grind (arith, nat_tests) in
                  let hit : is_of s.workers worker slot ≡ true = grind (arith, nat_tests) in
                  let mine : l ≡ dues_of s.workers worker 0 s.items = at ∙ h.lists worker l (omega arith) in
                  let c : count ≡ 0 + length s.items = omega arith in
                  rw (i, get_or-set_same lists worker l' d (omega arith)) (
                  ap (λ x. x ++ record { number = count; element = element; item = item } ∷ []) mine
                  ∙ (ap (λ x. dues_of s.workers worker 0 s.items ++ record { number = x; element = element; item = item } ∷ []) c
                  ∙ (ap (λ x. dues_of s.workers worker 0 s.items ++ record { number = 0 + length s.items; element = x; item = item } ∷ []) of_element
                  ∙ sym (dues-hit s.workers worker 0 s.items slot item hit))))
                  )
              | inr there ↦ (
                  let i : k ≢ worker = grind (arith, nat_tests) in
                  let miss : is_of s.workers k slot ≡ false = grind (arith, nat_tests) in
                  rw (get_or-set_other lists worker k l' d i) (h.lists k d low ∙ sym (dues-miss s.workers k 0 s.items slot item miss))
                  )
            ]
            );
      }

-- the lists as they are in memory
module _ {T : Type 0} where
  lists-at : (rows : List (Vec T Global)) (k : ℕ) (l : Vec T Global) → l ≡ get_or rows k l → l.items ≡ get_or (map (λ l. l.items) rows) k l.items
  lists-at rows k l at = ap (λ l. l.items) at ∙ sym (get_or-map (λ l. l.items) rows k l)

  lists-set : (rows : List (Vec T Global)) (k : ℕ) (l' : Vec T Global) (old : List T) (x : T) → l'.items ≡ old ++ x ∷ [] → map (λ l. l.items) (set rows k l') ≡ set (map (λ l. l.items) rows) k (old ++ x ∷ [])
  lists-set rows k l' old x is = map-set (λ l. l.items) rows k l' ∙ ap (λ y. set (map (λ l. l.items) rows) k y) is

  pub lists-kept : (rows : List (Vec T Global)) (k : ℕ) (l l' : Vec T Global) → l ≡ get_or rows k l → l'.items ≡ l.items → map (λ l. l.items) (set rows k l') ≡ map (λ l. l.items) rows
  lists-kept rows k l l' at is = map-set (λ l. l.items) rows k l' ∙ (ap (λ y. set (map (λ l. l.items) rows) k y) is ∙ (sym (map-set (λ l. l.items) rows k l) ∙ ap (map (λ l. l.items)) (ap (λ y. set rows k y) at ∙ set-get_or rows k l)))

-- one item more in the list of its slot's worker
pub put-in : {I : Type 0} (s : SpreadValue I) (count slot : ℕ) (item : I) (m : ℕ) (seats : List Seat) (none : Seat) (rows : List (Vec (Due I) Global)) (l l' : Vec (Due I) Global)
    → m ≡ s.workers → AreSeats m seats → slot < length seats → l ≡ get_or rows (get_or seats slot none).worker l
    → l'.items ≡ l.items ++ record { number = count; element = (get_or seats slot none).element; item = item } ∷ [] → IsSpread s count (map (λ l. l.items) rows)
    → IsSpread (record s { items = s.items ++ (slot, item) ∷ [] }) (count + 1) (map (λ l. l.items) (set rows (get_or seats slot none).worker l'))
put-in {I} s count slot item m seats none rows l l' same are low at is h =
    let seat = get_or seats slot none in
    let due : Due I = record { number = count; element = seat.element; item = item } in
    let told = are slot none low in
    let worker : seat.worker ≡ slot % s.workers = told.0 ∙ ap (λ x. slot % x) same in
    let element : seat.element ≡ slot / s.workers = told.1 ∙ ap (λ x. slot / x) same in
    let put = spread_put s count (map (λ l. l.items) rows) slot seat.worker seat.element item l.items h worker element (lists-at rows seat.worker l at) in
    rw (lists-set rows seat.worker l' l.items due is) put

-- the jobs of items dealt one after another
abbrev pub jobs_from : {I O : Type 0} → ℕ → List (ℕ × I) → List (Job I O)
jobs_from n [] = []
jobs_from n (p ∷ ps) = record { number = n; slot = p.0; state = Queued p.1 } ∷ jobs_from (suc n) ps

length-jobs : {I : Type 0} (O : Type 0) (n : ℕ) (items : List (ℕ × I)) → length (jobs_from {O = O} n items) ≡ length items
length-jobs O n [] = refl
length-jobs O n (p ∷ ps) = ap suc (length-jobs O (suc n) ps)

-- a list of a spread is its worker's jobs
queued_is : {I O : Type 0} (m k base n : ℕ) (items : List (ℕ × I)) → entries {O = O} k m (map (shifted base) (dues_of m k n items)) [] ≡ jobs_of m k (jobs_from (base + n) items)
queued_is m k base n [] = refl
queued_is {I} {O} m k base n ((s, i) ∷ items) =
    let e : base + suc n ≡ suc (base + n) = omega arith in
    let rest : entries {O = O} k m (map (shifted base) (dues_of m k (suc n) items)) [] ≡ jobs_of m k (jobs_from (suc (base + n)) items) = queued_is {O = O} m k base (suc n) items ∙ ap (λ x. jobs_of {O = O} m k (jobs_from x items)) e in
    elim (bool_cases (is_of m k s)) [
      | inl hit ↦ (
          let r : s % m ≡ k = grind (arith, nat_tests) in
          let d = mod-add-div' s m in
          let f : k + (s / m) * m ≡ s = omega arith in
          rw hit (ap (λ x. record { number = base + n; slot = x; state = Queued i } ∷ entries k m (map (shifted base) (dues_of m k (suc n) items)) []) f ∙ ap (λ x. record { number = base + n; slot = s; state = Queued i } ∷ x) rest)
          )
      | inr miss ↦ rw miss rest
    ]

all-push-front : {T : Type 0} (P : T → Type 0) (x : T) (xs : List T) → P x → All P xs → All P (x ∷ xs)
all-push-front P x xs one all zero d low = one
all-push-front P x xs one all (suc k) d low = all k d (omega arith)

numbers-from : {I O : Type 0} (n : ℕ) (items : List (ℕ × I)) (k : ℕ) (job : Job I O) → k < length items → (get_or (jobs_from n items) k job).number ≡ n + k
numbers-from n [] k job low = absurd (omega arith)
numbers-from n (p ∷ ps) zero job low = omega arith
numbers-from n (p ∷ ps) (suc k) job low = let r = numbers-from (suc n) ps k job (omega arith) in omega arith

within-from : {I O : Type 0} (most n : ℕ) (items : List (ℕ × I)) → All (λ p. p.0 < most) items → All (λ job. job.slot < most) (jobs_from {O = O} n items)
within-from most n [] all k d low = absurd (omega arith)
within-from most n (p ∷ ps) all zero d low = all 0 p (omega arith)
within-from most n (p ∷ ps) all (suc k) d low = within-from most (suc n) ps (λ i e under. all (suc i) e (omega arith)) k d (omega arith)

module _ {B I O : Type 0} where
  pub dealt_all-is : (d : Dealing B I O) (items : List (ℕ × I)) → dealt_all d items ≡ record d { jobs = d.jobs ++ jobs_from (length d.jobs) items }
  dealt_all-is d [] = ap (λ x. record d { jobs = x }) (sym (append-nil d.jobs))
  dealt_all-is d (p ∷ ps) =
      let job : Job I O = record { number = length d.jobs; slot = p.0; state = Queued p.1 } in
      let n : length (d.jobs ++ job ∷ []) ≡ suc (length d.jobs) = (let l = length-append d.jobs (job ∷ []) in omega arith) in
      dealt_all-is (dealt d p.0 p.1) ps
      ∙ (ap (λ x. record d { jobs = (d.jobs ++ job ∷ []) ++ jobs_from x ps }) n
      ∙ ap (λ x. record d { jobs = x }) (append_assoc d.jobs (job ∷ []) (jobs_from (suc (length d.jobs)) ps)))

  -- the parts hold the deal once each has its list
  holds_all : (d : Dealing B I O) (slots count many : ℕ) (parts parts' : List (Share B I O)) (items : List (ℕ × I)) (lists : List (List (Due I))) → Holds d slots count parts
      → All (λ p. p.0 < length d.builders) items → IsSpread (record { workers = d.workers; items = items }) many lists
      → length parts' ≡ length parts
      → ((k : ℕ) (p : Share B I O) (l : List (Due I)) → k < length parts → get_or parts' k p ≡ record (get_or parts k p) { jobs = (get_or parts k p).jobs ++ queued_as (get_or parts k p).worker (get_or parts k p).workers count (get_or lists k l) })
      → Holds (record d { jobs = d.jobs ++ jobs_from (length d.jobs) items }) slots (count + many) parts'
  holds_all d slots count many parts parts' items lists h within s long queued =
      let each = h.each in
      let count' = h.count in
      let many' = s.count in
      let new : List (Job I O) = jobs_from (length d.jobs) items in
      let n = length-append d.jobs (jobs_from {O = O} (length d.jobs) items) in
      let m = length-jobs O (length d.jobs) items in
      record {
        some = h.some;
        most = h.most;
        slots = h.slots;
        count = omega arith;
        numbers = λ k e low. (
            elim (bool_cases (nat_lt k (length d.jobs))) [
              | inl before ↦ (let b : k < length d.jobs = grind (arith, nat_tests) in rw (get_or_append_left d.jobs new e k b) (h.numbers k e b))
              | inr after ↦ (
                  let b : length d.jobs ≤ k = grind (arith, nat_tests) in
                  let r = numbers-from {O = O} (length d.jobs) items (k - length d.jobs) e (omega arith) in
                  rw (get_or-append_right d.jobs new (length d.jobs) k e refl b) (r ∙ omega arith)
                  )
            ]
            );
        within = all-append (λ job. job.slot < length d.builders) d.jobs new h.within (within-from (length d.builders) (length d.jobs) items within);
        each = long ∙ each;
        shares = λ k p low. (
            let is = h.shares k p low in
            let q = queued k p [] (omega arith) in
            let l = s.lists k [] low in
            let c : count ≡ length d.jobs = sym count' in
            let z : length d.jobs + 0 ≡ length d.jobs = omega arith in
            let jobs : (get_or parts k p).jobs ++ queued_as (get_or parts k p).worker (get_or parts k p).workers count (get_or lists k []) ≡ jobs_of d.workers k (d.jobs ++ jobs_from (length d.jobs) items) =
            (rw (is.jobs, is.worker, is.workers, l, c) (
            ap (λ x. jobs_of d.workers k d.jobs ++ x) (queued_is d.workers k (length d.jobs) 0 items ∙ ap (λ x. jobs_of d.workers k (jobs_from x items)) z)
            ∙ sym (filter-append (λ job. is_of d.workers k job.slot) d.jobs (jobs_from (length d.jobs) items))
            )) in
            rw q (record { tag = is.tag; workers = is.workers; worker = is.worker; slots = is.slots; jobs = jobs })
            );
        rows = λ k p low. rw (queued k p [] (omega arith)) (h.rows k p low);
        ends = λ k p low. rw (queued k p [] (omega arith)) (h.ends k p low);
      }

respread : {I : Type 0} (s : SpreadValue I) (m many : ℕ) (lists : List (List (Due I))) → s.workers ≡ m → IsSpread s many lists → IsSpread (record { workers = m; items = s.items }) many lists
respread s m many lists e h = rw (← e) h

dues-within : {I : Type 0} (m k n most limit : ℕ) (items : List (ℕ × I)) → ((s : ℕ) → s < most → s % m ≡ k → s / m < limit) → All (λ p. p.0 < most) items → All (λ due. due.element < limit) (dues_of m k n items)
dues-within m k n most limit [] fit all = λ j d low. absurd (omega arith)
dues-within {I} m k n most limit ((s, i) ∷ items) fit all =
    let rest : All (λ due. due.element < limit) (dues_of m k (suc n) items) = dues-within m k (suc n) most limit items fit (λ j e under. all (suc j) e (omega arith)) in
    elim (bool_cases (is_of m k s)) [
      | inl hit ↦ (
          let r : s % m ≡ k = grind (arith, nat_tests) in
          let first : s / m < limit = fit s (all 0 (s, i) (omega arith)) r in
          rw hit (all-push-front (λ (due : Due I). due.element < limit) (record { number = n; element = s / m; item = i }) (dues_of m k (suc n) items) first rest)
          )
      | inr miss ↦ rw miss rest
    ]

-- each list fits its part
pub lists_fit : {B I O : Type 0} (d : Dealing B I O) (slots count many : ℕ) (parts : List (Share B I O)) (s : SpreadValue I) (rows : List (Vec (Due I) Global)) → Holds d slots count parts
    → s.workers ≡ d.workers → All (λ p. p.0 < length d.builders) s.items → IsSpread s many (map (λ l. l.items) rows)
    → (k : ℕ) (p : Share B I O) (l : Vec (Due I) Global) → k < length parts → All (λ due. due.element < length (get_or parts k p).slots) (get_or rows k l).items
lists_fit d slots count many parts s rows h same within is k p l low =
    let each = h.each in
    let under : k < d.workers = omega arith in
    let lists = (respread s d.workers many (map (λ l. l.items) rows) same is).lists k l.items under in
    let at : (get_or rows k l).items ≡ dues_of d.workers k 0 s.items = sym (get_or-map (λ l. l.items) rows k l) ∙ lists in
    rw at (dues-within d.workers k 0 (length d.builders) (length (get_or parts k p).slots) s.items
    (λ slot there of. element_within d slots count parts slot k (slot / d.workers) (get_or parts k p) h there (sym of) refl (get_or_default parts k p (get_or parts k p) low)) within)

row-there : {T : Type 0} (rows : List (Vec T Global)) (k : ℕ) (l : List T) → k < length rows → (v : Vec T Global) × (get_or (map (λ v. v.items) rows) k l ≡ (get_or rows k v).items)
row-there rows k l low =
    elim ((slice_get_cases rows k).1) [
      | inl c ↦ (c.0, get_or-map-within (λ v. v.items) rows k c.0 l low)
      | inr c ↦ absurd (omega arith)
    ]

-- the parts hold the deal once each has its list of the spread
pub holds_dealt : {B I O : Type 0} (d : Dealing B I O) (slots count many : ℕ) (parts parts' : List (Share B I O)) (s : SpreadValue I) (rows : List (Vec (Due I) Global)) → Holds d slots count parts
    → s.workers ≡ d.workers → All (λ p. p.0 < length d.builders) s.items → IsSpread s many (map (λ l. l.items) rows) → length parts' ≡ length parts
    → ((k : ℕ) (p : Share B I O) (l : Vec (Due I) Global) → k < length parts → get_or parts' k p ≡ record (get_or parts k p) { jobs = (get_or parts k p).jobs ++ queued_as (get_or parts k p).worker (get_or parts k p).workers count (get_or rows k l).items })
    → Holds (record d { jobs = d.jobs ++ jobs_from (length d.jobs) s.items }) slots (count + many) parts'
holds_dealt d slots count many parts parts' s rows h same within is long queued =
    let lists = map (λ l. l.items) rows in
    holds_all d slots count many parts parts' s.items lists h within (respread s d.workers many lists same is) long (λ k p l low. (
    let each = h.each in
    let wide = is.each in
    let n = length-map rows (λ l. l.items) in
    let r = row-there rows k l (omega arith) in
    rw r.1 (queued k p r.0 low)
    ))

pub spread_new : {I : Type 0} (m : ℕ) (rows : List (Vec (Due I) Global)) → 0 < m → m ≤ 64 → length rows ≡ m → ((k : ℕ) (v : Vec (Due I) Global) → k < m → (get_or rows k v).items ≡ []) → IsSpread (record { workers = m; items = [] }) 0 (map (λ l. l.items) rows)
spread_new {I} m rows some most long none =
    record {
      some = some;
      most = most;
      count = refl;
      each = length-map rows (λ l. l.items) ∙ long;
      lists = λ k l low. (let r = row-there rows k l (omega arith) in r.1 ∙ none k r.0 low);
    }
