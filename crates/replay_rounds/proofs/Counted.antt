-- Outcomes counted one after another.
use Rattle.std.proofs.Common.{◌≡◌, ℕ, suc, ◌+◌, ◌<◌, ◌^◌, Bool, List, [], ◌∷◌, ◌++◌, length, take, drop, refl, sym, ap, subst, ◌∙◌, arith, append_assoc}
use Rattle.std.specs.Prelude.{map, count_by, cond, slice_index_or, Err, Ok, OnErr, OnOk, Result}
use Rattle.std.specs.List.{flat_map}
use Rattle.std.proofs.lemmas.Grind.{flat_map-append}
use Rattle.std.proofs.lemmas.List.{map-append, take-append-drop, drop_more, flat_map_more, take_more}
use Rattle.std.proofs.lemmas.List.Sums.{sum_by-append, sum_by-cons}
use Rattle.std.proofs.Math.Seq.{take-suc}
use Rattle.head_column.specs.declared.items.Outcome.{Outcome}
use Rattle.head_column.specs.declared.items.Outcome.TheVariants as outcome
use Rattle.head_resolver.specs.declared.counts.Counts.{Counts}
use Rattle.head_resolver.specs.Counts.{Fate, accepted, stale, hides, empty_stone, fate_of, is_fate}
use Rattle.head_resolver.specs.Limits.{AreCountsWithin}
use Rattle.head_resolver.specs.Resolved.{with_outcomes}
use Rattle.head_resolver.specs.Steps.{with_fate, count_of_fate}
use Rattle.head_core.specs.Applied.{AreCountsOfOutcomes}

-- how many of these outcomes are of a fate
abbrev pub many : Fate → List Outcome → ℕ
many f os = count_by (is_fate f) (map fate_of os)

pub many_both : (f : Fate) (os ps : List Outcome) → many f (os ++ ps) ≡ many f os + many f ps
many_both f os ps = ap (count_by (is_fate f)) (map-append fate_of os ps) ∙ sum_by-append (λ g. cond (is_fate f g) 1 0) (map fate_of os) (map fate_of ps)

pub one_more : (os : List Outcome) (o : Outcome) (c : Counts) → AreCountsOfOutcomes os c → AreCountsOfOutcomes (os ++ o ∷ []) (with_fate (fate_of o) c)
one_more os outcome.Accepted c h = record {
  accepted = ap (λ n. n + 1) h.accepted ∙ sym (many_both accepted os (outcome.Accepted ∷ []));
  stale = (let e = h.stale in let k = many_both stale os (outcome.Accepted ∷ []) in omega (arith, e, k));
  hiding = (let e = h.hiding in let k = many_both hides os (outcome.Accepted ∷ []) in omega (arith, e, k));
  empty_stones = (let e = h.empty_stones in let k = many_both empty_stone os (outcome.Accepted ∷ []) in omega (arith, e, k));
}
one_more os outcome.Stale c h = record {
  accepted = (let e = h.accepted in let k = many_both accepted os (outcome.Stale ∷ []) in omega (arith, e, k));
  stale = ap (λ n. n + 1) h.stale ∙ sym (many_both stale os (outcome.Stale ∷ []));
  hiding = (let e = h.hiding in let k = many_both hides os (outcome.Stale ∷ []) in omega (arith, e, k));
  empty_stones = (let e = h.empty_stones in let k = many_both empty_stone os (outcome.Stale ∷ []) in omega (arith, e, k));
}
one_more os outcome.Hidden c h = record {
  accepted = (let e = h.accepted in let k = many_both accepted os (outcome.Hidden ∷ []) in omega (arith, e, k));
  stale = (let e = h.stale in let k = many_both stale os (outcome.Hidden ∷ []) in omega (arith, e, k));
  hiding = ap (λ n. n + 1) h.hiding ∙ sym (many_both hides os (outcome.Hidden ∷ []));
  empty_stones = (let e = h.empty_stones in let k = many_both empty_stone os (outcome.Hidden ∷ []) in omega (arith, e, k));
}
one_more os outcome.EmptyStone c h = record {
  accepted = (let e = h.accepted in let k = many_both accepted os (outcome.EmptyStone ∷ []) in omega (arith, e, k));
  stale = (let e = h.stale in let k = many_both stale os (outcome.EmptyStone ∷ []) in omega (arith, e, k));
  hiding = (let e = h.hiding in let k = many_both hides os (outcome.EmptyStone ∷ []) in omega (arith, e, k));
  empty_stones = ap (λ n. n + 1) h.empty_stones ∙ sym (many_both empty_stone os (outcome.EmptyStone ∷ []));
}

-- the next of some outcomes is counted
pub counted_more : (before xs : List Outcome) (i : ℕ) (o : Outcome) (c e : Counts) → i < length xs → AreCountsOfOutcomes (before ++ take i xs) c → e ≡ with_fate (fate_of (slice_index_or xs i o)) c → AreCountsOfOutcomes (before ++ take (i + 1) xs) e
counted_more before xs i o c e lt h is =
    let next : suc i ≡ i + 1 = omega arith in
    let all : take (i + 1) xs ≡ take i xs ++ slice_index_or xs i o ∷ [] = subst (λ (n : ℕ). take n xs ≡ take i xs ++ slice_index_or xs i o ∷ []) next (take-suc xs i o lt) in
    subst (λ (d : Counts). AreCountsOfOutcomes (before ++ take (i + 1) xs) d) (sym is)
    (subst (λ (os : List Outcome). AreCountsOfOutcomes os (with_fate (fate_of (slice_index_or xs i o)) c)) (append_assoc before (take i xs) (slice_index_or xs i o ∷ []) ∙ ap (λ (os : List Outcome). before ++ os) (sym all))
    (one_more (before ++ take i xs) (slice_index_or xs i o) c h))

-- only the counts of outcomes change
only_outcomes : (o : Outcome) (c : Counts) → with_fate (fate_of o) c ≡ with_outcomes c (with_fate (fate_of o) c)
only_outcomes outcome.Accepted c = refl
only_outcomes outcome.Stale c = refl
only_outcomes outcome.Hidden c = refl
only_outcomes outcome.EmptyStone c = refl

pub others_more : (o : Outcome) (first c e : Counts) → c ≡ with_outcomes first c → e ≡ with_fate (fate_of o) c → e ≡ with_outcomes first e
others_more o first c e h is =
    let all : e ≡ with_outcomes c e = subst (λ (d : Counts). d ≡ with_outcomes c d) (sym is) (only_outcomes o c) in
    all ∙ ap (λ (d : Counts). with_outcomes d e) h

pub others_both : (a b c : Counts) → b ≡ with_outcomes a b → c ≡ with_outcomes b c → c ≡ with_outcomes a c
others_both a b c h k = k ∙ ap (λ (d : Counts). with_outcomes d c) h

-- how many there are of an outcome, by counts
told_by : (o : Outcome) (os : List Outcome) (c : Counts) → AreCountsOfOutcomes os c → count_of_fate (fate_of o) c ≡ many (fate_of o) os
told_by outcome.Accepted os c h = h.accepted
told_by outcome.Stale os c h = h.stale
told_by outcome.Hidden os c h = h.hiding
told_by outcome.EmptyStone os c h = h.empty_stones

within_by : (o : Outcome) (c : Counts) → AreCountsWithin c → count_of_fate (fate_of o) c < 2 ^ 64
within_by outcome.Accepted c w = w.accepted
within_by outcome.Stale c w = w.stale
within_by outcome.Hidden c w = w.hiding
within_by outcome.EmptyStone c w = w.empty_stones

own : (o : Outcome) → many (fate_of o) (o ∷ []) ≡ 1
own outcome.Accepted = refl
own outcome.Stale = refl
own outcome.Hidden = refl
own outcome.EmptyStone = refl

-- where one more can't be counted, no counts of all are within their limits
pub over : (o : Outcome) (os more : List Outcome) (c all : Counts) → AreCountsOfOutcomes os c → count_of_fate (fate_of o) c ≡ 18446744073709551615 → AreCountsOfOutcomes ((os ++ o ∷ []) ++ more) all → AreCountsWithin all → ⊥
over o os more c all h full k w =
    let f = fate_of o in
    let had = told_by o os c h in
    let have = told_by o ((os ++ o ∷ []) ++ more) all k in
    let low = within_by o all w in
    let one = own o in
    let first = many_both f (os ++ o ∷ []) more in
    let then = many_both f os (o ∷ []) in
    omega (arith, had, have, low, one, first, then, full)

pub over_at : (before xs more : List Outcome) (i : ℕ) (o : Outcome) (c all : Counts) → i < length xs → AreCountsOfOutcomes (before ++ take i xs) c → count_of_fate (fate_of (slice_index_or xs i o)) c ≡ 18446744073709551615
    → AreCountsOfOutcomes ((before ++ xs) ++ more) all → AreCountsWithin all → ⊥
over_at before xs more i o c all lt h full k w =
    let x : Outcome = slice_index_or xs i o in
    let parts : take i xs ++ x ∷ drop (i + 1) xs ≡ xs = ap (λ (os : List Outcome). take i xs ++ os) (sym (drop_more xs i o lt)) ∙ take-append-drop i xs in
    let split : (before ++ xs) ++ more ≡ ((before ++ take i xs) ++ x ∷ []) ++ (drop (i + 1) xs ++ more) =
    ap (λ (os : List Outcome). (before ++ os) ++ more) (sym parts)
    ∙ ap (λ (os : List Outcome). os ++ more) (sym (append_assoc before (take i xs) (x ∷ drop (i + 1) xs)) ∙ sym (append_assoc (before ++ take i xs) (x ∷ []) (drop (i + 1) xs)))
    ∙ append_assoc ((before ++ take i xs) ++ x ∷ []) (drop (i + 1) xs) more in
    over x (before ++ take i xs) (drop (i + 1) xs ++ more) c all h full (subst (λ (os : List Outcome). AreCountsOfOutcomes os all) split k) w

-- ---- outcomes in another order

-- as many of both pass any test
abbrev pub Alike : List Outcome → List Outcome → Type 0
Alike os ps = (test : Outcome → Bool) → count_by test os ≡ count_by test ps

pub alike_back : (os ps : List Outcome) → Alike os ps → Alike ps os
alike_back os ps alike test = sym (alike test)

pub alike_behind : (before os ps : List Outcome) → Alike os ps → Alike (before ++ os) (before ++ ps)
alike_behind before os ps alike test =
    let one : Outcome → ℕ = λ o. cond (test o) 1 0 in
    sum_by-append one before os ∙ ap (λ (n : ℕ). count_by test before + n) (alike test) ∙ sym (sum_by-append one before ps)

pub alike_before : (os ps more : List Outcome) → Alike os ps → Alike (os ++ more) (ps ++ more)
alike_before os ps more alike test =
    let one : Outcome → ℕ = λ o. cond (test o) 1 0 in
    sum_by-append one os more ∙ ap (λ (n : ℕ). n + count_by test more) (alike test) ∙ sym (sum_by-append one ps more)

count_mapped : {A B : Type 0} (test : B → Bool) (g : A → B) (xs : List A) → count_by test (map g xs) ≡ count_by (λ x. test (g x)) xs
count_mapped test g [] = refl
count_mapped test g (x ∷ xs) =
    sum_by-cons (λ y. cond (test y) 1 0) (g x) (map g xs)
    ∙ ap (λ (n : ℕ). cond (test (g x)) 1 0 + n) (count_mapped test g xs)
    ∙ sym (sum_by-cons (λ y. cond (test (g y)) 1 0) x xs)

many_alike : (f : Fate) (os ps : List Outcome) → Alike os ps → many f os ≡ many f ps
many_alike f os ps alike = count_mapped (is_fate f) fate_of os ∙ alike (λ o. is_fate f (fate_of o)) ∙ sym (count_mapped (is_fate f) fate_of ps)

-- counts do not tell an order
pub counts_alike : (os ps : List Outcome) (c : Counts) → Alike os ps → AreCountsOfOutcomes os c → AreCountsOfOutcomes ps c
counts_alike os ps c alike h = record {
  accepted = h.accepted ∙ many_alike accepted os ps alike;
  stale = h.stale ∙ many_alike stale os ps alike;
  hiding = h.hiding ∙ many_alike hides os ps alike;
  empty_stones = h.empty_stones ∙ many_alike empty_stone os ps alike;
}

-- ---- outcomes of one part after another

-- those of one part more
pub parts_more : {P : Type 0} (f : P → List Outcome) (before : List Outcome) (ps : List P) (i : ℕ) (p : P) → i < length ps
    → (before ++ flat_map f (take i ps)) ++ f (slice_index_or ps i p) ≡ before ++ flat_map f (take (i + 1) ps)
parts_more {P} f before ps i p lt = flat_map_more f before (take i ps) (slice_index_or ps i p) ∙ ap (λ (qs : List P). before ++ flat_map f qs) (sym (take_more ps i p lt))

-- those of all parts are those before a part, its own, and those after it
pub parts_split : {P : Type 0} (f : P → List Outcome) (before more : List Outcome) (ps : List P) (i : ℕ) (p : P) → i < length ps
    → (before ++ flat_map f ps) ++ more ≡ ((before ++ flat_map f (take i ps)) ++ f (slice_index_or ps i p)) ++ (flat_map f (drop (i + 1) ps) ++ more)
parts_split {P} f before more ps i p lt =
    let rest : List Outcome = flat_map f (drop (i + 1) ps) in
    ap (λ (qs : List P). (before ++ flat_map f qs) ++ more) (sym (take-append-drop (i + 1) ps))
    ∙ ap (λ (os : List Outcome). (before ++ os) ++ more) (flat_map-append f (take (i + 1) ps) (drop (i + 1) ps))
    ∙ ap (λ (os : List Outcome). os ++ more) (sym (append_assoc before (flat_map f (take (i + 1) ps)) rest))
    ∙ ap (λ (os : List Outcome). (os ++ rest) ++ more) (sym (parts_more f before ps i p lt))
    ∙ append_assoc ((before ++ flat_map f (take i ps)) ++ f (slice_index_or ps i p)) rest more

-- what holds anyway holds where there is an error
pub on_err_always : {T E P : Type 0} (r : Result T E) → P → OnErr r P
on_err_always (Ok x) p = tt
on_err_always (Err e) p = p

pub on_err_of : {T E P Q : Type 0} (r : Result T E) → OnErr r P → (P → Q) → OnErr r Q
on_err_of (Ok x) p f = tt
on_err_of (Err e) p f = f p

pub on_ok_of : {T E P Q : Type 0} (r : Result T E) → OnOk r P → (P → Q) → OnOk r Q
on_ok_of (Ok x) p f = f p
on_ok_of (Err e) p f = tt
