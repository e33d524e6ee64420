-- Reading fields one after the other, as a loop does.
use Rattle.std.proofs.Common.{◌≡◌, ℕ, zero, suc, length, ◌-◌, ◌+◌, ◌≤◌, ◌<◌, List, [], ◌∷◌, ◌++◌, Result, Ok, Err, refl, sym, ap, subst, ◌∙◌, append_assoc, arith}
use Rattle.std.proofs.lemmas.List.{append-nil, nil_from_length}
use Rattle.index_text.specs.declared.fault.ReadFault.{ReadFault}
use Rattle.index_text.specs.declared.fault.ReadFault.TheVariants as faults
use Rattle.index_text.specs.Gives.{◌>>=◌, with_front, Fails}
use Rattle.index_text.specs.Fields.{Field, times}
use Rattle.index_text.specs.Reading.{Element, elements}

pub regroup : {X : Type 0} (front : List X) (n : X) (read : Result (List X × List ℕ) ReadFault) → with_front front (read >>= λ x. Ok (n ∷ x.0, x.1)) ≡ with_front (front ++ n ∷ []) read
regroup {X} front n (Ok x) = ap (λ (ns : List X). Ok (ns, x.1)) (simp append_assoc)
regroup front n (Err f) = refl

-- a fault ends the reading
pub Fails-bind : {A B : Type 0} (e : ReadFault) (r : Result A ReadFault) (f : A → Result B ReadFault) → Fails e r → Fails e (r >>= f)
Fails-bind faults.Memory r f h = tt
Fails-bind faults.BadMagic r f h = rw h refl
Fails-bind faults.BadVersion r f h = rw h refl
Fails-bind faults.BadToc r f h = rw h refl
Fails-bind faults.BadSum r f h = rw h refl
Fails-bind faults.BadSection r f h = rw h refl
Fails-bind faults.NotCanonical r f h = rw h refl

pub Fails-same : {A : Type 0} (e : ReadFault) (r s : Result A ReadFault) → r ≡ s → Fails e r → Fails e s
Fails-same {A} e r s same h = subst (Fails e) same h

pub goes_on : {X : Type 0} (field : Field X) (front : List X) (count i : ℕ) (bytes : List ℕ) (n : X) (after : List ℕ) (total : Result (List X × List ℕ) ReadFault) → i < count → field bytes ≡ Ok (n, after)
    → with_front front (times field (count - i) bytes) ≡ total → with_front (front ++ n ∷ []) (times field (count - (i + 1)) after) ≡ total
unfolding times
goes_on field front count i bytes n after total lt h so_far =
    let k : count - i ≡ suc (count - (i + 1)) = omega arith in
    let one : with_front front (times field (count - i) bytes) ≡ with_front (front ++ n ∷ []) (times field (count - (i + 1)) after) = rw (k, h) (regroup front n (times field (count - (i + 1)) after)) in
    sym one ∙ so_far

pub ends : {X : Type 0} (field : Field X) (e : ReadFault) (front : List X) (count i : ℕ) (bytes : List ℕ) (total : Result (List X × List ℕ) ReadFault) → i < count → Fails e (field bytes)
    → with_front front (times field (count - i) bytes) ≡ total → Fails e total
unfolding times
ends field e front count i bytes total lt h so_far =
    let k : count - i ≡ suc (count - (i + 1)) = omega arith in
    Fails-same e _ total (ap (λ j. with_front front (times field j bytes)) (sym k) ∙ so_far)
    (Fails-bind e (times field (suc (count - (i + 1))) bytes) (λ x. Ok (front ++ x.0, x.1))
    (Fails-bind e (field bytes) (λ first. times field (count - (i + 1)) first.1 >>= λ others. Ok (first.0 ∷ others.0, others.1)) h))

pub is_done : {X : Type 0} (field : Field X) (front : List X) (count i : ℕ) (bytes : List ℕ) (total : Result (List X × List ℕ) ReadFault) → count ≤ i → with_front front (times field (count - i) bytes) ≡ total → total ≡ Ok (front, bytes)
unfolding times
is_done {X} field front count i bytes total le so_far =
    let k : count - i ≡ 0 = omega arith in
    let one : with_front front (times field (count - i) bytes) ≡ Ok (front, bytes) = rw k (ap (λ (ns : List X). Ok (ns, bytes)) (append-nil front)) in
    sym so_far ∙ one

-- ---- elements of a section

abbrev pub with_items : {X : Type 0} → List X → Result (List X) ReadFault → Result (List X) ReadFault
with_items front read = read >>= λ xs. Ok (front ++ xs)

regroup_items : {X : Type 0} (front : List X) (x : X) (read : Result (List X) ReadFault) → with_items front (read >>= λ xs. Ok (x ∷ xs)) ≡ with_items (front ++ x ∷ []) read
regroup_items {X} front x (Ok xs) = ap (λ (ys : List X). Ok ys) (simp append_assoc)
regroup_items front x (Err f) = refl

unroll : {X : Type 0} (element : Element X) (k : ℕ) (bytes : List ℕ) → 0 < length bytes → elements element (suc k) bytes ≡ (element bytes >>= λ x. elements element k x.1 >>= λ xs. Ok (x.0 ∷ xs))
unfolding elements
unroll element k [] some = absurd (omega arith)
unroll element k (b ∷ more) some = refl

none : {X : Type 0} (element : Element X) (k : ℕ) → elements element k [] ≡ Ok []
unfolding elements
none element zero = refl
none element (suc k) = refl

pub element_goes_on : {X : Type 0} (element : Element X) (front : List X) (count i : ℕ) (bytes : List ℕ) (x : X) (after : List ℕ) (total : Result (List X) ReadFault) → i < count → 0 < length bytes → element bytes ≡ Ok (x, after)
    → with_items front (elements element (count - i) bytes) ≡ total → with_items (front ++ x ∷ []) (elements element (count - (i + 1)) after) ≡ total
element_goes_on element front count i bytes x after total lt some h so_far =
    let k : count - i ≡ suc (count - (i + 1)) = omega arith in
    let one : with_items front (elements element (count - i) bytes) ≡ with_items (front ++ x ∷ []) (elements element (count - (i + 1)) after) =
    rw (k, unroll element (count - (i + 1)) bytes some, h) (regroup_items front x (elements element (count - (i + 1)) after)) in
    sym one ∙ so_far

pub element_fails : {X : Type 0} (element : Element X) (e : ReadFault) (front : List X) (count i : ℕ) (bytes : List ℕ) (total : Result (List X) ReadFault) → i < count → 0 < length bytes → Fails e (element bytes)
    → with_items front (elements element (count - i) bytes) ≡ total → Fails e total
element_fails element e front count i bytes total lt some h so_far =
    let k : count - i ≡ suc (count - (i + 1)) = omega arith in
    let opened : elements element (count - i) bytes ≡ (element bytes >>= λ x. elements element (count - (i + 1)) x.1 >>= λ xs. Ok (x.0 ∷ xs)) =
    (ap (λ j. elements element j bytes) k ∙ unroll element (count - (i + 1)) bytes some) in
    Fails-same e _ total (ap (with_items front) (sym opened) ∙ so_far)
    (Fails-bind e (element bytes >>= λ x. elements element (count - (i + 1)) x.1 >>= λ xs. Ok (x.0 ∷ xs)) (λ xs. Ok (front ++ xs))
    (Fails-bind e (element bytes) (λ x. elements element (count - (i + 1)) x.1 >>= λ xs. Ok (x.0 ∷ xs)) h))

pub element_none : {X : Type 0} (element : Element X) (front : List X) (k : ℕ) (bytes : List ℕ) (total : Result (List X) ReadFault) → length bytes ≡ 0
    → with_items front (elements element k bytes) ≡ total → total ≡ Ok front
element_none {X} element front k bytes total empty so_far =
    let no : bytes ≡ [] = nil_from_length bytes empty in
    let one : with_items front (elements element k bytes) ≡ Ok front = rw (no, none element k) (ap (λ (ys : List X). Ok ys) (append-nil front)) in
    sym so_far ∙ one

pub element_ends : {X : Type 0} (element : Element X) (front : List X) (count i : ℕ) (bytes : List ℕ) (total : Result (List X) ReadFault) → count ≤ i
    → with_items front (elements element (count - i) bytes) ≡ total → total ≡ Ok front
unfolding elements
element_ends {X} element front count i bytes total le so_far =
    let k : count - i ≡ 0 = omega arith in
    let one : with_items front (elements element (count - i) bytes) ≡ Ok front = rw k (ap (λ (ys : List X). Ok ys) (append-nil front)) in
    sym so_far ∙ one
