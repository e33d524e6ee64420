-- The loops over the groups of a list: one group more.
use Rattle.std.proofs.Common.{◌≡◌, ℕ, zero, suc, ◌+◌, ◌*◌, ◌<◌, ◌≤◌, Bool, true, false, List, [], ◌∷◌, ◌++◌, length, map, take, drop, refl, sym, ap, subst, ◌∙◌, append_assoc, arith}
use Rattle.std.specs.Prelude.{replicate}
use Rattle.std.specs.List.{zip, flat_map, range_with_len, AllByRecursion}
use Rattle.std.specs.Cmp.{IsTotalOrder}
use Rattle.std.specs.FinMap.{IsAntisymmetric}
use Rattle.std.specs.Ordering.{is_eq, is_lt, ordering_then, ordering_reverse}
use Rattle.std.specs.declared.cmp.Ordering.{Ordering}
use Rattle.std.specs.declared.cmp.Ordering.TheVariants.{Less, Equal, Greater}
use Rattle.std.proofs.lemmas.Cmp.{tied_itself}
use Rattle.std.proofs.lemmas.List.{length-append, take-map, drop-map}
use Rattle.hw_bytes.specs.Writing.{big_bytes, text, uvarint}
use Rattle.index_text.proofs.Spelled.{uvarint_some}
use Rattle.index_text.specs.Groups.{run_length, keys}
use Rattle.wal_record.specs.declared.labels.Label.{Label}
use Rattle.index_text.specs.Index.{label_entry, label_index_body, label_table_body, postings_body, postings_entry, postings_table_body, symbols_body}
use Rattle.index_text.specs.Sets.{IsAscending, IsBefore, rank, text_cmp}
use Rattle.index_text.specs.Layout.{Text, padding, put, put_all, place, places}
use Rattle.index_text.proofs.GroupLaws.{AreAtLeast, KeysRise, KeysRise-drop, groups, keys_step, groups_step}
use Rattle.index_text.proofs.Laid.{length-zeros-behind}

pub run_length-map : {X Y : Type 0} (f : X → Y) (p : X → Bool) (q : Y → Bool) → ((x : X) → p x ≡ q (f x)) → (xs : List X) → run_length p xs ≡ run_length q (map f xs)
run_length-map f p q same [] = refl
run_length-map f p q same (x ∷ xs) = rw (same x, run_length-map f p q same xs) refl

-- ---- the places of elements, the first one apart

map-shift : {A : Type 0} (f g : ℕ → A) (from n : ℕ) → ((i : ℕ) → f (i + 1) ≡ g i) → map f (range_with_len (from + 1) n) ≡ map g (range_with_len from n)
map-shift f g from zero h = refl
map-shift f g from (suc n) h = rw (h from, map-shift f g (from + 1) n h) refl

pub places-cons : (align : ℕ) (before e : Text) (es : List Text) → places align before (e ∷ es) ≡ (length before + padding align (length before)) ∷ places align (put align before e) es
places-cons align before e es =
    ap (λ ks. (length before + padding align (length before)) ∷ ks) (map-shift (place align before (e ∷ es)) (place align (put align before e) es) 0 (length es) one_on)
  where
    one_on : (i : ℕ) → place align before (e ∷ es) (i + 1) ≡ place align (put align before e) es i
    one_on i = let s : i + 1 ≡ suc i = omega arith in ap (place align before (e ∷ es)) s

-- ---- one element more after what was put so far

pub put_step : (align : ℕ) (out padded done : Text) (e : Text) (es es' : List Text) → es ≡ e ∷ es' → padded ≡ out ++ replicate (padding align (length out)) 0 → done ≡ padded ++ e → put_all align done es' ≡ put_all align out es
put_step align out padded done e es es' parts pad is = ap (λ t. put_all align t es') (is ∙ ap (λ t. t ++ e) pad) ∙ ap (put_all align out) (sym parts)

pub entries_step : {K : Type 0} (align : ℕ) (out padded done : Text) (front : List (K × ℕ)) (k : K) (ks ks' : List K) (e : Text) (es es' : List Text)
    → ks ≡ k ∷ ks' → es ≡ e ∷ es' → padded ≡ out ++ replicate (padding align (length out)) 0 → done ≡ padded ++ e
    → (front ++ (k, length padded) ∷ []) ++ zip ks' (places align done es') ≡ front ++ zip ks (places align out es)
entries_step align out padded done front k ks ks' e es es' names parts pad is =
    let len : length padded ≡ length out + padding align (length out) = ap length pad ∙ length-zeros-behind out (padding align (length out)) in
    let next : done ≡ put align out e = is ∙ ap (λ t. t ++ e) pad in
    append_assoc front ((k, length padded) ∷ []) (zip ks' (places align done es'))
    ∙ ap (λ t. front ++ t)
    (ap (λ n. (k, n) ∷ zip ks' (places align done es')) len
    ∙ ap (λ t. (k, length out + padding align (length out)) ∷ zip ks' (places align t es')) next
    ∙ ap (zip (k ∷ ks')) (sym (places-cons align out e es'))
    ∙ ap (λ xs. zip (k ∷ ks') (places align out xs)) (sym parts)
    ∙ ap (λ xs. zip xs (places align out es)) (sym names))

-- ---- one group more

module _ {X Y K : Type 0} (f : X → Y) (key : Y → K) (cmp : K → K → Ordering) (order : IsTotalOrder cmp) (exact : IsAntisymmetric cmp)
    (rest : List X) (x : X) (xs : List X) (p : X → Bool) (m : ℕ) (shape : rest ≡ x ∷ xs) (rises : KeysRise key cmp (map f rest))
    (same : (y : X) → p y ≡ is_eq (cmp (key (f y)) (key (f x)))) (long : m ≡ run_length p rest) where
  abbrev n : ℕ
  n = run_length (λ y. is_eq (cmp (key y) (key (f x)))) (map f xs)

  up : KeysRise key cmp (f x ∷ map f xs)
  up = subst (λ r. KeysRise key cmp (map f r)) shape rises

  count : m ≡ suc n
  count =
      let itself : is_eq (cmp (key (f x)) (key (f x))) ≡ true = ap is_eq (tied_itself order (key (f x))) in
      long ∙ ap (run_length p) shape ∙ run_length-map f p (λ y. is_eq (cmp (key y) (key (f x)))) same (x ∷ xs) ∙ rw itself refl

  pub some : 0 < m
  some = omega (arith, count)

  run_is : f x ∷ take n (map f xs) ≡ map f (take m rest)
  run_is = ap (λ t. f x ∷ t) (take-map f n xs) ∙ ap (λ k. map f (take k (x ∷ xs))) (sym count) ∙ ap (λ r. map f (take m r)) (sym shape)

  others_is : drop n (map f xs) ≡ map f (drop m rest)
  others_is = drop-map f n xs ∙ ap (λ k. map f (drop k (x ∷ xs))) (sym count) ∙ ap (λ r. map f (drop m r)) (sym shape)

  pub step_names : keys key cmp (map f rest) ≡ key (f x) ∷ keys key cmp (map f (drop m rest))
  step_names = ap (λ r. keys key cmp (map f r)) shape ∙ keys_step key cmp order exact (f x) (map f xs) up ∙ ap (λ d. key (f x) ∷ keys key cmp d) others_is

  pub step_parts : {B : Type 0} (g : List Y → B) → groups key cmp g (map f rest) ≡ g (map f (take m rest)) ∷ groups key cmp g (map f (drop m rest))
  step_parts g =
      ap (λ r. groups key cmp g (map f r)) shape ∙ groups_step key cmp order exact g (f x) (map f xs) up
      ∙ ap (λ t. g t ∷ groups key cmp g (drop n (map f xs))) run_is ∙ ap (λ d. g (map f (take m rest)) ∷ groups key cmp g d) others_is

  pub step_rises : KeysRise key cmp (map f (drop m rest))
  step_rises = subst (KeysRise key cmp) others_is (KeysRise-drop key cmp n (map f xs) up.1)

-- ---- how long bodies are

pub length-flat_bytes : {X : Type 0} (f : X → ℕ) (xs : List X) → length (flat_map (λ x. big_bytes 4 (f x)) xs) ≡ 4 * length xs
length-flat_bytes f [] = refl
length-flat_bytes f (x ∷ xs) = length-append (big_bytes 4 (f x)) (flat_map (λ x. big_bytes 4 (f x)) xs) ∙ omega (arith, length-flat_bytes f xs)

-- a list is no longer than what is written of it, if of each element something is
pub length-flat_some : {X : Type 0} (f : X → Text) → ((x : X) → 0 < length (f x)) → (xs : List X) → length xs ≤ length (flat_map f xs)
length-flat_some f some [] = omega arith
length-flat_some f some (x ∷ xs) = omega (arith, some x, length-flat_some f some xs, length-append (f x) (flat_map f xs))

pub length-label_index_body : (table values : List Text) → length (label_index_body table values) ≡ 8 + 4 * length values
unfolding label_index_body
length-label_index_body table values =
    length-append (big_bytes 4 1 ++ big_bytes 4 (length values)) (flat_map (λ v. big_bytes 4 (rank text_cmp v table)) values)
    ∙ omega (arith, length-flat_bytes (λ v. rank text_cmp v table) values)

pub length-postings_body : (ids : List ℕ) → length (postings_body ids) ≡ 4 + 4 * length ids
unfolding postings_body
length-postings_body ids = length-append (big_bytes 4 (length ids)) (flat_map (big_bytes 4) ids) ∙ omega (arith, length-flat_bytes (λ n. n) ids)

-- ---- sizes

pub sizes_of : {K : Type 0} (P : ℕ → Type 0) (size : K → ℕ) (ks : List K) → AllByRecursion (λ k. P (size k)) ks → AllByRecursion P (map size ks)
sizes_of P size [] h = tt
sizes_of P size (k ∷ ks) h = (h.0, sizes_of P size ks h.1)

pub of_sizes : {K : Type 0} (P : ℕ → Type 0) (size : K → ℕ) (ks : List K) → AllByRecursion P (map size ks) → AllByRecursion (λ k. P (size k)) ks
of_sizes P size [] h = tt
of_sizes P size (k ∷ ks) h = (h.0, of_sizes P size ks h.1)

pub with_first : (P : ℕ → Type 0) (k : ℕ) (ks all : List ℕ) → all ≡ k ∷ ks → P k → AllByRecursion P ks → AllByRecursion P all
with_first P k ks all e p h = subst (AllByRecursion P) (sym e) (p, h)

pub first_of : (P : ℕ → Type 0) (k : ℕ) (ks all : List ℕ) → all ≡ k ∷ ks → AllByRecursion P all → P k
first_of P k ks all e h = (subst (AllByRecursion P) e h).0

pub others_of : (P : ℕ → Type 0) (k : ℕ) (ks all : List ℕ) → all ≡ k ∷ ks → AllByRecursion P all → AllByRecursion P ks
others_of P k ks all e h = (subst (AllByRecursion P) e h).1

-- ---- what is ascending rises in its keys

from_first : (o p : Ordering) → ordering_then o p ≡ Less → is_lt (ordering_reverse o) ≡ false
from_first Less p e = refl
from_first Equal p e = refl
from_first Greater p e = absurd cc

module _ {X K : Type 0} (key : X → K) (cmp : K → K → Ordering) (order : IsTotalOrder cmp) (further : X → X → Ordering) where
  at_least : (x : X) (ys : List X) → IsBefore (λ a b. ordering_then (cmp (key a) (key b)) (further a b)) x ys → AreAtLeast key cmp (key x) ys
  at_least x [] h = tt
  at_least x (y ∷ ys) h = (ap is_lt (order.antisymm (key y) (key x)) ∙ from_first (cmp (key x) (key y)) (further x y) h.0, at_least x ys h.1)

  pub KeysRise-ascending : (xs : List X) → IsAscending (λ a b. ordering_then (cmp (key a) (key b)) (further a b)) xs → KeysRise key cmp xs
  KeysRise-ascending [] h = tt
  KeysRise-ascending (x ∷ xs) h = (at_least x xs h.0, KeysRise-ascending xs h.1)

-- a list is no longer than its table
pub length-symbols_body : (table : List Text) → length table ≤ length (symbols_body table)
unfolding symbols_body
length-symbols_body table = omega (arith, length-append (big_bytes 4 (length table)) (flat_map text table), length-flat_some text text_some table)
  where
    text_some : (t : Text) → 0 < length (text t)
    text_some t = omega (arith, length-append (uvarint (length t)) t, uvarint_some (length t))

pub length-label_table_body : (xs : List (Text × ℕ)) → length xs ≤ length (label_table_body xs)
unfolding label_table_body
length-label_table_body xs = omega (arith, length-append (big_bytes 4 (length xs)) (flat_map label_entry xs), length-flat_some label_entry (λ x. omega arith) xs)

pub length-postings_table_body : (xs : List (Label × ℕ)) → length xs ≤ length (postings_table_body xs)
unfolding postings_table_body
length-postings_table_body xs = omega (arith, length-append (big_bytes 4 (length xs)) (flat_map postings_entry xs), length-flat_some postings_entry (λ x. omega arith) xs)
