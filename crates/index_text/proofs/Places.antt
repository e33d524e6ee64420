-- The texts and places of elements, one element more.
use Rattle.std.proofs.Common.{◌≡◌, ℕ, zero, suc, ◌+◌, ◌^◌, ◌≤◌, ◌<◌, List, [], ◌∷◌, ◌++◌, length, get_or, map, take, drop, refl, sym, ap, subst, ◌∙◌, append_assoc, arith}
use Rattle.std.specs.Prelude.{ℤ, ◌-ℤ◌, unsigned_abs, replicate}
use Rattle.std.specs.List.{range_with_len, AllByRecursion}
use Rattle.std.proofs.lemmas.List.{length-map, take-map, take_at, take-append-le, take_more, length_push, map-append, drop_more, drop_all, append-nil}
use Rattle.hw_bytes.specs.Writing.{uvarint, varint}
use Rattle.index_text.specs.declared.row.ChunkMeta.{ChunkMeta}
use Rattle.index_text.specs.Layout.{Text, padding, put, put_all, place, places}
use Rattle.index_text.specs.Index.{next_chunk_text, later_chunks, reference_step}
use Rattle.index_text.proofs.Laid.{length-zeros-behind}

pub three_put : (o a b d : Text) (last c : ChunkMeta) (m n : ℕ) (z : ℤ) → m ≡ unsigned_abs (c.min_time -ℤ last.max_time) → n ≡ unsigned_abs (c.max_time -ℤ c.min_time) → z ≡ reference_step last.reference c.reference
    → a ≡ o ++ uvarint m → b ≡ a ++ uvarint n → d ≡ b ++ varint z → d ≡ o ++ next_chunk_text last c
unfolding next_chunk_text
three_put o a b d last c m n z p q r ea eb ed =
    ed ∙ ap (λ t. t ++ varint z) (eb ∙ ap (λ t. t ++ uvarint n) ea)
    ∙ regrouped o (uvarint m) (uvarint n) (varint z)
    ∙ ap (λ k. o ++ ((uvarint k ++ uvarint n) ++ varint z)) p
    ∙ ap (λ k. o ++ ((uvarint (unsigned_abs (c.min_time -ℤ last.max_time)) ++ uvarint k) ++ varint z)) q
    ∙ ap (λ k. o ++ ((uvarint (unsigned_abs (c.min_time -ℤ last.max_time)) ++ uvarint (unsigned_abs (c.max_time -ℤ c.min_time))) ++ varint k)) r
  where
    regrouped : (s t u v : Text) → ((s ++ t) ++ u) ++ v ≡ s ++ ((t ++ u) ++ v)
    regrouped s t u v = ap (λ x. x ++ v) (append_assoc s t u) ∙ append_assoc s (t ++ u) v

pub put_all-push : (align : ℕ) (before : Text) (es : List Text) (e : Text) → put_all align before (es ++ e ∷ []) ≡ put align (put_all align before es) e
put_all-push align before [] e = refl
put_all-push align before (d ∷ es) e = put_all-push align (put align before d) es e

pub range-more : (from n : ℕ) → range_with_len from (suc n) ≡ range_with_len from n ++ (from + n) ∷ []
range-more from zero = let e : from ≡ from + 0 = omega arith in ap (λ k. k ∷ []) e
range-more from (suc n) =
    let e : from + 1 + n ≡ from + suc n = omega arith in
    ap (λ ks. from ∷ ks) (range-more (from + 1) n ∙ ap (λ k. range_with_len (from + 1) n ++ k ∷ []) e)

map-range : {A : Type 0} (f g : ℕ → A) (from n : ℕ) → ((i : ℕ) → i < from + n → f i ≡ g i) → map f (range_with_len from n) ≡ map g (range_with_len from n)
map-range f g from zero h = refl
map-range f g from (suc n) h =
    let first : f from ≡ g from = h from (omega arith) in
    let rest : map f (range_with_len (from + 1) n) ≡ map g (range_with_len (from + 1) n) = map-range f g (from + 1) n (λ i lt. h i (omega arith)) in
    rw (first, rest) refl

pub places-push : (align : ℕ) (before : Text) (es : List Text) (e : Text)
    → places align before (es ++ e ∷ []) ≡ places align before es ++ (length (put_all align before es) + padding align (length (put_all align before es))) ∷ []
places-push align before es e =
    let more : length (es ++ e ∷ []) ≡ suc (length es) = omega (arith, length_push es e) in
    let last : place align before (es ++ e ∷ []) (0 + length es) ≡ length (put_all align before es) + padding align (length (put_all align before es)) =
    (let z : 0 + length es ≡ length es = omega arith in
    let t : take (0 + length es) (es ++ e ∷ []) ≡ es = ap (λ k. take k (es ++ e ∷ [])) z ∙ take_at es (e ∷ []) (length es) refl in
    ap (λ ts. length (put_all align before ts) + padding align (length (put_all align before ts))) t) in
    ap (λ n. map (place align before (es ++ e ∷ [])) (range_with_len 0 n)) more
    ∙ ap (map (place align before (es ++ e ∷ []))) (range-more 0 (length es))
    ∙ map-append (place align before (es ++ e ∷ [])) (range_with_len 0 (length es)) ((0 + length es) ∷ [])
    ∙ ap (λ ks. ks ++ place align before (es ++ e ∷ []) (0 + length es) ∷ []) (map-range (place align before (es ++ e ∷ [])) (place align before es) 0 (length es) (λ i lt.
    let t : take i (es ++ e ∷ []) ≡ take i es = take-append-le i es (e ∷ []) (omega arith) in
    ap (λ ts. length (put_all align before ts) + padding align (length (put_all align before ts))) t))
    ∙ ap (λ k. places align before es ++ k ∷ []) last

-- one element more, as a loop over rows writes it
pub map-more : {X : Type 0} (f : X → Text) (rows : List X) (i : ℕ) (d : X) → i < length rows → map f (take (i + 1) rows) ≡ map f (take i rows) ++ f (get_or rows i d) ∷ []
map-more f rows i d lt = ap (map f) (take_more rows i d lt) ∙ map-append f (take i rows) (get_or rows i d ∷ [])

pub text_step : {X : Type 0} (align : ℕ) (f : X → Text) (before : Text) (rows : List X) (i : ℕ) (d : X) (so_far padded done : Text) → i < length rows
    → so_far ≡ put_all align before (map f (take i rows)) → padded ≡ so_far ++ replicate (padding align (length so_far)) 0 → done ≡ padded ++ f (get_or rows i d)
    → done ≡ put_all align before (map f (take (i + 1) rows))
text_step align f before rows i d so_far padded done lt h p q =
    q ∙ ap (λ t. t ++ f (get_or rows i d)) p ∙ ap (λ t. put align t (f (get_or rows i d))) h
    ∙ sym (put_all-push align before (map f (take i rows)) (f (get_or rows i d)))
    ∙ ap (put_all align before) (sym (map-more f rows i d lt))

pub ids_step : {X : Type 0} (align : ℕ) (f : X → Text) (before : Text) (rows : List X) (i : ℕ) (d : X) (so_far padded : Text) (ids : List ℕ) (g : ℕ → ℕ) → i < length rows
    → so_far ≡ put_all align before (map f (take i rows)) → padded ≡ so_far ++ replicate (padding align (length so_far)) 0
    → ids ≡ map g (places align before (map f (take i rows)))
    → ids ++ g (length padded) ∷ [] ≡ map g (places align before (map f (take (i + 1) rows)))
ids_step align f before rows i d so_far padded ids g lt h p e =
    let len : length padded ≡ length so_far + padding align (length so_far) = ap length p ∙ length-zeros-behind so_far (padding align (length so_far)) in
    let here : length padded ≡ length (put_all align before (map f (take i rows))) + padding align (length (put_all align before (map f (take i rows)))) =
    (len ∙ ap (λ t. length t + padding align (length t)) h) in
    ap (λ k. ids ++ g k ∷ []) here
    ∙ ap (λ ks. ks ++ g (length (put_all align before (map f (take i rows))) + padding align (length (put_all align before (map f (take i rows))))) ∷ []) e
    ∙ sym (map-append g (places align before (map f (take i rows))) ((length (put_all align before (map f (take i rows))) + padding align (length (put_all align before (map f (take i rows))))) ∷ []))
    ∙ ap (map g) (sym (places-push align before (map f (take i rows)) (f (get_or rows i d))))
    ∙ ap (λ es. map g (places align before es)) (sym (map-more f rows i d lt))

later_cons : (out next : Text) (last c : ChunkMeta) (cs : List ChunkMeta) → next ≡ out ++ next_chunk_text last c → out ++ later_chunks last (c ∷ cs) ≡ next ++ later_chunks c cs
unfolding later_chunks
later_cons out next last c cs e = sym (ap (λ t. t ++ later_chunks c cs) e ∙ append_assoc out (next_chunk_text last c) (later_chunks c cs))

pub later_step : (out next start : Text) (last first : ChunkMeta) (chunks : List ChunkMeta) (i : ℕ) (d : ChunkMeta) → i < length chunks → next ≡ out ++ next_chunk_text last (get_or chunks i d)
    → out ++ later_chunks last (drop i chunks) ≡ start ++ later_chunks first chunks → next ++ later_chunks (get_or chunks i d) (drop (i + 1) chunks) ≡ start ++ later_chunks first chunks
later_step out next start last first chunks i d lt e h =
    sym (later_cons out next last (get_or chunks i d) (drop (i + 1) chunks) e)
    ∙ ap (λ cs. out ++ later_chunks last cs) (sym (drop_more chunks i d lt)) ∙ h

pub later_end : (out start : Text) (last first : ChunkMeta) (chunks : List ChunkMeta) (i : ℕ) → length chunks ≤ i
    → out ++ later_chunks last (drop i chunks) ≡ start ++ later_chunks first chunks → out ≡ start ++ later_chunks first chunks
unfolding later_chunks
later_end out start last first chunks i le h =
    sym (append-nil out) ∙ ap (λ cs. out ++ later_chunks last cs) (sym (drop_all i chunks le)) ∙ h

-- what holds of each element holds of the one at a place
pub row_small : {X : Type 0} (size : X → ℕ) (xs : List X) (i : ℕ) (x : X) → i < length xs → x ≡ get_or xs i x → AllByRecursion (λ y. size y < 2 ^ 32) xs → size x < 2 ^ 32
row_small size [] i x lt e h = absurd (omega (arith, lt))
row_small size (y ∷ ys) zero x lt e h = subst (λ z. size z < 2 ^ 32) (sym e) h.0
row_small size (y ∷ ys) (suc i) x lt e h = row_small size ys i x (omega (arith, lt)) e h.1

small_in : (g f : ℕ → ℕ) (from n k : ℕ) → k < n → AllByRecursion (λ y. y < 2 ^ 32) (map g (map f (range_with_len from n))) → g (f (from + k)) < 2 ^ 32
small_in g f from zero k lt h = absurd (omega (arith, lt))
small_in g f from (suc n) zero lt h = let e : from + 0 ≡ from = omega arith in subst (λ j. g (f j) < 2 ^ 32) (sym e) h.0
small_in g f from (suc n) (suc k) lt h =
    let e : from + 1 + k ≡ from + suc k = omega arith in
    subst (λ j. g (f j) < 2 ^ 32) e (small_in g f (from + 1) n k (omega (arith, lt)) h.1)

-- where all ids are small, none that is written is large
pub id_small : {X : Type 0} (align : ℕ) (f : X → Text) (before : Text) (rows : List X) (i : ℕ) (so_far padded : Text) (g : ℕ → ℕ) → i < length rows
    → so_far ≡ put_all align before (map f (take i rows)) → padded ≡ so_far ++ replicate (padding align (length so_far)) 0
    → 2 ^ 32 ≤ g (length padded) → AllByRecursion (λ y. y < 2 ^ 32) (map g (places align before (map f rows))) → ⊥
id_small align f before rows i so_far padded g lt h p large small =
    let long : i < length (map f rows) = omega (arith, lt, length-map rows f) in
    let at_it : g (place align before (map f rows) (0 + i)) < 2 ^ 32 = small_in g (place align before (map f rows)) 0 (length (map f rows)) i long small in
    let z : 0 + i ≡ i = omega arith in
    let here : length padded ≡ place align before (map f rows) (0 + i) =
    (ap length p ∙ length-zeros-behind so_far (padding align (length so_far))
    ∙ ap (λ t. length t + padding align (length t)) (h ∙ ap (put_all align before) (sym (take-map f i rows)))
    ∙ ap (place align before (map f rows)) (sym z)) in
    omega (arith, subst (λ n. 2 ^ 32 ≤ g n) here large, at_it)

all-push : {X : Type 0} (P : X → Type 0) (xs : List X) (x : X) → AllByRecursion P xs → P x → AllByRecursion P (xs ++ x ∷ [])
all-push P [] x h p = (p, tt)
all-push P (y ∷ ys) x h p = (h.0, all-push P ys x h.1 p)

pub small_push : (ids : List ℕ) (id : ℕ) → AllByRecursion (λ (n : ℕ). n < 2 ^ 32) ids → id < 2 ^ 32 → AllByRecursion (λ (n : ℕ). n < 2 ^ 32) (ids ++ id ∷ [])
small_push ids id h lt = all-push (λ n. n < 2 ^ 32) ids id h lt

pub small_more : {X : Type 0} (size : X → ℕ) (rows : List X) (i : ℕ) (x : X) → i < length rows → x ≡ get_or rows i x → AllByRecursion (λ r. size r < 2 ^ 32) (take i rows) → size x < 2 ^ 32 → AllByRecursion (λ r. size r < 2 ^ 32) (take (i + 1) rows)
small_more size rows i x lt e h p = subst (AllByRecursion (λ r. size r < 2 ^ 32)) (sym (take_more rows i x lt ∙ ap (λ y. take i rows ++ y ∷ []) (sym e))) (all-push (λ r. size r < 2 ^ 32) (take i rows) x h p)
