-- What a least valid time leaves of the items of one series, and of their history.
use Rattle.std.proofs.Common.{◌≡◌, ℕ, zero, suc, ◌<◌, ◌≤◌, Bool, true, false, List, [], ◌∷◌, ◌++◌, Option, Some, None, length, get_or, drop, refl, sym, subst, ap, ap₂, ◌∙◌, arith}
use Rattle.std.specs.Prelude.{ℤ, pos, ◌+ℤ◌, ◌≤ℤ◌, ◌<ℤ◌, ◌&&◌, ◌||◌, filter, int_le, int_lt, if◌then◌else◌}
use Rattle.std.specs.Int.{int_max}
use Rattle.std.proofs.lemmas.Int.{ints}
use Rattle.std.proofs.lemmas.List.Elements.{filter-append}
use Rattle.hw_bytes.proofs.Lists.{along-push, append_none, by_push, flat_map-push, fold-push}
use Rattle.xor_chunk.specs.declared.sample.Sample.{Sample}
use Rattle.head_column.specs.declared.items.Run.{Run}
use Rattle.head_column.specs.declared.items.Item.{Item}
use Rattle.head_column.specs.declared.items.Item.TheVariants as item
use Rattle.head_column.specs.declared.items.Outcome.TheVariants.{Accepted, Stale, Hidden, EmptyStone}
use Rattle.head_column.specs.Samples.{Rises}
use Rattle.head_column.specs.Times.{later, greatest}
use Rattle.head_column.specs.Runs.{spans, span_any, BeginPast, AreApart}
use Rattle.head_column.specs.Items.{is_stale, outcome_of, accepted, samples_of, is_hidden}
use Rattle.head_column.specs.Histories.{History, IsHistoryOf, latest}
use Rattle.head_column.specs.Validity.{raised, valid_item, valid_items, samples_from, runs_from, history_from, IsValid, item_from, raise_first, latest_from}
use Rattle.head_column.proofs.Merged.{past_further}
use Rattle.head_column.proofs.Rising.{latest-push}

-- ---- stale

le_true : (m t : ℤ) → m ≤ℤ t → int_le m t ≡ true
le_true m t h = grind (arith, ints)

not_reached : (m t u : ℤ) → m ≤ℤ t → int_le m u ≡ false → false ≡ int_le t u
not_reached m t u h k = grind (arith, ints)

-- a sample that is not before m is stale after items just if it is after what m leaves of them
pub stale_valid : (m t : ℤ) → m ≤ℤ t → (items : List Item) → is_stale (valid_items m items) t ≡ is_stale items t
stale_valid m t h [] = refl
stale_valid m t h (item.Sample s ∷ is) = by (int_le m s.time) refl (stale_valid m t h is) where
  by : (b : Bool) → int_le m s.time ≡ b → is_stale (valid_items m is) t ≡ is_stale is t
      → is_stale ((if b then item.Sample s ∷ [] else []) ++ valid_items m is) t ≡ (int_le t s.time || is_stale is t)
  by true e rest = ap (λ b. int_le t s.time || b) rest
  by false e rest = rest ∙ ap (λ b. b || is_stale is t) (not_reached m t s.time h e)
stale_valid m t h (item.Stone r ∷ is) = by (int_le m r.max_time) (stale_valid m t h is) where
  by : (b : Bool) → is_stale (valid_items m is) t ≡ is_stale is t
      → is_stale ((if b then item.Stone (raised m r) ∷ [] else []) ++ valid_items m is) t ≡ is_stale is t
  by true rest = rest
  by false rest = rest

-- ---- hidden

no_time : (a : Bool) → false ≡ (a && false)
no_time true = refl
no_time false = refl

both_parts : (a b c : Bool) → ((a && b) || (a && c)) ≡ (a && (b || c))
both_parts true b c = refl
both_parts false b c = refl

spans_raised : (m a b t : ℤ) → (int_le (int_max m a) t && int_le t b) ≡ (int_le m t && (int_le a t && int_le t b))
spans_raised m a b t = grind (arith, ints)

spans_before : (m a b t : ℤ) → int_le m b ≡ false → false ≡ (int_le m t && (int_le a t && int_le t b))
spans_before m a b t h = grind (arith, ints)

pub hidden_valid : (m t : ℤ) (items : List Item) → is_hidden (valid_items m items) t ≡ (int_le m t && is_hidden items t)
hidden_valid m t [] = no_time (int_le m t)
hidden_valid m t (item.Sample s ∷ is) = by (int_le m s.time) (hidden_valid m t is) where
  by : (b : Bool) → is_hidden (valid_items m is) t ≡ (int_le m t && is_hidden is t)
      → is_hidden ((if b then item.Sample s ∷ [] else []) ++ valid_items m is) t ≡ (int_le m t && is_hidden is t)
  by true rest = rest
  by false rest = rest
hidden_valid m t (item.Stone r ∷ is) = by (int_le m r.max_time) refl (hidden_valid m t is) where
  by : (b : Bool) → int_le m r.max_time ≡ b → is_hidden (valid_items m is) t ≡ (int_le m t && is_hidden is t)
      → is_hidden ((if b then item.Stone (raised m r) ∷ [] else []) ++ valid_items m is) t ≡ (int_le m t && (spans r t || is_hidden is t))
  by true e rest = ap₂ (λ a b. a || b) (spans_raised m r.min_time r.max_time t) rest ∙ both_parts (int_le m t) (spans r t) (is_hidden is t)
  by false e rest = rest ∙ ap (λ b. b || (int_le m t && is_hidden is t)) (spans_before m r.min_time r.max_time t e) ∙ both_parts (int_le m t) (spans r t) (is_hidden is t)

-- the runs from m on contain the times of the runs that are not before m
span_from : (m t : ℤ) (rs : List Run) → span_any (runs_from m rs) t ≡ (int_le m t && span_any rs t)
span_from m t [] = no_time (int_le m t)
span_from m t (r ∷ rs) = by (int_le m r.max_time) refl (span_from m t rs) where
  by : (b : Bool) → int_le m r.max_time ≡ b → span_any (runs_from m rs) t ≡ (int_le m t && span_any rs t)
      → span_any ((if b then raised m r ∷ [] else []) ++ runs_from m rs) t ≡ (int_le m t && (spans r t || span_any rs t))
  by true e rest = ap₂ (λ a b. a || b) (spans_raised m r.min_time r.max_time t) rest ∙ both_parts (int_le m t) (spans r t) (span_any rs t)
  by false e rest = rest ∙ ap (λ b. b || (int_le m t && span_any rs t)) (spans_before m r.min_time r.max_time t e) ∙ both_parts (int_le m t) (spans r t) (span_any rs t)

raised_past : (m a b : ℤ) → (b +ℤ pos 1) <ℤ a → (b +ℤ pos 1) <ℤ int_max m a
raised_past m a b h = grind (arith, ints)

begin_from : (m b : ℤ) (rs : List Run) → AreApart rs → BeginPast b rs → BeginPast b (runs_from m rs)
begin_from m b [] a p = tt
begin_from m b (r ∷ rs) a p = by (int_le m r.max_time) (begin_from m b rs a.2 (past_further b r rs a.0 a.1 p)) where
  by : (x : Bool) → BeginPast b (runs_from m rs) → BeginPast b ((if x then raised m r ∷ [] else []) ++ runs_from m rs)
  by true rest = raised_past m r.min_time b p
  by false rest = rest

raised_some : (m a b : ℤ) → int_le m b ≡ true → a ≤ℤ b → int_max m a ≤ℤ b
raised_some m a b h k = grind (arith, ints)

pub apart_from : (m : ℤ) (rs : List Run) → AreApart rs → AreApart (runs_from m rs)
apart_from m [] a = tt
apart_from m (r ∷ rs) a = by (int_le m r.max_time) refl (apart_from m rs a.2) where
  by : (x : Bool) → int_le m r.max_time ≡ x → AreApart (runs_from m rs) → AreApart ((if x then raised m r ∷ [] else []) ++ runs_from m rs)
  by true e rest = (record { some = raised_some m r.min_time r.max_time e a.0.some }, begin_from m r.max_time rs a.2 a.1, rest)
  by false e rest = rest

-- ---- samples

-- the samples of one item more
accepted_valid : (m : ℤ) (is : List Item) (i : Item) → samples_of (valid_items m is ++ valid_item m i) ≡ samples_of (valid_items m is) ++ samples_from m (accepted is i)
accepted_valid m is (item.Sample s) = by (int_le m s.time) refl where
  le_of : (a b : ℤ) → int_le a b ≡ true → a ≤ℤ b
  le_of a b h = grind (arith, ints)

  kept : (c : Bool) → int_le m s.time ≡ true → (if c then [] else s ∷ []) ≡ samples_from m (if c then [] else s ∷ [])
  kept true e = refl
  kept false e = ap (λ b. if b then s ∷ [] else []) (sym e)

  gone : (c : Bool) → int_le m s.time ≡ false → [] ≡ samples_from m (if c then [] else s ∷ [])
  gone true e = refl
  gone false e = ap (λ b. if b then s ∷ [] else []) (sym e)

  by : (b : Bool) → int_le m s.time ≡ b → samples_of (valid_items m is ++ (if b then item.Sample s ∷ [] else [])) ≡ samples_of (valid_items m is) ++ samples_from m (accepted is (item.Sample s))
  by true e =
      along-push accepted (valid_items m is) (item.Sample s)
      ∙ ap (λ b. samples_of (valid_items m is) ++ (if b then [] else s ∷ [])) (stale_valid m s.time (le_of m s.time e) is)
      ∙ ap (λ xs. samples_of (valid_items m is) ++ xs) (kept (is_stale is s.time) e)
  by false e =
      ap samples_of (append_none (valid_items m is))
      ∙ sym (append_none (samples_of (valid_items m is)))
      ∙ ap (λ xs. samples_of (valid_items m is) ++ xs) (gone (is_stale is s.time) e)
accepted_valid m is (item.Stone r) = by (int_le m r.max_time) where
  by : (b : Bool) → samples_of (valid_items m is ++ (if b then item.Stone (raised m r) ∷ [] else [])) ≡ samples_of (valid_items m is) ++ []
  by true = along-push accepted (valid_items m is) (item.Stone (raised m r))
  by false = ap samples_of (append_none (valid_items m is)) ∙ sym (append_none (samples_of (valid_items m is)))

pub samples_valid : (m : ℤ) (items : List Item) → samples_of (valid_items m items) ≡ samples_from m (samples_of items)
samples_valid m items = by_push (λ is. samples_of (valid_items m is) ≡ samples_from m (samples_of is)) refl step items where
  step : (is : List Item) (i : Item) → samples_of (valid_items m is) ≡ samples_from m (samples_of is) → samples_of (valid_items m (is ++ i ∷ [])) ≡ samples_from m (samples_of (is ++ i ∷ []))
  step is i e =
      ap samples_of (flat_map-push (valid_item m) is i)
      ∙ accepted_valid m is i
      ∙ ap (λ xs. xs ++ samples_from m (accepted is i)) e
      ∙ sym (filter-append (λ (s : Sample). int_le m s.time) (samples_of is) (accepted is i))
      ∙ ap (samples_from m) (sym (along-push accepted is i))

-- ---- histories

-- what m leaves of the items makes what m leaves of their history
pub history_valid : (m : ℤ) (items : List Item) (h : History) → IsHistoryOf items h → IsHistoryOf (valid_items m items) (history_from m h)
history_valid m items h is = record {
  samples = ap (samples_from m) is.samples ∙ sym (samples_valid m items);
  hidden = record {
    apart = apart_from m h.hidden is.hidden.apart;
    same = λ t. span_from m t h.hidden ∙ ap (λ b. int_le m t && b) (is.hidden.same t) ∙ sym (hidden_valid m t items);
  };
}

some_raised : (m a b : ℤ) → m ≤ℤ b → int_le (int_max m a) b ≡ int_le a b
some_raised m a b h = grind (arith, ints)

-- an item that is not expired has the same outcome
pub outcome_valid : (m : ℤ) (before : List Item) (i : Item) → IsValid m i → outcome_of (valid_items m before) (item_from m i) ≡ outcome_of before i
outcome_valid m before (item.Sample s) h = ap (λ b. if b then Stale else Accepted) (stale_valid m s.time h before)
outcome_valid m before (item.Stone r) h = ap (λ b. if b then Hidden else EmptyStone) (some_raised m r.min_time r.max_time h)

-- ---- one least valid time after another

le_both : (m n t : ℤ) → int_le n t ≡ true → int_le m t ≡ int_le (int_max m n) t
le_both m n t h = grind (arith, ints)

le_not : (m n t : ℤ) → int_le n t ≡ false → false ≡ int_le (int_max m n) t
le_not m n t h = grind (arith, ints)

max_assoc : (m n a : ℤ) → int_max m (int_max n a) ≡ int_max (int_max m n) a
max_assoc m n a = grind (arith, ints)

samples_twice : (m n : ℤ) (xs : List Sample) → samples_from m (samples_from n xs) ≡ samples_from (int_max m n) xs
samples_twice m n [] = refl
samples_twice m n (s ∷ xs) = by (int_le n s.time) refl (samples_twice m n xs) where
  by : (b : Bool) → int_le n s.time ≡ b → samples_from m (samples_from n xs) ≡ samples_from (int_max m n) xs
      → samples_from m (if b then s ∷ samples_from n xs else samples_from n xs) ≡ samples_from (int_max m n) (s ∷ xs)
  by true e rest = ap₂ (λ c t. if c then s ∷ t else t) (le_both m n s.time e) rest
  by false e rest = rest ∙ ap (λ c. if c then s ∷ samples_from (int_max m n) xs else samples_from (int_max m n) xs) (le_not m n s.time e)

raised_twice : (m n : ℤ) (r : Run) → raised m (raised n r) ≡ raised (int_max m n) r
raised_twice m n r = ap (λ a. record r { min_time = a }) (max_assoc m n r.min_time)

runs_twice : (m n : ℤ) (rs : List Run) → runs_from m (runs_from n rs) ≡ runs_from (int_max m n) rs
runs_twice m n [] = refl
runs_twice m n (r ∷ rs) = by (int_le n r.max_time) refl (runs_twice m n rs) where
  by : (b : Bool) → int_le n r.max_time ≡ b → runs_from m (runs_from n rs) ≡ runs_from (int_max m n) rs
      → runs_from m ((if b then raised n r ∷ [] else []) ++ runs_from n rs) ≡ runs_from (int_max m n) (r ∷ rs)
  by true e rest =
      ap₂ (λ c t. (if c then raised m (raised n r) ∷ [] else []) ++ t) (le_both m n r.max_time e) rest
      ∙ ap (λ x. (if int_le (int_max m n) r.max_time then x ∷ [] else []) ++ runs_from (int_max m n) rs) (raised_twice m n r)
  by false e rest = rest ∙ ap (λ c. (if c then raised (int_max m n) r ∷ [] else []) ++ runs_from (int_max m n) rs) (le_not m n r.max_time e)

pub history_twice : (m n : ℤ) (h : History) → history_from m (history_from n h) ≡ history_from (int_max m n) h
history_twice m n h = ap₂ (λ xs rs. record { samples = xs; hidden = rs }) (samples_twice m n h.samples) (runs_twice m n h.hidden)

-- ---- what m leaves of a list is its end

below : (m t : ℤ) → int_lt t m ≡ true → int_le m t ≡ false
below m t h = grind (arith, ints)

from_on : (m t : ℤ) → int_lt t m ≡ false → m ≤ℤ t
from_on m t h = grind (arith, ints)

pub rises_rest : (x : Sample) (xs : List Sample) → Rises (x ∷ xs) → Rises xs
rises_rest x [] h = tt
rises_rest x (y ∷ ys) h = h.1

le_next : (m t u : ℤ) → m ≤ℤ t → t <ℤ u → m ≤ℤ u
le_next m t u h k = omega (arith, ints)

samples_same : (m : ℤ) (x : Sample) (xs : List Sample) → Rises (x ∷ xs) → m ≤ℤ x.time → samples_from m (x ∷ xs) ≡ x ∷ xs
samples_same m x [] h k = ap (λ b. if b then x ∷ [] else []) (le_true m x.time k)
samples_same m x (y ∷ ys) h k = ap₂ (λ b t. if b then x ∷ t else t) (le_true m x.time k) (samples_same m y ys h.1 (le_next m x.time y.time k h.0))

-- if the first n samples are before m, and the next one is not
pub samples_from-split : (m : ℤ) (xs : List Sample) (n : ℕ) → Rises xs → n ≤ length xs
    → ((k : ℕ) (d : Sample) → k < n → int_lt (get_or xs k d).time m ≡ true)
    → ((d : Sample) → n < length xs → int_lt (get_or xs n d).time m ≡ false)
    → samples_from m xs ≡ drop n xs
samples_from-split m [] zero h w f s = refl
samples_from-split m [] (suc n) h w f s = refl
samples_from-split m (x ∷ xs) zero h w f s = samples_same m x xs h (from_on m x.time (s x (omega arith)))
samples_from-split m (x ∷ xs) (suc n) h w f s =
    ap (λ b. if b then x ∷ samples_from m xs else samples_from m xs) (below m x.time (f zero x (omega arith)))
    ∙ samples_from-split m xs n (rises_rest x xs h) (omega (arith, w)) (λ k d l. f (suc k) d (omega (arith, l))) (λ d l. s d (omega (arith, l)))

runs_past : (m a b c : ℤ) → m ≤ℤ b → (b +ℤ pos 1) <ℤ a → a ≤ℤ c → int_le m c ≡ true
runs_past m a b c h k l = grind (arith, ints)

max_past : (m a b : ℤ) → m ≤ℤ b → (b +ℤ pos 1) <ℤ a → int_max m a ≡ a
max_past m a b h k = grind (arith, ints)

further : (m a b c : ℤ) → m ≤ℤ b → (b +ℤ pos 1) <ℤ a → a ≤ℤ c → m ≤ℤ c
further m a b c h k l = omega (arith, ints)

runs_same : (m b : ℤ) (rs : List Run) → m ≤ℤ b → AreApart rs → BeginPast b rs → runs_from m rs ≡ rs
runs_same m b [] h a p = refl
runs_same m b (r ∷ rs) h a p =
    ap₂ (λ c t. (if c then raised m r ∷ [] else []) ++ t) (runs_past m r.min_time b r.max_time h p a.0.some)
    (runs_same m r.max_time rs (further m r.min_time b r.max_time h p a.0.some) a.2 a.1)
    ∙ ap (λ x. record r { min_time = x } ∷ rs) (max_past m r.min_time b h p)

-- if the first n runs end before m, and the next one does not
pub runs_from-split : (m : ℤ) (rs : List Run) (n : ℕ) → AreApart rs → n ≤ length rs
    → ((k : ℕ) (d : Run) → k < n → int_lt (get_or rs k d).max_time m ≡ true)
    → ((d : Run) → n < length rs → int_lt (get_or rs n d).max_time m ≡ false)
    → runs_from m rs ≡ raise_first m (drop n rs)
runs_from-split m [] zero a w f s = refl
runs_from-split m [] (suc n) a w f s = refl
runs_from-split m (r ∷ rs) zero a w f s =
    let k : m ≤ℤ r.max_time = from_on m r.max_time (s r (omega arith)) in
    ap₂ (λ c t. (if c then raised m r ∷ [] else []) ++ t) (le_true m r.max_time k) (runs_same m r.max_time rs k a.2 a.1)
runs_from-split m (r ∷ rs) (suc n) a w f s =
    ap (λ c. (if c then raised m r ∷ [] else []) ++ runs_from m rs) (below m r.max_time (f zero r (omega arith)))
    ∙ runs_from-split m rs n a.2 (omega (arith, w)) (λ k d l. f (suc k) d (omega (arith, l))) (λ d l. s d (omega (arith, l)))

-- ---- what a column keeps

pub rises_from : (m : ℤ) (xs : List Sample) → Rises xs → Rises (samples_from m xs)
rises_from m [] h = tt
rises_from m (x ∷ xs) h = by (int_lt x.time m) refl (rises_from m xs (rises_rest x xs h)) where
  by : (b : Bool) → int_lt x.time m ≡ b → Rises (samples_from m xs) → Rises (samples_from m (x ∷ xs))
  by true e rest = subst Rises (sym (ap (λ b. if b then x ∷ samples_from m xs else samples_from m xs) (below m x.time e))) rest
  by false e rest = subst Rises (sym (samples_same m x xs h (from_on m x.time e))) h

later_from : (m t : ℤ) (o : Option ℤ) → int_le m t ≡ true → later (latest_from m o) t ≡ latest_from m (later o t)
later_from m t None e = ap (λ b. if b then Some t else None) (sym e)
later_from m t (Some u) e = by (int_le m u) refl (int_lt u t) refl where
  early : (a b c : ℤ) → int_le a b ≡ false → int_le a c ≡ true → int_lt b c ≡ false → true ≡ false
  early a b c h k l = grind (arith, ints)

  by : (x : Bool) → int_le m u ≡ x → (y : Bool) → int_lt u t ≡ y → later (if x then Some u else None) t ≡ latest_from m (if y then Some t else Some u)
  by true e' true f = ap (λ b. if b then Some t else Some u) f ∙ ap (λ b. if b then Some t else None) (sym e)
  by true e' false f = ap (λ b. if b then Some t else Some u) f ∙ ap (λ b. if b then Some u else None) (sym e')
  by false e' true f = ap (λ b. if b then Some t else None) (sym e)
  by false e' false f = absurd (let g : true ≡ false = early m u t e' e f in cc)

later_before : (m t : ℤ) (o : Option ℤ) → int_le m t ≡ false → latest_from m o ≡ latest_from m (later o t)
later_before m t None e = ap (λ b. if b then Some t else None) (sym e)
later_before m t (Some u) e = by (int_lt u t) refl where
  early : (a b c : ℤ) → int_le a c ≡ false → int_lt b c ≡ true → int_le a b ≡ false
  early a b c h k = grind (arith, ints)

  by : (y : Bool) → int_lt u t ≡ y → latest_from m (Some u) ≡ latest_from m (if y then Some t else Some u)
  by true f = ap (λ b. if b then Some u else None) (early m u t e f) ∙ ap (λ b. if b then Some t else None) (sym e)
  by false f = refl

pub latest_from-is : (m : ℤ) (xs : List Sample) → latest (samples_from m xs) ≡ latest_from m (latest xs)
latest_from-is m xs = by_push (λ ys. latest (samples_from m ys) ≡ latest_from m (latest ys)) refl step xs where
  one : (ys : List Sample) (s : Sample) (b : Bool) → int_le m s.time ≡ b → latest (samples_from m ys) ≡ latest_from m (latest ys)
      → latest (samples_from m ys ++ (if b then s ∷ [] else [])) ≡ latest_from m (later (latest ys) s.time)
  one ys s true e h = latest-push (samples_from m ys) s ∙ ap (λ o. later o s.time) h ∙ later_from m s.time (latest ys) e
  one ys s false e h = ap latest (append_none (samples_from m ys)) ∙ h ∙ later_before m s.time (latest ys) e

  step : (ys : List Sample) (s : Sample) → latest (samples_from m ys) ≡ latest_from m (latest ys) → latest (samples_from m (ys ++ s ∷ [])) ≡ latest_from m (latest (ys ++ s ∷ []))
  step ys s h =
      ap latest (filter-append (λ (x : Sample). int_le m x.time) ys (s ∷ []))
      ∙ one ys s (int_le m s.time) refl h
      ∙ ap (latest_from m) (sym (latest-push ys s))

pub greatest_from : (m : ℤ) (ts : List ℤ) → greatest (filter (int_le m) ts) ≡ latest_from m (greatest ts)
greatest_from m ts = by_push (λ us. greatest (filter (int_le m) us) ≡ latest_from m (greatest us)) refl step ts where
  one : (us : List ℤ) (t : ℤ) (b : Bool) → int_le m t ≡ b → greatest (filter (int_le m) us) ≡ latest_from m (greatest us)
      → greatest (filter (int_le m) us ++ (if b then t ∷ [] else [])) ≡ latest_from m (later (greatest us) t)
  one us t true e h = fold-push later None (filter (int_le m) us) t ∙ ap (λ o. later o t) h ∙ later_from m t (greatest us) e
  one us t false e h = ap greatest (append_none (filter (int_le m) us)) ∙ h ∙ later_before m t (greatest us) e

  step : (us : List ℤ) (t : ℤ) → greatest (filter (int_le m) us) ≡ latest_from m (greatest us) → greatest (filter (int_le m) (us ++ t ∷ [])) ≡ latest_from m (greatest (us ++ t ∷ []))
  step us t h =
      ap greatest (filter-append (int_le m) us (t ∷ []))
      ∙ one us t (int_le m t) refl h
      ∙ ap (latest_from m) (sym (fold-push later None us t))
