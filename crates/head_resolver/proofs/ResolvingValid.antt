-- What a least valid time leaves of entries, as a resolver reads them, and how many it leaves out.
use Rattle.std.proofs.Common.{◌≡◌, ℕ, ◌+◌, ◌<◌, Bool, true, false, List, [], ◌∷◌, ◌++◌, ap, sym, subst, ◌∙◌, refl, arith, add-zero, append_assoc, length, take, drop, get_or}
use Rattle.std.specs.Prelude.{ℤ, cond, count_by, map, int_le, int_lt, if◌then◌else◌}
use Rattle.std.specs.List.{flat_map, fold}
use Rattle.std.proofs.lemmas.Int.{ints}
use Rattle.std.proofs.lemmas.List.{take-append-drop, take_more, drop_more, map-append}
use Rattle.hw_bytes.proofs.Lists.{append_none, map_push, flat_map-push}
use Rattle.wal_record.specs.declared.record.SampleEntry.{SampleEntry}
use Rattle.wal_record.specs.declared.record.StoneEntry.{StoneEntry}
use Rattle.wal_record.specs.declared.record.SeriesEntry.{SeriesEntry}
use Rattle.wal_record.specs.declared.record.WalRecord.TheVariants.{Series, Samples, Stones}
use Rattle.wal_record.specs.Entries.{Entry, series, sample, stone}
use Rattle.wal_record.specs.Validity.{expired_samples, expired_stones, is_expired_sample, is_expired_stone, raised, valid_entry}
use Rattle.std.proofs.lemmas.List.Concat.{flat_map-append, flat_map-cons}
use Rattle.head_column.specs.declared.items.Item.{Item}
use Rattle.head_resolver.specs.Resolved.{ResolverValue}
use Rattle.head_resolver.specs.Resolving.{IsResolving, Resolves, none, more, IsStopped, IsStoppedIn}
use Rattle.head_resolver.specs.Validity.{is_expired}

not_lt : (t m : ℤ) → int_lt t m ≡ false → int_le m t ≡ true
not_lt t m h = grind (arith, ints)

is_lt : (t m : ℤ) → int_lt t m ≡ true → int_le m t ≡ false
is_lt t m h = grind (arith, ints)

-- nothing is left of an entry that is expired, and all or most of one that is not
pub none_valid : (m : ℤ) (e : Entry) → is_expired m e ≡ true → valid_entry m e ≡ []
none_valid m (series e) h = cc
none_valid m (sample s) h = ap (λ b. map sample (if b then s ∷ [] else [])) (is_lt s.time m h)
none_valid m (stone d) h = ap (λ b. map stone (if b then raised m d ∷ [] else [])) (is_lt d.max_time m h)

pub sample_valid : (m : ℤ) (s : SampleEntry) → is_expired m (sample s) ≡ false → valid_entry m (sample s) ≡ sample s ∷ []
sample_valid m s h = ap (λ b. map sample (if b then s ∷ [] else [])) (not_lt s.time m h)

pub stone_valid : (m : ℤ) (d : StoneEntry) → is_expired m (stone d) ≡ false → valid_entry m (stone d) ≡ stone (raised m d) ∷ []
stone_valid m d h = ap (λ b. map stone (if b then raised m d ∷ [] else [])) (not_lt d.max_time m h)

-- all is left of series entries
pub series_valid : (m : ℤ) (es : List SeriesEntry) → flat_map (valid_entry m) (map series es) ≡ map series es
series_valid m [] = refl
series_valid m (e ∷ es) = flat_map-cons (valid_entry m) (series e) (map series es) ∙ ap (λ fs. series e ∷ fs) (series_valid m es)

pub resolves_none : (v : ResolverValue) (es : List Entry) → es ≡ [] → Resolves v es [] v
resolves_none v es e = subst (λ fs. Resolves v fs [] v) (sym e) none

pub resolves_one : (v : ResolverValue) (es : List Entry) (e : Entry) (items : List (ℕ × Item)) (w : ResolverValue) → es ≡ e ∷ [] → IsResolving v e items w → Resolves v es items w
resolves_one v es e items w is s = subst (λ fs. Resolves v fs items w) (sym is) (more [] [] v e items w none s)

pub stopped_one : (v : ResolverValue) (es : List Entry) (e : Entry) → es ≡ e ∷ [] → IsStopped v e → IsStoppedIn v es
stopped_one v es e is s = record { front = []; next = e; rest = []; items = []; middle = v; whole = is; read = none; stopped = s }

-- some entries after others
resolves_both : {v m w : ResolverValue} {es : List Entry} {xs : List (ℕ × Item)} (fs : List Entry) {ys : List (ℕ × Item)} → Resolves v es xs m → Resolves m fs ys w → Resolves v (es ++ fs) (xs ++ ys) w
resolves_both {v} {m} {w} {es} {xs} fs a none = subst (λ gs. Resolves v gs (xs ++ []) m) (sym (append_none es)) (subst (λ (zs : List (ℕ × Item)). Resolves v es zs m) (sym (append_none xs)) a)
resolves_both {v} {m} {w} {es} {xs} fs a (more gs zs k e us x t s) =
    subst (λ hs. Resolves v hs (xs ++ (zs ++ us)) x) (append_assoc es gs (e ∷ []))
    (subst (λ (qs : List (ℕ × Item)). Resolves v ((es ++ gs) ++ e ∷ []) qs x) (append_assoc xs zs us)
    (more (es ++ gs) (xs ++ zs) k e us x (resolves_both gs a t) s))

pub stopped_both : {v m : ResolverValue} {es : List Entry} {xs : List (ℕ × Item)} (fs rest all : List Entry) → Resolves v es xs m → IsStoppedIn m fs → all ≡ es ++ (fs ++ rest) → IsStoppedIn v all
stopped_both {v} {m} {es} {xs} fs rest all a s whole = record {
  front = es ++ s.front;
  next = s.next;
  rest = s.rest ++ rest;
  items = xs ++ s.items;
  middle = s.middle;
  whole =
      whole
      ∙ ap (λ gs. es ++ (gs ++ rest)) s.whole
      ∙ ap (λ gs. es ++ gs) (append_assoc s.front (s.next ∷ s.rest) rest)
      ∙ sym (append_assoc es s.front (s.next ∷ (s.rest ++ rest)));
  read = resolves_both s.front a s.read;
  stopped = s.stopped;
}

-- what is left of the entries that a loop has read, and of the one that it reads
pub valid_at : {A : Type 0} (m : ℤ) (f : A → Entry) (xs : List A) (i : ℕ) (x : A) {v k w : ResolverValue} {is js : List (ℕ × Item)} → i < length xs → x ≡ get_or xs i x
    → Resolves v (flat_map (valid_entry m) (map f (take i xs))) is k → Resolves k (valid_entry m (f x)) js w → Resolves v (flat_map (valid_entry m) (map f (take (i + 1) xs))) (is ++ js) w
valid_at m f xs i x {v} {k} {w} {is} {js} within at t s =
    subst (λ es. Resolves v es (is ++ js) w)
    (sym (
    ap (λ ys. flat_map (valid_entry m) (map f ys)) (take_more xs i x within ∙ ap (λ y. take i xs ++ y ∷ []) (sym at))
    ∙ ap (flat_map (valid_entry m)) (map_push f (take i xs) x)
    ∙ flat_map-push (valid_entry m) (map f (take i xs)) (f x)
    ))
    (resolves_both (valid_entry m (f x)) t s)

-- what is left of all entries: of those that a loop has read, of the one that it reads, and of the rest
pub left_split : {A : Type 0} (m : ℤ) (f : A → Entry) (xs : List A) (i : ℕ) (x : A) → i < length xs → x ≡ get_or xs i x
    → flat_map (valid_entry m) (map f xs) ≡ flat_map (valid_entry m) (map f (take i xs)) ++ (valid_entry m (f x) ++ flat_map (valid_entry m) (map f (drop (i + 1) xs)))
left_split m f xs i x within at =
    ap (λ ys. flat_map (valid_entry m) (map f ys)) (sym (take-append-drop i xs) ∙ ap (λ ys. take i xs ++ ys) (drop_more xs i x within ∙ ap (λ y. y ∷ drop (i + 1) xs) (sym at)))
    ∙ ap (flat_map (valid_entry m)) (map-append f (take i xs) (x ∷ drop (i + 1) xs))
    ∙ flat_map-append (valid_entry m) (map f (take i xs)) (map f (x ∷ drop (i + 1) xs))

pub valid_stopped_at : {A : Type 0} (m : ℤ) (f : A → Entry) (xs : List A) (i : ℕ) (x : A) {v k : ResolverValue} {is : List (ℕ × Item)} → i < length xs → x ≡ get_or xs i x
    → Resolves v (flat_map (valid_entry m) (map f (take i xs))) is k → IsStoppedIn k (valid_entry m (f x)) → IsStoppedIn v (flat_map (valid_entry m) (map f xs))
valid_stopped_at m f xs i x within at t s =
    stopped_both (valid_entry m (f x)) (flat_map (valid_entry m) (map f (drop (i + 1) xs))) (flat_map (valid_entry m) (map f xs)) t s (left_split m f xs i x within at)

-- ---- how many are expired

-- of entries that are made of other values, how many pass a test
count_from : {A : Type 0} (f : A → Entry) (p : A → Bool) (q : Entry → Bool) → ((x : A) → p x ≡ q (f x)) → (n : ℕ) (xs : List A)
    → fold (λ a x. a + cond (p x) 1 0) n xs ≡ fold (λ a e. a + cond (q e) 1 0) n (map f xs ++ [])
count_from f p q e n [] = refl
count_from f p q e n (x ∷ xs) = ap (λ c. fold (λ a y. a + cond (p y) 1 0) (n + cond c 1 0) xs) (e x) ∙ count_from f p q e (n + cond (q (f x)) 1 0) xs

count_named : {A : Type 0} (f : A → Entry) (p : A → Bool) (q : Entry → Bool) → ((x : A) → p x ≡ q (f x)) → (xs : List A) → count_by p xs ≡ count_by q (map f xs ++ [])
count_named f p q e xs = count_from f p q e 0 xs

no_more : (n : ℕ) (c : Bool) → c ≡ false → n ≡ n + cond c 1 0
no_more n c e = sym (add-zero n) ∙ ap (λ b. n + cond b 1 0) (sym e)

none_from : {A : Type 0} (f : A → Entry) (q : Entry → Bool) → ((x : A) → q (f x) ≡ false) → (n : ℕ) (xs : List A) → n ≡ fold (λ a e. a + cond (q e) 1 0) n (map f xs ++ [])
none_from f q e n [] = refl
none_from f q e n (x ∷ xs) = none_from f q e n xs ∙ ap (λ k. fold (λ a y. a + cond (q y) 1 0) k (map f xs ++ [])) (no_more n (q (f x)) (e x))

count_none : {A : Type 0} (f : A → Entry) (q : Entry → Bool) → ((x : A) → q (f x) ≡ false) → (xs : List A) → 0 ≡ count_by q (map f xs ++ [])
count_none f q e xs = none_from f q e 0 xs

pub samples_expired : (m : ℤ) (ss : List SampleEntry) → count_by (λ s. is_expired m (sample s)) ss ≡ expired_samples m (Samples ss ∷ [])
samples_expired m ss = count_named sample (λ s. is_expired m (sample s)) (is_expired_sample m) (λ s. refl) ss

pub stones_expired : (m : ℤ) (ds : List StoneEntry) → count_by (λ d. is_expired m (stone d)) ds ≡ expired_stones m (Stones ds ∷ [])
stones_expired m ds = count_named stone (λ d. is_expired m (stone d)) (is_expired_stone m) (λ d. refl) ds

pub no_samples_in_series : (m : ℤ) (es : List SeriesEntry) → 0 ≡ expired_samples m (Series es ∷ [])
no_samples_in_series m es = count_none series (is_expired_sample m) (λ e. refl) es

pub no_stones_in_series : (m : ℤ) (es : List SeriesEntry) → 0 ≡ expired_stones m (Series es ∷ [])
no_stones_in_series m es = count_none series (is_expired_stone m) (λ e. refl) es

pub no_stones_in_samples : (m : ℤ) (ss : List SampleEntry) → 0 ≡ expired_stones m (Samples ss ∷ [])
no_stones_in_samples m ss = count_none sample (is_expired_stone m) (λ s. refl) ss

pub no_samples_in_stones : (m : ℤ) (ds : List StoneEntry) → 0 ≡ expired_samples m (Stones ds ∷ [])
no_samples_in_stones m ds = count_none stone (is_expired_sample m) (λ d. refl) ds
