-- Counting one entry more, and one record.
use Rattle.std.proofs.Common.{◌≡◌, ℕ, ℤ, ◌+◌, Bool, true, false, List, [], ◌∷◌, ◌++◌, cond, ap, ◌∙◌, refl, arith}
use Rattle.std.specs.Prelude.{count_by, if◌then◌else◌}
use Rattle.std.proofs.lemmas.List.Sums.{sum_by_push}
use Rattle.std.proofs.Math.Path.{fun_ext}
use Rattle.hw_bytes.proofs.Lists.{along-push, flat_map-push}
use Rattle.wal_record.specs.declared.record.WalRecord.{WalRecord}
use Rattle.wal_record.specs.declared.record.WalRecord.TheVariants.{Series, Samples, Stones, Other}
use Rattle.wal_record.specs.Entries.{Entry, entries_in, entries_of}
use Rattle.wal_record.specs.Validity.{expired_samples, expired_stones, valid_in}
use Rattle.head_resolver.specs.declared.counts.Counts.{Counts}
use Rattle.head_resolver.specs.Taken.{Taken, taken_after}
use Rattle.head_resolver.specs.Counts.{Class, Fate, bound, accepted, stale, unknown, hides, empty_stone, unknown_stone, fate_at, fates, is_fate, series_class, samples_class, stones_class, other_class, has_class, counts_of}
use Rattle.head_resolver.specs.Steps.{with_expired, with_fate, with_record}

pub count_by-push : {A : Type 0} (p : A → Bool) (xs : List A) (x : A) → count_by p (xs ++ x ∷ []) ≡ count_by p xs + (if p x then 1 else 0)
count_by-push p xs x = sum_by_push (λ y. cond (p y) 1 0) xs x

-- the same, as a step
pub count_step : {A : Type 0} (p : A → Bool) (xs : List A) (x : A) → count_by p (xs ++ x ∷ []) ≡ (if p x then count_by p xs + 1 else count_by p xs)
count_step p xs x = count_by-push p xs x ∙ by (p x) where
  by : (b : Bool) → count_by p xs + (if b then 1 else 0) ≡ (if b then count_by p xs + 1 else count_by p xs)
  by true = refl
  by false = omega arith

-- one entry more is one fate more
pub fates_more : (es : List Entry) (e : Entry) → fates (es ++ e ∷ []) ≡ fates es ++ fate_at es e ∷ []
fates_more es e = along-push (λ before f. fate_at before f ∷ []) es e

pub count_more : (f : Fate) (es : List Entry) (e : Entry) → count_by (is_fate f) (fates (es ++ e ∷ [])) ≡ count_by (is_fate f) (fates es) + (if is_fate f (fate_at es e) then 1 else 0)
count_more f es e = ap (count_by (is_fate f)) (fates_more es e) ∙ count_by-push (is_fate f) (fates es) (fate_at es e)

-- the counts with these numbers of entries of each fate
abbrev pub counts_at : Counts → (Fate → ℕ) → Counts
counts_at base n = record base {
  series_entries = n bound;
  accepted = n accepted;
  stale = n stale;
  unknown = n unknown;
  hiding = n hides;
  empty_stones = n empty_stone;
  unknown_stones = n unknown_stone;
}

-- how many entries have the fate
abbrev pub tally : List Entry → Fate → ℕ
tally es f = count_by (is_fate f) (fates es)

pub tally_more : (es : List Entry) (e : Entry) → tally (es ++ e ∷ []) ≡ (λ f. if is_fate f (fate_at es e) then tally es f + 1 else tally es f)
tally_more es e = fun_ext (λ f. ap (count_by (is_fate f)) (fates_more es e) ∙ count_step (is_fate f) (fates es) (fate_at es e))

with_fate_is : (base : Counts) (n : Fate → ℕ) (f : Fate) → counts_at base (λ g. if is_fate g f then n g + 1 else n g) ≡ with_fate f (counts_at base n)
with_fate_is base n bound = refl
with_fate_is base n accepted = refl
with_fate_is base n stale = refl
with_fate_is base n unknown = refl
with_fate_is base n hides = refl
with_fate_is base n empty_stone = refl
with_fate_is base n unknown_stone = refl

-- the counts, with one entry more
pub counts_more : (base : Counts) (es : List Entry) (e : Entry) → counts_at base (tally (es ++ e ∷ [])) ≡ with_fate (fate_at es e) (counts_at base (tally es))
counts_more base es e = ap (counts_at base) (tally_more es e) ∙ with_fate_is base (tally es) (fate_at es e)

pub entries_of-push : (rs : List WalRecord) (r : WalRecord) → entries_of (rs ++ r ∷ []) ≡ entries_of rs ++ entries_in r
entries_of-push rs r = flat_map-push entries_in rs r

-- ---- one more record

-- the counts of records by class, with these of expired entries and of other entries
abbrev counts_by : List WalRecord → ℕ → ℕ → (Fate → ℕ) → Counts
counts_by rs a b n = record {
  series_records = count_by (has_class series_class) rs;
  sample_records = count_by (has_class samples_class) rs;
  stone_records = count_by (has_class stones_class) rs;
  skipped_records = count_by (has_class other_class) rs;
  series_entries = n bound;
  accepted = n accepted;
  stale = n stale;
  unknown = n unknown;
  hiding = n hides;
  empty_stones = n empty_stone;
  unknown_stones = n unknown_stone;
  expired_samples = a;
  expired_stones = b;
}

class_more : (rs : List WalRecord) (r : WalRecord) (a b : ℕ) (n : Fate → ℕ) → counts_by (rs ++ r ∷ []) a b n ≡ with_record r (counts_by rs a b n)
class_more rs r a b n =
    let series = count_step (has_class series_class) rs r in
    let samples = count_step (has_class samples_class) rs r in
    let stones = count_step (has_class stones_class) rs r in
    let others = count_step (has_class other_class) rs r in
    let e : counts_by (rs ++ r ∷ []) a b n ≡ one_of r = cc in
    e ∙ by r
  where
    add : Class → WalRecord → ℕ
    add c q = if has_class c q then count_by (has_class c) rs + 1 else count_by (has_class c) rs

    one_of : WalRecord → Counts
    one_of q = record (counts_by rs a b n) { series_records = add series_class q; sample_records = add samples_class q; stone_records = add stones_class q; skipped_records = add other_class q }

    by : (q : WalRecord) → one_of q ≡ with_record q (counts_by rs a b n)
    by (Series es) = refl
    by (Samples ss) = refl
    by (Stones ds) = refl
    by (Other kind) = refl

-- what a least valid time leaves of a record has its class
same_class : (m : ℤ) (r : WalRecord) (c : Counts) → with_record (valid_in m r) c ≡ with_record r c
same_class m (Series es) c = refl
same_class m (Samples ss) c = refl
same_class m (Stones ds) c = refl
same_class m (Other kind) c = refl

-- a record more is a record more of its class, and its expired entries
pub record_more : (m : ℤ) (t : Taken) (r : WalRecord) (n : Fate → ℕ) → counts_at (counts_of (taken_after m t r)) n ≡ with_expired m r (with_record r (counts_at (counts_of t) n))
record_more m t r n = class_more t.kept (valid_in m r) a b n ∙ same_class m r (counts_by t.kept a b n) ∙ by r where
  a : ℕ
  a = t.expired_samples + expired_samples m (r ∷ [])

  b : ℕ
  b = t.expired_stones + expired_stones m (r ∷ [])

  by : (q : WalRecord) → with_record q (counts_by t.kept a b n) ≡ with_expired m r (with_record q (counts_at (counts_of t) n))
  by (Series es) = refl
  by (Samples ss) = refl
  by (Stones ds) = refl
  by (Other kind) = refl
