-- With the least time of 64 bits as least valid time, nothing of a log is expired.
use Rattle.std.proofs.Common.{◌≡◌, ℕ, inl, inr, Bool, false, All, List, [], ◌∷◌, ◌++◌, Option, Some, None, cond, ap, sym, subst, ◌∙◌, refl, arith}
use Rattle.std.specs.Prelude.{count_by}
use Rattle.std.proofs.lemmas.Int.{ints}
use Rattle.std.proofs.lemmas.List.{map-append}
use Rattle.std.proofs.lemmas.List.Elements.{All-append, All-head, All-nil, All-tail}
use Rattle.std.proofs.lemmas.List.Sums.{sum_by-cons}
use Rattle.std.proofs.lemmas.List.Concat.{flat_map-append, flat_map-cons}
use Rattle.wal_page.specs.declared.fault.FaultKind.{FaultKind}
use Rattle.wal_page.specs.File.{PieceValue}
use Rattle.wal_record.specs.declared.record.WalRecord.{WalRecord}
use Rattle.wal_record.specs.Entries.{Entry, series, sample, stone, entries_in, entries_of}
use Rattle.wal_record.specs.Records.{IsRecord}
use Rattle.wal_record.specs.Validity.{AreTimesFit, expired_samples, expired_stones, is_expired_sample, is_expired_stone, least_time, valid}
use Rattle.wal_log.specs.declared.reading.Damage.{Damage}
use Rattle.wal_log.specs.declared.reading.Placed.{Placed}
use Rattle.wal_log.specs.Inputs.{Files}
use Rattle.wal_log.specs.Log.{IsReading, LogFile, ReadsFiles, Spells, contents, in_order}
use Rattle.head_resolver.specs.Taken.{Taken, taken_of}

-- ---- the times of a log's entries fit

module _ (fit : (bytes : List ℕ) (r : WalRecord) → IsRecord bytes r → All AreTimesFit (entries_in r)) where
  -- the times of the entries of these records fit
  abbrev AreFit : List Placed → Type 0
  AreFit placed = All AreTimesFit (entries_of (contents placed))

  none_fit : (placed : List Placed) → placed ≡ [] → AreFit placed
  none_fit placed e = subst AreFit (sym e) (All-nil AreTimesFit)

  spelled_fit : (file : LogFile) (pieces : List PieceValue) (fault : Option (ℕ × FaultKind)) (placed : List Placed) (damage : Option Damage) → Spells file pieces fault placed damage → AreFit placed
  spelled_fit file [] fault placed damage h = none_fit placed h.0
  spelled_fit file (piece ∷ more) fault placed damage (inr h) = none_fit placed h.1
  spelled_fit file (piece ∷ more) fault placed damage (inl (content, others, is, whole, rest)) =
      subst AreFit (sym whole)
      (subst (All AreTimesFit) (sym (flat_map-cons entries_in content (contents others)))
      (All-append AreTimesFit (entries_in content) (entries_of (contents others)) (fit piece.bytes content is) (spelled_fit file more fault others damage rest)))

  both_fit : (here others : List Placed) → AreFit here → AreFit others → AreFit (here ++ others)
  both_fit here others h k =
      subst (All AreTimesFit) (sym (ap entries_of (map-append (λ (p : Placed). p.content) here others) ∙ flat_map-append entries_in (contents here) (contents others)))
      (All-append AreTimesFit (entries_of (contents here)) (entries_of (contents others)) h k)

  files_fit : (files : List LogFile) (placed : List Placed) (damage : Option Damage) → ReadsFiles files placed damage → AreFit placed
  files_fit [] placed damage h = none_fit placed h.0
  files_fit (file ∷ more) placed damage (here, None, others, read, whole, later) =
      subst AreFit (sym whole) (both_fit here others (spelled_fit file read.pieces read.fault here None read.spelled) (files_fit more others damage later))
  files_fit (file ∷ more) placed damage (here, Some found, others, read, whole, later) =
      subst AreFit (sym whole) (both_fit here others (spelled_fit file read.pieces read.fault here (Some found) read.spelled) (none_fit others later.0))

-- ---- nothing is expired

count_none_of : (b : Bool) → b ≡ false → cond {A = ℕ} b 1 0 ≡ 0
count_none_of b h = subst (λ c. cond {A = ℕ} c 1 0 ≡ 0) (sym h) refl

-- no element passes the test
count_none : {A : Type 0} (p : A → Bool) (P : A → Type 0) → ((x : A) → P x → p x ≡ false) → (xs : List A) → All P xs → count_by p xs ≡ 0
count_none p P none [] h = refl
count_none p P none (x ∷ xs) h =
    let rest : count_by p xs ≡ 0 = count_none p P none xs (All-tail P x xs h) in
    let first = count_none_of (p x) (none x (All-head P x xs h)) in
    let whole = sum_by-cons (λ y. cond (p y) 1 0) x xs in
    omega (arith, whole, first, rest)

no_sample : (e : Entry) → AreTimesFit e → is_expired_sample least_time e ≡ false
no_sample (series e) h = refl
no_sample (sample s) h = grind (arith, ints)
no_sample (stone d) h = refl

no_stone : (e : Entry) → AreTimesFit e → is_expired_stone least_time e ≡ false
no_stone (series e) h = refl
no_stone (sample s) h = refl
no_stone (stone d) h = grind (arith, ints)

-- all of a log is taken
pub all_taken : ((bytes : List ℕ) (r : WalRecord) → IsRecord bytes r → All AreTimesFit (entries_in r)) → ((rs : List WalRecord) → All AreTimesFit (entries_of rs) → valid least_time rs ≡ rs)
    → (log : Files) (records : List Placed) (damage : Option Damage) → IsReading log records damage → taken_of least_time (contents records) ≡ record { kept = contents records; expired_samples = 0; expired_stones = 0 }
all_taken fit least log records damage reading =
    let rs = contents records in
    let fits = files_fit fit (in_order log) records damage reading in
    let whole : List WalRecord → ℕ → ℕ → Taken = λ kept a b. record { kept = kept; expired_samples = a; expired_stones = b } in
    ap (λ kept. whole kept (expired_samples least_time rs) (expired_stones least_time rs)) (least rs fits)
    ∙ ap (λ a. whole rs a (expired_stones least_time rs)) (count_none (is_expired_sample least_time) AreTimesFit no_sample (entries_of rs) fits)
    ∙ ap (λ b. whole rs 0 b) (count_none (is_expired_stone least_time) AreTimesFit no_stone (entries_of rs) fits)
