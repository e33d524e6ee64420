-- The counts of a head whose room was made beforehand, once a record is counted.
use Rattle.std.proofs.Common.{◌≡◌, ℤ, ◌+◌, ◌≤◌, Bool, List, [], ◌∷◌, ap, sym, subst, ◌∙◌, refl, arith, length, length-append}
use Rattle.std.specs.Prelude.{count_by}
use Rattle.std.proofs.lemmas.List.Sums.{count_by-le-length}
use Rattle.hw_bytes.proofs.Lists.{append_none}
use Rattle.wal_record.specs.declared.record.WalRecord.{WalRecord}
use Rattle.wal_record.specs.declared.record.WalRecord.TheVariants.{Series, Samples, Stones, Other}
use Rattle.wal_record.specs.Entries.{Entry, entries_in, entries_of}
use Rattle.wal_record.specs.Validity.{expired_samples, expired_stones, is_expired_sample, is_expired_stone}
use Rattle.head_resolver.specs.declared.counts.Counts.{Counts}
use Rattle.head_resolver.specs.Counts.{count_of_class, Fate, bound, accepted, stale, unknown, hides, empty_stone, unknown_stone}
use Rattle.head_resolver.specs.Room.{HaveClasses, HaveExpired}
use Rattle.head_resolver.specs.Steps.{count_of_fate, with_expired, with_fate, with_record}
use Rattle.head_core.specs.Content.{Content}
use Rattle.head_core.specs.Heads.{ColumnRoom, HeadValue}
use Rattle.head_core.specs.Room.{ReservedValue, HasRoom}
use Rattle.head_core.specs.Steps.{told, Takes, none, more}

-- the counts of entries, where a record was counted
same_fates : (f : Fate) (r : WalRecord) (c : Counts) → count_of_fate f (with_record r c) ≡ count_of_fate f c
same_fates bound (Series es) c = refl
same_fates bound (Samples ss) c = refl
same_fates bound (Stones ds) c = refl
same_fates bound (Other kind) c = refl
same_fates accepted (Series es) c = refl
same_fates accepted (Samples ss) c = refl
same_fates accepted (Stones ds) c = refl
same_fates accepted (Other kind) c = refl
same_fates stale (Series es) c = refl
same_fates stale (Samples ss) c = refl
same_fates stale (Stones ds) c = refl
same_fates stale (Other kind) c = refl
same_fates unknown (Series es) c = refl
same_fates unknown (Samples ss) c = refl
same_fates unknown (Stones ds) c = refl
same_fates unknown (Other kind) c = refl
same_fates hides (Series es) c = refl
same_fates hides (Samples ss) c = refl
same_fates hides (Stones ds) c = refl
same_fates hides (Other kind) c = refl
same_fates empty_stone (Series es) c = refl
same_fates empty_stone (Samples ss) c = refl
same_fates empty_stone (Stones ds) c = refl
same_fates empty_stone (Other kind) c = refl
same_fates unknown_stone (Series es) c = refl
same_fates unknown_stone (Samples ss) c = refl
same_fates unknown_stone (Stones ds) c = refl
same_fates unknown_stone (Other kind) c = refl

-- the counts of records, where an entry was counted
same_classes : (q : WalRecord) (f : Fate) (c : Counts) → count_of_class q (with_fate f c) ≡ count_of_class q c
same_classes (Series es) bound c = refl
same_classes (Series es) accepted c = refl
same_classes (Series es) stale c = refl
same_classes (Series es) unknown c = refl
same_classes (Series es) hides c = refl
same_classes (Series es) empty_stone c = refl
same_classes (Series es) unknown_stone c = refl
same_classes (Samples ss) bound c = refl
same_classes (Samples ss) accepted c = refl
same_classes (Samples ss) stale c = refl
same_classes (Samples ss) unknown c = refl
same_classes (Samples ss) hides c = refl
same_classes (Samples ss) empty_stone c = refl
same_classes (Samples ss) unknown_stone c = refl
same_classes (Stones ds) bound c = refl
same_classes (Stones ds) accepted c = refl
same_classes (Stones ds) stale c = refl
same_classes (Stones ds) unknown c = refl
same_classes (Stones ds) hides c = refl
same_classes (Stones ds) empty_stone c = refl
same_classes (Stones ds) unknown_stone c = refl
same_classes (Other kind) bound c = refl
same_classes (Other kind) accepted c = refl
same_classes (Other kind) stale c = refl
same_classes (Other kind) unknown c = refl
same_classes (Other kind) hides c = refl
same_classes (Other kind) empty_stone c = refl
same_classes (Other kind) unknown_stone c = refl

-- one record raises each count of records by one at most
one_class : (q r : WalRecord) (c : Counts) → count_of_class q (with_record r c) ≤ count_of_class q c + 1
one_class (Series es) (Series es2) c = omega arith
one_class (Series es) (Samples ss2) c = omega arith
one_class (Series es) (Stones ds2) c = omega arith
one_class (Series es) (Other kind2) c = omega arith
one_class (Samples ss) (Series es2) c = omega arith
one_class (Samples ss) (Samples ss2) c = omega arith
one_class (Samples ss) (Stones ds2) c = omega arith
one_class (Samples ss) (Other kind2) c = omega arith
one_class (Stones ds) (Series es2) c = omega arith
one_class (Stones ds) (Samples ss2) c = omega arith
one_class (Stones ds) (Stones ds2) c = omega arith
one_class (Stones ds) (Other kind2) c = omega arith
one_class (Other kind) (Series es2) c = omega arith
one_class (Other kind) (Samples ss2) c = omega arith
one_class (Other kind) (Stones ds2) c = omega arith
one_class (Other kind) (Other kind2) c = omega arith

takes_classes : (q : WalRecord) {c d : Content} (es : List Entry) → Takes c es d → count_of_class q d.counts ≡ count_of_class q c.counts
takes_classes q es none = refl
takes_classes q {c} {d} es (more fs m e k t s) = ap (count_of_class q) s.counts ∙ same_classes q (told m.table m.histories e) m.counts ∙ takes_classes q fs t

-- ---- the counts of a record, and of its expired entries

-- the counts where a record was counted
abbrev counted_with : ℤ → WalRecord → Counts → Counts
counted_with m r c = with_expired m r (with_record r c)

kept_fates : (f : Fate) (m : ℤ) (r : WalRecord) (c : Counts) → count_of_fate f (with_expired m r c) ≡ count_of_fate f c
kept_fates bound m r c = refl
kept_fates accepted m r c = refl
kept_fates stale m r c = refl
kept_fates unknown m r c = refl
kept_fates hides m r c = refl
kept_fates empty_stone m r c = refl
kept_fates unknown_stone m r c = refl

kept_classes : (q : WalRecord) (m : ℤ) (r : WalRecord) (c : Counts) → count_of_class q (with_expired m r c) ≡ count_of_class q c
kept_classes (Series es) m r c = refl
kept_classes (Samples ss) m r c = refl
kept_classes (Stones ds) m r c = refl
kept_classes (Other kind) m r c = refl

expired_after : (m : ℤ) (r q : WalRecord) (c : Counts) → ((with_expired m r (with_record q c)).expired_samples ≡ c.expired_samples + expired_samples m (r ∷ [])) × ((with_expired m r (with_record q c)).expired_stones ≡ c.expired_stones + expired_stones m (r ∷ []))
expired_after m r (Series es) c = (refl, refl)
expired_after m r (Samples ss) c = (refl, refl)
expired_after m r (Stones ds) c = (refl, refl)
expired_after m r (Other kind) c = (refl, refl)

same_expired : (f : Fate) (c : Counts) → ((with_fate f c).expired_samples ≡ c.expired_samples) × ((with_fate f c).expired_stones ≡ c.expired_stones)
same_expired bound c = (refl, refl)
same_expired accepted c = (refl, refl)
same_expired stale c = (refl, refl)
same_expired unknown c = (refl, refl)
same_expired hides c = (refl, refl)
same_expired empty_stone c = (refl, refl)
same_expired unknown_stone c = (refl, refl)

takes_expired : {c d : Content} (es : List Entry) → Takes c es d → (d.counts.expired_samples ≡ c.counts.expired_samples) × (d.counts.expired_stones ≡ c.counts.expired_stones)
takes_expired es none = (refl, refl)
takes_expired {c} {d} es (more fs m e k t s) =
    let f = told m.table m.histories e in
    let front = takes_expired fs t in (
      ap (λ (n : Counts). n.expired_samples) s.counts ∙ (same_expired f m.counts).0 ∙ front.0,
      ap (λ (n : Counts). n.expired_stones) s.counts ∙ (same_expired f m.counts).1 ∙ front.1,
    )

-- the room where a record was counted
pub room_counted : (h k : HeadValue) (m : ReservedValue) (r : WalRecord) (es : List Entry) → k.content ≡ record h.content { counts = with_expired h.content.min_valid r (with_record r h.content.counts) } → k.room ≡ h.room → HasRoom h m es → HasRoom k m es
room_counted h k m r es content room have =
    let v = h.content.min_valid in
    subst (λ (x : Content). HasRoom (record { content = x; failed = k.failed; room = k.room }) m es) (sym content)
    (subst (λ (x : ColumnRoom). HasRoom (record { content = record h.content { counts = counted_with v r h.content.counts }; failed = k.failed; room = x }) m es) (sym room)
    (record {
      ready = have.ready;
      table = have.table;
      postings = have.postings;
      columns = have.columns;
      made = have.made;
      unused = have.unused;
      spares = have.spares;
      counts = λ f. subst (λ n. n + length es ≤ 18446744073709551615) (sym (kept_fates f v r (with_record r h.content.counts) ∙ same_fates f r h.content.counts)) (have.counts f);
    }))

-- the counts of records, where one was counted and its entries were taken
pub classes_left : (c : Content) (d : Content) (r : WalRecord) (rs : List WalRecord) (es : List Entry) → HaveClasses c.counts (r ∷ rs) → Takes (record c { counts = with_expired c.min_valid r (with_record r c.counts) }) es d → HaveClasses d.counts rs
classes_left c d r rs es have t q =
    let a = have q in
    let b = one_class q r c.counts in
    let k = kept_classes q c.min_valid r (with_record r c.counts) in
    let e = takes_classes q es t in
    omega (arith, a, b, k, e)

-- the counts of expired entries, likewise
pub expired_left : (c : Content) (d : Content) (r : WalRecord) (rs : List WalRecord) (es : List Entry) → HaveExpired c.counts (entries_of (r ∷ rs)) → Takes (record c { counts = with_expired c.min_valid r (with_record r c.counts) }) es d → HaveExpired d.counts (entries_of rs)
expired_left c d r rs es have t =
    let m = c.min_valid in
    let kept = takes_expired es t in
    let after = expired_after m r r c.counts in
    let long = length-append (entries_in r) (entries_of rs) in
    let samples = have.samples in
    let stones = have.stones in
    let samples_kept = kept.0 in
    let stones_kept = kept.1 in
    let samples_after = after.0 in
    let stones_after = after.1 in
    let few_samples = few_expired (is_expired_sample m) r in
    let few_stones = few_expired (is_expired_stone m) r in
    record {
      samples = omega (arith, samples, samples_kept, samples_after, few_samples, long);
      stones = omega (arith, stones, stones_kept, stones_after, few_stones, long);
    }
  where
    few_expired : (p : Entry → Bool) (q : WalRecord) → count_by p (entries_of (q ∷ [])) ≤ length (entries_in q)
    few_expired p q = subst (λ n. count_by p (entries_of (q ∷ [])) ≤ n) (ap length (append_none (entries_in q))) (count_by-le-length p (entries_of (q ∷ [])))

-- a record counts no more expired entries than it has
pub room_for_expired : (c : Counts) (r : WalRecord) (rs : List WalRecord) → HaveExpired c (entries_of (r ∷ rs)) → HaveExpired c (entries_in r)
room_for_expired c r rs have =
    let long = length-append (entries_in r) (entries_of rs) in
    let samples = have.samples in
    let stones = have.stones in
    record { samples = omega (arith, samples, long); stones = omega (arith, stones, long) }
