-- Sums of counts.
use Rattle.std.proofs.Common.{◌≡◌, ℕ, ℤ, ◌+◌, [], ◌∷◌, Some, None, Option, ap, ◌∙◌, refl, arith, add_assoc, add-zero}
use Rattle.wal_record.specs.declared.record.WalRecord.{WalRecord}
use Rattle.wal_record.specs.declared.record.WalRecord.TheVariants.{Series, Samples, Stones, Other}
use Rattle.wal_record.specs.Validity.{expired_samples, expired_stones}
use Rattle.head_column.specs.declared.items.Item.{Item}
use Rattle.head_resolver.specs.declared.counts.Counts.{Counts}
use Rattle.head_resolver.specs.Counts.{Fate, bound, accepted, stale, unknown, hides, empty_stone, unknown_stone, unknown_fate}
use Rattle.head_resolver.specs.Limits.{AreCountsWithin}
use Rattle.head_resolver.specs.Steps.{no_counts, plus, with_expired, with_fate, with_record}
use Rattle.head_resolver.specs.Resolving.{with_item}

pub plus_none : (c : Counts) → plus c no_counts ≡ c
plus_none c = simp add-zero

-- one more of a kind is one more in the sum
pub plus_fate : (f : Fate) (c d : Counts) → with_fate f (plus c d) ≡ plus c (with_fate f d)
plus_fate bound c d = ap (λ n. record (plus c d) { series_entries = n }) (add_assoc c.series_entries d.series_entries 1)
plus_fate accepted c d = ap (λ n. record (plus c d) { accepted = n }) (add_assoc c.accepted d.accepted 1)
plus_fate stale c d = ap (λ n. record (plus c d) { stale = n }) (add_assoc c.stale d.stale 1)
plus_fate unknown c d = ap (λ n. record (plus c d) { unknown = n }) (add_assoc c.unknown d.unknown 1)
plus_fate hides c d = ap (λ n. record (plus c d) { hiding = n }) (add_assoc c.hiding d.hiding 1)
plus_fate empty_stone c d = ap (λ n. record (plus c d) { empty_stones = n }) (add_assoc c.empty_stones d.empty_stones 1)
plus_fate unknown_stone c d = ap (λ n. record (plus c d) { unknown_stones = n }) (add_assoc c.unknown_stones d.unknown_stones 1)

pub plus_record : (r : WalRecord) (c d : Counts) → with_record r (plus c d) ≡ plus c (with_record r d)
plus_record (Series es) c d = ap (λ n. record (plus c d) { series_records = n }) (add_assoc c.series_records d.series_records 1)
plus_record (Samples ss) c d = ap (λ n. record (plus c d) { sample_records = n }) (add_assoc c.sample_records d.sample_records 1)
plus_record (Stones ds) c d = ap (λ n. record (plus c d) { stone_records = n }) (add_assoc c.stone_records d.stone_records 1)
plus_record (Other kind) c d = ap (λ n. record (plus c d) { skipped_records = n }) (add_assoc c.skipped_records d.skipped_records 1)

pub plus_expired : (m : ℤ) (r : WalRecord) (c d : Counts) → with_expired m r (plus c d) ≡ plus c (with_expired m r d)
plus_expired m r c d =
    let a = expired_samples m (r ∷ []) in
    let b = expired_stones m (r ∷ []) in
    ap (λ n. record (plus c d) { expired_samples = n; expired_stones = (c.expired_stones + d.expired_stones) + b }) (add_assoc c.expired_samples d.expired_samples a)
    ∙ ap (λ n. record (plus c d) { expired_samples = c.expired_samples + (d.expired_samples + a); expired_stones = n }) (add_assoc c.expired_stones d.expired_stones b)

pub plus_item : (o : Option ℕ) (i : Item) (c d : Counts) → with_item o i (plus c d) ≡ plus c (with_item o i d)
plus_item None i c d = plus_fate (unknown_fate i) c d
plus_item (Some s) i c d = refl

-- where sums are within the limits, so are the counts that are summed
pub within_sum : (c d : Counts) → AreCountsWithin (plus c d) → AreCountsWithin c × AreCountsWithin d
within_sum c d w = (
  record {
    series_records = omega arith;
    sample_records = omega arith;
    stone_records = omega arith;
    skipped_records = omega arith;
    series_entries = omega arith;
    accepted = omega arith;
    stale = omega arith;
    unknown = omega arith;
    hiding = omega arith;
    empty_stones = omega arith;
    unknown_stones = omega arith;
    expired_samples = omega arith;
    expired_stones = omega arith;
  },
  record {
    series_records = omega arith;
    sample_records = omega arith;
    stone_records = omega arith;
    skipped_records = omega arith;
    series_entries = omega arith;
    accepted = omega arith;
    stale = omega arith;
    unknown = omega arith;
    hiding = omega arith;
    empty_stones = omega arith;
    unknown_stones = omega arith;
    expired_samples = omega arith;
    expired_stones = omega arith;
  },
)
