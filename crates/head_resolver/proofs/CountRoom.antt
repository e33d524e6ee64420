-- Each count of a list has room, where each count of its kind has.
use Rattle.std.proofs.Common.{zero, suc, ◌+◌, ◌≤◌, List, [], ◌∷◌, arith, length, ℤ}
use Rattle.std.specs.Prelude.{All, None}
use Rattle.wal_record.specs.declared.record.WalRecord.{WalRecord}
use Rattle.wal_record.specs.declared.record.WalRecord.TheVariants.{Series, Samples, Stones, Other}
use Rattle.wal_record.specs.Entries.{Entry}
use Rattle.head_resolver.specs.declared.counts.Counts.{Counts}
use Rattle.head_resolver.specs.Limits.{count_limit}
use Rattle.head_resolver.specs.Counts.{bound, accepted, stale, unknown, hides, empty_stone, unknown_stone}
use Rattle.head_resolver.specs.Room.{HaveClasses, HaveCounts, HaveExpired}
use Rattle.head_resolver.specs.Steps.{with_record, IsExpiredOver}

pub all_fates : (c : Counts) (es : List Entry) → HaveCounts c es
    → All (λ count. count + length es ≤ count_limit) (c.series_entries ∷ c.accepted ∷ c.stale ∷ c.unknown ∷ c.hiding ∷ c.empty_stones ∷ c.unknown_stones ∷ [])
all_fates c es h zero d l = h bound
all_fates c es h (suc zero) d l = h accepted
all_fates c es h (suc (suc zero)) d l = h stale
all_fates c es h (suc (suc (suc zero))) d l = h unknown
all_fates c es h (suc (suc (suc (suc zero)))) d l = h hides
all_fates c es h (suc (suc (suc (suc (suc zero))))) d l = h empty_stone
all_fates c es h (suc (suc (suc (suc (suc (suc zero)))))) d l = h unknown_stone
all_fates c es h (suc (suc (suc (suc (suc (suc (suc k))))))) d l = absurd (omega (arith, l))

pub all_expired : (c : Counts) (es : List Entry) → HaveExpired c es → All (λ count. count + length es ≤ count_limit) (c.expired_samples ∷ c.expired_stones ∷ [])
all_expired c es h zero d l = h.samples
all_expired c es h (suc zero) d l = h.stones
all_expired c es h (suc (suc k)) d l = absurd (omega (arith, l))

pub all_classes : (c : Counts) (rs : List WalRecord) → HaveClasses c rs
    → All (λ count. count + length rs ≤ count_limit) (c.series_records ∷ c.sample_records ∷ c.stone_records ∷ c.skipped_records ∷ [])
all_classes c rs h zero d l = h (Series [])
all_classes c rs h (suc zero) d l = h (Samples [])
all_classes c rs h (suc (suc zero)) d l = h (Stones [])
all_classes c rs h (suc (suc (suc zero))) d l = h (Other None)
all_classes c rs h (suc (suc (suc (suc k)))) d l = absurd (omega (arith, l))

-- the class of a record does not matter to the counts of expired entries
pub over_alone : (m : ℤ) (r q : WalRecord) (c : Counts) → IsExpiredOver m r (with_record q c) → IsExpiredOver m r c
over_alone m r (Series es) c o = o
over_alone m r (Samples ss) c o = o
over_alone m r (Stones ds) c o = o
over_alone m r (Other kind) c o = o
