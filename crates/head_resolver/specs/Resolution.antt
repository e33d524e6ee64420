-- What comes of resolving the next record of a log.
use Rattle.std.specs.Prelude.{◌≡◌, ◌↔◌, ◌++◌, ℕ, Err, IfOk, IsOk, OnErr, OnOk, Result, Vec, false, true}
use Rattle.std.specs.Global.{Global}
use Rattle.wal_record.specs.declared.record.WalRecord.{WalRecord}
use Rattle.wal_record.specs.Entries.{entries_of}
use Rattle.head_column.specs.declared.items.Item.{Item}
use Rattle.head_resolver.specs.declared.fault.HeadFault.{HeadFault}
use Rattle.head_resolver.specs.declared.fault.HeadFault.TheVariants.{Failed, Full}
use Rattle.head_resolver.specs.Counts.{count_of_class}
use Rattle.head_resolver.specs.Limits.{count_limit}
use Rattle.head_resolver.specs.Resolved.{IsResolvable, IsResolved, ResolverValue, resolved}
use Rattle.head_resolver.specs.Taken.{Taken, taken_after}

-- The resolver, which was `old`, is `new` after this record, and the result is the record's items in order, each with the slot of its owner;
-- or it has failed. It fails with `Full` only where the record would pass a limit, and with `Failed` just where it had failed before.
pub record IsResolution (r : WalRecord) (old new : ResolverValue) (result : Result (Vec (ℕ × Item) Global) HeadFault) : Type 0 where
  pub taken : (t : Taken) → IsResolved t old → OnOk result (IsResolved (taken_after old.min_valid t r) new)
  pub items : (t : Taken) → IsResolved t old → IfOk result (λ items. resolved (entries_of (taken_after old.min_valid t r).kept) ≡ resolved (entries_of t.kept) ++ items.items)
  pub full : result ≡ Err Full → (t : Taken) → IsResolved t old → IsResolvable (taken_after old.min_valid t r) → ⊥
  pub limits : IsOk result → (t : Taken) → IsResolved t new → IsResolvable t
  pub time : OnOk result (new.min_valid ≡ old.min_valid)
  pub failed : result ≡ Err Failed ↔ (old.failed ≡ true)
  pub sound : OnOk result (new.failed ≡ false)
  pub fails : OnErr result (new.failed ≡ true)
  -- also where nothing has to be allocated
  pub counted : old.failed ≡ false → count_of_class r old.counts ≡ count_limit → result ≡ Err Full
