-- What a resolver shows once it has counted a record and read what the least valid time leaves of the record's entries.
use Rattle.std.proofs.Common.{◌≡◌, ℕ, List, ◌++◌, sym, subst}
use Rattle.std.specs.List.{flat_map}
use Rattle.wal_record.specs.declared.record.WalRecord.{WalRecord}
use Rattle.wal_record.specs.Entries.{Entry, entries_in, entries_of}
use Rattle.wal_record.specs.Validity.{valid_entry, valid_in}
use Rattle.wal_record.proofs.Validity.{record_entries}
use Rattle.head_column.specs.declared.items.Item.{Item}
use Rattle.head_resolver.specs.Taken.{Taken, taken_after}
use Rattle.head_resolver.specs.Steps.{with_expired, with_record}
use Rattle.head_resolver.specs.Resolved.{ResolverValue, resolved, IsResolvable, IsResolved}
use Rattle.head_resolver.specs.Resolving.{IsStoppedIn, Resolves}
use Rattle.head_resolver.proofs.Resolving.{entries_stopped, items_more, resolved_more}

-- what is shown once the record is counted, its entries aside
abbrev counted : ResolverValue → WalRecord → ResolverValue
counted v r = record v { counts = with_expired v.min_valid r (with_record r v.counts) }

module _ {t : Taken} {v : ResolverValue} (h : IsResolved t v) (r : WalRecord) (u : ResolverValue) (is : u ≡ counted v r) where
  module _ (xs : List (ℕ × Item)) (w : ResolverValue) (read : Resolves u (flat_map (valid_entry u.min_valid) (entries_in r)) xs w) where
    left : Resolves (counted v r) (entries_in (valid_in v.min_valid r)) xs w
    left =
        subst (λ (es : List Entry). Resolves (counted v r) es xs w) (sym (record_entries v.min_valid r))
        (subst (λ (x : ResolverValue). Resolves x (flat_map (valid_entry x.min_valid) (entries_in r)) xs w) is read)

    pub record_resolved : IsResolved (taken_after v.min_valid t r) w
    record_resolved = resolved_more h r xs w left

    pub record_items : resolved (entries_of (taken_after v.min_valid t r).kept) ≡ resolved (entries_of t.kept) ++ xs
    record_items = items_more h r xs w left

  -- an entry could not be read
  pub record_unread : IsStoppedIn u (flat_map (valid_entry u.min_valid) (entries_in r)) → IsResolvable (taken_after v.min_valid t r) → ⊥
  record_unread s =
      entries_stopped h r
      (subst (λ (es : List Entry). IsStoppedIn (counted v r) es) (sym (record_entries v.min_valid r))
      (subst (λ (x : ResolverValue). IsStoppedIn x (flat_map (valid_entry x.min_valid) (entries_in r))) is s))
