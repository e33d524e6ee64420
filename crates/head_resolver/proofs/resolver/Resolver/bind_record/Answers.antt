use Rattle.std.proofs.Common.{◌≡◌, ◌++◌, [], OnOk, List, ap, sym, subst, ◌∙◌}
use Rattle.std.specs.Prelude.{map}
use Rattle.std.specs.List.{flat_map}
use Rattle.hw_bytes.proofs.Lists.{append_none}
use Rattle.wal_record.specs.declared.record.SeriesEntry.{SeriesEntry}
use Rattle.wal_record.specs.declared.record.WalRecord.{WalRecord}
use Rattle.wal_record.specs.Entries.{series, entries_in}
use Rattle.wal_record.specs.Validity.{series_in}
use Rattle.head_series.specs.Bindings.{IsTableOf}
use Rattle.head_resolver.specs.Owners.{bindings}
use Rattle.head_resolver.specs.Changes.{changes_of}
use Rattle.head_resolver.specs.Ahead.{AreFew}
use Rattle.head_resolver.proofs.BindingAhead.{none_in_samples, none_in_stones, series_alone}
use Rattle.head_resolver.proofs.Entries.{binds_none}
use Rattle.head_resolver.proofs.resolver.Resolver.bind_record.Goals as goal

pub returns-in-Series-clause-table : goal.returns-in-Series-clause-table
returns-in-Series-clause-table c = λ es h.
    let e : flat_map series_in (entries_in c.args.log_record.now) ≡ c.as_slice.result.now = ap (λ (r : WalRecord). flat_map series_in (entries_in r)) c.in-Series.is ∙ series_alone c.in-Series.entries ∙ sym c.as_slice.ensures in
    subst (λ (xs : List SeriesEntry). OnOk c.bind_entries.result (IsTableOf (bindings (es ++ map series xs)) c.bind_entries.new.self.table)) (sym e) (c.bind_entries.ensures.table es h)

pub returns-in-Series-clause-changes : goal.returns-in-Series-clause-changes
returns-in-Series-clause-changes c = λ es h.
    let e : flat_map series_in (entries_in c.args.log_record.now) ≡ c.as_slice.result.now = ap (λ (r : WalRecord). flat_map series_in (entries_in r)) c.in-Series.is ∙ series_alone c.in-Series.entries ∙ sym c.as_slice.ensures in
    subst (λ (xs : List SeriesEntry). OnOk c.bind_entries.result (c.bind_entries.new.changes ≡ c.args.changes.now ++ changes_of es (map (λ e. (c.args.place, e)) xs))) (sym e) (c.bind_entries.ensures.changes es h)

pub returns-in-Series-clause-full : goal.returns-in-Series-clause-full
returns-in-Series-clause-full c = λ full es more h few.
    let e : flat_map series_in (entries_in c.args.log_record.now) ≡ c.as_slice.result.now = ap (λ (r : WalRecord). flat_map series_in (entries_in r)) c.in-Series.is ∙ series_alone c.in-Series.entries ∙ sym c.as_slice.ensures in
    c.bind_entries.ensures.full full es more h (subst (λ (xs : List SeriesEntry). AreFew (es ++ (map series xs ++ more))) e few)

pub returns-in-Series-clause-none : goal.returns-in-Series-clause-none
returns-in-Series-clause-none c = λ quiet.
    c.bind_entries.ensures.none (c.as_slice.ensures ∙ binds_none c.in-Series.entries (subst (λ (r : WalRecord). bindings (entries_in r) ≡ []) c.in-Series.is quiet))

pub returns-in-Samples-clause-table : goal.returns-in-Samples-clause-table
returns-in-Samples-clause-table c = λ es h.
    let e : flat_map series_in (entries_in c.args.log_record.now) ≡ [] = ap (λ (r : WalRecord). flat_map series_in (entries_in r)) c.in-Samples.is ∙ none_in_samples c.in-Samples.field-0 in
    subst (λ fs. IsTableOf (bindings fs) c.args.self.now.table) (sym (ap (λ (xs : List SeriesEntry). es ++ map series xs) e ∙ append_none es)) h

pub returns-in-Samples-clause-changes : goal.returns-in-Samples-clause-changes
returns-in-Samples-clause-changes c = λ es h.
    let e : flat_map series_in (entries_in c.args.log_record.now) ≡ [] = ap (λ (r : WalRecord). flat_map series_in (entries_in r)) c.in-Samples.is ∙ none_in_samples c.in-Samples.field-0 in
    sym (ap (λ (xs : List SeriesEntry). c.args.changes.now ++ changes_of es (map (λ e. (c.args.place, e)) xs)) e ∙ append_none c.args.changes.now)

pub returns-in-Stones-clause-table : goal.returns-in-Stones-clause-table
returns-in-Stones-clause-table c = λ es h.
    let e : flat_map series_in (entries_in c.args.log_record.now) ≡ [] = ap (λ (r : WalRecord). flat_map series_in (entries_in r)) c.in-Stones.is ∙ none_in_stones c.in-Stones.field-0 in
    subst (λ fs. IsTableOf (bindings fs) c.args.self.now.table) (sym (ap (λ (xs : List SeriesEntry). es ++ map series xs) e ∙ append_none es)) h

pub returns-in-Stones-clause-changes : goal.returns-in-Stones-clause-changes
returns-in-Stones-clause-changes c = λ es h.
    let e : flat_map series_in (entries_in c.args.log_record.now) ≡ [] = ap (λ (r : WalRecord). flat_map series_in (entries_in r)) c.in-Stones.is ∙ none_in_stones c.in-Stones.field-0 in
    sym (ap (λ (xs : List SeriesEntry). c.args.changes.now ++ changes_of es (map (λ e. (c.args.place, e)) xs)) e ∙ append_none c.args.changes.now)
