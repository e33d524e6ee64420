use Rattle.std.proofs.Common.{rules, ◌≡◌, ◌∙◌, [], ℕ, Err, IsOk, List, ap, sym, subst}
use Rattle.std.specs.Prelude.{map}
use Rattle.std.specs.List.{flat_map}
use Rattle.wal_record.specs.declared.record.WalRecord.{WalRecord}
use Rattle.wal_record.specs.Entries.{Entry, series, entries_in}
use Rattle.wal_record.specs.Validity.{valid_entry}
use Rattle.head_column.specs.declared.items.Item.{Item}
use Rattle.head_resolver.specs.declared.fault.HeadFault.TheVariants.{Full}
use Rattle.head_resolver.specs.Resolving.{IsStoppedIn, Resolves, none}
use Rattle.head_resolver.proofs.Entries.{binds_none}
use Rattle.head_resolver.proofs.ResolvingValid.{series_valid}
use Rattle.head_resolver.proofs.resolver.Resolver.find_entries.Goals as goal

pub returns-in-Other-clause-step : goal.returns-in-Other-clause-step
returns-in-Other-clause-step c = rw c.in-Other.is (subst (λ (xs : List (ℕ × Item)). Resolves c.args.self.now [] xs c.args.self.now) (sym c.requires) none)

pub returns-in_err-bind_all-in-Series-clause-roomy : goal.returns-in_err-bind_all-in-Series-clause-roomy
returns-in_err-bind_all-in-Series-clause-roomy c = λ bound room memory.
    let empty : c.as_slice.result.now ≡ [] = c.as_slice.ensures ∙ binds_none _ (rw c.in-Series.is at bound) in
    let ok : IsOk c.bind_all.result = c.bind_all.ensures.none empty in
    search rules

pub returns-in_err-bind_all-in-Series-clause-full : goal.returns-in_err-bind_all-in-Series-clause-full
returns-in_err-bind_all-in-Series-clause-full c = λ e.
    let m = c.args.self.now.min_valid in
    let full : c.bind_all.result ≡ Err Full = search rules in
    let are : map series c.as_slice.result.now ≡ flat_map (valid_entry m) (entries_in c.args.log_record.now) =
    ap (map series) c.as_slice.ensures ∙ sym (series_valid m c.in-Series.entries) ∙ ap (λ (r : WalRecord). flat_map (valid_entry m) (entries_in r)) (sym c.in-Series.is) in
    subst (λ (es : List Entry). IsStoppedIn c.args.self.now es) are (c.bind_all.ensures.full full)

pub returns-in_ok-bind_all-in-Series-clause-step : goal.returns-in_ok-bind_all-in-Series-clause-step
returns-in_ok-bind_all-in-Series-clause-step c =
    let m = c.args.self.now.min_valid in
    let are : map series c.as_slice.result.now ≡ flat_map (valid_entry m) (entries_in c.args.log_record.now) =
    ap (map series) c.as_slice.ensures ∙ sym (series_valid m c.in-Series.entries) ∙ ap (λ (r : WalRecord). flat_map (valid_entry m) (entries_in r)) (sym c.in-Series.is) in
    subst (λ (xs : List (ℕ × Item)). Resolves c.args.self.now (flat_map (valid_entry m) (entries_in c.args.log_record.now)) xs c.bind_all.new.self) (sym c.requires)
    (subst (λ (es : List Entry). Resolves c.args.self.now es [] c.bind_all.new.self) are c.in_ok-bind_all-in-Series.ensures.step)
