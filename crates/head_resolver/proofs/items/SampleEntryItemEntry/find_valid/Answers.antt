use Rattle.std.proofs.Common.{◌≡◌, true, false, rules}
use Rattle.std.specs.Prelude.{int_lt}
use Rattle.std.specs.Option.{option_to_list}
use Rattle.std.proofs.lemmas.Int.{to_z-of_z}
use Rattle.std.proofs.lemmas.Result.{IfOk-weaker, on_err_weaker}
use Rattle.wal_record.specs.Entries.{sample}
use Rattle.wal_record.specs.Validity.{valid_entry}
use Rattle.head_resolver.specs.Resolving.{IsResolving, Resolves}
use Rattle.head_resolver.proofs.ResolvingValid.{none_valid, sample_valid, resolves_none, resolves_one, stopped_one}
use Rattle.head_resolver.proofs.items.SampleEntryItemEntry.find_valid.Goals as goal

pub returns-then-is_expired-clause-step : goal.returns-then-is_expired-clause-step
returns-then-is_expired-clause-step c =
    let e : int_lt c.args.self.now.time c.args.resolver.now.min_valid ≡ true = search (rules, to_z-of_z) in
    resolves_none c.args.resolver.now (valid_entry c.args.resolver.now.min_valid (sample c.args.self.now)) (none_valid c.args.resolver.now.min_valid (sample c.args.self.now) e)

pub returns-clause-step : goal.returns-clause-step
returns-clause-step c =
    let e : int_lt c.args.self.now.time c.args.resolver.now.min_valid ≡ false = search (rules, to_z-of_z) in
    IfOk-weaker c.find.result
    (λ found. IsResolving c.args.resolver.now (sample c.args.self.now) (option_to_list found) c.find.new.resolver)
    (λ found. Resolves c.args.resolver.now (valid_entry c.args.resolver.now.min_valid (sample c.args.self.now)) (option_to_list found) c.find.new.resolver)
    (λ found t. resolves_one c.args.resolver.now (valid_entry c.args.resolver.now.min_valid (sample c.args.self.now)) (sample c.args.self.now) (option_to_list found) c.find.new.resolver (sample_valid c.args.resolver.now.min_valid c.args.self.now e) t)
    c.find.ensures.step

pub returns-clause-full : goal.returns-clause-full
returns-clause-full c =
    let e : int_lt c.args.self.now.time c.args.resolver.now.min_valid ≡ false = search (rules, to_z-of_z) in
    on_err_weaker c.find.result
    (stopped_one c.args.resolver.now (valid_entry c.args.resolver.now.min_valid (sample c.args.self.now)) (sample c.args.self.now) (sample_valid c.args.resolver.now.min_valid c.args.self.now e))
    c.find.ensures.full
