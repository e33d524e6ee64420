use Rattle.std.proofs.Common.{◌≡◌, ◌++◌}
use Rattle.std.specs.List.{flat_map}
use Rattle.std.proofs.lemmas.Result.{IfOk-weaker}
use Rattle.wal_record.specs.declared.record.WalRecord.{WalRecord}
use Rattle.wal_record.specs.declared.record.WalRecord.TheVariants.{Samples}
use Rattle.wal_record.specs.Entries.{entries_in, entries_of}
use Rattle.wal_record.specs.Validity.{valid_entry}
use Rattle.head_resolver.specs.Taken.{taken_after}
use Rattle.head_resolver.specs.Resolved.{IsResolved, resolved}
use Rattle.head_resolver.specs.Resolving.{Resolves}
use Rattle.head_resolver.proofs.Records.{record_items, record_resolved, record_unread}
use Rattle.head_resolver.proofs.Resolving.{record_stopped}
use Rattle.head_resolver.proofs.resolver.Resolver.resolve_samples.Goals as goal

pub returns-clause-resolved : goal.returns-clause-resolved
returns-clause-resolved c = λ t h.
    let r : WalRecord = Samples c.args.samples.now in
    let u = c.count_samples.new.self in
    IfOk-weaker c.find_all.result
    (λ items. Resolves u (flat_map (valid_entry u.min_valid) (entries_in r)) items.items c.find_all.new.self)
    (λ items. IsResolved (taken_after c.args.self.now.min_valid t r) c.find_all.new.self)
    (λ items read. record_resolved h r u c.in_ok-count_samples.ensures.more items.items c.find_all.new.self read)
    c.find_all.ensures.step

pub returns-clause-items : goal.returns-clause-items
returns-clause-items c = λ t h.
    let r : WalRecord = Samples c.args.samples.now in
    let u = c.count_samples.new.self in
    IfOk-weaker c.find_all.result
    (λ items. Resolves u (flat_map (valid_entry u.min_valid) (entries_in r)) items.items c.find_all.new.self)
    (λ items. resolved (entries_of (taken_after c.args.self.now.min_valid t r).kept) ≡ resolved (entries_of t.kept) ++ items.items)
    (λ items read. record_items h r u c.in_ok-count_samples.ensures.more items.items c.find_all.new.self read)
    c.find_all.ensures.step

pub returns-in_err-count_samples-clause-full : goal.returns-in_err-count_samples-clause-full
returns-in_err-count_samples-clause-full c = λ e t h. record_stopped h (Samples c.args.samples.now) c.in_err-count_samples.ensures.full

pub returns-clause-full : goal.returns-clause-full
returns-clause-full c = λ e t h w. record_unread h (Samples c.args.samples.now) c.count_samples.new.self c.in_ok-count_samples.ensures.more (c.find_all.ensures.full e) w
