use Rattle.std.proofs.Common.{◌≡◌, ◌++◌, [], Err, Ok, OnOk, Result, ap, sym, subst, ◌∙◌}
use Rattle.std.specs.Prelude.{map}
use Rattle.std.specs.List.{flat_map}
use Rattle.wal_record.specs.Entries.{entries_in, entries_of, series}
use Rattle.wal_record.specs.Validity.{series_in}
use Rattle.head_series.specs.Bindings.{IsTableOf}
use Rattle.head_series.specs.Table.{Table}
use Rattle.head_resolver.specs.Owners.{bindings}
use Rattle.head_resolver.specs.Resolved.{ResolverValue}
use Rattle.head_resolver.proofs.BindingAhead.{ahead_bound, ahead_few}
use Rattle.head_resolver.proofs.resolver.Resolver.bind_ahead.Goals as goal

both_ok : {T E P Q R : Type 0} (r : Result T E) → (P → Q → R) → OnOk r P → OnOk r Q → OnOk r R
both_ok (Ok x) f p q = f p q
both_ok (Err e) f p q = tt

pub returns-clause-ahead : goal.returns-clause-ahead
returns-clause-ahead c = λ t front back h at.
    let v : ResolverValue = c.args.self.now in
    let w : ResolverValue = record { table = c.self-2.inside.table; counts = c.self-2.inside.counts; min_valid = c.self-2.inside.min_valid; failed = c.is_err-self-inside.result } in
    let time : w.min_valid ≡ v.min_valid = ap (λ (x : ResolverValue). x.min_valid) c.self-2.view_is ∙ c.bind_record-bound.ensures.time in
    let counts : w.counts ≡ v.counts = ap (λ (x : ResolverValue). x.counts) c.self-2.view_is ∙ c.bind_record-bound.ensures.counts in
    let es = entries_of t.kept ++ entries_of (front ++ back) in
    both_ok c.bind_record-bound.result
    (λ shown noted. ahead_bound t front back c.args.changes.now v h c.args.log_record.now c.args.place c.bind_record-bound.new.changes w time counts at
    (subst (λ (u : Table). IsTableOf (bindings (es ++ map series (flat_map series_in (entries_in c.args.log_record.now)))) u) (sym (ap (λ (x : ResolverValue). x.table) c.self-2.view_is)) shown) noted)
    (c.bind_record-bound.ensures.table es h.shown)
    (c.bind_record-bound.ensures.changes es h.shown)

pub returns-clause-full : goal.returns-clause-full
returns-clause-full c = λ full t front back h w.
    c.bind_record-bound.ensures.full full (entries_of t.kept ++ entries_of (front ++ back)) [] h.shown (ahead_few t front back c.args.changes.now c.args.self.now h c.args.log_record.now w)
