use Rattle.std.proofs.Common.{rules, ◌≡◌, ◌≤◌, Err, arith, refl, sym, subst, ◌∙◌, length}
use Rattle.hw_bytes.proofs.Lists.{append_none}
use Rattle.head_series.specs.Bindings.{IsTableOf}
use Rattle.head_resolver.specs.declared.fault.HeadFault.TheVariants.{Full}
use Rattle.head_resolver.specs.Owners.{bindings}
use Rattle.head_resolver.specs.Changes.{AreBelow}
use Rattle.head_resolver.proofs.BindingAhead.{below_noted, bound_stopped, changes_noted, table_bound}
use Rattle.head_resolver.proofs.resolver.Resolver.bind_entries.Goals as goal

pub loop-entry-init : goal.loop-entry-init
loop-entry-init c = (
  λ es h. (subst (λ fs. IsTableOf (bindings fs) c.args.self.now.table) (sym (append_none es)) h, sym (append_none c.args.changes.now)),
  omega arith,
  λ n few below. below,
  refl,
  refl,
  refl,
)

pub loop-entry-preserved : goal.loop-entry-preserved
loop-entry-preserved c =
    let i = c.loop-entry.invariant in (
      λ es h.
          let before = i.0 es h in (
            table_bound es c.args.place c.args.entries.now c.loop-entry.entry-index c.entry-item.result c.loop-entry-test.true c.entry-item.is c.loop-entry.self.table before.0 c.bind_noting.new.self.table c.in_ok-bind_noting.ensures.table,
            changes_noted es c.args.place c.args.entries.now c.loop-entry.entry-index c.entry-item.result c.loop-entry-test.true c.entry-item.is c.loop-entry.self.table before.0 c.args.changes.now c.loop-entry.changes c.bind_noting.new.changes
                before.1 c.in_ok-bind_noting.ensures.changes,
          ),
      (let a = i.1 in let b = c.bind_noting.ensures.more in omega (arith, a, b)),
      λ n few below.
          let more = c.bind_noting.ensures.more in
          let old : length c.loop-entry.self.table.series ≤ n = omega (arith, few, more) in
          subst (AreBelow n) (sym c.in_ok-bind_noting.ensures.changes) (below_noted n (length c.loop-entry.self.table.series) c.loop-entry.changes _ (i.2 n old below) c.bind_noting.ensures.within old),
      c.bind_noting.ensures.counts ∙ i.3,
      c.bind_noting.ensures.kept ∙ i.4,
      c.bind_noting.ensures.time ∙ i.5,
    )

pub returns-in_err-bind_noting-clause-full : goal.returns-in_err-bind_noting-clause-full
returns-in_err-bind_noting-clause-full c = λ e es more h few.
    let full : c.bind_noting.result ≡ Err Full = search rules in
    let over = c.bind_noting.ensures.full full in
    bound_stopped es c.args.place c.args.entries.now c.loop-entry.entry-index c.entry-item.result c.loop-entry-test.true c.entry-item.is c.loop-entry.self.table (c.loop-entry.invariant.0 es h).0 more over.0 over.1 few
