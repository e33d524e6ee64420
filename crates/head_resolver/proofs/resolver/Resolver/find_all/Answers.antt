use Rattle.std.proofs.Common.{rules, arith, ◌≡◌, ◌≤◌, ◌+◌, ℕ, ℤ, List, [], length, take, length-append, refl, ap, sym, subst, ◌∙◌}
use Rattle.std.specs.Prelude.{map}
use Rattle.std.specs.List.{flat_map}
use Rattle.std.specs.Option.{option_to_list}
use Rattle.wal_record.specs.Validity.{valid_entry}
use Rattle.head_column.specs.declared.items.Item.{Item}
use Rattle.head_resolver.specs.Resolving.{Resolves, none, IsStoppedIn}
use Rattle.head_resolver.proofs.Resolving.{one_at_most, resolves_time}
use Rattle.head_resolver.proofs.ResolvingValid.{valid_at, valid_stopped_at}
use Rattle.head_resolver.proofs.resolver.Resolver.find_all.Goals as goal

pub loop-entry-init : goal.loop-entry-init
loop-entry-init g c =
    let items : c.in_ok-items.items.items ≡ [] = c.in_ok-items.ensures.items in
    let many = ap length items in (
      subst (λ (xs : List (ℕ × Item)). Resolves c.args.self.now [] xs c.args.self.now) (sym items) none,
      refl,
      omega (arith, many),
      search rules,
    )

pub returns-in_err-found-clause-full : goal.returns-in_err-found-clause-full
returns-in_err-found-clause-full g c = λ e.
    let same = resolves_time c.loop-entry.invariant.0 in
    valid_stopped_at c.args.self.now.min_valid g.E.ItemEntry.entry c.args.entries.now c.loop-entry.entry-index c.entry-item.result c.loop-entry-test.true c.entry-item.is c.loop-entry.invariant.0
    (subst (λ (z : ℤ). IsStoppedIn c.loop-entry.self (valid_entry z (g.E.ItemEntry.entry c.entry-item.result))) same c.in_err-found.ensures.full)

pub loop-entry-preserved : goal.loop-entry-preserved
loop-entry-preserved g c =
    let m = c.args.self.now.min_valid in
    let same = resolves_time c.loop-entry.invariant.0 in
    let items = c.put_reserved.ensures.items in
    let many = ap length items ∙ length-append c.loop-entry.items.items (option_to_list c.in_ok-found.found) in
    let one = one_at_most c.in_ok-found.found in
    let before = c.loop-entry.invariant.2 in (
      subst
          (λ (xs : List (ℕ × Item)). Resolves c.args.self.now (flat_map (valid_entry m) (map g.E.ItemEntry.entry (take (c.loop-entry.entry-index + 1) c.args.entries.now))) xs c.find_valid.new.resolver)
          (sym items)
          (valid_at m g.E.ItemEntry.entry c.args.entries.now c.loop-entry.entry-index c.entry-item.result c.loop-entry-test.true c.entry-item.is c.loop-entry.invariant.0
          (subst (λ (z : ℤ). Resolves c.loop-entry.self (valid_entry z (g.E.ItemEntry.entry c.entry-item.result)) (option_to_list c.in_ok-found.found) c.find_valid.new.resolver) same c.in_ok-found.ensures.step)),
      c.find_valid.ensures.kept ∙ c.loop-entry.invariant.1,
      omega (arith, many, one, before),
      subst (λ n. length c.args.entries.now ≤ n) (sym c.put_reserved.ensures.capacity) c.loop-entry.invariant.3,
    )

pub returns-in_err-found-clause-time : goal.returns-in_err-found-clause-time
returns-in_err-found-clause-time g c = c.find_valid.ensures.time ∙ resolves_time c.loop-entry.invariant.0

pub returns-clause-time : goal.returns-clause-time
returns-clause-time g c = resolves_time c.loop-entry.invariant.0
