use Rattle.std.proofs.Common.{rules, ◌≡◌, ◌<◌, ◌∙◌, true, subst, sym, ap, arith, length, Err}
use Rattle.head_column.specs.Runs.{AreApart}
use Rattle.block_files.specs.declared.tombstones.TombstonesFault.TheVariants.{BadTombstones}
use Rattle.block_files.specs.Tombstones.{tombstones_text}
use Rattle.block_read.specs.Blocks.{tombstones_of}
use Rattle.block_read.proofs.Apart.{ahead, dealt_all, dealt_more, dealt_none, fit_tombstones, leads_all, leads_more}
use Rattle.block_files.specs.Tombstones.{IsFit}
use Rattle.std.specs.List.{All}
use Rattle.block_read.proofs.hidden.read_hidden.Goals as goal

pub returns-in_err-tombstones-clause-bad : goal.returns-in_err-tombstones-clause-bad
returns-in_err-tombstones-clause-bad c = λ was all have.
    let bad : c.read_tombstones.result ≡ Err BadTombstones = search rules in
    c.read_tombstones.ensures.bad bad (tombstones_of c.args.ids.now all) (fit_tombstones c.args.ids.now all (λ k. (c.type_inv.ids k).fits) have.fit) have.text

pub loop-id-init : goal.loop-id-init
loop-id-init c = (
  dealt_none c.args.ids.now c.as_slice-rest.result.now c.as_slice-rest.result.now c.new-hidden.result.items c.new-hidden.ensures.items (cc),
  λ all have. record {
    first = c.new-hidden.ensures.items;
    left = c.as_slice-rest.ensures.value ∙ c.in_ok-tombstones.ensures.only (tombstones_of c.args.ids.now all) (fit_tombstones c.args.ids.now all (λ k. (c.type_inv.ids k).fits) have.fit) have.text;
  },
)

pub loop-id-preserved : goal.loop-id-preserved
loop-id-preserved c =
    let apart : AreApart c.in_ok-runs.runs.items = subst AreApart c.deref.ensures.value (c.are_apart.ensures.sound c.if-not-are_apart.false) in (
      dealt_more c.args.ids.now c.as_slice-rest.result.now c.loop-id.hidden.items c.push.new.self.items c.loop-id.rest.now c.in_ok-runs.others.now c.loop-id.id-index c.in_ok-runs.runs.items c.from_vec.result c.loop-id-test.true c.loop-id.invariant.0
          c.in_ok-runs.ensures.found apart c.from_vec.ensures c.in_ok-push.ensures.items,
      λ all have.
          let next = ahead c.args.bytes.now c.args.ids.now all c.loop-id.hidden.items c.loop-id.rest.now c.in_ok-runs.others.now c.loop-id.id-index c.in_ok-runs.runs.items c.loop-id-test.true c.requires have (c.loop-id.invariant.1 all have)
          c.in_ok-runs.ensures.found c.in_ok-runs.ensures.stops in
          leads_more c.args.bytes.now c.args.ids.now all c.loop-id.hidden.items c.push.new.self.items c.loop-id.rest.now c.in_ok-runs.others.now c.loop-id.id-index c.in_ok-runs.runs.items c.from_vec.result c.loop-id-test.true have
          (c.loop-id.invariant.1 all have) next c.from_vec.ensures c.in_ok-push.ensures.items,
    )

pub returns-then-not-are_apart-clause-bad : goal.returns-then-not-are_apart-clause-bad
returns-then-not-are_apart-clause-bad c = λ was all have.
    let next = ahead c.args.bytes.now c.args.ids.now all c.loop-id.hidden.items c.loop-id.rest.now c.in_ok-runs.others.now c.loop-id.id-index c.in_ok-runs.runs.items c.loop-id-test.true c.requires have (c.loop-id.invariant.1 all have)
    c.in_ok-runs.ensures.found c.in_ok-runs.ensures.stops in
    let yes : c.are_apart.result ≡ true = c.are_apart.ensures.complete (subst AreApart (sym (c.deref.ensures.value ∙ next.same)) next.apart) in
    absurd (cc (yes, c.if-not-are_apart.true))

pub returns-then-not-is_empty-clause-bad : goal.returns-then-not-is_empty-clause-bad
returns-then-not-is_empty-clause-bad c = λ was all have.
    let some : 0 < length c.loop-id.rest.now = search rules in
    let done = leads_all c.args.bytes.now c.args.ids.now all c.loop-id.hidden.items c.loop-id.rest.now c.loop-id.id-index c.loop-id-test.false have (c.loop-id.invariant.1 all have) in
    omega (arith, some, ap length done.1)

pub returns-clause-found : goal.returns-clause-found
returns-clause-found c =
    let none : length c.loop-id.rest.now ≡ 0 = search rules in
    let fit : All IsFit c.as_slice-rest.result.now = subst (All IsFit) (sym c.as_slice-rest.ensures.value) c.in_ok-tombstones.ensures.fit in
    dealt_all c.args.bytes.now c.args.ids.now c.as_slice-rest.result.now c.loop-id.hidden.items c.loop-id.rest.now c.loop-id.id-index (omega (arith, c.loop-id-test.false, c.loop-id.auto.id-index-end)) none c.loop-id.invariant.0 fit
    (c.in_ok-tombstones.ensures.found ∙ ap tombstones_text (sym c.as_slice-rest.ensures.value))

pub returns-clause-only : goal.returns-clause-only
returns-clause-only c = λ all have. (leads_all c.args.bytes.now c.args.ids.now all c.loop-id.hidden.items c.loop-id.rest.now c.loop-id.id-index c.loop-id-test.false have (c.loop-id.invariant.1 all have)).0
