use Rattle.std.proofs.Common.{inl, inr, rules, ◌≡◌, ◌∙◌, arith, ap, length, sym}
use Rattle.std.specs.Iterator.Adapters.{zip_first, zip_second}
use Rattle.std.specs.Vec.Iter.{into_iter_items}
use Rattle.std.proofs.lemmas.List.{nil_from_length}
use Rattle.crew.proofs.BothDone.{held_all, held_more, held_none}
use Rattle.crew.proofs.turns.in_turn.Goals as goal

pub loop-first-init : goal.loop-first-init
loop-first-init g c =
    let first : into_iter_items (zip_first c.into_iter-first-iterator.result) ≡ c.args.first.items =
    ap (λ z. into_iter_items (zip_first z)) c.into_iter-first-iterator.ensures.into_iter_gives ∙ ap into_iter_items c.zip-first-items.ensures.first ∙ c.into_iter.ensures.rest in
    let second : into_iter_items (zip_second c.into_iter-first-iterator.result) ≡ c.args.second.items =
    ap (λ z. into_iter_items (zip_second z)) c.into_iter-first-iterator.ensures.into_iter_gives ∙ c.zip-first-items.ensures.second.0 in
    let same : length c.args.first.items ≡ length c.args.second.items = search rules in (
      held_none (λ job. job.first) c.in_ok-jobs.jobs.items _ _ c.in_ok-jobs.ensures.items first,
      held_none (λ job. job.second) c.in_ok-jobs.jobs.items _ _ c.in_ok-jobs.ensures.items second,
      ap length first ∙ same ∙ sym (ap length second),
    )

pub loop-first-preserved : goal.loop-first-preserved
loop-first-preserved g c =
    let steps = c.in-Some.ensures.steps in
    let i = c.loop-first.invariant in (
      held_more (λ job. job.first) c.loop-first.jobs.items c.push.new.self.items _ _ _ _ c.in_ok-push.ensures.items steps.0.0 i.0,
      held_more (λ job. job.second) c.loop-first.jobs.items c.push.new.self.items _ _ _ _ c.in_ok-push.ensures.items steps.1.0 i.1,
      omega (arith, ap length steps.0.0, ap length steps.1.0, i.2),
    )

pub returns-clause-first : goal.returns-clause-first
returns-clause-first g c =
    let i = c.loop-first.invariant in
    let count : length (into_iter_items (zip_first c.loop-first.first-iterator)) ≡ 0 =
    elim c.in-None.ensures.steps [ inl w ↦ search rules | inr w ↦ (let none : length (into_iter_items (zip_second c.loop-first.first-iterator)) ≡ 0 = search rules in i.2 ∙ none) ] in
    held_all (λ job. job.first) c.loop-first.jobs.items _ _ (nil_from_length _ count) i.0

pub returns-clause-second : goal.returns-clause-second
returns-clause-second g c =
    let i = c.loop-first.invariant in
    let count : length (into_iter_items (zip_second c.loop-first.first-iterator)) ≡ 0 =
    elim c.in-None.ensures.steps [ inl w ↦ (let none : length (into_iter_items (zip_first c.loop-first.first-iterator)) ≡ 0 = search rules in sym i.2 ∙ none) | inr w ↦ search rules ] in
    held_all (λ job. job.second) c.loop-first.jobs.items _ _ (nil_from_length _ count) i.1
