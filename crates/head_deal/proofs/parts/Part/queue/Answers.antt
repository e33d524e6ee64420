use Rattle.std.proofs.Common.{◌≡◌, ◌<◌, ◌++◌, ◌∷◌, [], map, length, arith, ap, ◌∙◌}
use Rattle.std.proofs.lemmas.List.{length-append, length-map}
use Rattle.head_deal.specs.Dealing.{strided}
use Rattle.head_deal.specs.Batches.{flat, shifted}
use Rattle.head_deal.specs.Entries.{entries}
use Rattle.head_deal.specs.declared.batches.ItemBatch.{ItemBatch}
use Rattle.head_deal.proofs.Entries.{length-strided}
use Rattle.head_deal.proofs.Flat.{flat-push, entries-append, all-append, all-shifted}
use Rattle.head_deal.proofs.parts.Part.queue.Goals as goal

pub invariant_of-self-2 : goal.invariant_of-self-2
invariant_of-self-2 g c =
    let s = c.self.inside in
    let i = c.self.invariant in
    let b : ItemBatch _ = record { base = c.args.base; dues = c.args.dues } in
    let e : flat (s.batches.items ++ b ∷ []) ≡ flat s.batches.items ++ map (shifted c.args.base) c.args.dues.items = flat-push s.batches.items b in
    let n = length-append (flat s.batches.items) (map (shifted c.args.base) c.args.dues.items) in
    let m = length-map c.args.dues.items (shifted c.args.base) in
    let long : c.len.result ≡ length c.args.dues.items = c.len.ensures ∙ c.args.dues.ok.0 in
    let plus = c.in-Some.ensures in
    let some = i.2 in
    let count = i.4 in
    let fit = rw (← c.self.view_is) at c.requires in
    let fit' = rw (length-strided s.worker s.workers s.builders.items) at fit in
    rw (c.in_ok-push.ensures.items, e) (i.0, all-append (λ due. due.element < length s.builders.items) (flat s.batches.items) _ i.1 (all-shifted c.args.base (length s.builders.items) c.args.dues.items fit'), omega arith, i.3, omega arith, i.5)

pub returns : goal.returns
returns g c =
    let s = c.self.inside in
    let i = c.self.invariant in
    let b : ItemBatch _ = record { base = c.args.base; dues = c.args.dues } in
    let e : flat (s.batches.items ++ b ∷ []) ≡ flat s.batches.items ++ map (shifted c.args.base) c.args.dues.items = flat-push s.batches.items b in
    rw (← c.self.view_is, c.in_ok-push.ensures.items) (ap (λ x. record { tag = s.tag; workers = s.workers; worker = s.worker; all_slots = s.all_slots; all_jobs = s.all_jobs; slots = strided s.worker s.workers s.builders.items; jobs = x }) (ap (λ x. entries s.worker s.workers x s.outcomes.items) e ∙ entries-append s.worker s.workers (flat s.batches.items) (map (shifted c.args.base) c.args.dues.items) s.outcomes.items i.2))
