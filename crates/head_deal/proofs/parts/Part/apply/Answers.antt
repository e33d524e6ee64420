use Rattle.std.proofs.Common.{◌<◌, length, arith}
use Rattle.head_deal.specs.Batches.{flat}
use Rattle.head_deal.specs.Entries.{entries}
use Rattle.head_deal.proofs.AtOnce.{part_applied, part_changed}
use Rattle.head_deal.proofs.Entries.{length-strided}
use Rattle.head_deal.proofs.parts.Part.apply.Goals as goal

pub index_mut-requires : goal.index_mut-requires
index_mut-requires g c =
    let s = c.self.inside in
    let low = rw (← c.self.view_is) at c.requires in
    let l = length-strided s.worker s.workers s.builders.items in
    let within : c.args.element < length s.builders.items = omega arith in
    rw s.builders.ok.0 within

pub returns : goal.returns
returns g c =
    let b = g.B.Builder in
    let s = c.self.inside in
    let low = rw (← c.self.view_is) at c.requires in
    let l = length-strided s.worker s.workers s.builders.items in
    let within : c.args.element < length s.builders.items = omega arith in
    let jobs = entries s.worker s.workers (flat s.batches.items) s.outcomes.items in
    let is = part_changed b.value b.after b.outcome s.tag s.workers s.worker s.all_slots s.all_jobs s.builders.items jobs c.args.element c.index_mut.result.now c.apply.new.self c.index_mut.ensures.value within in
    rw (← c.self.view_is) (part_applied b.value b.after b.outcome _ _ c.args.element c.args.item.now c.apply.result c.index_mut.result.now c.apply.new.self is c.apply.ensures.changed c.apply.ensures.told c.apply.ensures.refused)
