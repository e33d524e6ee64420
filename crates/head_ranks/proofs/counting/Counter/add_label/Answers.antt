use Rattle.std.proofs.Common.{◌+◌, ℕ, refl, ap, ◌∙◌, arith}
use Rattle.std.specs.Vec.{with_item}
use Rattle.std.proofs.lemmas.Result.{on_ok_weaker}
use Rattle.head_ranks.specs.declared.counts.LabelCount.{LabelCount}
use Rattle.head_ranks.specs.declared.counting.LabelKey.{LabelKey}
use Rattle.head_ranks.specs.Counts.{label_of}
use Rattle.head_ranks.proofs.Tallies.{label_hinted, label_new, label_old}
use Rattle.head_ranks.proofs.counting.Counter.add_label.Goals as goal

pub returns-in-Some : goal.returns-in-Some
returns-in-Some c = λ before labels h size once is.
    let k : LabelKey = record { name = c.args.name; value = c.args.value } in
    let old : LabelCount = c.index_mut.result.now in
    let value = c.index_mut.ensures.value in
    on_ok_weaker c.add.result (λ add.
    label_hinted before labels h k once c.args.self.now (record { seen = c.args.self.now.seen; counts = with_item c.args.self.now.counts c.in-Some.at c.add.new.self; places = c.args.self.now.places }) c.in-Some.at c.add.new.self is
    old (ap label_of value ∙ c.in-Some.ensures.label old) refl (ap (λ (x : LabelCount). record { name = x.name.now; value = x.value.now }) add) c.in-Some.ensures.within refl value
    (ap (λ (x : LabelCount). x.series) add) (ap (λ (x : LabelCount). x.samples) add ∙ ap (λ (n : ℕ). old.samples + n) size)) c.add.ensures

pub returns-then-at-len : goal.returns-then-at-len
returns-then-at-len c = λ before labels h size once is.
    let k : LabelKey = record { name = c.args.name; value = c.args.value } in
    let old : LabelCount = c.index_mut-then-at-len.result.now in
    let long = c.args.self.now.counts.ok.0 in
    on_ok_weaker c.add-then-at-len.result (λ add.
    label_old before labels h k once c.args.self.now (record { seen = c.insert_full.new.self; counts = with_item c.args.self.now.counts c.in_ok-at.at c.add-then-at-len.new.self; places = c.set_place.new.places }) c.in_ok-at.at c.add-then-at-len.new.self is c.in_ok-at.ensures.keys c.in_ok-at.ensures.index
    old (ap (λ (x : LabelCount). record { name = x.name.now; value = x.value.now }) add) (omega (arith, long)) refl c.index_mut-then-at-len.ensures.value
    (ap (λ (x : LabelCount). x.series) add) (ap (λ (x : LabelCount). x.samples) add ∙ ap (λ (n : ℕ). old.samples + n) size)) c.add-then-at-len.ensures

pub returns-in_ok-push : goal.returns-in_ok-push
returns-in_ok-push c = λ before labels h size once is.
    let k : LabelKey = record { name = c.args.name; value = c.args.value } in
    let long = c.args.self.now.counts.ok.0 in
    label_new before labels h k once c.args.self.now (record { seen = c.insert_full.new.self; counts = c.push.new.self; places = c.set_place.new.places }) c.in_ok-at.at (record { name = c.args.name; value = c.args.value; series = 1; samples = c.args.samples }) is c.in_ok-at.ensures.keys c.in_ok-at.ensures.index
    refl (omega (arith, long)) c.in_ok-push.ensures.items refl size
