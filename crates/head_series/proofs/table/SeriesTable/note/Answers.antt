use Rattle.std.proofs.Common.{◌≡◌, true, inl, inr, ap, sym, ◌∙◌, arith, length}
use Rattle.wal_record.specs.Labels.{same_labels}
use Rattle.head_series.specs.Room.{Planned}
use Rattle.head_series.specs.Table.{has_series, with_series}
use Rattle.head_series.proofs.Places.{place_some, place_none}
use Rattle.head_series.proofs.PlanLemmas.{front_same, noted_new, plan_same, plan_kept, plan_new, plan_full, was_there}
use Rattle.head_series.proofs.table.SeriesTable.note.Goals as goal

pub returns-in-Some-clause-plan : goal.returns-in-Some-clause-plan
returns-in-Some-clause-plan c bs r h =
    plan_same c.args.self.now bs (record { reference = r; labels = c.args.labels.now }) c.args.plan.now h
    (front_same (same_labels c.args.labels.now) c.args.self.now.series c.args.plan.now.series (place_some (same_labels c.args.labels.now) c.args.self.now.series c.in-Some.field-0 (sym c.in-Some.ensures.slot)))

pub returns-then-not-bound-clause-plan : goal.returns-then-not-bound-clause-plan
returns-then-not-bound-clause-plan c bs r h =
    let was = ap (λ (p : Planned). p.series) c.plan.view_is in
    let kept : has_series c.plan.inside.series.series c.args.labels.now ≡ true = was_there c.in-Ok.bound.created (has_series c.plan.inside.series.series c.args.labels.now) c.in-Ok.ensures.created c.if-not-bound.true in
    plan_kept c.args.self.now bs (record { reference = r; labels = c.args.labels.now }) c.args.plan.now
    (record { series = c.bind.new.self.series; texts = c.plan.inside.texts.texts; bindings = c.plan.inside.bindings; texts_most = c.plan.inside.texts_most; high = c.plan.inside.high }) h
    (ap (λ ss. has_series ss c.args.labels.now) (sym was) ∙ kept) (c.in-Ok.ensures.series ∙ ap (λ ss. with_series ss c.args.labels.now) was) (ap (λ (p : Planned). p.texts) c.plan.view_is)

pub returns-then-series-self-clause-full : goal.returns-then-series-self-clause-full
returns-then-series-self-clause-full c bs r h _ =
    let n = noted_new c.args.self.now c.args.plan.now c.args.labels.now c.plan.inside.series.series c.bind.new.self.series c.self.inside.texts.texts c.plan.inside.texts.texts c.note.new.more.texts c.in-Ok.bound.created
    (ap (λ (p : Planned). p.series) c.plan.view_is) (ap (λ t. t.texts) c.self.view_is) (ap (λ (p : Planned). p.texts) c.plan.view_is) c.in-Ok.ensures.created c.if-not-bound.false
    (place_none (same_labels c.args.labels.now) c.args.self.now.series (sym c.in-None.ensures.slot)) c.in-Ok.ensures.series c.in-Ok-note.ensures in
    let most = ap (λ t. t.most) c.self.view_is in
    let table = c.len.ensures.count in
    let planned = c.len-2.ensures.count in
    plan_full c.args.self.now bs (record { reference = r; labels = c.args.labels.now }) c.args.plan.now c.bind.new.self.series c.note.new.more.texts h n (inl (omega (arith, table, planned, most, c.if-series-self.true)))

pub returns-then-texts-self-clause-full : goal.returns-then-texts-self-clause-full
returns-then-texts-self-clause-full c bs r h _ =
    let n = noted_new c.args.self.now c.args.plan.now c.args.labels.now c.plan.inside.series.series c.bind.new.self.series c.self.inside.texts.texts c.plan.inside.texts.texts c.note.new.more.texts c.in-Ok.bound.created
    (ap (λ (p : Planned). p.series) c.plan.view_is) (ap (λ t. t.texts) c.self.view_is) (ap (λ (p : Planned). p.texts) c.plan.view_is) c.in-Ok.ensures.created c.if-not-bound.false
    (place_none (same_labels c.args.labels.now) c.args.self.now.series (sym c.in-None.ensures.slot)) c.in-Ok.ensures.series c.in-Ok-note.ensures in
    let most = ap (λ t. t.most) c.self.view_is in
    let long = ap length (ap (λ t. t.texts) c.self.view_is) in
    let table = c.len-3.ensures.count in
    let planned = c.len-4.ensures.count in
    plan_full c.args.self.now bs (record { reference = r; labels = c.args.labels.now }) c.args.plan.now c.bind.new.self.series c.note.new.more.texts h n (inr (omega (arith, long, table, planned, most, c.if-texts-self.true)))

pub returns-clause-plan : goal.returns-clause-plan
returns-clause-plan c bs r h =
    let n = noted_new c.args.self.now c.args.plan.now c.args.labels.now c.plan.inside.series.series c.bind.new.self.series c.self.inside.texts.texts c.plan.inside.texts.texts c.note.new.more.texts c.in-Ok.bound.created
    (ap (λ (p : Planned). p.series) c.plan.view_is) (ap (λ t. t.texts) c.self.view_is) (ap (λ (p : Planned). p.texts) c.plan.view_is) c.in-Ok.ensures.created c.if-not-bound.false
    (place_none (same_labels c.args.labels.now) c.args.self.now.series (sym c.in-None.ensures.slot)) c.in-Ok.ensures.series c.in-Ok-note.ensures in
    let most = ap (λ t. t.most) c.self.view_is in
    let long = ap length (ap (λ t. t.texts) c.self.view_is) in
    let table = c.len.ensures.count in
    let planned = c.len-2.ensures.count in
    let table_texts = c.len-3.ensures.count in
    let planned_texts = c.len-4.ensures.count in
    plan_new c.args.self.now bs (record { reference = r; labels = c.args.labels.now }) c.args.plan.now
    (record { series = c.bind.new.self.series; texts = c.note.new.more.texts; bindings = c.plan.inside.bindings; texts_most = c.plan.inside.texts_most; high = c.plan.inside.high }) h n
    (omega (arith, table, planned, most, c.if-series-self.false)) (omega (arith, long, table_texts, planned_texts, most, c.if-texts-self.false))
