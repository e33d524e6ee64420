use Rattle.std.proofs.Common.{ap, sym, refl, ◌∙◌, arith, length}
use Rattle.std.proofs.lemmas.Bool.{false≢true}
use Rattle.wal_record.specs.Labels.{same_labels}
use Rattle.head_series.specs.Room.{Planned}
use Rattle.head_series.specs.Table.{has_series}
use Rattle.head_series.proofs.Places.{place_some, place_none}
use Rattle.head_series.proofs.plan.Plan.is_at_limit.Goals as goal

pub returns-in-Some : goal.returns-in-Some
returns-in-Some c =
    let known = place_some (same_labels c.args.labels.now) c.args.table.now.series c.in-Some.field-0 (sym c.in-Some.ensures.slot) in (
      λ e. absurd (false≢true e),
      λ h. absurd (false≢true (sym h.0 ∙ known)),
    )

pub returns-in-Some-find_labels : goal.returns-in-Some-find_labels
returns-in-Some-find_labels c =
    let was = ap (λ (p : Planned). p.series) c.self.view_is in
    let known = place_some (same_labels c.args.labels.now) c.self.inside.series.series c.in-Some-find_labels.field-0 (sym c.in-Some-find_labels.ensures.slot) in (
      λ e. absurd (false≢true e),
      λ h. absurd (false≢true (sym h.1 ∙ ap (λ ss. has_series ss c.args.labels.now) (sym was) ∙ known)),
    )

pub returns-in-None-find_labels : goal.returns-in-None-find_labels
returns-in-None-find_labels c =
    let was = ap (λ (p : Planned). p.series) c.self.view_is in
    let long = ap length was in
    let table = c.len.ensures.count in
    let planned = c.len-2.ensures.count in (
      λ e. (
        place_none (same_labels c.args.labels.now) c.args.table.now.series (sym c.in-None.ensures.slot),
        ap (λ ss. has_series ss c.args.labels.now) (sym was) ∙ place_none (same_labels c.args.labels.now) c.self.inside.series.series (sym c.in-None-find_labels.ensures.slot),
        omega (arith, table, planned, long, c.if-series-most.false),
      ),
      λ h. refl,
    )
