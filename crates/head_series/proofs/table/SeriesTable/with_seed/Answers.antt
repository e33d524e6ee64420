use Rattle.std.proofs.Common.{List, ap, ◌∙◌, refl}
use Rattle.std.specs.Prelude.{map}
use Rattle.head_series.specs.declared.rows.Row.{Row}
use Rattle.head_series.specs.Rows.{labels_in}
use Rattle.series_references.proofs.SlotLemmas.{shown_slot}
use Rattle.head_series.proofs.BindLemmas.{table_of_none}
use Rattle.head_series.proofs.table.SeriesTable.with_seed.Goals as goal

pub returns-clause-slots : goal.returns-clause-slots
returns-clause-slots c r = shown_slot c.new-2.result.slots r ∙ c.new-2.ensures.slots r

pub returns-clause-table : goal.returns-clause-table
returns-clause-table c = table_of_none _
    (ap (λ (rs : List Row). map (labels_in c.with_seed.result.texts) (map (λ (r : Row). r.numbers.items) rs)) c.new.ensures.items) (λ r. shown_slot c.new-2.result.slots r ∙ c.new-2.ensures.slots r) refl c.with_seed.ensures.texts
