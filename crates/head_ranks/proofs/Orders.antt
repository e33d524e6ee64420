-- The orders of ranks are total.
use Rattle.std.specs.Cmp.{IsTotalOrder}
use Rattle.std.proofs.lemmas.Cmp.{back_total, nat_cmp_total, nat_list_cmp_total, on_total, then_total}
use Rattle.head_ranks.specs.declared.counts.LabelCount.{LabelCount}
use Rattle.head_ranks.specs.declared.counts.NameCount.{NameCount}
use Rattle.head_ranks.specs.Ranked.{compare_samples, compare_series, compare_text, compare_values}

text_total : IsTotalOrder compare_text
text_total = then_total (on_total (λ (c : LabelCount). c.name.now) nat_list_cmp_total) (on_total (λ (c : LabelCount). c.value.now) nat_list_cmp_total)

pub series_total : IsTotalOrder compare_series
series_total = then_total (back_total (on_total (λ (c : LabelCount). c.series) nat_cmp_total)) text_total

pub samples_total : IsTotalOrder compare_samples
samples_total = then_total (back_total (on_total (λ (c : LabelCount). c.samples) nat_cmp_total)) text_total

pub values_total : IsTotalOrder compare_values
values_total = then_total (back_total (on_total (λ (c : NameCount). c.values) nat_cmp_total)) (on_total (λ (c : NameCount). c.name.now) nat_list_cmp_total)
