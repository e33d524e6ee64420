use Rattle.std.proofs.Common.{◌≡◌, ◌<◌, ◌/◌, ◌^◌, ℕ, length, take, map}
use Rattle.std.specs.List.{AllByRecursion}
use Rattle.index_text.specs.declared.row.IndexRow.{IndexRow}
use Rattle.index_text.specs.Gives.{nows}
use Rattle.index_text.specs.Layout.{counted, put_all, places}
use Rattle.index_text.specs.Index.{series_body}
use Rattle.index_text.proofs.writer.put_series.Given as goal

abbrev pub invariant-loop-row : goal.invariant-loop-row
invariant-loop-row l = record {
  text : l.out.items ≡ put_all 16 l.fn.out.items (map (λ (r : IndexRow). counted (series_body (nows l.table) r)) (take l.row-index l.rows));
  small : AllByRecursion (λ (r : IndexRow). length (series_body (nows l.table) r) < 2 ^ 32) (take l.row-index l.rows);
  small_ids : AllByRecursion (λ (id : ℕ). id < 2 ^ 32) l.ids.items;
  ids : l.ids.items ≡ map (λ n. n / 16) (places 16 l.fn.out.items (map (λ (r : IndexRow). counted (series_body (nows l.table) r)) (take l.row-index l.rows)));
}
