use Rattle.std.proofs.Common.{◌≡◌, ◌≤◌, ◌-◌, ◌++◌, length, map, drop}
use Rattle.std.specs.List.{zip, AllByRecursion}
use Rattle.wal_record.specs.Labels.{compare_label}
use Rattle.index_text.specs.Index.{postings_body}
use Rattle.index_text.specs.Layout.{put_all, places}
use Rattle.index_text.specs.Lent.{row_label_of, label_place_of}
use Rattle.index_text.specs.Posted.{ids_at, labels_in, lists_of}
use Rattle.index_text.specs.Rows.{IsSmall}
use Rattle.index_text.proofs.GroupLaws.{KeysRise, groups}
use Rattle.index_text.proofs.IndexSteps.{label_in}
use Rattle.index_text.proofs.groups.put_lists.Given as goal

abbrev pub decreases-loop-start : goal.decreases-loop-start
decreases-loop-start l = length l.labels - l.start

abbrev pub invariant-loop-start : goal.invariant-loop-start
invariant-loop-start l = record {
  within : l.start ≤ length l.labels;
  text : put_all 4 l.out.items (lists_of l.ids (map row_label_of (drop l.start l.labels))) ≡ put_all 4 l.fn.out.items (lists_of l.ids (map row_label_of l.labels));
  listed : map label_place_of l.listed.items ++ zip (labels_in (map row_label_of (drop l.start l.labels))) (places 4 l.out.items (lists_of l.ids (map row_label_of (drop l.start l.labels))))
      ≡ map label_place_of l.fn.listed.items ++ zip (labels_in (map row_label_of l.labels)) (places 4 l.fn.out.items (lists_of l.ids (map row_label_of l.labels)));
  rises : KeysRise label_in compare_label (map row_label_of (drop l.start l.labels));
  small : AllByRecursion IsSmall (groups label_in compare_label (λ ms. length (postings_body (ids_at l.ids ms))) (map row_label_of (drop l.start l.labels)))
      → AllByRecursion IsSmall (groups label_in compare_label (λ ms. length (postings_body (ids_at l.ids ms))) (map row_label_of l.labels));
  fits : AllByRecursion IsSmall (groups label_in compare_label (λ ms. length (postings_body (ids_at l.ids ms))) (map row_label_of l.labels))
      → AllByRecursion IsSmall (groups label_in compare_label (λ ms. length (postings_body (ids_at l.ids ms))) (map row_label_of (drop l.start l.labels)));
}
