use Rattle.std.proofs.Common.{◌≡◌, ◌≤◌, ◌-◌, ◌++◌, length, map, drop}
use Rattle.std.specs.List.{zip, AllByRecursion}
use Rattle.wal_record.specs.declared.labels.Label.{Label}
use Rattle.index_text.specs.Gives.{nows}
use Rattle.index_text.specs.Index.{label_index_body, label_indices_of, names_in}
use Rattle.index_text.specs.Layout.{put_all, places}
use Rattle.index_text.specs.Lent.{label_of, name_place_of}
use Rattle.index_text.specs.Rows.{IsSmall}
use Rattle.index_text.specs.Sets.{text_cmp}
use Rattle.index_text.proofs.GroupLaws.{KeysRise, groups}
use Rattle.index_text.proofs.groups.put_label_indices.Given as goal

abbrev pub decreases-loop-start : goal.decreases-loop-start
decreases-loop-start l = length l.labels - l.start

abbrev pub invariant-loop-start : goal.invariant-loop-start
invariant-loop-start l = record {
  within : l.start ≤ length l.labels;
  text : put_all 4 l.out.items (label_indices_of (nows l.table) (map label_of (drop l.start l.labels))) ≡ put_all 4 l.fn.out.items (label_indices_of (nows l.table) (map label_of l.labels));
  named : map name_place_of l.named.items ++ zip (names_in (map label_of (drop l.start l.labels))) (places 4 l.out.items (label_indices_of (nows l.table) (map label_of (drop l.start l.labels))))
      ≡ zip (names_in (map label_of l.labels)) (places 4 l.fn.out.items (label_indices_of (nows l.table) (map label_of l.labels)));
  rises : KeysRise (λ (p : Label). p.name) text_cmp (map label_of (drop l.start l.labels));
  small : AllByRecursion IsSmall (groups (λ (p : Label). p.name) text_cmp (λ ms. length (label_index_body (nows l.table) (map (λ (p : Label). p.value) ms))) (map label_of (drop l.start l.labels)))
      → AllByRecursion IsSmall (groups (λ (p : Label). p.name) text_cmp (λ ms. length (label_index_body (nows l.table) (map (λ (p : Label). p.value) ms))) (map label_of l.labels));
  fits : AllByRecursion IsSmall (groups (λ (p : Label). p.name) text_cmp (λ ms. length (label_index_body (nows l.table) (map (λ (p : Label). p.value) ms))) (map label_of l.labels))
      → AllByRecursion IsSmall (groups (λ (p : Label). p.name) text_cmp (λ ms. length (label_index_body (nows l.table) (map (λ (p : Label). p.value) ms))) (map label_of (drop l.start l.labels)));
}
