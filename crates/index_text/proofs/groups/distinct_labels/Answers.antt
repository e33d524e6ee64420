use Rattle.std.proofs.Common.{◌≡◌, ◌+◌, ◌++◌, ◌∷◌, [], List, ℕ, map, drop, ap, sym, subst, ◌∙◌, append_assoc, arith}
use Rattle.std.specs.Ordering.{nat_cmp}
use Rattle.std.proofs.lemmas.List.{drop_all, drop-drop, map-append, append-nil}
use Rattle.wal_record.specs.declared.labels.Label.{Label}
use Rattle.wal_record.specs.Labels.{compare_label, same_label}
use Rattle.index_text.specs.declared.ordering.RowLabel.{RowLabel}
use Rattle.index_text.specs.Groups.{run_length}
use Rattle.index_text.specs.Lent.{label_of, row_label_of}
use Rattle.index_text.specs.Posted.{labels_in}
use Rattle.index_text.proofs.GroupLaws.{KeysRise}
use Rattle.index_text.proofs.GroupLoops.{KeysRise-ascending}
use Rattle.index_text.proofs.IndexSteps.{label_in, label_some, label_names, label_rises}
use Rattle.index_text.proofs.Orders.{label_total}
use Rattle.index_text.proofs.groups.distinct_labels.Goals as goal

pub loop-start-init : goal.loop-start-init
loop-start-init c = record {
  within = omega arith;
  listed = ap (λ ds. map label_of ds ++ labels_in (map row_label_of c.args.labels.now)) c.new-distinct.ensures.items;
  rises = KeysRise-ascending label_in compare_label label_total (λ (a b : Label × ℕ). nat_cmp a.1 b.1) (map row_label_of c.args.labels.now) c.requires;
}

pub loop-start-preserved : goal.loop-start-preserved
loop-start-preserved c =
    let labels : List RowLabel = c.args.labels.now in
    let start : ℕ = c.loop-start.start in
    let m : ℕ = c.run_length-start.result in
    let shape : drop start labels ≡ c.element_at-first.result ∷ drop (start + 1) labels = c.element_at-first.ensures in
    let cut : c.split_at.result.1.now ≡ drop start labels = c.split_at.ensures.back in
    let long : m ≡ run_length (λ (y : RowLabel). same_label (label_of y.label) (label_of c.element_at-first.result.label)) (drop start labels) = c.run_length-start.ensures.exact ∙ ap (run_length (λ (y : RowLabel). same_label (label_of y.label) (label_of c.element_at-first.result.label))) cut in
    let next : drop m (drop start labels) ≡ drop (start + m) labels = drop-drop m start labels in
    let up = c.loop-start.invariant.rises in
    let names = label_names labels start m c.element_at-first.result shape up long in
    let pushed = ap (map label_of) c.in_ok-push.ensures.items ∙ map-append label_of c.loop-start.distinct.items _ in
    record {
      within = omega (arith, c.run_length-start.ensures.within, c.split_at.ensures.back_len, c.loop-start.invariant.within, c.loop-start-test.true);
      listed = ap (λ ns. ns ++ labels_in (map row_label_of (drop (start + m) labels))) pushed
          ∙ append_assoc (map label_of c.loop-start.distinct.items) (label_of c.element_at-first.result.label ∷ []) (labels_in (map row_label_of (drop (start + m) labels)))
          ∙ ap (λ d. map label_of c.loop-start.distinct.items ++ (label_of c.element_at-first.result.label ∷ labels_in (map row_label_of d))) (sym next)
          ∙ ap (λ ns. map label_of c.loop-start.distinct.items ++ ns) (sym names)
          ∙ c.loop-start.invariant.listed;
      rises = subst (λ d. KeysRise label_in compare_label (map row_label_of d)) next (label_rises labels start m c.element_at-first.result shape up long);
    }

pub loop-start-smaller : goal.loop-start-smaller
loop-start-smaller c =
    let cut : c.split_at.result.1.now ≡ drop c.loop-start.start c.args.labels.now = c.split_at.ensures.back in
    let long : c.run_length-start.result ≡ run_length (λ (y : RowLabel). same_label (label_of y.label) (label_of c.element_at-first.result.label)) (drop c.loop-start.start c.args.labels.now) = c.run_length-start.ensures.exact ∙ ap (run_length (λ (y : RowLabel). same_label (label_of y.label) (label_of c.element_at-first.result.label))) cut in
    let more = label_some c.args.labels.now c.loop-start.start c.run_length-start.result c.element_at-first.result c.element_at-first.ensures c.loop-start.invariant.rises long in
    omega (arith, more, c.loop-start-test.true)

pub returns : goal.returns
returns c =
    let none : drop c.loop-start.start c.args.labels.now ≡ [] = drop_all c.loop-start.start c.args.labels.now (omega (arith, c.loop-start-test.false)) in
    sym (append-nil (map label_of c.loop-start.distinct.items)) ∙ ap (λ d. map label_of c.loop-start.distinct.items ++ labels_in (map row_label_of d)) (sym none) ∙ c.loop-start.invariant.listed
