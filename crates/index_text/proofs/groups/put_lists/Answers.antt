use Rattle.std.proofs.Common.{rules, ◌≡◌, ◌+◌, ◌^◌, ◌<◌, ◌≤◌, ◌++◌, ◌∷◌, [], List, ℕ, length, map, take, drop, refl, ap, sym, subst, ◌∙◌, arith}
use Rattle.std.specs.List.{zip, AllByRecursion}
use Rattle.std.specs.Ordering.{nat_cmp}
use Rattle.std.proofs.lemmas.List.{drop_all, drop-drop, map-append}
use Rattle.wal_record.specs.declared.labels.Label.{Label}
use Rattle.wal_record.specs.Labels.{compare_label, same_label}
use Rattle.index_text.specs.declared.ordering.RowLabel.{RowLabel}
use Rattle.index_text.specs.Groups.{run_length}
use Rattle.index_text.specs.Index.{postings_body}
use Rattle.index_text.specs.Layout.{framed, put_all, places}
use Rattle.index_text.specs.Lent.{label_of, row_label_of, label_place_of}
use Rattle.index_text.specs.Posted.{ids_at, labels_in, lists_of}
use Rattle.index_text.specs.Rows.{IsSmall}
use Rattle.index_text.proofs.GroupLaws.{KeysRise, groups}
use Rattle.index_text.proofs.GroupLoops.{put_step, entries_step, sizes_of, of_sizes, with_first, first_of, others_of, KeysRise-ascending}
use Rattle.index_text.proofs.IndexSteps.{label_in, label_some, label_names, label_parts, label_rises}
use Rattle.index_text.proofs.Orders.{label_total}
use Rattle.index_text.proofs.groups.put_lists.Goals as goal

pub loop-start-init : goal.loop-start-init
loop-start-init c = record {
  within = omega arith;
  text = refl;
  listed = refl;
  rises = KeysRise-ascending label_in compare_label label_total (λ (a b : Label × ℕ). nat_cmp a.1 b.1) (map row_label_of c.args.labels.now) c.requires.ascending;
  small = λ h. h;
  fits = λ h. h;
}

pub loop-start-preserved : goal.loop-start-preserved
loop-start-preserved c =
    let ids : List ℕ = c.args.ids.now in
    let labels : List RowLabel = c.args.labels.now in
    let start : ℕ = c.loop-start.start in
    let m : ℕ = c.run_length.result in
    let shape : drop start labels ≡ c.element_at-first.result ∷ drop (start + 1) labels = c.element_at-first.ensures in
    let cut : c.split_at.result.1.now ≡ drop start labels = c.split_at.ensures.back in
    let long : m ≡ run_length (λ (y : RowLabel). same_label (label_of y.label) (label_of c.element_at-first.result.label)) (drop start labels) = c.run_length.ensures.exact ∙ ap (run_length (λ (y : RowLabel). same_label (label_of y.label) (label_of c.element_at-first.result.label))) cut in
    let run : c.split_at-in-loop-start.result.0.now ≡ take m (drop start labels) = c.split_at-in-loop-start.ensures.front ∙ ap (take m) cut in
    let len : length c.split_at-in-loop-start.result.0.now ≡ m = c.split_at-in-loop-start.ensures.front_len in
    let next : drop m (drop start labels) ≡ drop (start + length c.split_at-in-loop-start.result.0.now) labels = drop-drop m start labels ∙ ap (λ k. drop (start + k) labels) (sym len) in
    let up = c.loop-start.invariant.rises in
    let names = label_names labels start m c.element_at-first.result shape up long in
    let parts = label_parts labels start m c.element_at-first.result shape up long (λ ms. framed (postings_body (ids_at ids ms))) in
    let sizes = label_parts labels start m c.element_at-first.result shape up long (λ ms. length (postings_body (ids_at ids ms))) in
    let gathered : c.as_slice.result.now ≡ ids_at ids (map row_label_of (take m (drop start labels))) = c.as_slice.ensures.value ∙ c.in_ok-gather_ids.ensures ∙ ap (λ ls. ids_at ids (map row_label_of ls)) run in
    let done : c.put_ids.new.out.items ≡ c.put_padding.new.bytes.items ++ framed (postings_body (ids_at ids (map row_label_of (take m (drop start labels))))) =
    (c.in_ok-put_ids.ensures.text ∙ ap (λ vs. c.put_padding.new.bytes.items ++ framed (postings_body vs)) gathered) in
    let counted : c.len.result ≡ length c.put_padding.new.bytes.items = search rules in
    let pushed = ap (map label_place_of) c.in_ok-push.ensures.items ∙ map-append label_place_of c.loop-start.listed.items _ ∙ ap (λ n. map label_place_of c.loop-start.listed.items ++ (label_of c.element_at-first.result.label, n) ∷ []) counted in
    record {
      within = omega (arith, c.split_at-in-loop-start.ensures.back_len, c.split_at.ensures.back_len, c.loop-start.invariant.within, c.loop-start-test.true);
      text = ap (λ d. put_all 4 c.put_ids.new.out.items (lists_of ids (map row_label_of d))) (sym next)
          ∙ put_step 4 c.loop-start.out.items c.put_padding.new.bytes.items c.put_ids.new.out.items _ _ _ parts c.in_ok-put_padding.ensures done ∙ c.loop-start.invariant.text;
      listed = ap (λ ns. ns ++ zip (labels_in (map row_label_of (drop (start + length c.split_at-in-loop-start.result.0.now) labels))) (places 4 c.put_ids.new.out.items (lists_of ids (map row_label_of (drop (start + length c.split_at-in-loop-start.result.0.now) labels))))) pushed
          ∙ ap (λ d. (map label_place_of c.loop-start.listed.items ++ (label_of c.element_at-first.result.label, length c.put_padding.new.bytes.items) ∷ []) ++ zip (labels_in (map row_label_of d)) (places 4 c.put_ids.new.out.items (lists_of ids (map row_label_of d)))) (sym next)
          ∙ entries_step 4 c.loop-start.out.items c.put_padding.new.bytes.items c.put_ids.new.out.items (map label_place_of c.loop-start.listed.items) (label_of c.element_at-first.result.label) _ _ _ _ _ names parts c.in_ok-put_padding.ensures done
          ∙ c.loop-start.invariant.listed;
      rises = subst (λ d. KeysRise label_in compare_label (map row_label_of d)) next (label_rises labels start m c.element_at-first.result shape up long);
      small = λ h. c.loop-start.invariant.small (with_first IsSmall _ _ _ sizes (subst (λ vs. length (postings_body vs) < 2 ^ 32) gathered (c.in_ok-put_ids.ensures.small refl))
          (subst (λ d. AllByRecursion IsSmall (groups label_in compare_label (λ ms. length (postings_body (ids_at ids ms))) (map row_label_of d))) (sym next) h));
      fits = λ h. subst (λ d. AllByRecursion IsSmall (groups label_in compare_label (λ ms. length (postings_body (ids_at ids ms))) (map row_label_of d))) next (others_of IsSmall _ _ _ sizes (c.loop-start.invariant.fits h));
    }

pub loop-start-smaller : goal.loop-start-smaller
loop-start-smaller c =
    let cut : c.split_at.result.1.now ≡ drop c.loop-start.start c.args.labels.now = c.split_at.ensures.back in
    let long : c.run_length.result ≡ run_length (λ (y : RowLabel). same_label (label_of y.label) (label_of c.element_at-first.result.label)) (drop c.loop-start.start c.args.labels.now) = c.run_length.ensures.exact ∙ ap (run_length (λ (y : RowLabel). same_label (label_of y.label) (label_of c.element_at-first.result.label))) cut in
    let more = label_some c.args.labels.now c.loop-start.start c.run_length.result c.element_at-first.result c.element_at-first.ensures c.loop-start.invariant.rises long in
    omega (arith, more, c.split_at-in-loop-start.ensures.front_len, c.loop-start-test.true)

pub returns-in_err-put_ids-clause-large : goal.returns-in_err-put_ids-clause-large
returns-in_err-put_ids-clause-large c e h =
    let ids : List ℕ = c.args.ids.now in
    let labels : List RowLabel = c.args.labels.now in
    let start : ℕ = c.loop-start.start in
    let m : ℕ = c.run_length.result in
    let cut : c.split_at.result.1.now ≡ drop start labels = c.split_at.ensures.back in
    let long : m ≡ run_length (λ (y : RowLabel). same_label (label_of y.label) (label_of c.element_at-first.result.label)) (drop start labels) = c.run_length.ensures.exact ∙ ap (run_length (λ (y : RowLabel). same_label (label_of y.label) (label_of c.element_at-first.result.label))) cut in
    let run : c.split_at-in-loop-start.result.0.now ≡ take m (drop start labels) = c.split_at-in-loop-start.ensures.front ∙ ap (take m) cut in
    let sizes = label_parts labels start m c.element_at-first.result c.element_at-first.ensures c.loop-start.invariant.rises long (λ ms. length (postings_body (ids_at ids ms))) in
    let small = first_of IsSmall _ _ _ sizes (c.loop-start.invariant.fits (sizes_of IsSmall _ _ h)) in
    let gathered : c.as_slice.result.now ≡ ids_at ids (map row_label_of (take m (drop start labels))) = c.as_slice.ensures.value ∙ c.in_ok-gather_ids.ensures ∙ ap (λ ls. ids_at ids (map row_label_of ls)) run in
    let large : 2 ^ 32 ≤ length (postings_body c.as_slice.result.now) = search rules in
    omega (arith, subst (λ vs. 2 ^ 32 ≤ length (postings_body vs)) gathered large, small)

pub returns-clause-small : goal.returns-clause-small
returns-clause-small c ok =
    let none : drop c.loop-start.start c.args.labels.now ≡ [] = drop_all c.loop-start.start c.args.labels.now (omega (arith, c.loop-start-test.false)) in
    of_sizes IsSmall _ _ (c.loop-start.invariant.small (subst (λ d. AllByRecursion IsSmall (groups label_in compare_label (λ ms. length (postings_body (ids_at c.args.ids.now ms))) (map row_label_of d))) (sym none) tt))
