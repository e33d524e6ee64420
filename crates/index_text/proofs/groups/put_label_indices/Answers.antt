use Rattle.std.proofs.Common.{rules, ◌≡◌, ◌+◌, ◌^◌, ◌<◌, ◌≤◌, ◌++◌, ◌∷◌, [], List, ℕ, length, map, take, drop, refl, ap, sym, subst, ◌∙◌, arith}
use Rattle.std.specs.List.{zip, AllByRecursion}
use Rattle.std.specs.Cmp.Lexicographic.{slice_cmp}
use Rattle.std.specs.Ordering.{nat_cmp}
use Rattle.std.proofs.lemmas.List.{drop_all, drop-drop, map-append}
use Rattle.wal_record.specs.declared.labels.Label.{Label}
use Rattle.wal_record.specs.Labels.{same_text}
use Rattle.index_text.specs.declared.ordering.LentLabel.{LentLabel}
use Rattle.index_text.specs.Gives.{nows}
use Rattle.index_text.specs.Groups.{run_length}
use Rattle.index_text.specs.Index.{label_index_body, label_indices_of, names_in}
use Rattle.index_text.specs.Layout.{Text, framed, put_all, places}
use Rattle.index_text.specs.Lent.{label_of, name_place_of}
use Rattle.index_text.specs.Rows.{IsSmall}
use Rattle.index_text.specs.Sets.{text_cmp}
use Rattle.index_text.proofs.GroupLaws.{KeysRise, groups}
use Rattle.index_text.proofs.GroupLoops.{put_step, entries_step, sizes_of, of_sizes, with_first, first_of, others_of, KeysRise-ascending}
use Rattle.index_text.proofs.IndexSteps.{name_of, index_body, values_lent, name_some, name_names, name_parts, name_rises}
use Rattle.index_text.proofs.Orders.{text_total}
use Rattle.index_text.proofs.groups.put_label_indices.Goals as goal

pub loop-start-init : goal.loop-start-init
loop-start-init c = record {
  within = omega arith;
  text = refl;
  named = ap (λ ns. map name_place_of ns ++ zip (names_in (map label_of c.args.labels.now)) (places 4 c.args.out.now.items (label_indices_of (nows c.args.table.now) (map label_of c.args.labels.now)))) c.new-named.ensures.items;
  rises = KeysRise-ascending name_of text_cmp text_total (λ (a b : Label). slice_cmp nat_cmp a.value b.value) (map label_of c.args.labels.now) c.requires.labels;
  small = λ h. h;
  fits = λ h. h;
}

pub loop-start-preserved : goal.loop-start-preserved
loop-start-preserved c =
    let table : List Text = nows c.args.table.now in
    let labels : List LentLabel = c.args.labels.now in
    let start : ℕ = c.loop-start.start in
    let m : ℕ = c.run_length.result in
    let shape : drop start labels ≡ c.element_at-first.result ∷ drop (start + 1) labels = c.element_at-first.ensures in
    let cut : c.split_at.result.1.now ≡ drop start labels = c.split_at.ensures.back in
    let long : m ≡ run_length (λ (y : LentLabel). same_text y.name.now c.element_at-first.result.name.now) (drop start labels) = c.run_length.ensures.exact ∙ ap (run_length (λ (y : LentLabel). same_text y.name.now c.element_at-first.result.name.now)) cut in
    let run : c.split_at-in-loop-start.result.0.now ≡ take m (drop start labels) = c.split_at-in-loop-start.ensures.front ∙ ap (take m) cut in
    let len : length c.split_at-in-loop-start.result.0.now ≡ m = c.split_at-in-loop-start.ensures.front_len in
    let next : drop m (drop start labels) ≡ drop (start + length c.split_at-in-loop-start.result.0.now) labels = drop-drop m start labels ∙ ap (λ k. drop (start + k) labels) (sym len) in
    let up = c.loop-start.invariant.rises in
    let names = name_names labels start m c.element_at-first.result shape up long in
    let parts = name_parts labels start m c.element_at-first.result shape up long (λ ms. framed (index_body table ms)) in
    let sizes = name_parts labels start m c.element_at-first.result shape up long (λ ms. length (index_body table ms)) in
    let values : map (λ (l : LentLabel). l.value.now) c.split_at-in-loop-start.result.0.now ≡ map (λ (p : Label). p.value) (map label_of (take m (drop start labels))) = ap (map (λ (l : LentLabel). l.value.now)) run ∙ values_lent (take m (drop start labels)) in
    let done : c.put_label_index.new.out.items ≡ c.put_padding.new.bytes.items ++ framed (index_body table (map label_of (take m (drop start labels)))) =
    (c.in_ok-put_label_index.ensures.text ∙ ap (λ vs. c.put_padding.new.bytes.items ++ framed (label_index_body table vs)) values) in
    let counted : c.len.result ≡ length c.put_padding.new.bytes.items = search rules in
    let pushed = ap (map name_place_of) c.in_ok-push.ensures.items ∙ map-append name_place_of c.loop-start.named.items _ ∙ ap (λ n. map name_place_of c.loop-start.named.items ++ (c.element_at-first.result.name.now, n) ∷ []) counted in
    record {
      within = omega (arith, c.split_at-in-loop-start.ensures.back_len, c.split_at.ensures.back_len, c.loop-start.invariant.within, c.loop-start-test.true);
      text = ap (λ d. put_all 4 c.put_label_index.new.out.items (label_indices_of table (map label_of d))) (sym next)
          ∙ put_step 4 c.loop-start.out.items c.put_padding.new.bytes.items c.put_label_index.new.out.items _ _ _ parts c.in_ok-put_padding.ensures done ∙ c.loop-start.invariant.text;
      named = ap (λ ns. ns ++ zip (names_in (map label_of (drop (start + length c.split_at-in-loop-start.result.0.now) labels))) (places 4 c.put_label_index.new.out.items (label_indices_of table (map label_of (drop (start + length c.split_at-in-loop-start.result.0.now) labels))))) pushed
          ∙ ap (λ d. (map name_place_of c.loop-start.named.items ++ (c.element_at-first.result.name.now, length c.put_padding.new.bytes.items) ∷ []) ++ zip (names_in (map label_of d)) (places 4 c.put_label_index.new.out.items (label_indices_of table (map label_of d)))) (sym next)
          ∙ entries_step 4 c.loop-start.out.items c.put_padding.new.bytes.items c.put_label_index.new.out.items (map name_place_of c.loop-start.named.items) c.element_at-first.result.name.now _ _ _ _ _ names parts c.in_ok-put_padding.ensures done
          ∙ c.loop-start.invariant.named;
      rises = subst (λ d. KeysRise name_of text_cmp (map label_of d)) next (name_rises labels start m c.element_at-first.result shape up long);
      small = λ h. c.loop-start.invariant.small (with_first IsSmall _ _ _ sizes (subst (λ vs. length (label_index_body table vs) < 2 ^ 32) values (c.in_ok-put_label_index.ensures.small refl))
          (subst (λ d. AllByRecursion IsSmall (groups name_of text_cmp (λ ms. length (index_body table ms)) (map label_of d))) (sym next) h));
      fits = λ h. subst (λ d. AllByRecursion IsSmall (groups name_of text_cmp (λ ms. length (index_body table ms)) (map label_of d))) next (others_of IsSmall _ _ _ sizes (c.loop-start.invariant.fits h));
    }

pub loop-start-smaller : goal.loop-start-smaller
loop-start-smaller c =
    let cut : c.split_at.result.1.now ≡ drop c.loop-start.start c.args.labels.now = c.split_at.ensures.back in
    let long : c.run_length.result ≡ run_length (λ (y : LentLabel). same_text y.name.now c.element_at-first.result.name.now) (drop c.loop-start.start c.args.labels.now) = c.run_length.ensures.exact ∙ ap (run_length (λ (y : LentLabel). same_text y.name.now c.element_at-first.result.name.now)) cut in
    let more = name_some c.args.labels.now c.loop-start.start c.run_length.result c.element_at-first.result c.element_at-first.ensures c.loop-start.invariant.rises long in
    omega (arith, more, c.split_at-in-loop-start.ensures.front_len, c.loop-start-test.true)

pub returns-in_err-put_label_index-clause-large : goal.returns-in_err-put_label_index-clause-large
returns-in_err-put_label_index-clause-large c e h =
    let table : List Text = nows c.args.table.now in
    let labels : List LentLabel = c.args.labels.now in
    let start : ℕ = c.loop-start.start in
    let m : ℕ = c.run_length.result in
    let cut : c.split_at.result.1.now ≡ drop start labels = c.split_at.ensures.back in
    let long : m ≡ run_length (λ (y : LentLabel). same_text y.name.now c.element_at-first.result.name.now) (drop start labels) = c.run_length.ensures.exact ∙ ap (run_length (λ (y : LentLabel). same_text y.name.now c.element_at-first.result.name.now)) cut in
    let run : c.split_at-in-loop-start.result.0.now ≡ take m (drop start labels) = c.split_at-in-loop-start.ensures.front ∙ ap (take m) cut in
    let sizes = name_parts labels start m c.element_at-first.result c.element_at-first.ensures c.loop-start.invariant.rises long (λ ms. length (index_body table ms)) in
    let small = first_of IsSmall _ _ _ sizes (c.loop-start.invariant.fits (sizes_of IsSmall _ _ h)) in
    let values : map (λ (l : LentLabel). l.value.now) c.split_at-in-loop-start.result.0.now ≡ map (λ (p : Label). p.value) (map label_of (take m (drop start labels))) = ap (map (λ (l : LentLabel). l.value.now)) run ∙ values_lent (take m (drop start labels)) in
    let large : 2 ^ 32 ≤ length (label_index_body table (map (λ (l : LentLabel). l.value.now) c.split_at-in-loop-start.result.0.now)) = search rules in
    omega (arith, subst (λ vs. 2 ^ 32 ≤ length (label_index_body table vs)) values large, small)

pub returns-clause-small : goal.returns-clause-small
returns-clause-small c ok =
    let none : drop c.loop-start.start c.args.labels.now ≡ [] = drop_all c.loop-start.start c.args.labels.now (omega (arith, c.loop-start-test.false)) in
    of_sizes IsSmall _ _ (c.loop-start.invariant.small (subst (λ d. AllByRecursion IsSmall (groups name_of text_cmp (λ ms. length (index_body (nows c.args.table.now) ms)) (map label_of d))) (sym none) tt))
