use Rattle.std.proofs.Common.{rules, ◌≡◌, ◌++◌, ◌∷◌, [], length, map, refl, ap, ◌∙◌}
use Rattle.std.specs.List.{zip}
use Rattle.std.proofs.lemmas.List.{map-append}
use Rattle.index_text.specs.Index.{everything, postings_body}
use Rattle.index_text.specs.Layout.{framed, places}
use Rattle.index_text.specs.Lent.{row_label_of, label_place_of}
use Rattle.index_text.specs.Posted.{labels_in, lists_of}
use Rattle.index_text.proofs.GroupLoops.{entries_step}
use Rattle.index_text.proofs.groups.put_postings.Goals as goal

pub returns-clause-listed : goal.returns-clause-listed
returns-clause-listed c =
    let counted : c.len.result ≡ length c.put_padding.new.bytes.items = search rules in
    let first : map label_place_of c.push.new.self.items ≡ (everything, length c.put_padding.new.bytes.items) ∷ [] =
    (ap (map label_place_of) c.in_ok-push.ensures.items ∙ map-append label_place_of c.new-listed.result.items _ ∙ ap (λ t. map label_place_of t ++ (everything, c.len.result) ∷ []) c.new-listed.ensures.items ∙ ap (λ n. (everything, n) ∷ []) counted) in
    let done = c.in_ok-put_ids.ensures.text in
    c.in_ok-put_lists.ensures.listed
    ∙ ap (λ t. t ++ zip (labels_in (map row_label_of c.args.labels.now)) (places 4 c.put_ids.new.out.items (lists_of c.args.ids.now (map row_label_of c.args.labels.now)))) first
    ∙ entries_step 4 c.args.out.now.items c.put_padding.new.bytes.items c.put_ids.new.out.items [] everything (everything ∷ labels_in (map row_label_of c.args.labels.now)) (labels_in (map row_label_of c.args.labels.now))
    (framed (postings_body c.args.ids.now)) (framed (postings_body c.args.ids.now) ∷ lists_of c.args.ids.now (map row_label_of c.args.labels.now)) (lists_of c.args.ids.now (map row_label_of c.args.labels.now)) refl refl c.in_ok-put_padding.ensures done
