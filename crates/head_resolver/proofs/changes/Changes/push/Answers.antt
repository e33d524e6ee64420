use Rattle.std.proofs.Common.{◌≡◌, ◌≤◌, ◌+◌, ◌%◌, ◌++◌, ◌∷◌, [], ℕ, suc, List, Some, length, ap, refl, sym, subst, ◌∙◌}
use Rattle.std.specs.Prelude.{cond, map, nat_eq, slice_get}
use Rattle.std.specs.Map.{lookup}
use Rattle.std.proofs.lemmas.List.{length-map}
use Rattle.hw_bytes.proofs.Lists.{map_push}
use Rattle.head_resolver.specs.declared.changes.ChangeEntry.{ChangeEntry}
use Rattle.head_resolver.specs.Changes.{Change}
use Rattle.head_resolver.specs.Links.{last_of, AreInOrder, AreLinked}
use Rattle.head_resolver.proofs.Linking.{jump_to, last_within, linked_more}
use Rattle.head_resolver.proofs.changes.Changes.push.Goals as goal

change_of : ChangeEntry → Change
change_of n = record { reference = n.reference; place = n.place; before = n.before }

pub jump_from-jump-requires : goal.jump_from-jump-requires
jump_from-jump-requires c = subst (λ n. n ≤ length c.args.self.now) (sym c.last-previous.ensures) (last_within c.args.self.now c.args.reference)

pub invariant_of-self-2 : goal.invariant_of-self-2
unfolding change_of
invariant_of-self-2 c =
    let notes : List ChangeEntry = c.self.inside.notes.items in
    let note : ChangeEntry = record { reference = c.args.reference; place = c.args.place; before = c.args.before; previous = c.last-previous.result; jump = c.jump_from-jump.result; depth = (c.depth-depth.result + 1) % 18446744073709551616 } in
    let items : c.push_reserved.new.self.items ≡ notes ++ note ∷ [] = c.push_reserved.ensures.items ∙ ap (λ (ns : List ChangeEntry). ns ++ note ∷ []) c.in_ok-reserve.ensures.items in
    let same : length (map change_of notes) ≡ length notes = simp length-map in
    let jumps : length (map (λ (n : ChangeEntry). n.jump) notes) ≡ length notes = simp length-map in
    let many : c.len.result ≡ length (map change_of notes) = c.len.ensures ∙ c.reserve.new.self.ok.0 ∙ ap length c.in_ok-reserve.ensures.items ∙ sym same in
    let to = jump_to c.args.self.now c.args.reference c.last-previous.result c.jump_from-jump.result c.last-previous.ensures c.jump_from-jump.ensures.none c.jump_from-jump.ensures.same in
    let linked = linked_more (map change_of notes) (map (λ (n : ChangeEntry). n.previous) notes) (map (λ (n : ChangeEntry). n.jump) notes) c.self.inside.lasts.entries c.insert.new.self.entries c.self.inside.in_order c.is_last-in_order.result
    (change_of note) c.last-previous.result c.jump_from-jump.result c.self.invariant (jumps ∙ sym same)
    (c.last-previous.ensures ∙ ap (λ cs. last_of cs c.args.reference) (sym c.self.view_is))
    (subst (λ (cs : List Change). (j : ℕ) → c.jump_from-jump.result ≡ suc j → slice_get (map (λ (d : Change). d.reference) cs) j ≡ Some c.args.reference) (sym c.self.view_is) to)
    (λ r. c.in_ok-insert.ensures.updates.0 r ∙ ap (λ k. cond (nat_eq c.args.reference r) (Some (k + 1)) (lookup (nat_eq r) c.self.inside.lasts.entries)) many)
    (λ e. subst (λ (cs : List Change). AreInOrder (cs ++ change_of note ∷ [])) (sym c.self.view_is) (c.is_last-in_order.ensures e (change_of note) refl)) in
    subst (λ (ns : List ChangeEntry). AreLinked (map change_of ns) (map (λ (n : ChangeEntry). n.previous) ns) (map (λ (n : ChangeEntry). n.jump) ns) c.insert.new.self.entries c.is_last-in_order.result) (sym items)
    (subst (λ cs. AreLinked cs (map (λ (n : ChangeEntry). n.previous) (notes ++ note ∷ [])) (map (λ (n : ChangeEntry). n.jump) (notes ++ note ∷ [])) c.insert.new.self.entries c.is_last-in_order.result) (sym (map_push change_of notes note))
    (subst (λ ps. AreLinked (map change_of notes ++ change_of note ∷ []) ps (map (λ (n : ChangeEntry). n.jump) (notes ++ note ∷ [])) c.insert.new.self.entries c.is_last-in_order.result) (sym (map_push (λ (n : ChangeEntry). n.previous) notes note))
    (subst (λ js. AreLinked (map change_of notes ++ change_of note ∷ []) (map (λ (n : ChangeEntry). n.previous) notes ++ c.last-previous.result ∷ []) js c.insert.new.self.entries c.is_last-in_order.result) (sym (map_push (λ (n : ChangeEntry). n.jump) notes note)) linked)))
