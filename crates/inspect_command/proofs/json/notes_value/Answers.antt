use Rattle.std.proofs.Common.{◌∙◌, ◌+◌, ◌++◌, ◌∷◌, [], ℕ, List, ap, map, sym}
use Rattle.std.proofs.lemmas.List.{length_push, map-append}
use Rattle.serde_json.specs.Data.{Data, string}
use Rattle.serde_json.specs.View.{view}
use Rattle.inspect_command.proofs.json.notes_value.Goals as goal

-- one note more
pub loop-remark-preserved : goal.loop-remark-preserved
loop-remark-preserved c =
    let so_far = c.loop-remark.invariant in
    let note = c.in_ok-note_value.ensures in (
      so_far.0 ++ note.0 ∷ [],
      length_push so_far.0 note.0 ∙ ap (λ (n : ℕ). n + 1) so_far.1,
      ap (map view) c.in_ok-push.ensures.items
          ∙ map-append view c.loop-remark.list.items (c.in_ok-note_value.field-0 ∷ [])
          ∙ ap (λ (ds : List Data). ds ++ view c.in_ok-note_value.field-0 ∷ []) so_far.2
          ∙ ap (λ (d : Data). map string so_far.0 ++ d ∷ []) note.1
          ∙ sym (map-append string so_far.0 (note.0 ∷ [])),
    )
