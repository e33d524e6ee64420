-- The dump of one series after another.
use Rattle.std.proofs.Common.{◌≡◌, ℕ, ◌+◌, ◌<◌, Bool, List, [], ◌∷◌, ◌++◌, ap, refl, sym, subst, ◌∙◌, length, take, get_or}
use Rattle.std.specs.List.{flat_map}
use Rattle.std.proofs.lemmas.List.{append-nil, flat_map_more, take_more}
use Rattle.head_column.specs.Samples.{Sample}
use Rattle.head_core.specs.Content.{Content}
use Rattle.head_core.specs.Heads.{history_at}
use Rattle.head_series.specs.Table.{labels_at}
use Rattle.query_commands.specs.declared.selection.Selection.{Selection}
use Rattle.answers.specs.Outputs.{MakesText}
use Rattle.query_commands.specs.Dumps.{IsDump, MakesLines, dumped, labelled, labels_text}
use Rattle.query_commands.specs.Selections.{shown_of}
use Rattle.query_commands.proofs.Growing.{makes_both}

module _ {O : Type 0} (printed : O → List ℕ → O → Type 0) (floats : Bool) where
  -- the lines of the next series
  pub series_more : (selection : Selection) (c : Content) (slots : List ℕ) (i slot : ℕ) (old between new : O) (waiting middle rest : List ℕ) → i < length slots → slot ≡ get_or slots i slot
      → MakesLines printed floats (dumped selection c (take i slots)) old waiting between middle
      → MakesLines printed floats (labelled (labels_text (labels_at c.table slot)) (shown_of selection (history_at c slot))) between middle new rest
      → MakesLines printed floats (dumped selection c (take (i + 1) slots)) old waiting new rest
  series_more selection c slots i slot old between new waiting middle rest lt is h k =
      let of : ℕ → List (List ℕ × Sample) = λ slot. labelled (labels_text (labels_at c.table slot)) (shown_of selection (history_at c slot)) in
      let next : dumped selection c (take (i + 1) slots) ≡ dumped selection c (take i slots) ++ of slot =
      ap (dumped selection c) (take_more slots i slot lt ∙ ap (λ (s : ℕ). take i slots ++ s ∷ []) (sym is)) ∙ sym (flat_map_more of [] (take i slots) slot) in
      subst (λ (ps : List (List ℕ × Sample)). MakesLines printed floats ps old waiting new rest) (sym next) (makes_both printed floats (dumped selection c (take i slots)) (of slot) old between new waiting middle rest h k)

  -- the text that begins with nothing is a dump
  pub makes_dump : (selection : Selection) (c : Content) (slots : List ℕ) (old new : O) (rest : List ℕ) → MakesLines printed floats (dumped selection c slots) old [] new rest → MakesText printed old new rest (IsDump floats selection c slots)
  makes_dump selection c slots old new rest h =
      (flat_map (λ line. line) h.lines, record { lines = h.lines; each = h.each; is = refl }, λ first before was. h.made first before (before, was, sym (append-nil before)))
