-- The samples that a selection shows, of which only those at its times are kept.
use Rattle.std.proofs.Common.{◌≡◌, ℕ, zero, suc, Bool, true, false, List, [], ◌∷◌, ◌++◌, refl, sym, ap, ◌∙◌, map}
use Rattle.std.specs.Prelude.{◌&&◌, ◌||◌, filter, int_le, not, if◌then◌else◌, slice_get, unwrap_or}
use Rattle.head_column.specs.declared.items.Run.{Run}
use Rattle.head_column.specs.Samples.{Sample}
use Rattle.head_column.specs.Histories.{History, no_history}
use Rattle.head_column.specs.Kept.{samples_at, seen_at}
use Rattle.head_column.specs.Runs.{span_any, spans}
use Rattle.head_core.specs.Content.{Content}
use Rattle.head_core.specs.Heads.{history_at}
use Rattle.head_core.specs.Kept.{content_at}
use Rattle.head_series.specs.Table.{labels_at}
use Rattle.query_commands.specs.declared.selection.Selection.{Selection}
use Rattle.query_commands.specs.Dumps.{dumped, labelled, labels_text}
use Rattle.query_commands.specs.Selections.{is_shown, shown_of, times_of}

neither : (a b c : Bool) → (a && b) ≡ false → (a && b && c) ≡ false
neither true true c h = absurd cc
neither true false c h = refl
neither false b c h = refl

module _ (selection : Selection) where
  shown_seen : (hidden : List Run) (samples : List Sample) → filter (is_shown selection hidden) (samples_at (times_of selection) samples) ≡ filter (is_shown selection hidden) samples
  shown_seen hidden [] = refl
  shown_seen hidden (s ∷ ss) = by (spans (times_of selection) s.time) refl (shown_seen hidden ss) where
    kept : List Sample
    kept = samples_at (times_of selection) ss

    by : (b : Bool) → spans (times_of selection) s.time ≡ b → filter (is_shown selection hidden) kept ≡ filter (is_shown selection hidden) ss
        → filter (is_shown selection hidden) (if b then s ∷ kept else kept) ≡ filter (is_shown selection hidden) (s ∷ ss)
    by true e same = ap (λ (xs : List Sample). if is_shown selection hidden s then s ∷ xs else xs) same
    by false e same = same ∙ sym (ap (λ (c : Bool). if c then s ∷ filter (is_shown selection hidden) ss else filter (is_shown selection hidden) ss) (neither (int_le selection.from s.time) (int_le s.time selection.to) (selection.with_hidden || not (span_any hidden s.time)) e))

  history_seen : (hs : List History) (i : ℕ) → unwrap_or (slice_get (map (seen_at (times_of selection)) hs) i) no_history ≡ seen_at (times_of selection) (unwrap_or (slice_get hs i) no_history)
  history_seen [] zero = refl
  history_seen [] (suc i) = refl
  history_seen (h ∷ hs) zero = refl
  history_seen (h ∷ hs) (suc i) = history_seen hs i

  series_seen : (c : Content) (slot : ℕ) → shown_of selection (history_at (content_at (times_of selection) c) slot) ≡ shown_of selection (history_at c slot)
  series_seen c slot = ap (shown_of selection) (history_seen c.histories slot) ∙ shown_seen (history_at c slot).hidden (history_at c slot).samples

  -- what is shown of the head that keeps them is shown of the whole head
  pub dumped_seen : (c : Content) (slots : List ℕ) → dumped selection (content_at (times_of selection) c) slots ≡ dumped selection c slots
  dumped_seen c [] = refl
  dumped_seen c (slot ∷ slots) =
      ap (λ (samples : List Sample). labelled (labels_text (labels_at c.table slot)) samples ++ dumped selection (content_at (times_of selection) c) slots) (series_seen c slot)
      ∙ ap (λ (ps : List (List ℕ × Sample)). labelled (labels_text (labels_at c.table slot)) (shown_of selection (history_at c slot)) ++ ps) (dumped_seen c slots)
