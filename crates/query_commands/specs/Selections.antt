-- Which samples of a series are shown.
use Rattle.std.specs.Prelude.{Bool, ◌&&◌, ◌||◌, not, int_le, List, filter}
use Rattle.head_column.specs.declared.items.Run.{Run}
use Rattle.head_column.specs.Samples.{Sample}
use Rattle.head_column.specs.Runs.{span_any}
use Rattle.head_column.specs.Histories.{History}
use Rattle.query_commands.specs.declared.selection.Selection.{Selection}

-- whether a selection shows a sample, where these runs are hidden: its time is within the selection, and not hidden unless such are shown too
abbrev pub is_shown : Selection → List Run → Sample → Bool
is_shown selection hidden s = int_le selection.from s.time && int_le s.time selection.to && (selection.with_hidden || not (span_any hidden s.time))

-- the times of the samples that a selection can show
abbrev pub times_of : Selection → Run
times_of selection = record { min_time = selection.from; max_time = selection.to }

-- the samples of a series that a selection shows, in their order
abbrev pub shown_of : Selection → History → List Sample
shown_of selection h = filter (is_shown selection h.hidden) h.samples
