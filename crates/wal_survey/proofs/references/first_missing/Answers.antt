use Rattle.std.proofs.Common.{rules, ◌≡◌, ◌∙◌, ℕ, Some, None, ap, sym}
use Rattle.std.specs.Prelude.{Option, not, position}
use Rattle.std.specs.Option.{option_map}
use Rattle.wal_log.specs.declared.reading.Place.{Place}
use Rattle.wal_survey.specs.Keeping.{note_of}
use Rattle.wal_survey.specs.ReferenceSets.{has}
use Rattle.wal_survey.proofs.Notes.{found_at, not_found}
use Rattle.wal_survey.proofs.references.first_missing.Goals as goal

pub returns-in-Some : goal.returns-in-Some
returns-in-Some c =
    let at : position (λ e. not (has c.args.bound.now e.0)) c.args.noted.now.entries ≡ Some c.in-Some.at = search rules in
    c.note_at.ensures ∙ ap (λ (e : Option (ℕ × Place)). option_map note_of e) (sym (found_at (λ e. not (has c.args.bound.now e.0)) c.args.noted.now.entries c.in-Some.at at))

pub returns-in-None : goal.returns-in-None
returns-in-None c =
    let none : position (λ e. not (has c.args.bound.now e.0)) c.args.noted.now.entries ≡ None = search rules in
    ap (λ (e : Option (ℕ × Place)). option_map note_of e) (sym (not_found (λ e. not (has c.args.bound.now e.0)) c.args.noted.now.entries none))
