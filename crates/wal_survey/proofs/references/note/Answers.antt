use Rattle.std.proofs.Common.{◌∙◌, sym}
use Rattle.wal_survey.proofs.Notes.{note_absent, note_there}
use Rattle.wal_survey.proofs.references.note.Goals as goal

pub returns-then-contains_key : goal.returns-then-contains_key
returns-then-contains_key c = note_there c.args.reference c.args.place c.args.noted.now.entries (sym c.contains_key.ensures ∙ c.if-contains_key.true)

pub returns : goal.returns
returns c = note_absent c.args.reference c.args.place c.args.noted.now.entries c.insert.new.self.entries (sym c.contains_key.ensures ∙ c.if-contains_key.false) c.in_ok-insert.ensures.entries
