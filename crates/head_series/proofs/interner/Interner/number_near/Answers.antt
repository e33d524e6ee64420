use Rattle.std.proofs.Common.{sym, inl}
use Rattle.wal_record.specs.Labels.{same_text}
use Rattle.head_series.proofs.Places.{place_some, place_within, with_text_old}
use Rattle.head_series.proofs.interner.Interner.number_near.Goals as goal

pub returns-then-is_at-clause-texts : goal.returns-then-is_at-clause-texts
returns-then-is_at-clause-texts c = sym (with_text_old c.args.self.now.texts c.args.text.now (place_some (same_text c.args.text.now) c.args.self.now.texts c.args.guess (c.is_at.ensures c.if-is_at.true)))

pub returns-then-is_at-clause-number : goal.returns-then-is_at-clause-number
returns-then-is_at-clause-number c = c.is_at.ensures c.if-is_at.true

pub returns-then-is_at-clause-within : goal.returns-then-is_at-clause-within
returns-then-is_at-clause-within c = place_within (same_text c.args.text.now) c.args.self.now.texts c.args.guess (c.is_at.ensures c.if-is_at.true)

pub returns-then-is_at-clause-room : goal.returns-then-is_at-clause-room
returns-then-is_at-clause-room c _ = inl (place_some (same_text c.args.text.now) c.args.self.now.texts c.args.guess (c.is_at.ensures c.if-is_at.true))
