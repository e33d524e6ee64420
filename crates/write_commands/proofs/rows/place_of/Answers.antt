use Rattle.std.proofs.Common.{refl, subst, sym, ◌∙◌}
use Rattle.std.proofs.lemmas.Slice.Eq.{bytes_eq-Decides}
use Rattle.write_commands.specs.RowParts.{AreSpelled}
use Rattle.write_commands.proofs.RowLaws.{placed_at, spelled_more, texts_stay}
use Rattle.write_commands.proofs.rows.place_of.Goals as goal

pub returns-in_ok-push-clause-spelled : goal.returns-in_ok-push-clause-spelled
returns-in_ok-push-clause-spelled c = λ _. spelled_more c.args.texts.now.keys _ c.args.parts.now.labels _ c.args.first.now.items c.push.new.self.items _ c.in_ok-place.ensures.keys (sym c.if-is_new.true ∙ c.in_ok-place.ensures.added) c.requires.spelled (rw (c.in-Some.is) at c.in_ok-pairs.ensures) c.in_ok-push.ensures.items

pub returns-in_ok-push-clause-place : goal.returns-in_ok-push-clause-place
returns-in_ok-push-clause-place c =
    let stored = c.in_ok-place.ensures.stored in
    placed_at _ c.push.new.self.items c.in_ok-place.place c.args.parts.now.labels.now stored.0 (returns-in_ok-push-clause-spelled c refl) stored.1 ((bytes_eq-Decides c.args.parts.now.labels.now stored.0.now).0 stored.2)

pub returns-else-is_new-clause-place : goal.returns-else-is_new-clause-place
returns-else-is_new-clause-place c =
    let stored = c.in_ok-place.ensures.stored in
    let stay = texts_stay c.args.texts.now.keys _ c.args.parts.now.labels _ c.in_ok-place.ensures.keys (sym c.if-is_new.false ∙ c.in_ok-place.ensures.added) in
    placed_at _ c.args.first.now.items c.in_ok-place.place c.args.parts.now.labels.now stored.0 (subst (λ ts. AreSpelled ts c.args.first.now.items) (sym stay) c.requires.spelled) stored.1 ((bytes_eq-Decides c.args.parts.now.labels.now stored.0.now).0 stored.2)
