use Rattle.std.proofs.Common.{ap, ◌∙◌}
use Rattle.head_series.proofs.Places.{position-map}
use Rattle.wal_record.specs.Labels.{same_text}
use Rattle.head_series.specs.Texts.{place}
use Rattle.head_series.proofs.interner.Interner.find.Goals as goal

pub returns-in-Some : goal.returns-in-Some
returns-in-Some c =
    c.in-Some.ensures.index ∙ position-map (λ v. v.items) (same_text c.args.text.now) c.self.inside.texts.keys ∙ ap (λ t. place (same_text c.args.text.now) t.texts) c.self.view_is

pub returns-in-None : goal.returns-in-None
returns-in-None c =
    c.in-None.ensures.index ∙ position-map (λ v. v.items) (same_text c.args.text.now) c.self.inside.texts.keys ∙ ap (λ t. place (same_text c.args.text.now) t.texts) c.self.view_is
