use Rattle.std.proofs.Common.{◌≡◌, Some, ap, sym, subst, ◌∙◌, ◌<◌, length}
use Rattle.std.specs.Prelude.{slice_get}
use Rattle.std.proofs.lemmas.Option.{slice_get_within}
use Rattle.head_live.specs.Known.{set_at}
use Rattle.head_live.proofs.SetLemmas.{at_place, place_at}
use Rattle.head_live.proofs.known.KnownSets.find.Goals as goal

pub returns-then-is_at-clause-slot : goal.returns-then-is_at-clause-slot
returns-then-is_at-clause-slot c =
    let here = c.requires.known _ _ (c.is_at.ensures c.if-is_at.true) ∙ ap Some c.deref.ensures in
    ap Some c.new.ensures ∙ sym (place_at _ _ _ c.requires.distinct here)

pub returns-then-is_at-clause-within : goal.returns-then-is_at-clause-within
returns-then-is_at-clause-within c =
    subst (λ n. n < length c.args.head.now.content.table.series) (sym c.new.ensures)
    (slice_get_within _ _ _ (c.requires.known _ _ (c.is_at.ensures c.if-is_at.true)))

pub returns-clause-known : goal.returns-clause-known
returns-clause-known c = λ slot l h.
    let series = c.args.head.now.content.table.series in
    let here = subst (λ n. slice_get series n ≡ Some c.args.labels.now.value) (sym c.number.ensures) (at_place _ _ _ (sym c.in_ok-slot.ensures.slot) ∙ ap Some c.deref-2.ensures) in
    c.note.ensures series here c.requires.known slot l (subst (λ (sets : _). set_at sets.items slot ≡ Some l) c.follow-2.ensures h)
