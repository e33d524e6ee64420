use Rattle.std.proofs.Common.{◌≡◌, ◌<◌, ◌++◌, ◌∷◌, [], ◌∙◌, ap, subst, sym, drop, length, List, Some, w64}
use Rattle.std.specs.Prelude.{ℤ}
use Rattle.std.proofs.lemmas.Int.{to_z-of_z}
use Rattle.xor_chunk.specs.declared.sample.Sample.{Sample}
use Rattle.head_column.specs.Chunks.{last_time}
use Rattle.head_column.specs.Samples.{Rises}
use Rattle.head_column.specs.Stored.{AreStored, IsSameHour, StoredValue, stored}
use Rattle.head_column.proofs.Chunked.{ArePushed, open_latest, pushed, same_stored}
use Rattle.head_column.proofs.stored.SampleChunks.push.Goals as goal
use Rattle.head_column.proofs.stored.SampleChunks.push.Goals.{In_ok-push}

pub make_place-requires-clause-latest : goal.make_place-requires-clause-latest
make_place-requires-clause-latest c some =
    let s = c.self.inside in
    open_latest s.sealed.items s.writer s.dropped s.latest c.self.invariant some

pub invariant_of-self-in_err-push : goal.invariant_of-self-in_err-push
invariant_of-self-in_err-push c =
    let s = c.self.inside in
    same_stored c.make_place.new.sealed.items c.make_place.new.writer c.push.new.self s.dropped s.latest (c.in_ok-make_place.ensures.are s.dropped s.latest c.self.invariant) c.in_err-push.ensures.front c.in_err-push.ensures.refused

before : (c : In_ok-push) → c.args.self.now.samples ≡ drop c.self.inside.dropped (stored c.make_place.new.sealed.items c.make_place.new.writer)
before c = sym (ap (λ (v : StoredValue). v.samples) c.self.view_is) ∙ ap (drop c.self.inside.dropped) (sym c.in_ok-make_place.ensures.stored)

all : (c : In_ok-push) → ArePushed c.make_place.new.sealed.items c.make_place.new.writer c.push.new.self c.self.inside.dropped c.args.sample
all c =
    let s = c.self.inside in
    let time = to_z-of_z w64 c.args.sample.time c.requires.fit.time in
    let last = c.make_place.new.writer.samples in
    pushed c.make_place.new.sealed.items c.make_place.new.writer c.push.new.self s.dropped s.latest c.args.sample (c.in_ok-make_place.ensures.are s.dropped s.latest c.self.invariant) c.in_ok-push.ensures.front c.in_ok-push.ensures.pushed c.in_ok-make_place.ensures.place c.requires.fit
    (subst (λ (l : List Sample). Rises (l ++ c.args.sample ∷ [])) (before c) c.requires.rises)
    (subst (λ (t : ℤ). 0 < length last → IsSameHour t (last_time last)) time c.in_ok-make_place.ensures.same)

pub invariant_of-self-2 : goal.invariant_of-self-2
invariant_of-self-2 c =
    let s = c.self.inside in
    subst (λ (t : ℤ). AreStored c.make_place.new.sealed.items c.push.new.self s.dropped (Some t)) (sym (to_z-of_z w64 c.args.sample.time c.requires.fit.time)) (all (goal.at.invariant_of-self-2 c).In_ok-push).are

pub returns-clause-pushed : goal.returns-clause-pushed
returns-clause-pushed c =
    let at = (goal.at.returns-clause-pushed c).In_ok-push in
    (all at).is ∙ ap (λ (l : List Sample). l ++ c.args.sample ∷ []) (sym (before at))
