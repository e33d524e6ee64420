use Rattle.std.proofs.Common.{◌≡◌, ◌+◌, ◌∙◌, ◌++◌, All, AllPairs, List, ap, ap₂, map, subst, sym, take}
use Rattle.std.proofs.lemmas.List.{take_all}
use Rattle.std.proofs.lemmas.List.Elements.{All-append}
use Rattle.std.proofs.lemmas.List.Sorted.{IsPermutation-map}
use Rattle.std.specs.List.Sorted.{IsPermutation}
use Rattle.head_live.specs.declared.placed.PlacedSample.{PlacedSample}
use Rattle.head_live.specs.Agreeing.{IsExpiredIn, IsStaleIn, all_told, new_rows}
use Rattle.head_live.specs.Placing.{AreInSeries, IsPossible, row_at}
use Rattle.head_live.specs.Placed.{IsBefore}
use Rattle.head_live.specs.Rows.{Row}
use Rattle.head_live.specs.Told.{Answer, AppenderState, accepted_rows, answer_of}
use Rattle.head_live.proofs.CloseLemmas.{accepted_rows-append, told_more_by}
use Rattle.head_live.proofs.DifferLemmas.{possible, same_placed, told_at}
use Rattle.head_live.proofs.agreeing.agrees.Goals as goal

pub loop-appender-preserved : goal.loop-appender-preserved
loop-appender-preserved g c =
    let now = c.args.head.now.content in
    let i = c.loop-appender.appender-index in
    let before : List Answer = all_told (take i c.args.appenders.now) in
    let told : List Answer = c.appender-item.result.told in
    let placed = c.in_ok-place_rows.ensures in
    let more : all_told (take (i + 1) c.args.appenders.now) ≡ before ++ told = told_more_by c.args.appenders.now i c.appender-item.result c.loop-appender-test.true c.appender-item.is in
    let start : List Row = map (row_at now) c.loop-appender.accepted.items in
    let added : map (row_at now) c.place_rows.new.accepted.items ≡ start ++ accepted_rows (map answer_of c.told.result.now) = placed.rows c.if-not-branch.false in
    let both : start ++ accepted_rows (map answer_of c.told.result.now) ≡ accepted_rows before ++ accepted_rows told = ap₂ ◌++◌ c.loop-appender.invariant.rows (ap accepted_rows c.told.ensures) in record {
      rows = added ∙ (both ∙ (sym (accepted_rows-append before told) ∙ ap accepted_rows (sym more)));
      stale = subst (All (IsStaleIn now)) (sym more)
          (All-append (IsStaleIn now) before told c.loop-appender.invariant.stale (subst (All (IsStaleIn now)) c.told.ensures (placed.stale c.if-not-branch.false)));
      expired = subst (All (IsExpiredIn now)) (sym more)
          (All-append (IsExpiredIn now) before told c.loop-appender.invariant.expired (subst (All (IsExpiredIn now)) c.told.ensures (placed.expired c.if-not-branch.false)));
      slots = placed.slots c.loop-appender.invariant.slots;
    }

pub returns : goal.returns
returns g c =
    let now = c.args.head.now.content in
    let accepted : List PlacedSample = c.loop-appender.accepted.items in
    let read : List PlacedSample = c.deref.result.now in
    let is = c.deref.ensures.value in
    let whole = take_all c.loop-appender.appender-index c.args.appenders.now c.loop-appender-test.false in
    let old : map (row_at now) accepted ≡ accepted_rows (all_told c.args.appenders.now) = c.loop-appender.invariant.rows ∙ ap (λ a. accepted_rows (all_told a)) whole in record {
      same = λ h opening e.
          let new : map (row_at now) read ≡ new_rows opening now = ap (map (row_at now)) is ∙ c.in_ok-new.ensures.rows opening e in
          let same = IsPermutation-map (row_at now) _ _ (c.are_same.ensures.same h) in record {
            once = subst (IsPermutation (accepted_rows (all_told c.args.appenders.now))) new (subst (λ r. IsPermutation r (map (row_at now) read)) old same);
            stale = subst (λ (a : List AppenderState). All (IsStaleIn now) (all_told a)) whole c.loop-appender.invariant.stale;
            expired = subst (λ (a : List AppenderState). All (IsExpiredIn now) (all_told a)) whole c.loop-appender.invariant.expired;
          };
      differ = λ no opening e agrees.
          let new : map (row_at now) read ≡ new_rows opening now = ap (map (row_at now)) is ∙ c.in_ok-new.ensures.rows opening e in
          let rows = subst (IsPermutation (map (row_at now) accepted)) (sym new) (subst (λ r. IsPermutation r (new_rows opening now)) (sym old) agrees.once) in
          c.are_same.ensures.differ no (subst (AllPairs IsBefore) (sym is) c.in_ok-new.ensures.order)
          (same_placed now accepted read c.in_ok-new.ensures.distinct c.loop-appender.invariant.slots (subst (AreInSeries now) (sym is) c.in_ok-new.ensures.slots) rows);
    }

pub returns-then-not-branch-clause-differ : goal.returns-then-not-branch-clause-differ
returns-then-not-branch-clause-differ g c = λ _ opening _ agrees.
    let now = c.args.head.now.content in
    let all = c.args.appenders.now in
    c.in_ok-place_rows.ensures.impossible c.if-not-branch.true
    (subst (All (IsPossible now)) (sym c.told.ensures)
    (told_at (IsPossible now) all c.loop-appender.appender-index c.appender-item.result c.loop-appender-test.true c.appender-item.is (possible opening now (all_told all) agrees)))
