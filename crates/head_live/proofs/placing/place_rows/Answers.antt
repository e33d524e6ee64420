use Rattle.std.proofs.Common.{◌≡◌, ◌+◌, ◌∙◌, ◌∷◌, ◌++◌, [], All, List, ap, append_assoc, map, subst, sym, take}
use Rattle.std.proofs.lemmas.List.Elements.{All-push}
use Rattle.head_live.specs.Agreeing.{IsExpiredIn, IsStaleIn}
use Rattle.head_live.specs.Placing.{IsPossible, row_at}
use Rattle.head_live.specs.Rows.{Row}
use Rattle.head_live.specs.Told.{Answer, accepted_rows, answer_of}
use Rattle.head_live.proofs.MappedLemmas.{mapped_more}
use Rattle.head_live.proofs.CloseLemmas.{accepted_rows-append}
use Rattle.head_live.proofs.DifferLemmas.{all_at}
use Rattle.head_live.proofs.placing.place_rows.Goals as goal

pub loop-row-preserved : goal.loop-row-preserved
loop-row-preserved c =
    let content = c.args.head.now.content in
    let told = c.args.told.now in
    let i = c.loop-row.row-index in
    let x = c.row-item.result in
    let so_far : List Answer = map answer_of (take i told) in
    let front : List Row = map (row_at content) c.args.accepted.now.items in
    let more : map answer_of (take (i + 1) told) ≡ so_far ++ answer_of x ∷ [] = mapped_more answer_of told i x c.loop-row-test.true c.row-item.is in record {
      rows = c.in_ok-place_row.ensures.rows c.if-not-branch.false
          ∙ (ap (λ r. r ++ accepted_rows (answer_of x ∷ [])) c.loop-row.invariant.rows
          ∙ (append_assoc front (accepted_rows so_far) (accepted_rows (answer_of x ∷ []))
          ∙ ap (λ r. front ++ r) (sym (accepted_rows-append so_far (answer_of x ∷ [])) ∙ ap accepted_rows (sym more))));
      stale = subst (All (IsStaleIn content)) (sym more) (All-push (IsStaleIn content) so_far (answer_of x) c.loop-row.invariant.stale (c.in_ok-place_row.ensures.stale c.if-not-branch.false));
      expired = subst (All (IsExpiredIn content)) (sym more) (All-push (IsExpiredIn content) so_far (answer_of x) c.loop-row.invariant.expired (c.in_ok-place_row.ensures.expired c.if-not-branch.false));
      slots = λ h. c.in_ok-place_row.ensures.slots (c.loop-row.invariant.slots h);
    }

pub returns-then-not-branch-clause-impossible : goal.returns-then-not-branch-clause-impossible
returns-then-not-branch-clause-impossible c = λ _ all.
    c.in_ok-place_row.ensures.impossible c.if-not-branch.true
    (all_at (IsPossible c.args.head.now.content) answer_of c.args.told.now c.loop-row.row-index c.row-item.result c.loop-row-test.true c.row-item.is all)
