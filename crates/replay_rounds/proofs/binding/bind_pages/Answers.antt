use Rattle.std.proofs.Common.{rules, ◌≡◌, ◌∙◌, ◌++◌, ◌+◌, ◌∷◌, [], Err, List, arith, drop, length, length-append, sym, ap, subst, take}
use Rattle.std.proofs.lemmas.List.{take_all, take_more}
use Rattle.wal_record.specs.declared.record.WalRecord.{WalRecord}
use Rattle.wal_log.specs.declared.reading.Placed.{Placed}
use Rattle.wal_log.specs.Log.{contents}
use Rattle.head_resolver.specs.Ahead.{IsAhead}
use Rattle.head_resolver.specs.Taken.{taken_of}
use Rattle.head_resolver.specs.declared.fault.HeadFault.TheVariants.{Full}
use Rattle.head_core.specs.Content.{IsWithinLimits}
use Rattle.replay_rounds.specs.Records.{records_of}
use Rattle.replay_rounds.proofs.Said.{length_said, pages_more, pages_next}
use Rattle.replay_rounds.proofs.Windows.{records_push}
use Rattle.replay_rounds.proofs.binding.bind_pages.Goals as goal

pub returns-in_err-place-clause-full : goal.returns-in_err-place-clause-full
returns-in_err-place-clause-full c = λ e m rs h time w.
    let full : c.bind_page.result ≡ Err Full = search rules in
    let i = c.loop-page.page-index in
    let page : List Placed = c.page-item.result in
    let next : take (i + 1) c.args.pages.now ≡ take i c.args.pages.now ++ page ∷ [] = take_more c.args.pages.now i c.page-item.result c.loop-page-test.true ∙ ap (λ (p : List Placed). take i c.args.pages.now ++ p ∷ []) (sym c.page-item.is) in
    let so_far = c.loop-page.invariant in
    let within = c.limits_hold_before.ensures.front m (rs ++ (contents (records_of (take i c.args.pages.now)) ++ contents page)) (contents (records_of (drop (i + 1) c.args.pages.now)))
    (subst (λ (ss : List WalRecord). IsWithinLimits (taken_of m ss)) (pages_next rs c.args.pages.now i page next) w) in
    c.bind_page.ensures.full full m rs (contents (records_of (take i c.args.pages.now))) (so_far.1 m rs h) (so_far.4 ∙ time) (so_far.0 ∙ sym (length_said (records_of (take i c.args.pages.now)))) within

pub loop-page-preserved : goal.loop-page-preserved
loop-page-preserved c =
    let i = c.loop-page.page-index in
    let page : List Placed = c.page-item.result in
    let next : take (i + 1) c.args.pages.now ≡ take i c.args.pages.now ++ page ∷ [] = take_more c.args.pages.now i c.page-item.result c.loop-page-test.true ∙ ap (λ (p : List Placed). take i c.args.pages.now ++ p ∷ []) (sym c.page-item.is) in
    let so_far = c.loop-page.invariant in
    let many : length (records_of (take (i + 1) c.args.pages.now)) ≡ length (records_of (take i c.args.pages.now)) + length page =
    ap (λ (ps : List (List Placed)). length (records_of ps)) next ∙ ap length (records_push (take i c.args.pages.now) page) ∙ length-append (records_of (take i c.args.pages.now)) page in (
      omega (arith, so_far.0, c.in_ok-place.ensures.place, many),
      λ m rs h.
          subst (λ (ss : List WalRecord). IsAhead (taken_of m rs) [] ss c.bind_page.new.changes c.bind_page.new.resolver) (pages_more c.args.pages.now i page next)
          (c.in_ok-place.ensures.ahead m rs (contents (records_of (take i c.args.pages.now))) (so_far.1 m rs h) (so_far.0 ∙ sym (length_said (records_of (take i c.args.pages.now))))),
      λ n le below. c.in_ok-place.ensures.below n le (so_far.2 n (omega (arith, c.bind_page.ensures.more, le)) below),
      omega (arith, so_far.3, c.bind_page.ensures.more),
      c.bind_page.ensures.time ∙ so_far.4,
      c.in_ok-place.ensures.sound,
    )

pub returns-clause-ahead : goal.returns-clause-ahead
returns-clause-ahead c = λ m rs h.
    subst (λ (ps : List (List Placed)). IsAhead (taken_of m rs) [] (contents (records_of ps)) c.loop-page.changes c.loop-page.resolver) (take_all c.loop-page.page-index c.args.pages.now c.loop-page-test.false)
    (c.loop-page.invariant.1 m rs h)
