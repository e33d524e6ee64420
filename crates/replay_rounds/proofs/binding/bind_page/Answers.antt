use Rattle.std.proofs.Common.{rules, ◌≡◌, ◌∙◌, ◌++◌, ◌+◌, ℕ, [], Err, IfOk, List, arith, length, length-append, sym, ap, subst, append_assoc}
use Rattle.std.proofs.lemmas.List.{length-map}
use Rattle.wal_record.specs.declared.record.WalRecord.{WalRecord}
use Rattle.wal_log.specs.declared.reading.Placed.{Placed}
use Rattle.wal_log.specs.Log.{contents}
use Rattle.head_resolver.specs.Ahead.{IsAhead}
use Rattle.head_resolver.specs.Taken.{taken_of}
use Rattle.head_resolver.specs.declared.fault.HeadFault.TheVariants.{Full}
use Rattle.head_core.specs.Content.{IsWithinLimits}
use Rattle.replay_rounds.proofs.Pages.{parts_behind, rest_behind, samples_bind_nothing}
use Rattle.replay_rounds.proofs.binding.bind_page.Goals as goal

pub returns-in_err-first-clause-full : goal.returns-in_err-first-clause-full
returns-in_err-first-clause-full c = λ e m rs back h time at w.
    let full : c.bind_records.result ≡ Err Full = search rules in
    let before : List Placed = c.parts.result.0.now in
    let samples : List Placed = c.parts.result.1.now in
    let behind : List Placed = c.parts.result.2.now in
    let all : (rs ++ (back ++ contents before)) ++ (contents samples ++ contents behind) ≡ rs ++ (back ++ contents c.args.page.now) =
    append_assoc rs (back ++ contents before) (contents samples ++ contents behind) ∙ ap (λ (ss : List WalRecord). rs ++ ss) (rest_behind back c.args.page.now before samples behind c.parts.ensures) in
    c.bind_records.ensures.full full m rs back h time at
    (c.limits_hold_before.ensures.front m (rs ++ (back ++ contents before)) (contents samples ++ contents behind) (subst (λ (ss : List WalRecord). IsWithinLimits (taken_of m ss)) (sym all) w))

-- the place of the last part
behind_at : (back : List WalRecord) (before samples : List Placed) (place first next : ℕ) → place ≡ length back → first ≡ place + length before → next ≡ first + length samples
    → next ≡ length ((back ++ contents before) ++ contents samples)
behind_at back before samples place first next at one two =
    omega (arith, at, one, two, length-append (back ++ contents before) (contents samples), length-append back (contents before), length-map before (λ (p : Placed). p.content), length-map samples (λ (p : Placed). p.content))

pub returns-clause-ahead : goal.returns-clause-ahead
returns-clause-ahead c = λ m rs back h at.
    let before : List Placed = c.parts.result.0.now in
    let samples : List Placed = c.parts.result.1.now in
    let behind : List Placed = c.parts.result.2.now in
    let front : List WalRecord = (back ++ contents before) ++ contents samples in
    let added = rw c.in-Some.is at c.checked_add.ensures in
    let next : c.in-Some.next ≡ c.in_ok-first.first + length samples = added.1 ∙ ap (λ n. c.in_ok-first.first + n) c.len.ensures.count in
    let bound = c.spread_ahead.ensures.quiet (taken_of m rs) [] (back ++ contents before) (contents samples) c.bind_records.new.changes c.bind_records.new.resolver (c.in_ok-first.ensures.ahead m rs back h at) (samples_bind_nothing (contents samples) c.len.ensures.samples) in
    subst (λ (ss : List WalRecord). IfOk c.bind_records-2.result (λ _. IsAhead (taken_of m rs) [] ss c.bind_records-2.new.changes c.bind_records-2.new.resolver)) (parts_behind back c.args.page.now before samples behind c.parts.ensures)
    (c.bind_records-2.ensures.ahead m rs front bound (behind_at back before samples c.args.place c.in_ok-first.first c.in-Some.next at c.in_ok-first.ensures.place next))

pub returns-clause-full : goal.returns-clause-full
returns-clause-full c = λ e m rs back h time at w.
    let before : List Placed = c.parts.result.0.now in
    let samples : List Placed = c.parts.result.1.now in
    let behind : List Placed = c.parts.result.2.now in
    let front : List WalRecord = (back ++ contents before) ++ contents samples in
    let added = rw c.in-Some.is at c.checked_add.ensures in
    let next : c.in-Some.next ≡ c.in_ok-first.first + length samples = added.1 ∙ ap (λ n. c.in_ok-first.first + n) c.len.ensures.count in
    let bound = c.spread_ahead.ensures.quiet (taken_of m rs) [] (back ++ contents before) (contents samples) c.bind_records.new.changes c.bind_records.new.resolver (c.in_ok-first.ensures.ahead m rs back h at) (samples_bind_nothing (contents samples) c.len.ensures.samples) in
    c.bind_records-2.ensures.full e m rs front bound (c.bind_records.ensures.time ∙ time) (behind_at back before samples c.args.place c.in_ok-first.first c.in-Some.next at c.in_ok-first.ensures.place next)
    (subst (λ (ss : List WalRecord). IsWithinLimits (taken_of m (rs ++ ss))) (sym (parts_behind back c.args.page.now before samples behind c.parts.ensures)) w)
