use Rattle.std.proofs.Common.{arith, ◌+◌, ◌≤◌, ◌∷◌, [], sym, subst}
use Rattle.std.specs.Prelude.{All, IsTrue, false}
use Rattle.wal_record.specs.Entries.{entries_of}
use Rattle.head_resolver.specs.Limits.{count_limit}
use Rattle.head_resolver.specs.Counts.{bound}
use Rattle.head_resolver.proofs.CountRoom.{all_classes, all_expired, all_fates}
use Rattle.head_resolver.proofs.counts.Counts.check_room.Goals as goal

pub returns-in_default-clause-full : goal.returns-in_default-clause-full
returns-in_default-clause-full c = λ counts expired classes.
    let few = counts bound in
    let over = c.count_entries.ensures.none c.in_default.is in
    omega (arith, few, over)

pub returns-then-not-all_fit-clause-full : goal.returns-then-not-all_fit-clause-full
returns-then-not-all_fit-clause-full c = λ counts expired classes.
    let fit : IsTrue false = c.if-not-all_fit.ensures.fit.1 (all_classes c.args.self.now c.args.records.now classes) in
    cc

pub returns-then-not-all_fit-2-clause-full : goal.returns-then-not-all_fit-2-clause-full
returns-then-not-all_fit-2-clause-full c = λ counts expired classes.
    let t = c.args.self.now in
    let fit : IsTrue false = c.if-not-all_fit-2.ensures.fit.1
    (subst (λ n. All (λ count. count + n ≤ count_limit) (t.series_entries ∷ t.accepted ∷ t.stale ∷ t.unknown ∷ t.hiding ∷ t.empty_stones ∷ t.unknown_stones ∷ []))
    (sym c.in-Some.ensures.some) (all_fates t (entries_of c.args.records.now) counts)) in
    cc

pub returns-then-not-all_fit-3-clause-full : goal.returns-then-not-all_fit-3-clause-full
returns-then-not-all_fit-3-clause-full c = λ counts expired classes.
    let t = c.args.self.now in
    let fit : IsTrue false = c.if-not-all_fit-3.ensures.fit.1
    (subst (λ n. All (λ count. count + n ≤ count_limit) (t.expired_samples ∷ t.expired_stones ∷ [])) (sym c.in-Some.ensures.some) (all_expired t (entries_of c.args.records.now) expired)) in
    cc
