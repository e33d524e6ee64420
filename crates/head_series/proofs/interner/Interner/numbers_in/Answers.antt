use Rattle.std.proofs.Common.{Err, ◌≡◌, ap, sym, subst, ◌∙◌, ◌++◌, ◌∷◌, [], take, length, arith}
use Rattle.head_series.specs.declared.interner.InternFault.TheVariants.{Full}
use Rattle.head_series.specs.Rows.{IsRead, label}
use Rattle.head_series.proofs.TextLemmas.{take_more, IsRead-push, front_first, front_second, full_first, full_second}
use Rattle.head_series.proofs.interner.Interner.numbers_in.Goals as goal

pub returns-in-Err-clause-front : goal.returns-in-Err-clause-front
returns-in-Err-clause-front c =
    ap (take (length c.args.self.now.texts)) c.in-Err.ensures.kept ∙ front_first c.args.self.now.texts (take c.loop-i.i c.args.labels.now) c.loop-i.self.texts c.loop-i.numbers.items c.loop-i.invariant.0

pub returns-in-Err-clause-full : goal.returns-in-Err-clause-full
returns-in-Err-clause-full c h =
    let f = c.in-Err.ensures.full (let k : c.in-Err.fault ≡ Full = cc in ap Err k) in
    let i = c.loop-i.invariant in
    full_first c.args.self.now.texts c.args.labels.now c.loop-i.i c.args.self.now.most c.loop-i.self.texts c.loop-i.numbers.items (label c.pair.result.0.now c.pair.result.1.now) c.pair.ensures i.0 f.0 (f.1 ∙ i.1)

pub returns-in-Err-number_near-clause-front : goal.returns-in-Err-number_near-clause-front
returns-in-Err-number_near-clause-front c =
    ap (take (length c.args.self.now.texts)) c.in-Err-number_near.ensures.kept ∙ front_second c.args.self.now.texts (take c.loop-i.i c.args.labels.now) c.loop-i.self.texts c.number_near.new.self.texts c.loop-i.numbers.items c.pair.result.0.now c.loop-i.invariant.0 c.in-Ok.ensures.texts

pub returns-in-Err-number_near-clause-full : goal.returns-in-Err-number_near-clause-full
returns-in-Err-number_near-clause-full c h =
    let f = c.in-Err-number_near.ensures.full (let k : c.in-Err-number_near.fault ≡ Full = cc in ap Err k) in
    let i = c.loop-i.invariant in
    full_second c.args.self.now.texts c.args.labels.now c.loop-i.i c.args.self.now.most c.loop-i.self.texts c.number_near.new.self.texts c.loop-i.numbers.items (label c.pair.result.0.now c.pair.result.1.now) c.pair.ensures i.0 c.in-Ok.ensures.texts f.0 (f.1 ∙ c.in-Ok.ensures.most ∙ i.1)

pub returns-in_err-push-clause-front : goal.returns-in_err-push-clause-front
returns-in_err-push-clause-front c =
    let i = c.loop-i.invariant in
    front_first c.args.self.now.texts (take c.loop-i.i c.args.labels.now ++ (label c.pair.result.0.now c.pair.result.1.now) ∷ []) c.number_near-in-loop-i.new.self.texts (c.loop-i.numbers.items ++ (c.in-Ok.first, c.in-Ok-number_near.second) ∷ [])
    (IsRead-push c.args.self.now.texts (take c.loop-i.i c.args.labels.now) c.loop-i.self.texts c.number_near.new.self.texts c.number_near-in-loop-i.new.self.texts c.loop-i.numbers.items (label c.pair.result.0.now c.pair.result.1.now) c.in-Ok.first c.in-Ok-number_near.second
    i.0 c.in-Ok.ensures.texts c.in-Ok.ensures.number c.in-Ok-number_near.ensures.texts c.in-Ok-number_near.ensures.number)

pub loop-i-preserved : goal.loop-i-preserved
loop-i-preserved c =
    let i = c.loop-i.invariant in
    let r = IsRead-push c.args.self.now.texts (take c.loop-i.i c.args.labels.now) c.loop-i.self.texts c.number_near.new.self.texts c.number_near-in-loop-i.new.self.texts c.loop-i.numbers.items (label c.pair.result.0.now c.pair.result.1.now) c.in-Ok.first c.in-Ok-number_near.second
    i.0 c.in-Ok.ensures.texts c.in-Ok.ensures.number c.in-Ok-number_near.ensures.texts c.in-Ok-number_near.ensures.number in (
      subst (λ ls. IsRead c.args.self.now.texts ls c.number_near-in-loop-i.new.self.texts c.push.new.self.items) (sym (take_more c.args.labels.now c.loop-i.i (label c.pair.result.0.now c.pair.result.1.now) c.pair.ensures))
          (subst (λ ns. IsRead c.args.self.now.texts (take c.loop-i.i c.args.labels.now ++ (label c.pair.result.0.now c.pair.result.1.now) ∷ []) c.number_near-in-loop-i.new.self.texts ns) (sym c.in_ok-push.ensures.items) r),
      c.in-Ok-number_near.ensures.most ∙ c.in-Ok.ensures.most ∙ i.1,
      omega (arith, c.loop-i-test.true),
    )

pub returns-clause-front : goal.returns-clause-front
returns-clause-front c = front_first c.args.self.now.texts (take c.loop-i.i c.args.labels.now) c.loop-i.self.texts c.loop-i.numbers.items c.loop-i.invariant.0
