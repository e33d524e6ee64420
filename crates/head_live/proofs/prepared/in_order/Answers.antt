use Rattle.std.proofs.Common.{◌≡◌, ◌+◌, ◌++◌, ◌∷◌, [], List, ap, length, of_z, rules, sym, take, to_z, w64, ◌∙◌, arith}
use Rattle.std.specs.Prelude.{ℕ, ℤ}
use Rattle.std.proofs.lemmas.Int.{to_z-of_z}
use Rattle.std.proofs.lemmas.List.{length-take, take_more}
use Rattle.head_live.specs.declared.rows.AgainRow.{AgainRow}
use Rattle.head_live.specs.Sets.{again_from}
use Rattle.head_live.proofs.AgainLemmas.{again_push}
use Rattle.head_live.proofs.prepared.in_order.Goals as goal

pub loop-place-preserved : goal.loop-place-preserved
loop-place-preserved c =
    let raw = c.index-rows-place.result in
    let rows = c.args.rows.now in
    let i = c.loop-place.place in
    let with : ℕ → ℤ → ℤ → AgainRow = λ k t v. record { place = k; time = t; value = v } in
    let time : to_z w64 (of_z w64 raw.time) ≡ raw.time = search (rules, to_z-of_z) in
    let value : to_z w64 (of_z w64 raw.value) ≡ raw.value = search (rules, to_z-of_z) in
    let long : i ≡ 0 + length (take i rows) = omega (arith, length-take i rows, c.loop-place-test.true) in
    c.in_ok-push.ensures.items
    ∙ ap (λ (rs : List AgainRow). rs ++ with i (to_z w64 (of_z w64 raw.time)) (to_z w64 (of_z w64 raw.value)) ∷ []) c.loop-place.invariant
    ∙ ap (λ (t : ℤ). again_from 0 (take i rows) ++ with i t (to_z w64 (of_z w64 raw.value)) ∷ []) time ∙ ap (λ (v : ℤ). again_from 0 (take i rows) ++ with i raw.time v ∷ []) value
    ∙ ap (λ (k : ℕ). again_from 0 (take i rows) ++ with k raw.time raw.value ∷ []) long
    ∙ sym (again_push 0 (take i rows) raw) ∙ ap (again_from 0) (ap (λ r. take i rows ++ r ∷ []) c.index-rows-place.is ∙ sym (take_more rows i raw c.loop-place-test.true))
