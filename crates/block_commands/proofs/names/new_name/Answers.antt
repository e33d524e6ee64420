use Rattle.std.proofs.Common.{◌≡◌, ◌+◌, ◌*◌, ◌%◌, ◌^◌, ◌∷◌, ◌++◌, [], List, ℕ, ap, sym, ◌∙◌, arith, map}
use Rattle.std.specs.List.{range_with_len}
use Rattle.std.proofs.lemmas.List.FromFn.{map-range_with_len_more}
use Rattle.block_commands.specs.Names.{digit_at, made_name}
use Rattle.block_commands.proofs.names.new_name.Goals as goal

pub loop-place-preserved : goal.loop-place-preserved
loop-place-preserved c =
    let n : ℕ = c.from.result % 2 ^ 48 * 2 ^ 80 + c.args.random % 2 ^ 80 in
    c.in_ok-push.ensures.items ∙ ap (λ (xs : List ℕ). xs ++ c.digit.result ∷ []) c.loop-place.invariant ∙ ap (λ (x : ℕ). map (digit_at n) (range_with_len 0 c.loop-place.place) ++ x ∷ []) c.digit.ensures
    ∙ sym (map-range_with_len_more (digit_at n) 0 c.loop-place.place c.loop-place.place (omega arith))

pub returns : goal.returns
unfolding made_name
returns c =
    let n : ℕ = c.from.result % 2 ^ 48 * 2 ^ 80 + c.args.random % 2 ^ 80 in
    let done : c.loop-place.place ≡ 26 = omega (arith, c.loop-place-test.false, c.loop-place.auto.place-end) in
    c.loop-place.invariant ∙ ap (λ (k : ℕ). map (digit_at n) (range_with_len 0 k)) done ∙ ap (λ (m : ℕ). map (digit_at (m % 2 ^ 48 * 2 ^ 80 + c.args.random % 2 ^ 80)) (range_with_len 0 26)) c.from.ensures
