use Rattle.std.proofs.Common.{◌≡◌, ◌∙◌, ◌/◌, ◌%◌, ◌||◌, Bool, nat_eq, ap, subst}
use Rattle.std.specs.Prelude.{ℕ, slice_index}
use Rattle.std.proofs.lemmas.List.{get_or_default}
use Rattle.wal_survey.specs.ReferenceSets.{is_set}
use Rattle.wal_survey.proofs.Bits.{bit_more}
use Rattle.wal_survey.proofs.reference_set.insert_low.Goals as goal

pub returns : goal.returns
returns c = λ r.
    let words = c.grow.new.words.items in
    let at : ℕ = c.args.reference / 64 in
    let read : c.index.result.now ≡ slice_index words at = c.index.ensures ∙ get_or_default words at c.index.result.now 0 c.in_ok-grow.ensures.there in
    let bits : (k : ℕ) → is_set c.with_bit.result k ≡ (nat_eq k (c.args.reference % 64) || is_set (slice_index words at) k) = λ k. subst (λ (w : ℕ). is_set c.with_bit.result k ≡ (nat_eq k (c.args.reference % 64) || is_set w k)) read (c.with_bit.ensures k) in
    bit_more words c.args.reference c.with_bit.result c.in_ok-grow.ensures.there bits r ∙ ap (λ (b : Bool). nat_eq r c.args.reference || b) (c.in_ok-grow.ensures.same r)
