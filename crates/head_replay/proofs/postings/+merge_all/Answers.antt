use Rattle.std.proofs.Common.{◌≡◌, ◌+◌, ◌/◌, ℕ, List, IfOk, vec_len, sym, subst, arith}
use Rattle.head_postings.specs.Postings.{IsPostingsOf}
use Rattle.head_core.specs.Content.{by_slot}
use Rattle.head_replay.specs.Partial.{belonging, AreNumbered}
use Rattle.head_replay.specs.declared.postings.Listing.{Listing}
use Rattle.head_replay.proofs.Partial.{merged, numbered_drop, numbered_take, IsListed}
use Rattle.head_replay.proofs.postings.+merge_all.Goals as goal

pub returns : goal.returns
returns t c = record {
  postings = λ workers first series listed.
      let half = c.len-half.result / 2 in
      let jobs = c.args.jobs.items in
      let cut = c.in_ok-rest.ensures in
      let lower = c.in_ok-low.ensures.postings workers first series (subst (λ (js : List Listing). AreNumbered (IsListed workers series) first js) (sym {A = List Listing} cut.items) (numbered_take (IsListed workers series) first half jobs listed)) in
      let upper = c.in_ok-high.ensures.postings workers (first + half) series (subst (λ (js : List Listing). AreNumbered (IsListed workers series) (first + half) js) (sym {A = List Listing} cut.tail) (numbered_drop (IsListed workers series) first half jobs listed)) in
      let low_end : first + vec_len c.split_off.new.self ≡ first + half = omega (arith, cut.len) in
      let end : first + half + vec_len c.in_ok-rest.rest ≡ first + vec_len c.args.jobs = omega (arith, cut.tail_len) in
      subst (λ (n : ℕ). IfOk c.merge.result (λ postings. IsPostingsOf (belonging workers first n (by_slot series)) postings)) end
      (c.merge.ensures.postings _ _ _ (subst (λ (n : ℕ). IsPostingsOf (belonging workers first n (by_slot series)) c.in_ok-low.low) low_end lower) upper (merged workers first (first + half) (first + half + vec_len c.in_ok-rest.rest) series (omega arith) (omega arith)));
}
