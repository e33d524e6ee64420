use Rattle.std.proofs.Common.{◌∙◌, List, sym, subst, true≢false}
use Rattle.std.proofs.lemmas.List.Sorted.{IsPermutation-sym, IsPermutation-trans}
use Rattle.std.proofs.lemmas.Slice.Eq.{slice_eq-Decides}
use Rattle.std.specs.List.Sorted.{IsPermutation}
use Rattle.head_live.specs.declared.placed.PlacedSample.{PlacedSample}
use Rattle.head_live.proofs.PlacedLemmas.{placed_eq}
use Rattle.head_live.proofs.OrderLemmas.{one_placed}
use Rattle.head_live.proofs.placed.are_same.Goals as goal

pub returns : goal.returns
returns c =
    let decides = slice_eq-Decides placed_eq c.as_slice.result.now c.args.new.now c.eq.result c.eq.ensures in
    let sorted : List PlacedSample = c.sort_unstable.new.self.items in record {
      same = λ h. subst (IsPermutation c.args.accepted.items) (sym c.as_slice.ensures.value ∙ decides.0 h) c.sort_unstable.ensures.permutation;
      differ = λ no before same.
          let reordered = IsPermutation-trans sorted c.args.accepted.items c.args.new.now (IsPermutation-sym c.args.accepted.items sorted c.sort_unstable.ensures.permutation) same in
          true≢false (sym (decides.1 (c.as_slice.ensures.value ∙ one_placed sorted c.args.new.now c.sort_unstable.ensures.sorted before reordered)) ∙ no);
    }
