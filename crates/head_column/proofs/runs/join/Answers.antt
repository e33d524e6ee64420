use Rattle.std.proofs.Common.{◌≡◌, ◌++◌, ◌∙◌, All, List, subst, sym, rules}
use Rattle.std.specs.List.Sorted.{IsPermutation}
use Rattle.std.proofs.lemmas.Result.{IfOk-weaker}
use Rattle.head_column.specs.declared.items.Run.{Run}
use Rattle.head_column.specs.Runs.{IsRun}
use Rattle.head_column.proofs.Gathered.{with_runs-permuted, All-IsRun-permuted}
use Rattle.head_column.proofs.runs.join.Goals as goal

pub merge_all-requires : goal.merge_all-requires
merge_all-requires c =
    let both : List Run = c.args.runs.now ++ c.args.more.now in
    let whole : c.extend_from_slice-2.new.self.items ≡ both = search rules in
    let permuted : IsPermutation both c.sort_unstable_by_key.new.self.items = subst (λ xs. IsPermutation xs c.sort_unstable_by_key.new.self.items) whole c.sort_unstable_by_key.ensures.permutation in
    subst (All IsRun) (sym c.deref.ensures.value) (All-IsRun-permuted c.args.runs.now c.args.more.now _ c.requires.apart c.requires.some permuted)

pub returns : goal.returns
returns c =
    let both : List Run = c.args.runs.now ++ c.args.more.now in
    let whole : c.extend_from_slice-2.new.self.items ≡ both = search rules in
    let permuted : IsPermutation both c.sort_unstable_by_key.new.self.items = subst (λ xs. IsPermutation xs c.sort_unstable_by_key.new.self.items) whole c.sort_unstable_by_key.ensures.permutation in
    let same : IsPermutation both c.deref.result.now = subst (IsPermutation both) (sym c.deref.ensures.value) permuted in
    IfOk-weaker c.merge_all.result _ _ (λ joined e. e ∙ with_runs-permuted c.args.runs.now c.args.more.now c.deref.result.now c.requires.apart c.requires.some same) c.merge_all.ensures
