-- Runs that are added one after another, in any order.
use Rattle.std.proofs.Common.{◌≡◌, ℕ, ◌+◌, ◌<◌, All, List, [], ◌∷◌, ◌++◌, ap, sym, ◌∙◌, get_or, length, take}
use Rattle.std.specs.Prelude.{ℤ, ◌||◌}
use Rattle.std.specs.List.Sorted.{IsPermutation}
use Rattle.std.proofs.lemmas.List.{take_more}
use Rattle.std.proofs.lemmas.List.Elements.{All-append, All-cons, All-head, All-nil, All-tail}
use Rattle.std.proofs.lemmas.List.Folds.{list_any-append}
use Rattle.std.proofs.lemmas.List.Sorted.{All-permutation, list_any-IsPermutation}
use Rattle.hw_bytes.proofs.Lists.{fold-push}
use Rattle.head_column.specs.declared.items.Run.{Run}
use Rattle.head_column.specs.Runs.{spans, span_any, IsRun, AreApart}
use Rattle.head_column.specs.Merging.{with_run, with_runs}
use Rattle.head_column.proofs.Bools.{or_assoc, or_false}
use Rattle.head_column.proofs.Merged.{span_any-with_run, AreApart-with_run}
use Rattle.head_column.proofs.OneRuns.{one_runs}

-- the runs with more stand apart
pub AreApart-with_runs : (rs more : List Run) → AreApart rs → All IsRun more → AreApart (with_runs rs more)
AreApart-with_runs rs [] a q = a
AreApart-with_runs rs (r ∷ more) a q = AreApart-with_runs (with_run rs r) more (AreApart-with_run rs r a (All-head IsRun r more q)) (All-tail IsRun r more q)

-- and have the times of all
pub span_any-with_runs : (rs more : List Run) (t : ℤ) → AreApart rs → All IsRun more → span_any (with_runs rs more) t ≡ (span_any rs t || span_any more t)
span_any-with_runs rs [] t a q = sym (or_false (span_any rs t))
span_any-with_runs rs (r ∷ more) t a q =
    span_any-with_runs (with_run rs r) more t (AreApart-with_run rs r a (All-head IsRun r more q)) (All-tail IsRun r more q)
    ∙ ap (λ b. b || span_any more t) (span_any-with_run rs r t a (All-head IsRun r more q))
    ∙ sym (or_assoc (span_any rs t) (spans r t) (span_any more t))

-- no run of those that are apart is empty
are_runs : (rs : List Run) → AreApart rs → All IsRun rs
are_runs [] a = All-nil IsRun
are_runs (r ∷ rs) a = All-cons IsRun r rs a.0 (are_runs rs a.2)

-- none of all runs is empty, in any order
pub All-IsRun-permuted : (rs more all : List Run) → AreApart rs → All IsRun more → IsPermutation (rs ++ more) all → All IsRun all
All-IsRun-permuted rs more all a q p = All-permutation IsRun (rs ++ more) all p (All-append IsRun rs more (are_runs rs a) q)

-- all runs, added in any order, make what more make of those that are apart
pub with_runs-permuted : (rs more all : List Run) → AreApart rs → All IsRun more → IsPermutation (rs ++ more) all → with_runs [] all ≡ with_runs rs more
with_runs-permuted rs more all a q p = one_runs (with_runs [] all) (with_runs rs more) (AreApart-with_runs [] all tt some) (AreApart-with_runs rs more a q) same where
  some : All IsRun all
  some = All-IsRun-permuted rs more all a q p

  same : (t : ℤ) → span_any (with_runs [] all) t ≡ span_any (with_runs rs more) t
  same t =
      span_any-with_runs [] all t tt some
      ∙ sym (list_any-IsPermutation (λ r. spans r t) (rs ++ more) all p)
      ∙ list_any-append (λ r. spans r t) rs more
      ∙ sym (span_any-with_runs rs more t a q)

-- one run more
pub with_runs-push : (rs more : List Run) (r : Run) → with_runs rs (more ++ r ∷ []) ≡ with_run (with_runs rs more) r
with_runs-push rs more r = fold-push with_run rs more r

pub with_runs-more : (rs more : List Run) (i : ℕ) (d : Run) → i < length more → with_runs rs (take (i + 1) more) ≡ with_run (with_runs rs (take i more)) (get_or more i d)
with_runs-more rs more i d l = ap (with_runs rs) (take_more more i d l) ∙ with_runs-push rs (take i more) (get_or more i d)
