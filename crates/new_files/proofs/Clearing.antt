-- Removals of unfinished files that nobody writes any more, one after another.
use Rattle.std.proofs.Common.{List, [], ◌++◌, ℕ}
use Rattle.store.specs.Calls.{Call}
use Rattle.new_files.specs.Abandoned.{Clears, IsClearing}
use Rattle.std.proofs.lemmas.List.Elements.{All-append, All-nil}

module _ {S : Type 0} (did : S → List Call → S → Type 0) where
  pub cleared_none : ((state : S) → did state [] state) → (state : S) (dir : List ℕ) → Clears did state dir state
  cleared_none nothing state dir = record { made = []; done = nothing state; each = All-nil (IsClearing dir) }

  pub cleared_both : ((old middle new : S) (first second : List Call) → did old first middle → did middle second new → did old (first ++ second) new)
      → (old middle new : S) (dir : List ℕ) → Clears did old dir middle → Clears did middle dir new → Clears did old dir new
  cleared_both both old middle new dir a b = record {
    made = a.made ++ b.made;
    done = both old middle new a.made b.made a.done b.done;
    each = All-append (IsClearing dir) a.made b.made a.each b.each;
  }
