-- Bytes that are made, kept, and written.
use Rattle.std.specs.Prelude.{◌≡◌, ℕ, List, [], ◌++◌, Option, refl}
use Rattle.std.proofs.Common.{ap, append_assoc, append-nil, subst, sym, ◌∙◌}
use Rattle.std.proofs.KnownBytes.{Appends-nil, Appends-trans}
use Rattle.std.specs.Io.KnownBytes.{Appends}
use Rattle.store.specs.Moved.{Moves}

pub none_moved : (a : Option (List ℕ)) (kept : List ℕ) → Moves a kept a kept
none_moved a kept = record { written = []; appends = Appends-nil a; all = refl }

pub all_moved : (a b : Option (List ℕ)) (kept : List ℕ) → Appends a b kept → Moves a kept b []
all_moved a b kept appends = record { written = kept; appends = appends; all = sym (append-nil kept) }

-- the next piece was made, and some of what was kept was written
pub moved_on : (a b c : Option (List ℕ)) (all kept left more still rest : List ℕ) → Moves a all b (kept ++ left) → kept ++ left ≡ more ++ rest → Moves b more c still → Moves a all c (still ++ rest)
moved_on a b c all kept left more still rest before next then = record {
  written = before.written ++ then.written;
  appends = Appends-trans a b c before.written then.written before.appends then.appends;
  all = before.all ∙ ap (λ x. before.written ++ x) (next ∙ ap (λ x. x ++ rest) then.all ∙ append_assoc then.written still rest) ∙ sym (append_assoc before.written then.written (still ++ rest));
}

-- what was kept is written too, and nothing is to come
pub moved_all : (a b c : Option (List ℕ)) (all kept left : List ℕ) → Moves a all b (kept ++ left) → left ≡ [] → Appends b c kept → Appends a c all
moved_all a b c all kept left before none appends =
    subst (Appends a c) (sym (before.all ∙ ap (λ x. before.written ++ (kept ++ x)) none ∙ ap (λ x. before.written ++ x) (append-nil kept))) (Appends-trans a b c before.written kept before.appends appends)
