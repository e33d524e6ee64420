-- A label set has each label once.
use Rattle.std.proofs.Common.{◌≡◌, ℕ, zero, suc, Bool, true, false, [], ◌∷◌, Some, ap, sym, ◌∙◌, refl, take}
use Rattle.std.specs.Prelude.{◌&&◌, ◌||◌, slice_get}
use Rattle.std.specs.Cmp.Lexicographic.{slice_cmp}
use Rattle.std.specs.Ordering.{nat_cmp}
use Rattle.std.specs.declared.cmp.Ordering.TheVariants.{Less, Equal}
use Rattle.std.proofs.lemmas.Cmp.{nat_list_cmp_total, tied_itself}
use Rattle.wal_record.specs.declared.labels.Label.{Label}
use Rattle.wal_record.specs.Labels.{IsLabelSet, Labels, Text, same_text}
use Rattle.wal_record.proofs.SameText.{same_text_exact}
use Rattle.head_ranks.specs.Counts.{has_label}

-- a name differs from one that is less
greater_apart : (n m : Text) → slice_cmp nat_cmp m n ≡ Less → same_text n m ≡ false
greater_apart n m h = at (same_text n m) refl where
  at : (b : Bool) → same_text n m ≡ b → b ≡ false
  at true e =
      let k : n ≡ m = same_text_exact n m e in
      let o : slice_cmp nat_cmp m m ≡ Equal = tied_itself nat_list_cmp_total m in
      let p : slice_cmp nat_cmp m m ≡ Less = ap (slice_cmp nat_cmp m) (sym k) ∙ h in absurd cc
  at false e = refl

rest_set : (m : Label) (more : Labels) → IsLabelSet (m ∷ more) → IsLabelSet more
rest_set m [] o = tt
rest_set m (p ∷ more) o = o.2

-- the first name is less than each that follows
first_less : (m : Label) (more : Labels) (i : ℕ) (l : Label) → IsLabelSet (m ∷ more) → slice_get more i ≡ Some l → slice_cmp nat_cmp m.name l.name ≡ Less
first_less m [] i l o h = cc
first_less m (p ∷ more) zero l o h = (let k : p ≡ l = cc in ap (λ (q : Label). slice_cmp nat_cmp m.name q.name) (sym k) ∙ o.1)
first_less m (p ∷ more) (suc i) l o h = nat_list_cmp_total.trans m.name p.name l.name o.1 (first_less p more i l o.2 h)

-- no label of a set is among those before it
pub first_there : (ls : Labels) (i : ℕ) (l : Label) → IsLabelSet ls → slice_get ls i ≡ Some l → has_label l (take i ls) ≡ false
first_there [] i l o h = cc
first_there (m ∷ more) zero l o h = refl
first_there (m ∷ more) (suc i) l o h =
    ap (λ (b : Bool). (b && same_text l.value m.value) || has_label l (take i more)) (greater_apart l.name m.name (first_less m more i l o h))
    ∙ first_there more i l (rest_set m more o) h
