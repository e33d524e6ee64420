-- Elements that are read one after the other and not kept.
use Rattle.std.proofs.Common.{◌≡◌, ℕ, zero, suc, ◌-◌, ◌+◌, ◌≤◌, ◌<◌, List, [], ◌∷◌, Result, Ok, length, refl, sym, ap, ◌∙◌, arith}
use Rattle.std.proofs.lemmas.List.{nil_from_length}
use Rattle.index_text.specs.declared.fault.ReadFault.{ReadFault}
use Rattle.index_text.specs.Gives.{◌>>=◌, Fails}
use Rattle.index_text.specs.Reading.{elements_done}
use Rattle.index_text.proofs.Loops.{Fails-bind, Fails-same}

module _ (element : List ℕ → Result (List ℕ) ReadFault) where
  unroll : (k : ℕ) (bytes : List ℕ) → 0 < length bytes → elements_done element (suc k) bytes ≡ (element bytes >>= λ rest. elements_done element k rest)
  unfolding elements_done
  unroll k [] some = absurd (omega arith)
  unroll k (b ∷ more) some = refl

  none : (k : ℕ) → elements_done element k [] ≡ Ok tt
  unfolding elements_done
  none zero = refl
  none (suc k) = refl

  pub pass_on : (count i : ℕ) (bytes after : List ℕ) (total : Result (Unit {0}) ReadFault) → i < count → 0 < length bytes → element bytes ≡ Ok after
      → elements_done element (count - i) bytes ≡ total → elements_done element (count - (i + 1)) after ≡ total
  pass_on count i bytes after total lt some h so_far =
      let k : count - i ≡ suc (count - (i + 1)) = omega arith in
      let one : elements_done element (count - i) bytes ≡ elements_done element (count - (i + 1)) after =
      ap (λ j. elements_done element j bytes) k ∙ unroll (count - (i + 1)) bytes some ∙ ap (λ (r : Result (List ℕ) ReadFault). r >>= λ rest. elements_done element (count - (i + 1)) rest) h in
      sym one ∙ so_far

  pub pass_fails : (e : ReadFault) (count i : ℕ) (bytes : List ℕ) (total : Result (Unit {0}) ReadFault) → i < count → 0 < length bytes → Fails e (element bytes)
      → elements_done element (count - i) bytes ≡ total → Fails e total
  pass_fails e count i bytes total lt some h so_far =
      let k : count - i ≡ suc (count - (i + 1)) = omega arith in
      Fails-same e _ total (sym (ap (λ j. elements_done element j bytes) k ∙ unroll (count - (i + 1)) bytes some) ∙ so_far)
      (Fails-bind e (element bytes) (λ rest. elements_done element (count - (i + 1)) rest) h)

  pub pass_none : (k : ℕ) (bytes : List ℕ) (total : Result (Unit {0}) ReadFault) → length bytes ≡ 0 → elements_done element k bytes ≡ total → total ≡ Ok tt
  pass_none k bytes total empty so_far = sym so_far ∙ ap (elements_done element k) (nil_from_length bytes empty) ∙ none k

  pub pass_done : (count i : ℕ) (bytes : List ℕ) (total : Result (Unit {0}) ReadFault) → count ≤ i → elements_done element (count - i) bytes ≡ total → total ≡ Ok tt
  unfolding elements_done
  pass_done count i bytes total le so_far =
      let k : count - i ≡ 0 = omega arith in
      sym so_far ∙ ap (λ j. elements_done element j bytes) k
