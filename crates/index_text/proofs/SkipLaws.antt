-- Fields that are read one after the other and not kept.
use Rattle.std.proofs.Common.{◌≡◌, ℕ, suc, ◌-◌, ◌+◌, ◌≤◌, ◌<◌, List, ◌∷◌, Result, Ok, Err, refl, sym, ap, ◌∙◌, arith}
use Rattle.index_text.specs.declared.fault.ReadFault.{ReadFault}
use Rattle.index_text.specs.Gives.{◌>>=◌, rest_of, Fails}
use Rattle.index_text.specs.Fields.{Field, times}
use Rattle.index_text.proofs.Loops.{Fails-bind, Fails-same}

module _ {X : Type 0} (field : Field X) where
  put_first : (x : X) (r : Result (List X × List ℕ) ReadFault) → rest_of (r >>= λ others. Ok (x ∷ others.0, others.1)) ≡ rest_of r
  put_first x (Ok y) = refl
  put_first x (Err e) = refl

  -- one field, and what follows the others
  one_more : (k : ℕ) (bytes : List ℕ) → rest_of (times field (suc k) bytes) ≡ (rest_of (field bytes) >>= λ after. rest_of (times field k after))
  unfolding times
  one_more k bytes = by (field bytes) where
    by : (r : Result (X × List ℕ) ReadFault) → rest_of (r >>= λ first. times field k first.1 >>= λ others. Ok (first.0 ∷ others.0, others.1)) ≡ (rest_of r >>= λ after. rest_of (times field k after))
    by (Ok x) = put_first x.0 (times field k x.1)
    by (Err e) = refl

  pub skip_on : (count i : ℕ) (bytes after : List ℕ) (total : Result (List ℕ) ReadFault) → i < count → rest_of (field bytes) ≡ Ok after
      → rest_of (times field (count - i) bytes) ≡ total → rest_of (times field (count - (i + 1)) after) ≡ total
  skip_on count i bytes after total lt h so_far =
      let k : count - i ≡ suc (count - (i + 1)) = omega arith in
      let one : rest_of (times field (count - i) bytes) ≡ rest_of (times field (count - (i + 1)) after) =
      ap (λ j. rest_of (times field j bytes)) k ∙ one_more (count - (i + 1)) bytes ∙ ap (λ (r : Result (List ℕ) ReadFault). r >>= λ b. rest_of (times field (count - (i + 1)) b)) h in
      sym one ∙ so_far

  pub skip_fails : (e : ReadFault) (count i : ℕ) (bytes : List ℕ) (total : Result (List ℕ) ReadFault) → i < count → Fails e (rest_of (field bytes))
      → rest_of (times field (count - i) bytes) ≡ total → Fails e total
  skip_fails e count i bytes total lt h so_far =
      let k : count - i ≡ suc (count - (i + 1)) = omega arith in
      Fails-same e _ total (sym (ap (λ j. rest_of (times field j bytes)) k ∙ one_more (count - (i + 1)) bytes) ∙ so_far)
      (Fails-bind e (rest_of (field bytes)) (λ b. rest_of (times field (count - (i + 1)) b)) h)

  pub skip_done : (count i : ℕ) (bytes : List ℕ) (total : Result (List ℕ) ReadFault) → count ≤ i → rest_of (times field (count - i) bytes) ≡ total → total ≡ Ok bytes
  unfolding times
  skip_done count i bytes total le so_far =
      let k : count - i ≡ 0 = omega arith in
      sym so_far ∙ ap (λ j. rest_of (times field j bytes)) k
