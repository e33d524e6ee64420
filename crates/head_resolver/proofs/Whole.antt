-- What is taken of the records of a log, one after another.
use Rattle.std.proofs.Common.{◌≡◌, ℕ, ℤ, ◌+◌, List, [], ◌∷◌, ◌++◌, sym, ap, ◌∙◌, arith, add-zero, append_assoc}
use Rattle.hw_bytes.proofs.Lists.{append_none}
use Rattle.wal_record.specs.declared.record.WalRecord.{WalRecord}
use Rattle.wal_record.specs.Validity.{expired_samples, expired_stones, is_expired_sample, is_expired_stone, valid, valid_in}
use Rattle.wal_record.proofs.Validity.{expired_more, valid-append}
use Rattle.head_resolver.specs.Taken.{Taken, taken_after, taken_of, taken_with}

-- what is taken of records, and of more
pub taken_more : (m : ℤ) (rs more : List WalRecord) → taken_of m (rs ++ more) ≡ taken_with m (taken_of m rs) more
taken_more m rs more =
    let whole : List WalRecord → ℕ → ℕ → Taken = λ kept a b. record { kept = kept; expired_samples = a; expired_stones = b } in
    ap (λ kept. whole kept (expired_samples m (rs ++ more)) (expired_stones m (rs ++ more))) (valid-append m rs more)
    ∙ ap (λ a. whole (valid m rs ++ valid m more) a (expired_stones m (rs ++ more))) (expired_more (is_expired_sample m) rs more)
    ∙ ap (λ b. whole (valid m rs ++ valid m more) (expired_samples m rs + expired_samples m more) b) (expired_more (is_expired_stone m) rs more)

-- nothing more
pub taken_nothing : (m : ℤ) (t : Taken) → taken_with m t [] ≡ t
taken_nothing m t =
    let whole : List WalRecord → ℕ → ℕ → Taken = λ kept a b. record { kept = kept; expired_samples = a; expired_stones = b } in
    ap (λ kept. whole kept (t.expired_samples + 0) (t.expired_stones + 0)) (append_none t.kept)
    ∙ ap (λ a. whole t.kept a (t.expired_stones + 0)) (add-zero t.expired_samples)
    ∙ ap (λ b. whole t.kept t.expired_samples b) (add-zero t.expired_stones)

-- one record more, after others
pub taken_with-push : (m : ℤ) (t : Taken) (rs : List WalRecord) (r : WalRecord) → taken_with m t (rs ++ r ∷ []) ≡ taken_after m (taken_with m t rs) r
taken_with-push m t rs r =
    let whole : List WalRecord → ℕ → ℕ → Taken = λ kept a b. record { kept = kept; expired_samples = a; expired_stones = b } in
    let samples : t.expired_samples + expired_samples m (rs ++ r ∷ []) ≡ (t.expired_samples + expired_samples m rs) + expired_samples m (r ∷ []) = let k = expired_more (is_expired_sample m) rs (r ∷ []) in omega (arith, k) in
    let stones : t.expired_stones + expired_stones m (rs ++ r ∷ []) ≡ (t.expired_stones + expired_stones m rs) + expired_stones m (r ∷ []) = let k = expired_more (is_expired_stone m) rs (r ∷ []) in omega (arith, k) in
    ap (λ ks. whole (t.kept ++ ks) (t.expired_samples + expired_samples m (rs ++ r ∷ [])) (t.expired_stones + expired_stones m (rs ++ r ∷ []))) (valid-append m rs (r ∷ []))
    ∙ ap (λ ks. whole ks (t.expired_samples + expired_samples m (rs ++ r ∷ [])) (t.expired_stones + expired_stones m (rs ++ r ∷ []))) (sym (append_assoc t.kept (valid m rs) (valid_in m r ∷ [])))
    ∙ ap (λ a. whole ((t.kept ++ valid m rs) ++ valid_in m r ∷ []) a (t.expired_stones + expired_stones m (rs ++ r ∷ []))) samples
    ∙ ap (λ b. whole ((t.kept ++ valid m rs) ++ valid_in m r ∷ []) ((t.expired_samples + expired_samples m rs) + expired_samples m (r ∷ [])) b) stones
