-- The maximal runs of a test are one list.
use Rattle.std.proofs.Common.{◌≡◌, Bool, true, false, List, [], ◌∷◌, ap, sym, ◌∙◌, refl, arith, subst}
use Rattle.std.specs.Prelude.{ℤ, pos, ◌+ℤ◌, ◌≤ℤ◌, ◌<ℤ◌, ◌&&◌, ◌||◌, int_le, int_lt}
use Rattle.std.proofs.lemmas.Int.{ints}
use Rattle.head_column.specs.declared.items.Run.{Run}
use Rattle.head_column.specs.Runs.{spans, span_any, BeginPast, AreApart, AreRunsOf}
use Rattle.head_column.proofs.Merged.{past_further}

within : (a b t : ℤ) → a ≤ℤ t → t ≤ℤ b → (int_le a t && int_le t b) ≡ true
within a b t p q = grind (arith, ints)

before : (a b t : ℤ) → t <ℤ a → (int_le a t && int_le t b) ≡ false
before a b t p = grind (arith, ints)

after : (a b t : ℤ) → b <ℤ t → (int_le a t && int_le t b) ≡ false
after a b t p = grind (arith, ints)

past_to : (b c t : ℤ) → (b +ℤ pos 1) <ℤ c → t ≤ℤ (b +ℤ pos 1) → t <ℤ c
past_to b c t p q = grind (arith, ints)

-- no run has a time up to the one after b, where they begin past it
pub none_to : (b t : ℤ) (rs : List Run) → AreApart rs → BeginPast b rs → t ≤ℤ (b +ℤ pos 1) → span_any rs t ≡ false
none_to b t [] a p q = refl
none_to b t (r ∷ rs) a p q =
    ap (λ x. x || span_any rs t) (before r.min_time r.max_time t (past_to b r.min_time t p q))
    ∙ none_to b t rs a.2 (past_further b r rs a.0 a.1 p) q

le_next : (t a b : ℤ) → t <ℤ a → a ≤ℤ b → t ≤ℤ (b +ℤ pos 1)
le_next t a b p q = grind (arith, ints)

-- no run has a time before the first
none_before : (r : Run) (rs : List Run) (t : ℤ) → AreApart (r ∷ rs) → t <ℤ r.min_time → span_any (r ∷ rs) t ≡ false
none_before r rs t a p =
    ap (λ x. x || span_any rs t) (before r.min_time r.max_time t p)
    ∙ none_to r.max_time t rs a.2 a.1 (le_next t r.min_time r.max_time p a.0.some)

le_refl : (a : ℤ) → a ≤ℤ a
le_refl a = grind (arith, ints)

first_has : (r : Run) (rs : List Run) → AreApart (r ∷ rs) → span_any (r ∷ rs) r.min_time ≡ true
first_has r rs a = ap (λ x. x || span_any rs r.min_time) (within r.min_time r.max_time r.min_time (le_refl r.min_time) a.0.some)

equal : (a b : ℤ) → int_lt a b ≡ false → int_lt b a ≡ false → a ≡ b
equal a b p q = grind (arith, ints)

lt_of : (a b : ℤ) → int_lt a b ≡ true → a <ℤ b
lt_of a b p = grind (arith, ints)

-- a first run does not begin before the other
not_earlier : (q : Run) (qs : List Run) (r : Run) (rs : List Run) → AreApart (q ∷ qs) → AreApart (r ∷ rs)
    → ((t : ℤ) → span_any (q ∷ qs) t ≡ span_any (r ∷ rs) t) → int_lt q.min_time r.min_time ≡ false
not_earlier q qs r rs a b e = by (int_lt q.min_time r.min_time) refl where
  by : (x : Bool) → int_lt q.min_time r.min_time ≡ x → x ≡ false
  by false h = refl
  by true h = sym (first_has q qs a) ∙ e q.min_time ∙ none_before r rs q.min_time b (lt_of q.min_time r.min_time h)

next_in : (a b c t : ℤ) → a ≤ℤ b → b <ℤ c → t ≡ (b +ℤ pos 1) → (int_le a t && int_le t c) ≡ true
next_in a b c t p q e = grind (arith, ints)

next_out : (a b t : ℤ) → t ≡ (b +ℤ pos 1) → (int_le a t && int_le t b) ≡ false
next_out a b t e = grind (arith, ints)

-- nor end before it
not_shorter : (q : Run) (qs : List Run) (r : Run) (rs : List Run) → AreApart (q ∷ qs) → AreApart (r ∷ rs) → q.min_time ≡ r.min_time
    → ((t : ℤ) → span_any (q ∷ qs) t ≡ span_any (r ∷ rs) t) → int_lt q.max_time r.max_time ≡ false
not_shorter q qs r rs a b m e = by (int_lt q.max_time r.max_time) refl where
  t : ℤ
  t = q.max_time +ℤ pos 1

  low : r.min_time ≤ℤ q.max_time
  low = let k = a.0.some in let g : r.min_time ≤ℤ q.max_time = grind (arith, ints, m, k) in g

  by : (x : Bool) → int_lt q.max_time r.max_time ≡ x → x ≡ false
  by false h = refl
  by true h =
      sym (ap (λ x. x || span_any rs (q.max_time +ℤ pos 1)) (next_in r.min_time q.max_time r.max_time (q.max_time +ℤ pos 1) low (lt_of q.max_time r.max_time h) refl))
      ∙ sym (e (q.max_time +ℤ pos 1))
      ∙ ap (λ x. x || span_any qs (q.max_time +ℤ pos 1)) (next_out q.min_time q.max_time (q.max_time +ℤ pos 1) refl)
      ∙ none_to q.max_time (q.max_time +ℤ pos 1) qs a.2 a.1 (le_refl (q.max_time +ℤ pos 1))

le_of : (a b t : ℤ) → (int_le a t && int_le t b) ≡ true → t ≤ℤ (b +ℤ pos 1)
le_of a b t h = grind (arith, ints)

same_rest : (q : Run) (qs rs : List Run) → AreApart (q ∷ qs) → AreApart (q ∷ rs) → ((t : ℤ) → span_any (q ∷ qs) t ≡ span_any (q ∷ rs) t) → (t : ℤ) → span_any qs t ≡ span_any rs t
same_rest q qs rs a b e t = by (spans q t) refl (e t) where
  by : (x : Bool) → spans q t ≡ x → (x || span_any qs t) ≡ (x || span_any rs t) → span_any qs t ≡ span_any rs t
  by true h f =
      none_to q.max_time t qs a.2 a.1 (le_of q.min_time q.max_time t h) ∙ sym (none_to q.max_time t rs b.2 b.1 (le_of q.min_time q.max_time t h))
  by false h f = f

run_equal : (q r : Run) → q.min_time ≡ r.min_time → q.max_time ≡ r.max_time → q ≡ r
run_equal q r e f = ap (λ a. record { min_time = a; max_time = q.max_time }) e ∙ ap (λ b. record { min_time = r.min_time; max_time = b }) f

-- runs that are apart and have the same times are the same
pub one_runs : (qs rs : List Run) → AreApart qs → AreApart rs → ((t : ℤ) → span_any qs t ≡ span_any rs t) → qs ≡ rs
one_runs [] [] a b e = refl
one_runs [] (r ∷ rs) a b e = let h : false ≡ true = e r.min_time ∙ first_has r rs b in cc
one_runs (q ∷ qs) [] a b e = let h : true ≡ false = sym (first_has q qs a) ∙ e q.min_time in cc
one_runs (q ∷ qs) (r ∷ rs) a b e =
    let m : q.min_time ≡ r.min_time = equal q.min_time r.min_time (not_earlier q qs r rs a b e) (not_earlier r rs q qs b a (λ t. sym (e t))) in
    let n : q.max_time ≡ r.max_time = equal q.max_time r.max_time (not_shorter q qs r rs a b m e) (not_shorter r rs q qs b a (sym m) (λ t. sym (e t))) in
    let k : q ≡ r = run_equal q r m n in
    let rest : qs ≡ rs = one_runs qs rs a.2 b.2 (same_rest q qs rs a (subst (λ x. AreApart (x ∷ rs)) (sym k) b) (λ t. e t ∙ ap (λ x. span_any (x ∷ rs) t) (sym k))) in
    ap (λ x. x ∷ qs) k ∙ ap (λ xs. r ∷ xs) rest

-- The maximal runs of a test are one list.
pub one_runs_of : (test : ℤ → Bool) (qs rs : List Run) → AreRunsOf test qs → AreRunsOf test rs → qs ≡ rs
one_runs_of test qs rs a b = one_runs qs rs a.apart b.apart (λ t. a.same t ∙ sym (b.same t))
