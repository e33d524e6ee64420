-- Windows: which bits are in them.
use Rattle.std.proofs.Common.{◌≡◌, ℕ, zero, suc, ◌+◌, ◌-◌, ◌*◌, ◌/◌, ◌%◌, ◌^◌, ◌<◌, ◌≤◌, Bool, true, false, cond, leb, Option, Some, None, ⊎_elim, refl, sym, ap, ◌∙◌, subst, arith}
use Rattle.std.specs.Prelude.{◌&&◌}
use Rattle.std.specs.Int.{w64, bit_at, leading_zeros, trailing_zeros}
use Rattle.std.proofs.Math.Pow.{pow_mono}
use Rattle.std.proofs.lemmas.Bool.{cases_lt, leb-true, and_parts}
use Rattle.std.proofs.lemmas.Nat.{shr_split, mod-pow-add, leading_top, shr_below, mul-le}
use Rattle.std.proofs.lemmas.Nat.Bits.{bit_at-trailing_zeros}
use Rattle.xor_chunk.specs.Chunks.{opened, reused}
use Rattle.xor_chunk.specs.Private.{Holds}
use Rattle.xor_chunk.specs.declared.before.BitWindow.{BitWindow}

low_zero : (x t : ℕ) → ((i : ℕ) → i < t → bit_at x i ≡ 0) → x % 2 ^ t ≡ 0
low_zero x zero h = omega arith
low_zero x (suc t) h =
    let place : suc t ≡ 1 + t = omega arith in
    let top : x / 2 ^ t % 2 ≡ 0 = h t (omega arith) in
    let rest : x % 2 ^ t ≡ 0 = low_zero x t (λ i l. h i (omega arith)) in
    ap (λ (k : ℕ). x % 2 ^ k) place ∙ mod-pow-add x 1 t ∙ ap (λ (d : ℕ). d * 2 ^ t + x % 2 ^ t) top ∙ omega (arith, rest)

-- a window of no more zeros than there are holds each 1
pub window_holds : (w : BitWindow) (x : ℕ) → 0 < x → x < 2 ^ 64 → w.leading ≤ leading_zeros w64 x → w.trailing ≤ trailing_zeros w64 x → Holds w x
window_holds w x some fits p q =
    let l : ℕ = w.leading in
    let t : ℕ = w.trailing in
    let top = leading_top 64 x some fits in
    let low = bit_at-trailing_zeros w64 x some fits in
    let clear : x % 2 ^ t ≡ 0 = low_zero x t (λ i b. low.2 i (omega (arith, b, q))) in
    let whole : x / 2 ^ t * 2 ^ t ≡ x = omega (arith, shr_split x t, clear) in
    let below : x < 2 ^ (64 - l) = omega (arith, top.3, pow_mono {i = suc top.0} {j = 64 - l} (omega (arith, top.1, p))) in
    let some_upper : 0 < x / 2 ^ t = above (x / 2 ^ t) (2 ^ t) x whole some in
    let least : 1 * 2 ^ t ≤ x / 2 ^ t * 2 ^ t = mul-le 1 (2 ^ t) (x / 2 ^ t) (2 ^ t) (omega arith) (omega arith) in
    let apart : l + t < 64 = ⊎_elim (λ (h : t < 64 - l). omega arith) (λ (h : 64 - l ≤ t). absurd (omega (arith, pow_mono {i = 64 - l} {j = t} h, least, whole, below))) (cases_lt t (64 - l)) in
    let parts : 64 - l ≡ (64 - l - t) + t = omega arith in
    record { within = apart; small = shr_below x (64 - l - t) t (subst (λ (k : ℕ). x < 2 ^ k) parts below); whole = whole }
  where
    above : (a b n : ℕ) → a * b ≡ n → 0 < n → 0 < a
    above zero b n e h = absurd (omega (arith, e, h))
    above (suc a) b n e h = omega arith

pub opened_holds : (x : ℕ) → 0 < x → x < 2 ^ 64 → Holds (opened x) x
unfolding opened
opened_holds x some fits = window_holds (opened x) x some fits (omega arith) (omega arith)

pub opened_leading : (x : ℕ) → (opened x).leading < 32
unfolding opened
opened_leading x = omega arith

by_test : (w v f : BitWindow) (b : Bool) → (leb w.leading f.leading && leb w.trailing f.trailing) ≡ b → cond b (Some w) None ≡ Some v → (v ≡ w) × (w.leading ≤ f.leading) × (w.trailing ≤ f.trailing)
by_test w v f false e h = absurd cc
by_test w v f true e h = (let parts = and_parts (leb w.leading f.leading) (leb w.trailing f.trailing) e in (cc, leb-true w.leading f.leading parts.0, leb-true w.trailing f.trailing parts.1))

reused_less : (o : Option BitWindow) (f w : BitWindow) → reused o f ≡ Some w → (w.leading ≤ f.leading) × (w.trailing ≤ f.trailing)
unfolding reused
reused_less None f w e = absurd cc
reused_less (Some v) f w e = (let h = by_test v w f (leb v.leading f.leading && leb v.trailing f.trailing) refl e in subst (λ (u : BitWindow). (u.leading ≤ f.leading) × (u.trailing ≤ f.trailing)) (sym h.0) (h.1, h.2))

opened_leads : (x : ℕ) → ((opened x).leading ≤ leading_zeros w64 x) × ((opened x).trailing ≤ trailing_zeros w64 x)
unfolding opened
opened_leads x = (omega arith, omega arith)

pub reused_holds : (o : Option BitWindow) (x : ℕ) (w : BitWindow) → 0 < x → x < 2 ^ 64 → reused o (opened x) ≡ Some w → Holds w x
reused_holds o x w some fits e =
    let less = reused_less o (opened x) w e in
    let leads = opened_leads x in
    window_holds w x some fits (omega (arith, less.0, leads.0)) (omega (arith, less.1, leads.1))

pub reused_is : (o : Option BitWindow) (f w : BitWindow) → reused o f ≡ Some w → o ≡ Some w
unfolding reused
reused_is None f w e = absurd cc
reused_is (Some v) f w e = (let h = by_test v w f (leb v.leading f.leading && leb v.trailing f.trailing) refl e in ap (λ (u : BitWindow). Some u) (sym h.0))
