-- What is spelled at the front of some bytes, as a function.
use Rattle.std.proofs.Common.{◌≡◌, ℕ, ◌+◌, ◌/◌, ◌%◌, ◌^◌, ◌<◌, Bool, true, false, cond, ltb, List, [], ◌∷◌, ◌++◌, length, take, drop, Option, Some, None, refl, sym, ap, subst, ◌∙◌, arith}
use Rattle.std.specs.Prelude.{ℤ, IfSome, IfNone}
use Rattle.std.specs.Option.{option_map}
use Rattle.std.specs.Borrow.{Bor}
use Rattle.std.proofs.lemmas.List.{take-append-drop, length-drop, length-append}
use Rattle.hw_bytes.specs.Spellings.{IsAt, IsCode, IsNowhere}
use Rattle.hw_bytes.specs.Numbers.{IsUvarint, IsVarint, IsText}
use Rattle.hw_bytes.specs.Writing.{uvarint, uvarint_in}
use Rattle.hw_bytes.specs.Reading.{uvarint_at, varint_at, text_at}
use Rattle.hw_bytes.proofs.Groups.{uvarint_at-again, uvarint_at-found, uvarint_none, uvarint_code}
use Rattle.hw_bytes.proofs.Shortest.{uvarint_shortest}
use Rattle.hw_bytes.proofs.Varints.{varint_at-found, varint_none, varint_code}
use Rattle.std.proofs.Math.Seq.{take-append_seam}
use Rattle.hw_bytes.proofs.Texts.{text_at-found, text_none, text_code}

module _ {X : Type 0} (P : List ℕ → X → Type 0) where
  nowhere_at : (bytes : List ℕ) (x : X) (n : ℕ) → IsNowhere P bytes → IsAt P bytes x n → ⊥
  nowhere_at bytes x n none a = none (take n bytes) (drop n bytes) x a.spelled (sym (take-append-drop n bytes))

  -- bytes begin with one spelling at most, and it has one length
  pub at_one : IsCode P → (bytes : List ℕ) (x y : X) (m n : ℕ) → IsAt P bytes x m → IsAt P bytes y n → (x ≡ y) × (m ≡ n)
  at_one code bytes x y m n a b =
      let same = code.one (take m bytes) (drop m bytes) (take n bytes) (drop n bytes) x y a.spelled b.spelled (take-append-drop m bytes ∙ sym (take-append-drop n bytes)) in
      (same.0, omega (arith, ap length same.1, length-drop m bytes, length-drop n bytes, a.within, b.within))

  module _ (front_of : List ℕ → Option (X × ℕ)) (code : IsCode P) (found : (bytes : List ℕ) (x : X × ℕ) → front_of bytes ≡ Some x → IsAt P bytes x.0 x.1) (none : (bytes : List ℕ) → front_of bytes ≡ None → IsNowhere P bytes) where
    -- what a reader of the form answers
    pub is_front : (bytes : List ℕ) (r : Option (X × ℕ)) → IfSome r (λ x. IsAt P bytes x.0 x.1) → IfNone r (IsNowhere P bytes) → r ≡ front_of bytes
    is_front bytes r some nowhere = at r (front_of bytes) some nowhere refl where
      at : (r o : Option (X × ℕ)) → IfSome r (λ x. IsAt P bytes x.0 x.1) → IfNone r (IsNowhere P bytes) → front_of bytes ≡ o → r ≡ front_of bytes
      at None None s n e = sym e
      at None (Some y) s n e = absurd (nowhere_at bytes y.0 y.1 n (found bytes y e))
      at (Some x) None s n e = absurd (nowhere_at bytes x.0 x.1 (none bytes e) s)
      at (Some x) (Some y) s n e =
          let one = at_one code bytes x.0 y.0 x.1 y.1 s (found bytes y e) in
          ap (λ (v : X). Some (v, x.1)) one.0 ∙ ap (λ (k : ℕ). Some (y.0, k)) one.1 ∙ sym e

    -- what is spelled is read again
    pub front_again : (front rest : List ℕ) (x : X) → IsAt P (front ++ rest) x (length front) → front_of (front ++ rest) ≡ Some (x, length front)
    front_again front rest x a = sym (is_front (front ++ rest) (Some (x, length front)) a tt)

pub uvarint-spells : (n : ℕ) → n < 2 ^ 64 → IsUvarint (uvarint n) n
uvarint-spells n h = (uvarint_shortest n h).spelled

pub uvarint-again : (n : ℕ) (rest : List ℕ) → n < 2 ^ 64 → uvarint_at (uvarint n ++ rest) ≡ Some (n, length (uvarint n))
uvarint-again n rest h = uvarint_at-again (uvarint n) rest n (uvarint-spells n h)

text_nowhere : (bytes : List ℕ) → text_at bytes ≡ None → IsNowhere IsText bytes
text_nowhere bytes e = text_none bytes None (sym e)

pub text_at-again : (front rest text : List ℕ) → IsText front text → text_at (front ++ rest) ≡ Some (text, length front)
text_at-again front rest text h =
    front_again IsText text_at text_code text_at-found text_nowhere front rest text
    (record { within = omega (arith, length-append front rest); spelled = subst (λ (b : List ℕ). IsText b text) (sym (take-append_seam front rest)) h })

-- what the calls of hw_bytes answer
uvarint_nowhere : (bytes : List ℕ) → uvarint_at bytes ≡ None → IsNowhere IsUvarint bytes
uvarint_nowhere bytes e = uvarint_none bytes None (sym e)

pub uvarint_answered : (bytes : List ℕ) (r : Option (ℕ × ℕ)) → IfSome r (λ x. IsAt IsUvarint bytes x.0 x.1) → IfNone r (IsNowhere IsUvarint bytes) → r ≡ uvarint_at bytes
uvarint_answered = is_front IsUvarint uvarint_at uvarint_code uvarint_at-found uvarint_nowhere

varint_nowhere : (bytes : List ℕ) → varint_at bytes ≡ None → IsNowhere IsVarint bytes
varint_nowhere bytes e = varint_none bytes None (sym e)

pub varint_answered : (bytes : List ℕ) (r : Option (ℤ × ℕ)) → IfSome r (λ x. IsAt IsVarint bytes x.0 x.1) → IfNone r (IsNowhere IsVarint bytes) → r ≡ varint_at bytes
varint_answered = is_front IsVarint varint_at varint_code varint_at-found varint_nowhere

abbrev pub text_seen : Option (Bor (List ℕ) × ℕ) → Option (List ℕ × ℕ)
text_seen r = option_map (λ x. (x.0.now, x.1)) r

pub text_answered : (bytes : List ℕ) (r : Option (Bor (List ℕ) × ℕ)) → IfSome r (λ x. IsAt IsText bytes x.0.now x.1) → IfNone r (IsNowhere IsText bytes) → text_seen r ≡ text_at bytes
text_answered bytes None some none = is_front IsText text_at text_code text_at-found text_nowhere bytes None some none
text_answered bytes (Some x) some none = is_front IsText text_at text_code text_at-found text_nowhere bytes (Some (x.0.now, x.1)) some none

cond_some : (b : Bool) (x y : ℕ) (ys : List ℕ) → 0 < length (cond b (x ∷ []) (y ∷ ys))
cond_some true x y ys = omega arith
cond_some false x y ys = omega arith

-- no number is spelled by nothing
pub uvarint_some : (n : ℕ) → 0 < length (uvarint n)
unfolding uvarint uvarint_in
uvarint_some n = cond_some (ltb n 128) n (n % 128 + 128) (uvarint_in 8 (n / 128))
