-- A signed number at the front.
use Rattle.std.proofs.Common.{◌≡◌, ℕ, ◌+◌, ◌*◌, ◌/◌, ◌%◌, Bool, true, false, cond, eqb, List, ◌++◌, length, Option, Some, None, refl, sym, subst, arith, IfSome, IfNone}
use Rattle.std.specs.Prelude.{ℤ, pos, negsuc}
use Rattle.std.specs.Option.{option_map}
use Rattle.std.proofs.lemmas.Bool.{eqb-true, eqb-false}
use Rattle.hw_bytes.specs.Spellings.{IsAt, IsNowhere, IsCode}
use Rattle.hw_bytes.specs.Numbers.{IsVarint, zigzag}
use Rattle.hw_bytes.specs.Reading.{uvarint_at, varint_at, from_zigzag}
use Rattle.hw_bytes.proofs.Codes.{one_by, nowhere_by}
use Rattle.hw_bytes.proofs.Groups.{some_bytes, uvarint_at-found, uvarint_at-again}

by_test : (n : ℕ) (even : Bool) → eqb (n % 2) 0 ≡ even → zigzag (cond even (pos (n / 2)) (negsuc (n / 2))) ≡ n
by_test n true e = let zero : n % 2 ≡ 0 = eqb-true (n % 2) 0 e in omega arith
by_test n false e = let one : n % 2 ≡ 0 → ⊥ = eqb-false (n % 2) 0 e in omega arith

pub zigzag-back : (n : ℕ) → zigzag (from_zigzag n) ≡ n
zigzag-back n = by_test n (eqb (n % 2) 0) refl

pub from_zigzag-back : (z : ℤ) → from_zigzag (zigzag z) ≡ z
from_zigzag-back (pos n) =
    let low : (2 * n) % 2 ≡ 0 = omega arith in
    let half : (2 * n) / 2 ≡ n = omega arith in
    rw (low, half) refl
from_zigzag-back (negsuc n) =
    let low : (2 * n + 1) % 2 ≡ 1 = omega arith in
    let half : (2 * n + 1) / 2 ≡ n = omega arith in
    rw (low, half) refl

varint_of : (bytes : List ℕ) (o : Option (ℕ × ℕ)) (x : ℤ × ℕ) → uvarint_at bytes ≡ o → option_map (λ y. (from_zigzag y.0, y.1)) o ≡ Some x → IsAt IsVarint bytes x.0 x.1
varint_of bytes None x h e = absurd cc
varint_of bytes (Some y) x h e =
    let f = uvarint_at-found bytes y h in
    let is : (from_zigzag y.0, y.1) ≡ x = cc in
    let P : ℤ × ℕ → Type 0 = λ v. IsAt IsVarint bytes v.0 v.1 in
    subst P is (record { within = f.within; spelled = rw (zigzag-back y.0) f.spelled })

pub varint_at-found : (bytes : List ℕ) (x : ℤ × ℕ) → varint_at bytes ≡ Some x → IsAt IsVarint bytes x.0 x.1
varint_at-found bytes x e = varint_of bytes (uvarint_at bytes) x refl e

pub varint_at-again : (front rest : List ℕ) (z : ℤ) → IsVarint front z → varint_at (front ++ rest) ≡ Some (z, length front)
varint_at-again front rest z h = rw (uvarint_at-again front rest (zigzag z) h, from_zigzag-back z) refl

pub varint_found : (bytes : List ℕ) (r : Option (ℤ × ℕ)) → r ≡ varint_at bytes → IfSome r (λ x. IsAt IsVarint bytes x.0 x.1)
varint_found bytes None e = tt
varint_found bytes (Some x) e = varint_at-found bytes x (sym e)

pub varint_none : (bytes : List ℕ) (r : Option (ℤ × ℕ)) → r ≡ varint_at bytes → IfNone r (IsNowhere IsVarint bytes)
varint_none bytes None e = nowhere_by IsVarint varint_at varint_at-again bytes (sym e)
varint_none bytes (Some x) e = tt

pub varint_code : IsCode IsVarint
varint_code = record { one = one_by IsVarint varint_at varint_at-again; some = λ front z h. some_bytes front h.continued }
