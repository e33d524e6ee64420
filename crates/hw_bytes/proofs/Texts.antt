-- A text at the front.
use Rattle.std.proofs.Common.{◌≡◌, ℕ, ◌+◌, ◌<◌, ◌≤◌, Bool, true, false, cond, ltb, List, ◌++◌, length, take, drop, Option, Some, None, refl, sym, ap, subst, arith, append_assoc, Bor}
use Rattle.std.specs.Option.{option_map, IfSome, IfNone}
use Rattle.std.proofs.lemmas.Bool.{ltb-false, le-ltb}
use Rattle.std.proofs.lemmas.List.{length-take-le, take_at, drop_at, length-append, length-drop}
use Rattle.hw_bytes.specs.Spellings.{IsAt, IsNowhere, IsCode}
use Rattle.hw_bytes.specs.Numbers.{IsUvarint, IsText}
use Rattle.hw_bytes.specs.Reading.{◌>>=◌, uvarint_at, text_at}
use Rattle.hw_bytes.proofs.Codes.{take_then, one_by, nowhere_by}
use Rattle.hw_bytes.proofs.Groups.{some_bytes, uvarint_at-found, uvarint_at-again}

enough : (have want : ℕ) (x y : List ℕ × ℕ) (short : Bool) → ltb have want ≡ short → cond short None (Some x) ≡ Some y → (want ≤ have) × (x ≡ y)
enough have want x y true s e = absurd cc
enough have want x y false s e = (ltb-false have want s, cc)

text_of : (bytes : List ℕ) (len : Option (ℕ × ℕ)) (x : List ℕ × ℕ) → uvarint_at bytes ≡ len
    → (len >>= λ l. cond (ltb (length (drop l.1 bytes)) l.0) None (Some (take l.0 (drop l.1 bytes), l.1 + l.0))) ≡ Some x → IsAt IsText bytes x.0 x.1
text_of bytes None x h e = absurd cc
text_of bytes (Some l) x h e =
    let f = uvarint_at-found bytes l h in
    let g = enough (length (drop l.1 bytes)) l.0 (take l.0 (drop l.1 bytes), l.1 + l.0) x (ltb (length (drop l.1 bytes)) l.0) refl e in
    let len : length (take l.0 (drop l.1 bytes)) ≡ l.0 = length-take-le l.0 (drop l.1 bytes) g.0 in
    let P : List ℕ × ℕ → Type 0 = λ y. IsAt IsText bytes y.0 y.1 in
    let within : l.1 + l.0 ≤ length bytes = omega (arith, length-drop l.1 bytes, f.within, g.0) in
    let spelled : IsUvarint (take l.1 bytes) (length (take l.0 (drop l.1 bytes))) = rw len f.spelled in
    subst P g.1 (record { within = within; spelled = (take l.1 bytes, spelled, take_then l.1 l.0 bytes) })

pub text_at-found : (bytes : List ℕ) (x : List ℕ × ℕ) → text_at bytes ≡ Some x → IsAt IsText bytes x.0 x.1
unfolding text_at
text_at-found bytes x e = text_of bytes (uvarint_at bytes) x refl e

text_again : (front rest text : List ℕ) → IsText front text → text_at (front ++ rest) ≡ Some (text, length front)
unfolding text_at
text_again front rest text (start, h, parts) =
    let all : front ++ rest ≡ start ++ (text ++ rest) = rw parts (append_assoc start text rest) in
    let len : length front ≡ length start + length text = rw parts (length-append start text) in
    let after : drop (length start) (start ++ (text ++ rest)) ≡ text ++ rest = drop_at start (text ++ rest) (length start) refl in
    let fits : ltb (length (text ++ rest)) (length text) ≡ false = le-ltb (length (text ++ rest)) (length text) (omega (arith, length-append text rest)) in
    rw (all, uvarint_at-again start (text ++ rest) (length text) h, after, fits, take_at text rest (length text) refl, len) refl

-- what a function promises that gives the text as a slice
pub text_found : (bytes : List ℕ) (r : Option (Bor (List ℕ) × ℕ)) → option_map (λ x. (x.0.now, x.1)) r ≡ text_at bytes → IfSome r (λ x. IsAt IsText bytes x.0.now x.1)
text_found bytes None e = tt
text_found bytes (Some x) e = text_at-found bytes (x.0.now, x.1) (sym e)

pub text_none : (bytes : List ℕ) (r : Option (Bor (List ℕ) × ℕ)) → option_map (λ x. (x.0.now, x.1)) r ≡ text_at bytes → IfNone r (IsNowhere IsText bytes)
text_none bytes None e = nowhere_by IsText text_at text_again bytes (sym e)
text_none bytes (Some x) e = tt

pub text_code : IsCode IsText
text_code = record { one = one_by IsText text_at text_again; some = text_some }
  where
    text_some : (front text : List ℕ) → IsText front text → 0 < length front
    text_some front text (start, h, parts) = omega (arith, ap length parts, length-append start text, some_bytes start h.continued)
