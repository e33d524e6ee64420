-- Bytes by their bits.
use Rattle.std.proofs.Common.{◌≡◌, ℕ, suc, ◌+◌, ◌*◌, ◌^◌, ◌<◌, Bool, true, false, List, [], ◌∷◌, ◌++◌, refl, sym, ap, ◌∙◌, arith, append_assoc, length, take, drop, length-append}
use Rattle.std.specs.Prelude.{replicate}
use Rattle.std.proofs.lemmas.List.{take_at, drop_at, append-nil, nil_from_length, length-replicate}
use Rattle.hw_bytes.specs.Spellings.{IsBytes}
use Rattle.xor_chunk.specs.Bits.{bits_of, bits_in}
use Rattle.xor_chunk.specs.Private.{IsPad, IsPacked}
use Rattle.xor_chunk.proofs.Bits.{bits_of-length, bits_in-cons, no_bytes}
use Rattle.xor_chunk.proofs.Reading.{number_found}

same_number : (k a b : ℕ) → a < 2 ^ k → b < 2 ^ k → bits_of k a ≡ bits_of k b → a ≡ b
same_number k a b h l e =
    let p = number_found k a (bits_of k b ++ []) [] h (ap (λ (bs : List Bool). bs ++ []) (sym e)) in
    let q = number_found k b (bits_of k b ++ []) [] l refl in
    let pair : ◌≡◌ {A = ℕ × List Bool} (a, []) (b, []) = cc in
    ap (λ (x : ℕ × List Bool). x.0) pair

fronts : (x x' y y' : List Bool) → length x ≡ length x' → x ++ y ≡ x' ++ y' → (x ≡ x') × (y ≡ y')
fronts x x' y y' h e = (
  sym (take_at x y (length x) refl) ∙ ap (take (length x)) e ∙ take_at x' y' (length x) (sym h),
  sym (drop_at x y (length x) refl) ∙ ap (drop (length x)) e ∙ drop_at x' y' (length x) (sym h),
)

pub bits_in-length : (bytes : List ℕ) → length (bits_in bytes) ≡ 8 * length bytes
bits_in-length [] = ap length no_bytes
bits_in-length (b ∷ more) = ap length (bits_in-cons b more) ∙ length-append (bits_of 8 b) (bits_in more) ∙ omega (arith, bits_of-length 8 b, bits_in-length more)

-- bytes that begin with the bits of others begin with those
pub record IsCut (front text : List ℕ) (rest : List Bool) : Type 0 where
  pub back : List ℕ
  pub whole : text ≡ front ++ back
  pub behind : bits_in back ≡ rest

pub cut_front : (front text : List ℕ) (rest : List Bool) → IsBytes front → IsBytes text → bits_in text ≡ bits_in front ++ rest → IsCut front text rest
cut_front [] text rest f t e = record { back = text; whole = refl; behind = e ∙ ap (λ (bs : List Bool). bs ++ rest) no_bytes }
cut_front (b ∷ front) [] rest f t e =
    absurd (omega (arith, ap length e, ap length no_bytes, length-append (bits_in (b ∷ front)) rest, bits_in-length (b ∷ front)))
cut_front (b ∷ front) (c ∷ text) rest f t e =
    let parts : bits_of 8 c ++ bits_in text ≡ bits_of 8 b ++ (bits_in front ++ rest) = sym (bits_in-cons c text) ∙ e ∙ ap (λ (bs : List Bool). bs ++ rest) (bits_in-cons b front) ∙ append_assoc (bits_of 8 b) (bits_in front) rest in
    let both = fronts (bits_of 8 c) (bits_of 8 b) (bits_in text) (bits_in front ++ rest) (bits_of-length 8 c ∙ sym (bits_of-length 8 b)) parts in
    let first : c ≡ b = same_number 8 c b (t 0) (f 0) both.0 in
    let more = cut_front front text rest (λ i. f (suc i)) (λ i. t (suc i)) both.1 in
    record { back = more.back; whole = ap (λ (x : ℕ). x ∷ text) first ∙ ap (λ (xs : List ℕ). b ∷ xs) more.whole; behind = more.behind }

same_bytes : (a b : List ℕ) → IsBytes a → IsBytes b → bits_in a ≡ bits_in b → a ≡ b
same_bytes a b h l e =
    let cut = cut_front b a [] l h (e ∙ sym (append-nil (bits_in b))) in
    let none : cut.back ≡ [] = nil_from_length cut.back (omega (arith, bits_in-length cut.back, ap length cut.behind)) in
    cut.whole ∙ ap (λ (xs : List ℕ). b ++ xs) none ∙ append-nil b

same_pad : (whole : Bool) (p q n a b : ℕ) → IsPad whole p → IsPad whole q → 8 * a ≡ n + p → 8 * b ≡ n + q → p ≡ q
same_pad false p q n a b h l e f = omega (arith, h, l, e, f)
same_pad true p q n a b h l e f = omega (arith, h.0, h.1, l.0, l.1, e, f)

-- one list of bytes holds some bits
pub one_packing : (a b : List ℕ) (whole : Bool) (bits : List Bool) → IsBytes a → IsBytes b → IsPacked a whole bits → IsPacked b whole bits → a ≡ b
one_packing a b whole bits h l p q =
    let e : 8 * length a ≡ length bits + p.pad = sym (bits_in-length a) ∙ ap length p.filled ∙ length-append bits (replicate p.pad false) ∙ omega (arith, length-replicate {A = Bool} p.pad false) in
    let f : 8 * length b ≡ length bits + q.pad = sym (bits_in-length b) ∙ ap length q.filled ∙ length-append bits (replicate q.pad false) ∙ omega (arith, length-replicate {A = Bool} q.pad false) in
    let pads : p.pad ≡ q.pad = same_pad whole p.pad q.pad (length bits) (length a) (length b) p.short q.short e f in
    same_bytes a b h l (p.filled ∙ ap (λ (k : ℕ). bits ++ replicate k false) pads ∙ sym q.filled)
