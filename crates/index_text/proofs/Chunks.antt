-- Chunks are read again.
use Rattle.std.proofs.Common.{◌≡◌, ℕ, ◌+◌, ◌-◌, ◌%◌, ◌^◌, ◌<◌, true, List, ◌++◌, length, Ok, refl, ap, ◌∙◌, append_assoc, arith, rules}
use Rattle.std.specs.Prelude.{ℤ, pos, negsuc, ◌+ℤ◌, ◌-ℤ◌, ◌≤ℤ◌, unsigned_abs, int_le}
use Rattle.std.specs.Int.{w64, cast_unsigned}
use Rattle.std.specs.Int.RustNames.{FitsSigned}
use Rattle.std.proofs.lemmas.Int.{of_z-to_z, ints}
use Rattle.std.proofs.lemmas.List.{drop_at}
use Rattle.hw_bytes.specs.Writing.{uvarint, varint}
use Rattle.hw_bytes.specs.Numbers.{zigzag}
use Rattle.index_text.proofs.Spelled.{uvarint-spells}
use Rattle.hw_bytes.proofs.Varints.{varint_at-again}
use Rattle.index_text.specs.declared.row.ChunkMeta.{ChunkMeta}
use Rattle.index_text.specs.Index.{next_chunk_text, reference_step}
use Rattle.index_text.specs.Rows.{FitsChunk}
use Rattle.index_text.specs.Fields.{varint_field, later, next_chunk}
use Rattle.index_text.proofs.Frames.{uvarint_field-again}

pub zigzag-fits : (z : ℤ) → FitsSigned w64 z → zigzag z < 2 ^ 64
zigzag-fits (pos n) h = omega (arith, ints)
zigzag-fits (negsuc n) h = omega (arith, ints)

pub varint_field-again : (z : ℤ) (rest : List ℕ) → FitsSigned w64 z → varint_field (varint z ++ rest) ≡ Ok (z, rest)
unfolding varint_field
varint_field-again z rest h =
    rw (varint_at-again (varint z) rest z (uvarint-spells (zigzag z) (zigzag-fits z h)), drop_at (varint z) rest (length (varint z)) refl) refl

pub later-again : (t s : ℤ) → t ≤ℤ s → FitsSigned w64 s → later t (unsigned_abs (s -ℤ t)) ≡ Ok s
later-again t s le fits =
    let sum : t +ℤ pos (unsigned_abs (s -ℤ t)) ≡ s = omega (arith, ints) in
    let small : int_le s (pos 9223372036854775807) ≡ true = grind (arith, ints) in
    rw (sum, small) refl

pub span-fits : (t s : ℤ) → FitsSigned w64 t → FitsSigned w64 s → unsigned_abs (s -ℤ t) < 2 ^ 64
span-fits t s h k = omega (arith, ints)

pub step-fits : (a b : ℕ) → a < 2 ^ 64 → b < 2 ^ 64 → FitsSigned w64 (reference_step a b)
step-fits a b h k =
    let m : (b + (2 ^ 64 - a)) % 2 ^ 64 < 2 ^ 64 = omega arith in
    search (rules, ints, m)

pub step-again : (a b : ℕ) → a < 2 ^ 64 → b < 2 ^ 64 → (a + cast_unsigned w64 (reference_step a b)) % 2 ^ 64 ≡ b
step-again a b h k =
    let m : (b + (2 ^ 64 - a)) % 2 ^ 64 < 2 ^ 64 = omega arith in
    let back : cast_unsigned w64 (reference_step a b) ≡ (b + (2 ^ 64 - a)) % 2 ^ 64 = of_z-to_z w64 ((b + (2 ^ 64 - a)) % 2 ^ 64) m in
    rw back (omega arith)

-- a chunk after another one
pub next_chunk-again : (last c : ChunkMeta) (rest : List ℕ) → FitsChunk last → FitsChunk c → last.max_time ≤ℤ c.min_time → c.min_time ≤ℤ c.max_time
    → next_chunk last (next_chunk_text last c ++ rest) ≡ Ok (c, rest)
unfolding next_chunk next_chunk_text
next_chunk-again last c rest fl fc apart forward =
    let gap : ℕ = unsigned_abs (c.min_time -ℤ last.max_time) in
    let regrouped : next_chunk_text last c ++ rest ≡ uvarint (unsigned_abs (c.min_time -ℤ last.max_time)) ++ (uvarint (unsigned_abs (c.max_time -ℤ c.min_time)) ++ (varint (reference_step last.reference c.reference) ++ rest)) =
    parts (uvarint (unsigned_abs (c.min_time -ℤ last.max_time))) (uvarint (unsigned_abs (c.max_time -ℤ c.min_time))) (varint (reference_step last.reference c.reference)) rest in
    ap (next_chunk last) regrouped
    ∙ rw (
      uvarint_field-again (unsigned_abs (c.min_time -ℤ last.max_time)) (uvarint (unsigned_abs (c.max_time -ℤ c.min_time)) ++ (varint (reference_step last.reference c.reference) ++ rest)) (span-fits last.max_time c.min_time fl.max_time fc.min_time),
      later-again last.max_time c.min_time apart fc.min_time,
      uvarint_field-again (unsigned_abs (c.max_time -ℤ c.min_time)) (varint (reference_step last.reference c.reference) ++ rest) (span-fits c.min_time c.max_time fc.min_time fc.max_time),
      later-again c.min_time c.max_time forward fc.max_time,
      varint_field-again (reference_step last.reference c.reference) rest (step-fits last.reference c.reference fl.reference fc.reference),
      step-again last.reference c.reference fl.reference fc.reference,
    ) refl
  where
    parts : (s t u v : List ℕ) → ((s ++ t) ++ u) ++ v ≡ s ++ (t ++ (u ++ v))
    parts s t u v = append_assoc (s ++ t) u v ∙ append_assoc s t (u ++ v)
