-- Chunks that the server's own writer made, by computation.
use Rattle.std.proofs.Common.{◌≡◌, [], ◌∷◌, refl}
use Rattle.std.specs.Prelude.{pos, negsuc}
use Rattle.xor_chunk.specs.Bits.{bits_of, bits_in, number_of, bytes_of}
use Rattle.xor_chunk.specs.Chunks.{xor_text, chunk_bits, count_bytes, first_bytes, delta_bytes, step_bits, is_near, opened, within, opening, reused, changed_bits, value_bits, window_after, is_whole, ends_whole, samples_bits}
use Rattle.std.specs.Int.Count.{count_leading_zeros, count_trailing_zeros}
use Rattle.hw_bytes.specs.Writing.{uvarint, uvarint_in}

-- an empty byte after the value's eight
pub one : xor_text ((record { time = negsuc 999; value = pos 4631107791820423168 }) ∷ []) ≡ (0 ∷ 1 ∷ 207 ∷ 15 ∷ 64 ∷ 69 ∷ 0 ∷ 0 ∷ 0 ∷ 0 ∷ 0 ∷ 0 ∷ 0 ∷ [])
unfolding bits_of bits_in number_of bytes_of xor_text chunk_bits count_bytes first_bytes uvarint uvarint_in
one = refl

-- a value that is the same, a new window, one that is used again, and steps of 14 and 17 bits
pub six : xor_text ((record { time = pos 1000; value = pos 4607182418800017408 }) ∷ (record { time = pos 16000; value = pos 4611686018427387904 }) ∷ (record { time = pos 31000; value = pos 4611686018427387904 }) ∷ (record { time = pos 46003; value = pos 4613937818241073152 }) ∷ (record { time = pos 70000; value = pos 9221120237041090561 }) ∷ (record { time = pos 50000; value = pos 9218868437227405314 }) ∷ []) ≡ (0 ∷ 6 ∷ 208 ∷ 15 ∷ 63 ∷ 240 ∷ 0 ∷ 0 ∷ 0 ∷ 0 ∷ 0 ∷ 0 ∷ 152 ∷ 117 ∷ 194 ∷ 95 ∷ 255 ∷ 32 ∷ 0 ∷ 246 ∷ 3 ∷ 194 ∷ 50 ∷ 44 ∷ 95 ∷ 127 ∷ 224 ∷ 0 ∷ 0 ∷ 0 ∷ 0 ∷ 0 ∷ 3 ∷ 170 ∷ 132 ∷ 112 ∷ 1 ∷ 0 ∷ 0 ∷ 0 ∷ 0 ∷ 0 ∷ 0 ∷ 96 ∷ [])
unfolding bits_of bits_in number_of bytes_of xor_text chunk_bits count_bytes first_bytes delta_bytes uvarint uvarint_in step_bits is_near opened within opening reused changed_bits value_bits window_after is_whole ends_whole samples_bits count_leading_zeros count_trailing_zeros
six = refl
