-- A checksum is read again after its text.
use Rattle.std.proofs.Common.{◌≡◌, ℕ, ◌^◌, ◌<◌, true, false, ltb, eqb, List, ◌++◌, length, take, drop, Some, refl, ◌∙◌, arith, eq-eqb}
use Rattle.std.specs.Int.{w32, from_be_bytes, to_be_bytes}
use Rattle.std.proofs.lemmas.Bool.{le-ltb}
use Rattle.std.proofs.lemmas.Nat.{from_be_bytes-to_be_bytes_4}
use Rattle.std.proofs.lemmas.List.{length-append, drop_at, take_at}
use Rattle.hw_bytes.specs.Spellings.{IsBytes}
use Rattle.hw_bytes.specs.Writing.{big_bytes, big_number}
use Rattle.hw_bytes.specs.Checksum.{crc32c}
use Rattle.hw_bytes.proofs.Division.{crc32c_fits}
use Rattle.hw_bytes.specs.Sums.{number_at, sum_text, sums}

pub four-again : (n : ℕ) (rest : List ℕ) → n < 2 ^ 32 → number_at 4 (big_bytes 4 n ++ rest) ≡ Some n
four-again n rest h =
    let long : ltb (length (big_bytes 4 n ++ rest)) 4 ≡ false = le-ltb (length (big_bytes 4 n ++ rest)) 4 (omega (arith, length-append (big_bytes 4 n) rest)) in
    let back : big_number 4 (big_bytes 4 n ++ rest) ≡ n = same n rest ∙ from_be_bytes-to_be_bytes_4 n h in
    rw (long, back) refl
  where
    same : (m : ℕ) (xs : List ℕ) → big_number 4 (big_bytes 4 m ++ xs) ≡ from_be_bytes w32 (to_be_bytes w32 m)
    same m xs = omega arith

pub sum_drops : (body rest : List ℕ) → drop 4 (sum_text body ++ rest) ≡ rest
unfolding sum_text
sum_drops body rest = drop_at (big_bytes 4 (crc32c body)) rest 4 refl

pub sum_reads : (body rest : List ℕ) → IsBytes body → number_at 4 (sum_text body ++ rest) ≡ Some (crc32c body)
unfolding sum_text
sum_reads body rest h = four-again (crc32c body) rest (crc32c_fits body h)

pub sum_length : (body : List ℕ) → length (sum_text body) ≡ 4
unfolding sum_text
sum_length body = refl

-- what the writer puts after a text is its checksum
pub sums_again : (body rest : List ℕ) → IsBytes body → sums (length body) (body ++ (sum_text body ++ rest)) ≡ true
sums_again body rest h =
    let t : take (length body) (body ++ (sum_text body ++ rest)) ≡ body = take_at body (sum_text body ++ rest) (length body) refl in
    let d : drop (length body) (body ++ (sum_text body ++ rest)) ≡ sum_text body ++ rest = drop_at body (sum_text body ++ rest) (length body) refl in
    let same : eqb (crc32c body) (crc32c body) ≡ true = eq-eqb (crc32c body) (crc32c body) refl in
    rw (t, d, sum_reads body rest h, same) refl
