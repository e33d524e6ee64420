-- Published vectors and worked spellings, by computation.
use Rattle.std.proofs.Common.{◌≡◌, [], ◌∷◌, Some, None, refl}
use Rattle.std.specs.Prelude.{codes, replicate, pos, negsuc}
use Rattle.hw_bytes.specs.Checksum.{crc32c, divided, divided_times}
use Rattle.hw_bytes.specs.Reading.{uvarint_at, varint_at, end_at}

pub nine : crc32c (codes "123456789") ≡ 0xE3069283
unfolding crc32c divided divided_times
nine = refl

pub none : crc32c [] ≡ 0
unfolding crc32c divided divided_times
none = refl

pub zeros : crc32c (replicate 32 0) ≡ 0x8A9136AA
unfolding crc32c divided divided_times
zeros = refl

pub ones : crc32c (replicate 32 255) ≡ 0x62A8AB43
unfolding crc32c divided divided_times
ones = refl

pub reads_zero : uvarint_at (0x80 ∷ 0 ∷ []) ≡ Some (0, 2)
unfolding uvarint_at end_at
reads_zero = refl

pub reads_300 : uvarint_at (0xAC ∷ 2 ∷ []) ≡ Some (300, 2)
unfolding uvarint_at end_at
reads_300 = refl

pub reads_none : uvarint_at (255 ∷ 255 ∷ 255 ∷ 255 ∷ 255 ∷ 255 ∷ 255 ∷ 255 ∷ 255 ∷ 2 ∷ []) ≡ None
unfolding uvarint_at end_at
reads_none = refl

pub reads_less_one : varint_at (1 ∷ []) ≡ Some (negsuc 0, 1)
unfolding uvarint_at end_at
reads_less_one = refl

pub reads_64 : varint_at (0x80 ∷ 1 ∷ []) ≡ Some (pos 64, 2)
unfolding uvarint_at end_at
reads_64 = refl
