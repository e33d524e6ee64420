-- How a set of references is kept.
use Rattle.std.specs.Prelude.{ℕ, ◌/◌, ◌%◌, ◌^◌, ◌==◌, Bool, List, not, nat_eq, nat_lt, bit_and, slice_index, if◌then◌else◌}
use Rattle.std.specs.List.{list_any}

-- The words whose bits are the references below `low_end`, bit r % 64 of word r / 64 for the reference r, and the other references.
pub record ReferenceSetValue : Type 0 where
  pub low : List ℕ
  pub high : List ℕ

abbrev pub low_end : ℕ
low_end = 4194304

-- whether a bit of a word is set
abbrev pub is_set : ℕ → ℕ → Bool
is_set word k = not (bit_and word (2 ^ k) == 0)

-- whether the bit of a reference is set
abbrev pub is_set_in : List ℕ → ℕ → Bool
is_set_in words r = is_set (slice_index words (r / 64)) (r % 64)

-- whether a reference is in the set
abbrev pub has : ReferenceSetValue → ℕ → Bool
has s r = if nat_lt r low_end then is_set_in s.low r else list_any (nat_eq r) s.high
