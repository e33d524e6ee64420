-- Zeros that align an element.
use Rattle.std.specs.Prelude.{ℕ, ◌-◌, ◌%◌}

-- how many zeros align the offset n
abbrev pub padding : ℕ → ℕ → ℕ
padding align n = (align - n % align) % align
