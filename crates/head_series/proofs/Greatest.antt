-- The greatest of some references.
use Rattle.std.proofs.Common.{◌≡◌, ℕ, ◌≤◌, true, false, List, Option, arith}
use Rattle.std.specs.Prelude.{map, nat_lt}
use Rattle.hw_bytes.specs.Lists.{IsGreatest}
use Rattle.hw_bytes.proofs.Greatest.{IsOrder, greatest_is, one_greatest}
use Rattle.head_series.specs.Bindings.{Binding, greatest_of}

under : (q r g : ℕ) → nat_lt q r ≡ true → r ≤ g → q ≤ g
under q r g h k = grind arith

over : (q r g : ℕ) → nat_lt q r ≡ false → q ≤ g → r ≤ g
over q r g h k = grind arith

references : IsOrder nat_lt (λ q r. q ≤ r)
references = record { same = λ r. omega arith; under = under; over = over; both = λ q r h k. omega (arith, h, k) }

pub greatest_reference : (bs : List Binding) → IsGreatest (λ q r. q ≤ r) (map (λ b. b.reference) bs) (greatest_of bs)
greatest_reference bs = greatest_is nat_lt (λ q r. q ≤ r) references (map (λ b. b.reference) bs)

pub one_reference : (rs : List ℕ) (g h : Option ℕ) → IsGreatest (λ q r. q ≤ r) rs g → IsGreatest (λ q r. q ≤ r) rs h → g ≡ h
one_reference = one_greatest nat_lt (λ q r. q ≤ r) references
