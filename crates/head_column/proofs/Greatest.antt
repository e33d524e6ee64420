-- The greatest of some times.
use Rattle.std.proofs.Common.{◌≡◌, true, false, List, Option, arith}
use Rattle.std.specs.Prelude.{ℤ, ◌≤ℤ◌, int_lt}
use Rattle.std.proofs.lemmas.Int.{ints}
use Rattle.hw_bytes.specs.Lists.{IsGreatest}
use Rattle.hw_bytes.proofs.Greatest.{IsOrder, greatest_is, one_greatest}
use Rattle.head_column.specs.Times.{greatest}

same : (t : ℤ) → t ≤ℤ t
same t = grind (arith, ints)

under : (t u g : ℤ) → int_lt t u ≡ true → u ≤ℤ g → t ≤ℤ g
under t u g h k = grind (arith, ints)

over : (t u g : ℤ) → int_lt t u ≡ false → t ≤ℤ g → u ≤ℤ g
over t u g h k = grind (arith, ints)

both : (g h : ℤ) → g ≤ℤ h → h ≤ℤ g → g ≡ h
both g h p q = grind (arith, ints)

times : IsOrder int_lt (λ t u. t ≤ℤ u)
times = record { same = same; under = under; over = over; both = both }

pub greatest_time : (ts : List ℤ) → IsGreatest (λ t u. t ≤ℤ u) ts (greatest ts)
greatest_time = greatest_is int_lt (λ t u. t ≤ℤ u) times

pub one_time : (ts : List ℤ) (g h : Option ℤ) → IsGreatest (λ t u. t ≤ℤ u) ts g → IsGreatest (λ t u. t ≤ℤ u) ts h → g ≡ h
one_time = one_greatest int_lt (λ t u. t ≤ℤ u) times
