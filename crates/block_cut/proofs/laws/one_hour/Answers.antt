use Rattle.std.proofs.Common.{◌/◌, arith}
use Rattle.std.specs.Prelude.{ℤ, pos, negsuc, IsTrue}
use Rattle.std.proofs.lemmas.Int.{ints}
use Rattle.head_column.specs.Hours.{hour_length, is_in_hour}
use Rattle.head_column.proofs.HourLaws.{in_hour, one_hour as same_hour}
use Rattle.block_cut.proofs.laws.one_hour.Goals as goal

-- the hour of a time
hour_of : (t : ℤ) → (k : ℤ) × IsTrue (is_in_hour k t)
hour_of (pos n) = (pos (n / hour_length), in_hour (pos (n / hour_length)) (pos n) (omega (arith, ints)) (omega (arith, ints)))
hour_of (negsuc n) = (negsuc (n / hour_length), in_hour (negsuc (n / hour_length)) (negsuc n) (omega (arith, ints)) (omega (arith, ints)))

pub returns : goal.returns
returns c = λ content history sample hours is_history is_sample exact.
    let found = hour_of sample.time in (
      found.0,
      found.1,
      (λ l h. same_hour l found.0 sample.time h found.1),
      λ whole. (exact found.0).1 (record { some = record { history = history; sample = sample; is_history = is_history; is_sample = is_sample; within = found.1 }; whole = whole }),
    )
