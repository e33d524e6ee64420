use Rattle.std.proofs.Common.{rules, length}
use Rattle.std.proofs.lemmas.Bool.{le-ltb}
use Rattle.hash_seed.specs.Hashing.{short_number}
use Rattle.hash_seed.proofs.hasher.short_number.Goals as goal

pub returns-then-len-lt1 : goal.returns-then-len-lt1
unfolding short_number
returns-then-len-lt1 c = search rules

pub returns-then-len-lt4 : goal.returns-then-len-lt4
unfolding short_number
returns-then-len-lt4 c = search rules

pub returns : goal.returns
unfolding short_number
returns c = rw (le-ltb (length c.args.bytes.now) 1 c.if-len-lt1.false, le-ltb (length c.args.bytes.now) 4 c.if-len-lt4.false, c.half_at.ensures, c.half_at-2.ensures)
