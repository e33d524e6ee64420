use Rattle.answers.proofs.SpellingLaws.{pair_of_parts}
use Rattle.answers.proofs.spelling.read_pair.Goals as goal

-- each part was read, and the two stand round the `=`
pub returns : goal.returns
returns c =
    pair_of_parts c.args.word.now c.in-Some.name.now c.in-Some.value.now c.in-Some-2.name.items c.in-Some-3.value.items c.in-Some.ensures.cases
    (rw c.in-Some-2.is at c.in_ok-name.ensures)
    (rw c.in-Some-3.is at c.in_ok-value.ensures)
