use Rattle.std.proofs.Common.{ℕ, List, ◌++◌, drop, sym, ap, ◌∙◌}
use Rattle.std.proofs.lemmas.List.{take_rest}
use Rattle.answers.specs.Spellings.{spelled}
use Rattle.answers.proofs.SpellingLaws.{spelled_more}
use Rattle.answers.proofs.spelling.read_spelled.Goals as goal

-- the byte that was pushed is the front of what was left
pub loop-rest-preserved : goal.loop-rest-preserved
loop-rest-preserved c =
    spelled_more c.args.word.now c.loop-rest.rest.now c.loop-rest.label.items c.in-Some.byte c.in-Some.taken c.loop-rest.invariant c.in-Some.ensures.spelled
    ∙ ap (λ (t : List ℕ). spelled t ++ drop c.in-Some.taken c.loop-rest.rest.now) (sym c.in_ok-push.ensures.items)
    ∙ ap (λ (t : List ℕ). spelled c.push.new.self.items ++ t) (sym (take_rest c.loop-rest.rest.now c.in-Some.taken))
