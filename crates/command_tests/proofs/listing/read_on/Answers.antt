use Rattle.std.proofs.Common.{rules, ◌≡◌, ◌≤◌, ◌++◌, ◌∙◌, ℕ, List, ap, drop, length, sym, take_all}
use Rattle.std.proofs.lemmas.List.{take-append-drop}
use Rattle.command_tests.proofs.listing.read_on.Goals as goal

pub returns-clause-end : goal.returns-clause-end
returns-clause-end c = λ few.
    let given : List ℕ = c.args.reader.now.given.items in
    let file : List ℕ = c.args.file.now in
    let front : List ℕ = c.split_at.result.0.now in
    let left : List ℕ = c.split_at.result.1.now in
    let part : List ℕ = c.split_at-2.result.0.now in
    let same : front ≡ given = search rules in
    let cut : file ≡ given ++ left =
    sym (take-append-drop c.len-2.result file) ∙ ap (λ (l : List ℕ). l ++ drop c.len-2.result file) (sym c.split_at.ensures.front) ∙ ap (λ (l : List ℕ). front ++ l) (sym c.split_at.ensures.back)
    ∙ ap (λ (l : List ℕ). l ++ left) same in
    let next : c.in_ok-bytes.field-0.items ≡ part = c.in_ok-bytes.ensures in
    let short : length c.in_ok-bytes.field-0.items ≡ length part = ap length next in
    let all : length left ≤ c.min.result = search (rules, few, short) in
    let whole : left ≡ part = sym (take_all c.min.result left all) ∙ sym c.split_at-2.ensures.front in
    cut ∙ ap (λ (l : List ℕ). given ++ l) (whole ∙ sym next)
