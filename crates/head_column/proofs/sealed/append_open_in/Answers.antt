use Rattle.std.proofs.Common.{arith, rules, ◌≡◌, ◌<◌, ◌≤◌, ⊎_elim, ◌∙◌, ◌++◌, [], ap, sym, subst, true, false, length, List}
use Rattle.std.specs.Prelude.{filter, OnOk}
use Rattle.std.proofs.lemmas.Bool.{cases_lt}
use Rattle.std.proofs.lemmas.List.{append-nil, nil_from_length}
use Rattle.xor_chunk.specs.declared.sample.Sample.{Sample}
use Rattle.head_column.specs.Chunks.{last_time}
use Rattle.head_column.specs.Hours.{is_in_hour}
use Rattle.head_column.proofs.Chunked.{in_hour_all, in_hour_none, some_open}
use Rattle.head_column.proofs.sealed.append_open_in.Goals as goal

pub returns-then-not-is_open_in-clause-some : goal.returns-then-not-is_open_in-clause-some
returns-then-not-is_open_in-clause-some c =
    let samples : List Sample = c.args.writer.now.samples in
    let last = last_time samples in
    let no : c.is_open_in.result ≡ false = search rules in
    let none : filter (λ s. is_in_hour c.args.hour s.time) samples ≡ [] =
    ⊎_elim (λ (p : 0 < length samples). in_hour_none c.args.hour last samples c.requires.hour (sym (c.is_open_in.ensures.some p) ∙ no))
    (λ (p : length samples ≤ 0). ap (λ (l : List Sample). filter (λ s. is_in_hour c.args.hour s.time) l) (nil_from_length samples (omega (arith, p)))) (cases_lt 0 (length samples)) in
    sym (ap (λ (l : List Sample). c.args.samples.now.items ++ l) none ∙ append-nil c.args.samples.now.items)

pub returns-clause-some : goal.returns-clause-some
returns-clause-some c =
    let samples : List Sample = c.args.writer.now.samples in
    let last = last_time samples in
    let yes : c.is_open_in.result ≡ true = search rules in
    let in_hour = sym (c.is_open_in.ensures.some (some_open c.is_open_in.result samples yes c.is_open_in.ensures.none)) ∙ yes in
    subst (λ (l : List Sample). OnOk c.append_open.result (c.append_open.new.samples.items ≡ c.args.samples.now.items ++ l)) (sym (in_hour_all c.args.hour last samples c.requires.hour in_hour)) c.append_open.ensures

pub returns-clause-none : goal.returns-clause-none
returns-clause-none c = λ e.
    let samples : List Sample = c.args.writer.now.samples in
    let last = last_time samples in
    let yes : c.is_open_in.result ≡ true = search rules in
    let long = some_open c.is_open_in.result samples yes c.is_open_in.ensures.none in
    let in_hour = sym (c.is_open_in.ensures.some long) ∙ yes in
    absurd (omega (arith, long, ap length (sym (in_hour_all c.args.hour last samples c.requires.hour in_hour) ∙ e)))
