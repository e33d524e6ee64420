use Rattle.std.proofs.Common.{arith, rules, ◌≡◌, ◌∙◌, ◌++◌, ap, sym, subst, true, false, length, List}
use Rattle.std.specs.Prelude.{OnOk}
use Rattle.std.proofs.lemmas.List.{append-nil}
use Rattle.std.proofs.lemmas.Int.{to_z-of_z}
use Rattle.xor_chunk.specs.declared.sample.Sample.{Sample}
use Rattle.head_column.specs.Hours.{is_in_hour}
use Rattle.head_column.proofs.Chunked.{in_hour_all, in_hour_none}
use Rattle.head_column.proofs.sealed.append_chunk_in.Goals as goal

pub returns-then-not-is_in-clause-some : goal.returns-then-not-is_in-clause-some
returns-then-not-is_in-clause-some c = λ part sealed.
    let no : is_in_hour c.args.hour c.args.chunk.max_time ≡ false = search (rules, to_z-of_z) in
    sym (ap (λ (l : List Sample). c.args.samples.now.items ++ l) (in_hour_none c.args.hour c.args.chunk.max_time part sealed.hour no) ∙ append-nil c.args.samples.now.items)

pub returns-clause-some : goal.returns-clause-some
returns-clause-some c = λ part sealed.
    let yes : is_in_hour c.args.hour c.args.chunk.max_time ≡ true = search (rules, to_z-of_z) in
    subst (λ (l : List Sample). OnOk c.append_chunk.result (c.append_chunk.new.samples.items ≡ c.args.samples.now.items ++ l)) (sym (in_hour_all c.args.hour c.args.chunk.max_time part sealed.hour yes)) (c.append_chunk.ensures part sealed)

pub returns-clause-none : goal.returns-clause-none
returns-clause-none c = λ part sealed e.
    let yes : is_in_hour c.args.hour c.args.chunk.max_time ≡ true = search (rules, to_z-of_z) in
    absurd (omega (arith, sealed.some, ap length (sym (in_hour_all c.args.hour c.args.chunk.max_time part sealed.hour yes) ∙ e)))
