use Rattle.std.proofs.Common.{rules, ◌≡◌, ◌∙◌, ap, List, Bool, ℕ, None}
use Rattle.std.proofs.lemmas.Result.{err_from_is_err_and}
use Rattle.xor_chunk.specs.Chunks.{pattern}
use Rattle.xor_chunk.specs.Reading.{value_at}
use Rattle.xor_chunk.proofs.Front.{uvarint_is, uvarint_none}
use Rattle.xor_chunk.proofs.Readers.{second_found, second_none, second_stop}
use Rattle.xor_chunk.proofs.decoding.read_second.Goals as goal

pub returns-in_default-clause-fault : goal.returns-in_default-clause-fault
returns-in_default-clause-fault c = λ n. second_none n c.args.first c.args.bytes.now (uvarint_none c.args.bytes.now c.in_default.ensures.none)

pub returns-in_err-value-clause-fault : goal.returns-in_err-value-clause-fault
returns-in_err-value-clause-fault c =
    let p = err_from_is_err_and c.from_residual.result c.from_residual.ensures.1 in
    let v : c.cast_unsigned.result ≡ pattern c.args.first.value = search rules in
    let there = c.in_err-value.ensures.exact ∙ ap (λ (x : ℕ). value_at None x c.new.result) v ∙ ap (λ (bs : List Bool). value_at None (pattern c.args.first.value) bs) c.new.ensures in
    rw (p.1, p.2) (λ n. second_stop n c.args.first c.args.bytes.now c.split_at.result.1.now c.in-Some.delta c.in-Some.len c.in_err-value.field-0.0 (uvarint_is c.args.bytes.now c.in-Some.delta c.in-Some.len c.in-Some.ensures.found) c.split_at.ensures.back there)

pub returns-clause-found : goal.returns-clause-found
returns-clause-found c = λ n.
    let v : c.cast_unsigned.result ≡ pattern c.args.first.value = search rules in
    let t : c.cast_unsigned-2.result ≡ pattern c.args.first.time = search rules in
    let there = c.in_ok-value.ensures.exact ∙ ap (λ (x : ℕ). value_at None x c.new.result) v ∙ ap (λ (bs : List Bool). value_at None (pattern c.args.first.value) bs) c.new.ensures in
    second_found n c.args.first c.args.bytes.now c.split_at.result.1.now c.in-Some.delta c.in-Some.len c.cast_unsigned-2.result c.in_ok-value.value c.in_ok-value.window c.read_value.new.bits
    (uvarint_is c.args.bytes.now c.in-Some.delta c.in-Some.len c.in-Some.ensures.found) c.split_at.ensures.back t there
