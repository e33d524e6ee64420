use Rattle.std.proofs.Common.{rules, ◌∙◌, ap, sym}
use Rattle.std.specs.Prelude.{FitsSigned}
use Rattle.std.specs.Int.{w64}
use Rattle.xor_chunk.specs.Reading.{second_at}
use Rattle.xor_chunk.specs.declared.sample.Sample.{Sample}
use Rattle.xor_chunk.proofs.Front.{varint_is, varint_none, first_bad, first_short, first_more, plain_sample}
use Rattle.xor_chunk.proofs.decoding.read_first.Goals as goal

pub returns-in_default-clause-fault : goal.returns-in_default-clause-fault
returns-in_default-clause-fault c = λ count some. first_bad count c.args.bytes.now some (varint_none c.args.bytes.now c.in_default.ensures.none)

pub returns-in_default-be64_at-clause-fault : goal.returns-in_default-be64_at-clause-fault
returns-in_default-be64_at-clause-fault c = λ count some.
    first_short count c.args.bytes.now c.split_at.result.1.now c.in-Some.time c.in-Some.len some (varint_is c.args.bytes.now c.in-Some.time c.in-Some.len c.in-Some.ensures.found) c.split_at.ensures.back c.in_default-be64_at.ensures.short

pub returns-clause-found : goal.returns-clause-found
returns-clause-found c = λ count some.
    let same = first_more count c.args.bytes.now c.split_at.result.1.now c.split_at-2.result.1.now c.in-Some.time _ c.in-Some.len c.in-Some-be64_at.value some (varint_is c.args.bytes.now c.in-Some.time c.in-Some.len c.in-Some.ensures.found) c.split_at.ensures.back
    c.in-Some-be64_at.ensures.found.within c.in-Some-be64_at.ensures.value c.cast_signed.ensures c.split_at-2.ensures.back in
    let t : FitsSigned w64 c.in-Some.time = search rules in
    let v : FitsSigned w64 c.cast_signed.result = search rules in
    sym (ap (λ (s : Sample). second_at count s c.split_at-2.result.1.now) (plain_sample c.in-Some.time c.cast_signed.result t v) ∙ same)
