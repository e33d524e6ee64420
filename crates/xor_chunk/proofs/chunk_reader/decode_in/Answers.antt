use Rattle.std.proofs.Common.{◌∙◌}
use Rattle.xor_chunk.specs.declared.fault.XorFault.TheVariants.{TooShort}
use Rattle.xor_chunk.proofs.Front.{unpacked_short, unpacked_more, found_by, fault_by}
use Rattle.xor_chunk.proofs.RoundTrip.{no_samples, only_ok, bad_err}
use Rattle.xor_chunk.proofs.chunk_reader.decode_in.Goals as goal

pub returns-in_default-clause-fault : goal.returns-in_default-clause-fault
returns-in_default-clause-fault c = λ other. unpacked_short c.args.bytes.now c.in_default.ensures.short

pub returns-in_default-clause-bad : goal.returns-in_default-clause-bad
returns-in_default-clause-bad c = λ other all fit h.
    no_samples c.args.bytes.now all TooShort fit h (unpacked_short c.args.bytes.now c.in_default.ensures.short)

pub returns-clause-found : goal.returns-clause-found
returns-clause-found c =
    let same = c.new.ensures.rest ∙ unpacked_more c.args.bytes.now c.split_at.result.1.now c.from.result c.in-Some.ensures.found.within (c.from.ensures ∙ c.in-Some.ensures.value) c.split_at.ensures.back in
    found_by c.read_all.result _ _ _ same c.read_all.ensures.found

pub returns-clause-fault : goal.returns-clause-fault
returns-clause-fault c =
    let same = c.new.ensures.rest ∙ unpacked_more c.args.bytes.now c.split_at.result.1.now c.from.result c.in-Some.ensures.found.within (c.from.ensures ∙ c.in-Some.ensures.value) c.split_at.ensures.back in
    fault_by c.read_all.result _ _ same c.read_all.ensures.fault

pub returns-clause-only : goal.returns-clause-only
returns-clause-only c = λ all fit h.
    let same = c.new.ensures.rest ∙ unpacked_more c.args.bytes.now c.split_at.result.1.now c.from.result c.in-Some.ensures.found.within (c.from.ensures ∙ c.in-Some.ensures.value) c.split_at.ensures.back in
    only_ok c.read_all.result c.args.bytes.now c.read_all.new.samples.items all fit h (found_by c.read_all.result _ _ _ same c.read_all.ensures.found)

pub returns-clause-bad : goal.returns-clause-bad
returns-clause-bad c =
    let same = c.new.ensures.rest ∙ unpacked_more c.args.bytes.now c.split_at.result.1.now c.from.result c.in-Some.ensures.found.within (c.from.ensures ∙ c.in-Some.ensures.value) c.split_at.ensures.back in
    bad_err c.read_all.result c.args.bytes.now (fault_by c.read_all.result _ _ same c.read_all.ensures.fault)
