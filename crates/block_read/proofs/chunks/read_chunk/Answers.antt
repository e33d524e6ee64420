use Rattle.std.proofs.Common.{rules, ◌≡◌, Err, subst}
use Rattle.block_read.specs.declared.fault.PartFault.TheVariants.{Bad}
use Rattle.hw_bytes.specs.Sums.{Text}
use Rattle.block_files.specs.declared.encoding.Encoding.{Encoding}
use Rattle.block_files.specs.Files.{StandsAt}
use Rattle.block_files.proofs.Elements.{one_stands}
use Rattle.block_read.specs.Blocks.{data_in}
use Rattle.block_read.proofs.chunks.read_chunk.Goals as goal

pub returns-in_default-clause-bad : goal.returns-in_default-clause-bad
returns-in_default-clause-bad c = λ was part h there. c.in_default.ensures.none c.args.encoding (data_in c.args.encoding part) there

pub returns-then-ne-clause-bad : goal.returns-then-ne-clause-bad
returns-then-ne-clause-bad c = λ was part h there.
    let one = one_stands c.args.files.now c.args.reference c.in-Some.written c.args.encoding c.in-Some.data.now (data_in c.args.encoding part) c.in-Some.ensures.found there in
    let same : c.in-Some.written ≡ c.args.encoding = one.0 in
    search rules

pub returns-in_err-samples-clause-bad : goal.returns-in_err-samples-clause-bad
returns-in_err-samples-clause-bad c = λ was part h there.
    let bad : c.decode.result ≡ Err Bad = search rules in
    let one = one_stands c.args.files.now c.args.reference c.in-Some.written c.args.encoding c.in-Some.data.now (data_in c.args.encoding part) c.in-Some.ensures.found there in
    c.decode.ensures.bad bad part h one.1

pub returns-clause-only : goal.returns-clause-only
returns-clause-only c = λ part h there.
    let one = one_stands c.args.files.now c.args.reference c.in-Some.written c.args.encoding c.in-Some.data.now (data_in c.args.encoding part) c.in-Some.ensures.found there in
    c.in_ok-samples.ensures.only part h one.1

pub returns-clause-there : goal.returns-clause-there
returns-clause-there c =
    let same : c.in-Some.written ≡ c.args.encoding = search rules in
    subst (λ (e : Encoding). StandsAt e c.args.files.now c.args.reference (data_in c.args.encoding c.in_ok-samples.samples.items)) same
    (subst (λ (t : Text). StandsAt c.in-Some.written c.args.files.now c.args.reference t) c.in_ok-samples.ensures.found.1 c.in-Some.ensures.found)
