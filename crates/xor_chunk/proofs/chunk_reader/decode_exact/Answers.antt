use Rattle.std.proofs.Common.{rules, arith, ◌≡◌, ◌≤◌, ap, ◌∙◌, length, sym, subst}
use Rattle.std.specs.Prelude.{All}
use Rattle.xor_chunk.specs.Samples.{IsFit}
use Rattle.xor_chunk.specs.Chunks.{xor_text}
use Rattle.xor_chunk.proofs.Counts.{unpacked_few}
use Rattle.xor_chunk.proofs.chunk_reader.decode_exact.Goals as goal

pub encode-requires : goal.encode-requires
encode-requires c =
    let few : length c.in_ok-samples.samples.items ≤ 65535 = unpacked_few c.args.text.now c.in_ok-samples.samples.items c.are_bytes.ensures c.in_ok-samples.ensures.found in
    omega (arith, few, ap length c.as_slice-read.ensures.value)

pub returns-clause-found : goal.returns-clause-found
returns-clause-found c =
    let few : length c.in_ok-samples.samples.items ≤ 65535 = unpacked_few c.args.text.now c.in_ok-samples.samples.items c.are_bytes.ensures c.in_ok-samples.ensures.found in
    let same : c.as_slice.result.now ≡ c.args.text.now = search rules in
    let is : c.args.text.now ≡ xor_text c.in_ok-samples.samples.items = sym same ∙ c.as_slice.ensures.value ∙ c.in_ok-again.ensures ∙ ap xor_text c.as_slice-read.ensures.value in
    (record { few = few; is = is }, subst (All IsFit) c.as_slice-read.ensures.value c.are_fit.ensures)
