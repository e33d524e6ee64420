use Rattle.std.proofs.Common.{rules, ◌≡◌, ◌<◌, true, false, length, ap, sym, subst, ◌∙◌}
use Rattle.std.specs.Prelude.{◌≤ℤ◌}
use Rattle.std.specs.List.{AllByRecursion}
use Rattle.index_text.specs.declared.row.ChunkMeta.{ChunkMeta}
use Rattle.index_text.specs.Rows.{FitsChunk}
use Rattle.index_text.specs.Tests.{chain_test, ends_before}
use Rattle.index_text.proofs.Chains.{apart_from, apart_to}
use Rattle.index_text.proofs.rows.is_row.Goals as goal

pub returns-clause-row : goal.returns-clause-row
returns-clause-row c t =
    let forward : c.are_forward.result ≡ true = search rules in
    let many : 0 < length c.args.row.now.chunks = search rules in
    record {
      labels = c.len-count.ensures.ordered;
      some = many;
      fit = subst (AllByRecursion FitsChunk) c.as_slice-chunks.ensures (c.are_forward.ensures.fits forward);
      forward = subst (AllByRecursion (λ (x : ChunkMeta). x.min_time ≤ℤ x.max_time)) c.as_slice-chunks.ensures (c.are_forward.ensures.forward forward);
      apart = apart_from c.args.row.now.chunks (ap (chain_test ends_before) (sym c.as_slice-chunks.ensures) ∙ sym c.are_apart.ensures ∙ t);
    }

clash : true ≡ false → ⊥
clash e = cc

pub returns-clause-other : goal.returns-clause-other
returns-clause-other c f row =
    clash (sym (apart_to c.args.row.now.chunks row.apart) ∙ ap (chain_test ends_before) (sym c.as_slice-chunks.ensures) ∙ sym c.are_apart.ensures ∙ f)
