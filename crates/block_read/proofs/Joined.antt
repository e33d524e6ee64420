-- The rows of an index, out of the rows of a block.
use Rattle.std.proofs.Common.{◌≡◌, List, [], ◌∷◌, map, refl, sym, ap, ◌∙◌}
use Rattle.std.specs.List.{zip}
use Rattle.index_text.specs.declared.row.ChunkMeta.{ChunkMeta}
use Rattle.index_text.specs.declared.row.IndexRow.{IndexRow}
use Rattle.block_files.specs.declared.encoding.Encoding.{Encoding}
use Rattle.block_read.specs.declared.rows.BlockRow.{BlockRow}
use Rattle.block_read.specs.Blocks.{index_rows, metas_of, samples_of_rows}

joined : (ours : List BlockRow) (rows : List IndexRow) → map (λ (r : BlockRow). r.labels) ours ≡ map (λ (r : IndexRow). r.labels) rows
    → map (λ (x : BlockRow × List ChunkMeta). let y : IndexRow = record { labels = x.0.labels; chunks = x.1 } in y) (zip ours (map (λ (r : IndexRow). r.chunks) rows)) ≡ rows
joined [] [] e = refl
joined [] (r ∷ rows) e = absurd cc
joined (o ∷ ours) [] e = absurd cc
joined (o ∷ ours) (r ∷ rows) e =
    let labels : o.labels ≡ r.labels = cc in
    let others : map (λ (x : BlockRow). x.labels) ours ≡ map (λ (x : IndexRow). x.labels) rows = cc in
    ap (λ l. (let y : IndexRow = record { labels = l; chunks = r.chunks } in y) ∷ map (λ (x : BlockRow × List ChunkMeta). let y : IndexRow = record { labels = x.0.labels; chunks = x.1 } in y) (zip ours (map (λ (q : IndexRow). q.chunks) rows))) labels
    ∙ ap (λ (t : List IndexRow). r ∷ t) (joined ours rows others)

-- rows with the labels of an index's rows, and with samples whose chunks it names, have that index
pub index_rows_are : (e : Encoding) (ours : List BlockRow) (rows : List IndexRow) → map (λ (r : BlockRow). r.labels) ours ≡ map (λ (r : IndexRow). r.labels) rows → map (λ (r : IndexRow). r.chunks) rows ≡ metas_of e (samples_of_rows ours) → index_rows e ours ≡ rows
unfolding index_rows
index_rows_are e ours rows labels named =
    ap (λ (ms : List (List ChunkMeta)). map (λ (x : BlockRow × List ChunkMeta). let y : IndexRow = record { labels = x.0.labels; chunks = x.1 } in y) (zip ours ms)) (sym named) ∙ joined ours rows labels
