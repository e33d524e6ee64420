-- The plan of a block, from the outlines of its rows.
use Rattle.std.proofs.Common.{Vec, Global, vec_len, ◌≡◌, ◌<◌, ◌≤◌, ◌^◌, ◌++◌, suc, true, false, List, [], ◌∷◌, length, map, refl, sym, ap, subst, ◌∙◌, arith, All}
use Rattle.std.specs.Prelude.{ℤ, ◌==◌}
use Rattle.std.specs.List.{AllZip}
use Rattle.std.specs.declared.cmp.Ordering.TheVariants.{Less}
use Rattle.std.proofs.lemmas.List.{length-map}
use Rattle.std.proofs.lemmas.List.Elements.{All-cons, All-nil, recursion_from_All}
use Rattle.wal_record.specs.Labels.{Labels, compare_labels}
use Rattle.head_column.specs.Hours.{IsEdge}
use Rattle.head_column.specs.Samples.{Sample}
use Rattle.head_column.specs.declared.chunk.Chunk.{Chunk}
use Rattle.head_column.specs.declared.items.Run.{Run}
use Rattle.head_core.specs.Content.{Content}
use Rattle.hw_bytes.specs.Sums.{Text}
use Rattle.index_text.specs.Rows.{FitsIndex, IsChain}
use Rattle.block_files.specs.declared.encoding.Encoding.{Encoding}
use Rattle.block_files.specs.declared.places.ChunkSpan.{ChunkSpan}
use Rattle.block_files.specs.Files.{all_texts, row_texts}
use Rattle.block_files.specs.Places.{file_at, span_of}
use Rattle.block_files.specs.Ulids.{IsUlid}
use Rattle.block_read.specs.declared.block.Block.{Block}
use Rattle.block_read.specs.declared.rows.BlockRow.{BlockRow}
use Rattle.block_read.specs.Blocks.{IsRowOf, block_text, chunks_in, chunks_of_rows, files_of, index_rows, samples_of_rows}
use Rattle.hour_rows.specs.declared.outlines.RowOutline.{RowOutline}
use Rattle.hour_rows.specs.Outlines.{IsOutlineOf}
use Rattle.block_cut.specs.declared.planning.BlockPlan.{BlockPlan}
use Rattle.block_cut.specs.Cutting.{AreOutlines, HaveParts, planned, spans_in}
use Rattle.block_cut.specs.Plans.{IsPlan, IsPlanned, data_of}

module _ (e : Encoding) (k : ℤ) (c : Content) where
  -- these are the outlines of the rows
  abbrev Outline : List RowOutline → List BlockRow → Type 0
  Outline os bs = AllZip (IsOutlineOf e k c) os bs

  long : (os : List RowOutline) (bs : List BlockRow) → Outline os bs → length os ≡ length bs
  long [] [] h = refl
  long [] (b ∷ bs) h = absurd h
  long (o ∷ os) [] h = absurd h
  long (o ∷ os) (b ∷ bs) h = ap suc (long os bs h.1)

  -- ---- their parts

  labels_are : (os : List RowOutline) (bs : List BlockRow) → Outline os bs → map (λ (o : RowOutline). o.labels) os ≡ map (λ (b : BlockRow). b.labels) bs
  labels_are [] [] h = refl
  labels_are [] (b ∷ bs) h = absurd h
  labels_are (o ∷ os) [] h = absurd h
  labels_are (o ∷ os) (b ∷ bs) h = ap (λ (l : Labels). l ∷ map (λ (o : RowOutline). o.labels) os) h.0.labels ∙ ap (λ (ls : List Labels). b.labels ∷ ls) (labels_are os bs h.1)

  spans_are : (os : List RowOutline) (bs : List BlockRow) → Outline os bs → map (λ (o : RowOutline). o.chunks) os ≡ spans_in e bs
  spans_are [] [] h = refl
  spans_are [] (b ∷ bs) h = absurd h
  spans_are (o ∷ os) [] h = absurd h
  spans_are (o ∷ os) (b ∷ bs) h =
      ap (λ (s : List ChunkSpan). s ∷ map (λ (o : RowOutline). o.chunks) os) h.0.chunks ∙ ap (λ (ss : List (List ChunkSpan)). map span_of (chunks_in e b.samples) ∷ ss) (spans_are os bs h.1)

  hidden_are : (os : List RowOutline) (bs : List BlockRow) → Outline os bs → map (λ (o : RowOutline). o.hidden) os ≡ map (λ (b : BlockRow). b.hidden) bs
  hidden_are [] [] h = refl
  hidden_are [] (b ∷ bs) h = absurd h
  hidden_are (o ∷ os) [] h = absurd h
  hidden_are (o ∷ os) (b ∷ bs) h = ap (λ (r : List Run). r ∷ map (λ (o : RowOutline). o.hidden) os) h.0.hidden ∙ ap (λ (rs : List (List Run)). b.hidden ∷ rs) (hidden_are os bs h.1)

  pub have_parts : (os : List RowOutline) (bs : List BlockRow) → AllZip (IsOutlineOf e k c) os bs → HaveParts e bs os
  have_parts os bs h = record { labels_are = labels_are os bs h; spans_are = spans_are os bs h; hidden_are = hidden_are os bs h }

  -- ---- the series as they are planned

  is_planned : (o : RowOutline) (b : BlockRow) → IsOutlineOf e k c o b → IsPlanned e k c (planned o)
  is_planned o b h = record {
    slot = h.slot;
    chunks = ap length h.chunks ∙ length-map (chunks_in e b.samples) span_of ∙ sym (length-map (chunks_in e b.samples) (λ (d : Chunk). d.text)) ∙ ap (λ (xs : List Sample). length (row_texts (chunks_in e xs))) (sym h.samples);
  }

  all_planned : (os : List RowOutline) (bs : List BlockRow) → Outline os bs → All (IsPlanned e k c) (map planned os)
  all_planned [] [] h = All-nil (IsPlanned e k c)
  all_planned [] (b ∷ bs) h = absurd h
  all_planned (o ∷ os) [] h = absurd h
  all_planned (o ∷ os) (b ∷ bs) h = All-cons (IsPlanned e k c) (planned o) (map planned os) (is_planned o b h.0) (all_planned os bs h.1)

  data_are : (os : List RowOutline) (bs : List BlockRow) → Outline os bs → data_of e k c (map planned os) ≡ all_texts (chunks_of_rows e (samples_of_rows bs))
  data_are [] [] h = refl
  data_are [] (b ∷ bs) h = absurd h
  data_are (o ∷ os) [] h = absurd h
  data_are (o ∷ os) (b ∷ bs) h =
      ap (λ (xs : List Sample). row_texts (chunks_in e xs) ++ data_of e k c (map planned os)) h.0.samples ∙ ap (λ (rest : List Text). row_texts (chunks_in e b.samples) ++ rest) (data_are os bs h.1)

  -- ---- whether there are rows

  pub some_rows : (rows : Vec RowOutline Global) (bs : List BlockRow) → AllZip (IsOutlineOf e k c) rows.items bs → (vec_len rows == 0) ≡ false → 0 < length bs
  some_rows rows [] h off = (let none : vec_len rows ≡ 0 = omega (arith, long rows.items [] h) in let empty : (vec_len rows == 0) ≡ true = ap (λ n. n == 0) none in cc)
  some_rows rows (b ∷ bs) h off = omega arith

  pub are_outlines : (rows : Vec RowOutline Global) (bs : List BlockRow) → AllZip (IsOutlineOf e k c) rows.items bs → (vec_len rows == 0) ≡ false → All (IsRowOf k) bs → IsChain (λ (a b : BlockRow). compare_labels a.labels b.labels ≡ Less) bs → AreOutlines e k rows.items
  are_outlines rows bs h off each up = record { those = bs; of_hour = record { some = some_rows rows bs h off; each = each; ascending = up }; parts = have_parts rows.items bs h }

  -- ---- the plan

  -- the block of rows
  abbrev block_by : Text → List BlockRow → Block
  block_by ulid bs = block_text e (record { ulid = ulid; hour = k; rows = bs })

  pub plan_is : (ulid : Text) (os : List RowOutline) (bs : List BlockRow) (plan : BlockPlan) → IsUlid ulid → (IsEdge k → ⊥) → 0 < length bs → All (IsRowOf k) bs → IsChain (λ (a b : BlockRow). compare_labels a.labels b.labels ≡ Less) bs
      → AllZip (IsOutlineOf e k c) os bs → plan.index ≡ (block_text e (record { ulid = ulid; hour = k; rows = bs })).index → plan.tombstones ≡ (block_text e (record { ulid = ulid; hour = k; rows = bs })).tombstones
      → plan.meta ≡ (block_text e (record { ulid = ulid; hour = k; rows = bs })).meta → plan.series ≡ map planned os → map (file_at e (all_texts (chunks_of_rows e (samples_of_rows bs)))) plan.files ≡ files_of e (samples_of_rows bs)
      → length plan.files ≤ 2 ^ 32 → FitsIndex (index_rows e bs) → IsPlan e (record { ulid = ulid; hour = k; rows = bs }) c plan
  unfolding block_text
  plan_is ulid os bs plan named whole some each up h index stones meta series files few fits =
      let made = ap (data_of e k c) series ∙ data_are os bs h in
      let count = length-map plan.files (file_at e (all_texts (chunks_of_rows e (samples_of_rows bs)))) in
      record {
        block = block_by ulid bs;
        is_block = record {
          ulid = named;
          whole = whole;
          some = some;
          each = recursion_from_All (IsRowOf k) bs each;
          ascending = up;
          index_fits = fits;
          few_files = omega (arith, few, count, ap length files);
          text = refl;
        };
        is_plan = record {
          index = index;
          tombstones = stones;
          meta = meta;
          series = subst (All (IsPlanned e k c)) (sym series) (all_planned os bs h);
          files = ap (λ (all : List Text). map (file_at e all) plan.files) made ∙ files;
        };
      }
