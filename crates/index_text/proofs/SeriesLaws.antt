-- A series is read again.
use Rattle.std.proofs.Common.{◌≡◌, ℕ, suc, ◌^◌, ◌<◌, true, ltb, List, [], ◌∷◌, ◌++◌, length, map, Ok, refl, sym, ap, ◌∙◌, append_assoc, arith}
use Rattle.std.specs.Prelude.{◌-ℤ◌, ◌≤ℤ◌, unsigned_abs}
use Rattle.std.specs.List.{flat_map, AllByRecursion}
use Rattle.std.proofs.lemmas.Bool.{lt-ltb}
use Rattle.std.proofs.lemmas.List.{length-map}
use Rattle.hw_bytes.specs.Writing.{uvarint, varint}
use Rattle.wal_record.specs.declared.labels.Label.{Label}
use Rattle.index_text.specs.declared.row.ChunkMeta.{ChunkMeta}
use Rattle.index_text.specs.declared.row.IndexRow.{IndexRow}
use Rattle.index_text.specs.Layout.{Text}
use Rattle.index_text.specs.Sets.{rank, text_cmp}
use Rattle.index_text.specs.Index.{next_chunk_text, first_chunk_text, later_chunks, chunks_text, label_refs, series_body}
use Rattle.index_text.specs.Rows.{FitsChunk}
use Rattle.index_text.specs.Fields.{Stored, times, reference_field, pair_field, first_chunk, next_chunks, chunks_field, series_field}
use Rattle.index_text.proofs.Again.{times_again}
use Rattle.index_text.proofs.Frames.{uvarint_field-again}
use Rattle.index_text.proofs.Chunks.{varint_field-again, later-again, span-fits, next_chunk-again}

first_chunk-again : (c : ChunkMeta) (rest : List ℕ) → FitsChunk c → c.min_time ≤ℤ c.max_time → first_chunk (first_chunk_text c ++ rest) ≡ Ok (c, rest)
unfolding first_chunk first_chunk_text
first_chunk-again c rest fits forward =
    ap first_chunk (parts (varint c.min_time) (uvarint (unsigned_abs (c.max_time -ℤ c.min_time))) (uvarint c.reference) rest)
    ∙ rw (
      varint_field-again c.min_time (uvarint (unsigned_abs (c.max_time -ℤ c.min_time)) ++ (uvarint c.reference ++ rest)) fits.min_time,
      uvarint_field-again (unsigned_abs (c.max_time -ℤ c.min_time)) (uvarint c.reference ++ rest) (span-fits c.min_time c.max_time fits.min_time fits.max_time),
      later-again c.min_time c.max_time forward fits.max_time,
      uvarint_field-again c.reference rest fits.reference,
    ) refl
  where
    parts : (s t u v : List ℕ) → ((s ++ t) ++ u) ++ v ≡ s ++ (t ++ (u ++ v))
    parts s t u v = append_assoc (s ++ t) u v ∙ append_assoc s t (u ++ v)

-- chunks that may follow this one
abbrev pub AreNext : ChunkMeta → List ChunkMeta → Type 0
AreNext last [] = Unit {0}
AreNext last (c ∷ cs) = FitsChunk c × (last.max_time ≤ℤ c.min_time) × (c.min_time ≤ℤ c.max_time) × AreNext c cs

abbrev pub AreChunks : List ChunkMeta → Type 0
AreChunks [] = Unit {0}
AreChunks (c ∷ cs) = FitsChunk c × (c.min_time ≤ℤ c.max_time) × AreNext c cs

next_chunks-again : (last : ChunkMeta) (cs : List ChunkMeta) (rest : List ℕ) → FitsChunk last → AreNext last cs → next_chunks (length cs) last (later_chunks last cs ++ rest) ≡ Ok (cs, rest)
unfolding next_chunks later_chunks
next_chunks-again last [] rest fits h = refl
next_chunks-again last (c ∷ cs) rest fits h =
    ap (next_chunks (suc (length cs)) last) (append_assoc (next_chunk_text last c) (later_chunks c cs) rest)
    ∙ rw (next_chunk-again last c (later_chunks c cs ++ rest) fits h.0 h.1 h.2, next_chunks-again c cs rest h.0 h.3) refl

pub chunks-again : (cs : List ChunkMeta) (rest : List ℕ) → AreChunks cs → chunks_field (length cs) (chunks_text cs ++ rest) ≡ Ok (cs, rest)
unfolding chunks_field chunks_text
chunks-again [] rest h = refl
chunks-again (c ∷ cs) rest h =
    ap (chunks_field (suc (length cs))) (append_assoc (first_chunk_text c) (later_chunks c cs) rest)
    ∙ rw (first_chunk-again c (later_chunks c cs ++ rest) h.0 h.1, next_chunks-again c cs rest h.0 h.2) refl

-- ---- labels

reference-again : (limit n : ℕ) (rest : List ℕ) → n < limit → limit < 2 ^ 64 → reference_field limit (uvarint n ++ rest) ≡ Ok (n, rest)
unfolding reference_field
reference-again limit n rest lt small =
    let inside : ltb n limit ≡ true = lt-ltb n limit lt in
    rw (uvarint_field-again n rest (omega arith), inside) refl

abbrev pub refs_text : ℕ × ℕ → Text
refs_text p = uvarint p.0 ++ uvarint p.1

abbrev pub AreWithin : ℕ → ℕ × ℕ → Type 0
AreWithin limit p = (p.0 < limit) × (p.1 < limit)

pair-again : (limit : ℕ) → limit < 2 ^ 64 → (p : ℕ × ℕ) (rest : List ℕ) → AreWithin limit p → pair_field limit (refs_text p ++ rest) ≡ Ok (p, rest)
unfolding pair_field
pair-again limit small p rest h =
    ap (pair_field limit) (append_assoc (uvarint p.0) (uvarint p.1) rest)
    ∙ rw (reference-again limit p.0 (uvarint p.1 ++ rest) h.0 small, reference-again limit p.1 rest h.1 small) refl

abbrev pub refs_of : List Text → Label → ℕ × ℕ
refs_of table l = (rank text_cmp l.name table, rank text_cmp l.value table)

abbrev pub stored_of : List Text → IndexRow → Stored
stored_of table r = record { labels = map (refs_of table) r.labels; chunks = r.chunks }

mapped : (table : List Text) (ls : List Label) → flat_map (label_refs table) ls ≡ flat_map refs_text (map (refs_of table) ls)
mapped table [] = refl
mapped table (l ∷ ls) = ap (λ t. label_refs table l ++ t) (mapped table ls)

pub series-again : (limit : ℕ) (table : List Text) (r : IndexRow) (rest : List ℕ) → limit < 2 ^ 64 → length r.labels < 2 ^ 64 → length r.chunks < 2 ^ 64 → AllByRecursion (AreWithin limit) (map (refs_of table) r.labels) → AreChunks r.chunks
    → series_field limit (series_body table r ++ rest) ≡ Ok (stored_of table r, rest)
unfolding series_field series_body
series-again limit table r rest small labels_fit chunks_fit within chunks =
    let a : Text = uvarint (length r.labels) in
    let same : flat_map (label_refs table) r.labels ≡ flat_map refs_text (map (refs_of table) r.labels) = mapped table r.labels in
    let count : length (map (refs_of table) r.labels) ≡ length r.labels = length-map r.labels (refs_of table) in
    let labels : times (pair_field limit) (length r.labels) (flat_map (label_refs table) r.labels ++ (uvarint (length r.chunks) ++ (chunks_text r.chunks ++ rest))) ≡ Ok (map (refs_of table) r.labels, uvarint (length r.chunks) ++ (chunks_text r.chunks ++ rest)) =
    (ap (λ t. times (pair_field limit) (length r.labels) (t ++ (uvarint (length r.chunks) ++ (chunks_text r.chunks ++ rest)))) same
    ∙ ap (λ n. times (pair_field limit) n (flat_map refs_text (map (refs_of table) r.labels) ++ (uvarint (length r.chunks) ++ (chunks_text r.chunks ++ rest)))) (sym count)
    ∙ times_again (pair_field limit) refs_text (AreWithin limit) (λ p t h. pair-again limit small p t h) (map (refs_of table) r.labels) (uvarint (length r.chunks) ++ (chunks_text r.chunks ++ rest)) within) in
    ap (series_field limit) (parts (uvarint (length r.labels)) (flat_map (label_refs table) r.labels) (uvarint (length r.chunks)) (chunks_text r.chunks) rest)
    ∙ rw (
      uvarint_field-again (length r.labels) (flat_map (label_refs table) r.labels ++ (uvarint (length r.chunks) ++ (chunks_text r.chunks ++ rest))) labels_fit,
      labels,
      uvarint_field-again (length r.chunks) (chunks_text r.chunks ++ rest) chunks_fit,
      chunks-again r.chunks rest chunks,
    ) refl
  where
    parts : (s t u v w : List ℕ) → (((s ++ t) ++ u) ++ v) ++ w ≡ s ++ (t ++ (u ++ (v ++ w)))
    parts s t u v w = append_assoc ((s ++ t) ++ u) v w ∙ append_assoc (s ++ t) u (v ++ w) ∙ append_assoc s t (u ++ (v ++ w))
