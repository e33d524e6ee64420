-- The chunks of all rows, in their files and in the index.
use Rattle.std.proofs.Common.{◌≡◌, ℕ, zero, suc, ◌+◌, ◌<◌, ◌≤◌, ◌^◌, List, [], ◌∷◌, ◌++◌, length, map, take, drop, get_or, refl, sym, ap, subst, ◌∙◌, append_assoc, arith, lit<}
use Rattle.std.specs.List.{All, AllByRecursion, zip}
use Rattle.std.proofs.lemmas.List.{append-nil, length-map, map-append, take-append-drop, take-map, take_more, get_or-map}
use Rattle.std.proofs.lemmas.List.Elements.{All-head, All-tail}
use Rattle.std.proofs.lemmas.Grind.{flat_map-append}
use Rattle.hw_bytes.specs.Lists.{along}
use Rattle.hw_bytes.proofs.Lists.{along-push, flat_map-push, map_push}
use Rattle.head_column.specs.Samples.{Sample}
use Rattle.head_column.specs.declared.chunk.Chunk.{Chunk}
use Rattle.head_column.specs.Chunks.{chunk_samples, parts}
use Rattle.hw_bytes.specs.Sums.{Text}
use Rattle.index_text.specs.declared.row.ChunkMeta.{ChunkMeta}
use Rattle.index_text.specs.declared.row.IndexRow.{IndexRow}
use Rattle.block_files.specs.declared.encoding.Encoding.{Encoding}
use Rattle.block_files.specs.Files.{StandsAt, Written, all_texts, chunk_files, longest_chunk, reference_behind, row_references, row_texts, texts}
use Rattle.block_files.proofs.Placed.{chunk_stands}
use Rattle.block_files.proofs.RowLaws.{along_count, along_same, flat, rows_large, whole}
use Rattle.block_read.specs.Blocks.{HasSamples, IsColumn, chunk_in, chunks_in, chunks_of_rows, data_in, file_limit, files_of, meta_of, metas_of}
use Rattle.block_read.specs.Reading.{AreThere, files_with, row_metas}
use Rattle.block_read.proofs.Columns.{AreXorShort, chunks_short}

-- ---- the names of all chunks, row by row

zip_along : {X C T R : Type 0} (f : X → C) (t : C → T) (rr : List T → T → R) (xs : List X)
    → zip (map f xs) (along (λ b r. rr b r ∷ []) (map t (map f xs))) ≡ along (λ before x. (f x, rr (map t (map f before)) (t (f x))) ∷ []) xs
zip_along f t rr [] = refl
zip_along f t rr (x ∷ xs) = ap (λ ys. (f x, rr [] (t (f x))) ∷ ys) (zip_along f t (λ b r. rr (t (f x) ∷ b) r) xs)

map_along : {X Y Z : Type 0} (h : Y → Z) (g : List X → X → Y) (xs : List X) → map h (along (λ b x. g b x ∷ []) xs) ≡ along (λ b x. h (g b x) ∷ []) xs
map_along h g [] = refl
map_along h g (x ∷ xs) = ap (λ ys. h (g [] x) ∷ ys) (map_along h (λ b y. g (x ∷ b) y) xs)

along_at : {X Y : Type 0} (g : List X → X → Y) (xs : List X) (i : ℕ) (d : Y) (e : X) → i < length xs → get_or (along (λ b x. g b x ∷ []) xs) i d ≡ g (take i xs) (get_or xs i e)
along_at g [] i d e lt = absurd (omega (arith, lt))
along_at g (x ∷ xs) zero d e lt = refl
along_at g (x ∷ xs) (suc i) d e lt = along_at (λ b y. g (x ∷ b) y) xs i d e (omega (arith, lt))

pub metas_along : (e : Encoding) (samples : List (List Sample)) → metas_of e samples ≡ along (λ before s. row_metas e (texts (chunks_of_rows e before)) s ∷ []) samples
unfolding metas_of
metas_along e samples =
    ap (map (λ (x : List Chunk × List ℕ). map meta_of (zip x.0 x.1))) (zip_along (chunks_in e) row_texts (row_references e file_limit) samples)
    ∙ map_along (λ (x : List Chunk × List ℕ). map meta_of (zip x.0 x.1)) (λ before s. (chunks_in e s, row_references e file_limit (texts (chunks_of_rows e before)) (row_texts (chunks_in e s)))) samples

pub metas_push : (e : Encoding) (samples : List (List Sample)) (s : List Sample) → metas_of e (samples ++ s ∷ []) ≡ metas_of e samples ++ row_metas e (texts (chunks_of_rows e samples)) s ∷ []
metas_push e samples s =
    metas_along e (samples ++ s ∷ []) ∙ along-push (λ before r. row_metas e (texts (chunks_of_rows e before)) r ∷ []) samples s ∙ ap (λ (ms : List (List ChunkMeta)). ms ++ row_metas e (texts (chunks_of_rows e samples)) s ∷ []) (sym (metas_along e samples))

metas_at : (e : Encoding) (samples : List (List Sample)) (i : ℕ) → i < length samples → get_or (metas_of e samples) i [] ≡ row_metas e (texts (chunks_of_rows e (take i samples))) (get_or samples i [])
metas_at e samples i lt = ap (λ (ms : List (List ChunkMeta)). get_or ms i []) (metas_along e samples) ∙ along_at (λ before s. row_metas e (texts (chunks_of_rows e before)) s) samples i [] [] lt

pub metas_count : (e : Encoding) (samples : List (List Sample)) → length (metas_of e samples) ≡ length samples
metas_count e samples = ap length (metas_along e samples) ∙ along_count (λ before s. row_metas e (texts (chunks_of_rows e before)) s) samples

pub texts_push : (e : Encoding) (samples : List (List Sample)) (s : List Sample) → texts (chunks_of_rows e (samples ++ s ∷ [])) ≡ texts (chunks_of_rows e samples) ++ row_texts (chunks_in e s) ∷ []
texts_push e samples s = ap texts (map_push (chunks_in e) samples s) ∙ map_push row_texts (chunks_of_rows e samples) (chunks_in e s)

-- ---- the chunks of a row are there

there : (e : Encoding) (done : List Text) (ps : List (List Sample)) (later : List Text) → All (λ body. length body ≤ longest_chunk) (row_texts (map (chunk_in e) ps))
    → AreThere e (chunk_files e file_limit (done ++ (row_texts (map (chunk_in e) ps) ++ later))) (map meta_of (zip (map (chunk_in e) ps) (along (λ others body. reference_behind e file_limit (done ++ others) body ∷ []) (row_texts (map (chunk_in e) ps))))) ps
there e done [] later short = tt
there e done (p ∷ ps) later short =
    let t : Text = data_in e p in
    let rest : List Text = row_texts (map (chunk_in e) ps) in
    let here = chunk_stands e file_limit done (data_in e p) (row_texts (map (chunk_in e) ps) ++ later) (lit< tt) (let s = All-head (λ body. length body ≤ longest_chunk) (data_in e p) (row_texts (map (chunk_in e) ps)) short in omega (arith, s)) in
    let more = there e (done ++ data_in e p ∷ []) ps later (All-tail (λ body. length body ≤ longest_chunk) (data_in e p) (row_texts (map (chunk_in e) ps)) short) in
    let all : (done ++ data_in e p ∷ []) ++ (row_texts (map (chunk_in e) ps) ++ later) ≡ done ++ (data_in e p ∷ (row_texts (map (chunk_in e) ps) ++ later)) = append_assoc done (data_in e p ∷ []) (row_texts (map (chunk_in e) ps) ++ later) in
    let refs : along (λ others body. reference_behind e file_limit ((done ++ data_in e p ∷ []) ++ others) body ∷ []) (row_texts (map (chunk_in e) ps)) ≡ along (λ others body. reference_behind e file_limit (done ++ (data_in e p ∷ others)) body ∷ []) (row_texts (map (chunk_in e) ps)) =
    along_same (λ others body. reference_behind e file_limit ((done ++ data_in e p ∷ []) ++ others) body ∷ []) (λ others body. reference_behind e file_limit (done ++ (data_in e p ∷ others)) body ∷ []) (row_texts (map (chunk_in e) ps))
    (λ others body. ap (λ (d : List Text). reference_behind e file_limit d body ∷ []) (append_assoc done (data_in e p ∷ []) others)) in (
      subst (λ (d : List Text). StandsAt e (chunk_files e file_limit (done ++ (data_in e p ∷ (row_texts (map (chunk_in e) ps) ++ later)))) (reference_behind e file_limit d (data_in e p)) (data_in e p)) (sym (append-nil done)) here,
      subst (λ (ts : List Text). AreThere e (chunk_files e file_limit ts) (map meta_of (zip (map (chunk_in e) ps) (along (λ others body. reference_behind e file_limit (done ++ (data_in e p ∷ others)) body ∷ []) (row_texts (map (chunk_in e) ps))))) ps) all
          (subst (λ (rs : List ℕ). AreThere e (chunk_files e file_limit ((done ++ data_in e p ∷ []) ++ (row_texts (map (chunk_in e) ps) ++ later))) (map meta_of (zip (map (chunk_in e) ps) rs)) ps) refs more),
    )

-- ---- a row of samples that has these files and these names

pub record RowAt (e : Encoding) (chunks : List ChunkMeta) (before : List (List Text)) (samples : List Sample) : Type 0 where
  pub column : IsColumn samples
  pub named : chunks ≡ row_metas e before samples
  pub few : length (files_with e (before ++ row_texts (chunks_in e samples) ∷ [])) ≤ 2 ^ 32

-- and its chunks are in the files
pub record Here (e : Encoding) (files : List Text) (chunks : List ChunkMeta) (before : List (List Text)) (samples : List Sample) : Type 0 where
  pub column : IsColumn samples
  pub named : chunks ≡ row_metas e before samples
  pub are_there : AreThere e files chunks (parts chunk_samples samples)
  pub few : length (files_with e (before ++ row_texts (chunks_in e samples) ∷ [])) ≤ 2 ^ 32

column_at : (samples : List (List Sample)) (i : ℕ) → i < length samples → AllByRecursion IsColumn samples → IsColumn (get_or samples i [])
column_at [] i lt h = absurd (omega (arith, lt))
column_at (s ∷ samples) zero lt h = h.0
column_at (s ∷ samples) (suc i) lt h = column_at samples i (omega (arith, lt)) h.1

pub as_many : {e : Encoding} (files : List Text) (rows : List IndexRow) (all : List (List Sample)) → HasSamples e files rows all → length all ≡ length rows
as_many {e = e} files rows all h = omega (arith, metas_count e all, ap length h.named, length-map rows (λ (r : IndexRow). r.chunks))

row_split : (e : Encoding) (all : List (List Sample)) (i : ℕ) → i < length all → all_texts (chunks_of_rows e all) ≡ flat (texts (chunks_of_rows e (take i all))) ++ (row_texts (chunks_in e (get_or all i [])) ++ flat (texts (chunks_of_rows e (drop (i + 1) all))))
row_split e all i lt =
    let split : all ≡ (take i all ++ get_or all i [] ∷ []) ++ drop (i + 1) all = sym (take-append-drop (i + 1) all) ∙ ap (λ (t : List (List Sample)). t ++ drop (i + 1) all) (take_more all i [] lt) in
    let front : List (List Text) = texts (chunks_of_rows e (take i all)) in
    let back : List (List Text) = texts (chunks_of_rows e (drop (i + 1) all)) in
    let parted : texts (chunks_of_rows e all) ≡ (texts (chunks_of_rows e (take i all)) ++ row_texts (chunks_in e (get_or all i [])) ∷ []) ++ texts (chunks_of_rows e (drop (i + 1) all)) =
    ap (λ (t : List (List Sample)). texts (chunks_of_rows e t)) split
    ∙ ap texts (map-append (chunks_in e) (take i all ++ get_or all i [] ∷ []) (drop (i + 1) all))
    ∙ map-append row_texts (chunks_of_rows e (take i all ++ get_or all i [] ∷ [])) (chunks_of_rows e (drop (i + 1) all))
    ∙ ap (λ (t : List (List Text)). t ++ texts (chunks_of_rows e (drop (i + 1) all))) (texts_push e (take i all) (get_or all i [])) in
    ap flat parted ∙ flat_map-append (λ r. r) (front ++ row_texts (chunks_in e (get_or all i [])) ∷ []) back
    ∙ ap (λ (t : List Text). t ++ flat back) (flat_map-push (λ r. r) front (row_texts (chunks_in e (get_or all i []))))
    ∙ append_assoc (flat front) (row_texts (chunks_in e (get_or all i []))) (flat back)

named_there : (e : Encoding) → AreXorShort → (all : List (List Sample)) (i : ℕ) → i < length all → AreThere e (files_of e all) (row_metas e (texts (chunks_of_rows e (take i all))) (get_or all i [])) (parts chunk_samples (get_or all i []))
named_there e short all i lt =
    subst (λ (ts : List Text). AreThere e (chunk_files e file_limit ts) (row_metas e (texts (chunks_of_rows e (take i all))) (get_or all i [])) (parts chunk_samples (get_or all i []))) (sym (row_split e all i lt))
    (there e (flat (texts (chunks_of_rows e (take i all)))) (parts chunk_samples (get_or all i [])) (flat (texts (chunks_of_rows e (drop (i + 1) all)))) (chunks_short e short (get_or all i [])))

few_there : (e : Encoding) (all : List (List Sample)) (i : ℕ) → i < length all → length (files_with e (texts (chunks_of_rows e (take i all)) ++ row_texts (chunks_in e (get_or all i [])) ∷ [])) ≤ length (files_of e all)
few_there e all i lt =
    let long : i < length (chunks_of_rows e all) = omega (arith, lt, length-map all (chunks_in e)) in
    let front : take i (chunks_of_rows e all) ≡ chunks_of_rows e (take i all) = take-map (chunks_in e) i all in
    let row : get_or (chunks_of_rows e all) i [] ≡ chunks_in e (get_or all i []) = get_or-map (chunks_in e) all i [] [] lt in
    let small = rows_large e file_limit (chunks_of_rows e all) i [] long in
    let same : texts (take i (chunks_of_rows e all)) ++ row_texts (get_or (chunks_of_rows e all) i []) ∷ [] ≡ texts (chunks_of_rows e (take i all)) ++ row_texts (chunks_in e (get_or all i [])) ∷ [] =
    ap (λ (cs : List (List Chunk)). texts cs ++ row_texts (get_or (chunks_of_rows e all) i []) ∷ []) front ∙ ap (λ (c : List Chunk). texts (chunks_of_rows e (take i all)) ++ row_texts c ∷ []) row in
    omega (arith, small, ap (λ (t : List (List Text)). length (chunk_files e file_limit (flat t))) same)

pub row_at : {e : Encoding} (files : List Text) (rows : List IndexRow) (all : List (List Sample)) (i : ℕ) (r : IndexRow) → i < length rows → r ≡ get_or rows i r → HasSamples e files rows all → RowAt e r.chunks (texts (chunks_of_rows e (take i all))) (get_or all i [])
row_at {e = e} files rows all i r lt is h =
    let long : i < length all = omega (arith, lt, as_many files rows all h) in
    record {
      column = column_at all i long h.each;
      named = ap (λ (x : IndexRow). x.chunks) is ∙ sym (get_or-map (λ (x : IndexRow). x.chunks) rows i r [] lt) ∙ ap (λ (ms : List (List ChunkMeta)). get_or ms i []) h.named ∙ metas_at e all i long;
      few = (let fewer = few_there e all i long in omega (arith, fewer, h.few_files, ap length h.files_are));
    }

has_at : {e : Encoding} → AreXorShort → (files : List Text) (rows : List IndexRow) (all : List (List Sample)) (i : ℕ) (r : IndexRow) → i < length rows → r ≡ get_or rows i r → HasSamples e files rows all → Here e files r.chunks (texts (chunks_of_rows e (take i all))) (get_or all i [])
has_at {e = e} short files rows all i r lt is h =
    let at = row_at files rows all i r lt is h in
    record {
      column = at.column;
      named = at.named;
      few = at.few;
      are_there = subst (λ (ms : List ChunkMeta). AreThere e files ms (parts chunk_samples (get_or all i []))) (sym at.named)
          (subst (λ (fs : List Text). AreThere e fs (row_metas e (texts (chunks_of_rows e (take i all))) (get_or all i [])) (parts chunk_samples (get_or all i []))) (sym h.files_are) (named_there e short all i (omega (arith, lt, as_many files rows all h))));
    }

-- ---- the rows so far

pub record SoFar (e : Encoding) (rows : List IndexRow) (now : Written) (samples : List (List Sample)) (i : ℕ) : Type 0 where
  pub limit : now.limit ≡ file_limit
  pub encoding : now.encoding ≡ e
  pub files : now.files ≡ files_with e (texts (chunks_of_rows e samples))
  pub each : AllByRecursion IsColumn samples
  pub named : map (λ (r : IndexRow). r.chunks) (take i rows) ≡ metas_of e samples

each_push : (samples : List (List Sample)) (s : List Sample) → AllByRecursion IsColumn samples → IsColumn s → AllByRecursion IsColumn (samples ++ s ∷ [])
each_push [] s h c = (c, tt)
each_push (x ∷ samples) s h c = (h.0, each_push samples s h.1 c)

metas_none : (e : Encoding) → metas_of e [] ≡ []
unfolding metas_of
metas_none e = refl

pub so_far_none : (e : Encoding) (rows : List IndexRow) (now : Written) (samples : List (List Sample)) → now.limit ≡ file_limit → now.encoding ≡ e → now.files ≡ [] → samples ≡ [] → SoFar e rows now samples 0
so_far_none e rows now samples l k f n = subst (λ (xs : List (List Sample)). SoFar e rows now xs 0) (sym n) (record { limit = l; encoding = k; files = f; each = tt; named = sym (metas_none e) })

pub so_far_more : {e : Encoding} (rows : List IndexRow) (now next : Written) (samples all : List (List Sample)) (i : ℕ) (r : IndexRow) (s pushed : List Sample) → i < length rows → r ≡ get_or rows i r → SoFar e rows now samples i → next.limit ≡ file_limit → next.encoding ≡ e → IsColumn s
    → next.files ≡ files_with e (texts (chunks_of_rows e samples) ++ row_texts (chunks_in e s) ∷ []) → r.chunks ≡ row_metas e (texts (chunks_of_rows e samples)) s → pushed ≡ s → all ≡ samples ++ pushed ∷ [] → SoFar e rows next all (i + 1)
so_far_more {e = e} rows now next samples all i r s pushed lt is h l k c f n p push =
    let whole : all ≡ samples ++ s ∷ [] = push ∙ ap (λ (x : List Sample). samples ++ x ∷ []) p in
    subst (λ (xs : List (List Sample)). SoFar e rows next xs (i + 1)) (sym whole) (record {
      limit = l;
      encoding = k;
      files = f ∙ ap (files_with e) (sym (texts_push e samples s));
      each = each_push samples s h.each c;
      named = ap (map (λ (x : IndexRow). x.chunks)) (take_more rows i r lt) ∙ map_push (λ (x : IndexRow). x.chunks) (take i rows) (get_or rows i r)
          ∙ ap (λ (ms : List (List ChunkMeta)). ms ++ (get_or rows i r).chunks ∷ []) h.named ∙ ap (λ (x : IndexRow). metas_of e samples ++ x.chunks ∷ []) (sym is) ∙ ap (λ (m : List ChunkMeta). metas_of e samples ++ m ∷ []) n ∙ sym (metas_push e samples s);
    })

pub so_far_all : {e : Encoding} (files : List Text) (rows : List IndexRow) (now : Written) (samples : List (List Sample)) (i : ℕ) → length rows ≤ i → SoFar e rows now samples i → now.files ≡ files → length files ≤ 2 ^ 32 → HasSamples e files rows samples
so_far_all files rows now samples i le h e few = record {
  each = h.each;
  files_are = sym e ∙ h.files;
  few_files = few;
  named = ap (map (λ (r : IndexRow). r.chunks)) (sym (whole rows i le)) ∙ h.named;
}

-- the rows so far are the first of any that have these files and these names
pub first_more : (all samples more : List (List Sample)) (i : ℕ) (s pushed : List Sample) → i < length all → samples ≡ take i all → s ≡ get_or all i [] → pushed ≡ s → more ≡ samples ++ pushed ∷ [] → more ≡ take (i + 1) all
first_more all samples more i s pushed lt e k p push =
    push ∙ ap (λ (x : List Sample). samples ++ x ∷ []) (p ∙ k) ∙ ap (λ (t : List (List Sample)). t ++ get_or all i [] ∷ []) e ∙ sym (take_more all i [] lt)

pub here_at : {e : Encoding} → AreXorShort → (files : List Text) (rows : List IndexRow) (all samples : List (List Sample)) (i : ℕ) (r : IndexRow) (lent : List ChunkMeta) → i < length rows → r ≡ get_or rows i r → lent ≡ r.chunks → samples ≡ take i all → HasSamples e files rows all
    → Here e files lent (texts (chunks_of_rows e samples)) (get_or all i [])
here_at {e = e} short files rows all samples i r lent lt is l first h =
    subst (λ (ms : List ChunkMeta). Here e files ms (texts (chunks_of_rows e samples)) (get_or all i [])) (sym l)
    (subst (λ (xs : List (List Sample)). Here e files r.chunks (texts (chunks_of_rows e xs)) (get_or all i [])) (sym first) (has_at short files rows all i r lt is h))

pub all_taken : {e : Encoding} (files : List Text) (rows : List IndexRow) (all samples : List (List Sample)) (i : ℕ) → length rows ≤ i → samples ≡ take i all → HasSamples e files rows all → samples ≡ all
all_taken files rows all samples i le first h = first ∙ whole all i (omega (arith, le, as_many files rows all h))
