-- Chunks placed by their lengths stand as in their files.
use Rattle.std.proofs.Common.{◌≡◌, ℕ, ◌+◌, ◌*◌, ◌<◌, ◌≤◌, ◌^◌, Bool, true, false, List, [], ◌∷◌, ◌++◌, length, take, drop, get_or, inl, inr, refl, sym, ap, subst, ◌∙◌, append_assoc, arith}
use Rattle.std.specs.Prelude.{map, pos}
use Rattle.std.specs.List.{All, flat_map, fold}
use Rattle.std.proofs.lemmas.Bool.{cases_lt, le-leb, lt-leb}
use Rattle.std.proofs.lemmas.List.{append-nil, get_or-map, length-append, length-drop, length-map, take_all, take-append-le, drop-append-le}
use Rattle.std.proofs.lemmas.List.Elements.{All-append, All-cons, All-get_or, All-head, All-nil, All-tail}
use Rattle.std.proofs.lemmas.List.Sums.{fold-append}
use Rattle.hw_bytes.proofs.Lists.{along-push, flat_map-push, fold-push, map_push}
use Rattle.hw_bytes.specs.Sums.{Text}
use Rattle.head_column.specs.declared.chunk.Chunk.{Chunk}
use Rattle.block_files.specs.declared.encoding.Encoding.{Encoding}
use Rattle.block_files.specs.declared.places.ChunkSpan.{ChunkSpan}
use Rattle.block_files.specs.declared.places.FileSpan.{FileSpan}
use Rattle.block_files.specs.Files.{all_texts, chunk_element, chunk_files, file_head, last_reference, longest_chunk, reference_behind, references, row_references, row_texts, texts, with_chunk}
use Rattle.block_files.specs.Places.{file_at, span_of}
use Rattle.block_files.specs.Layouts.{EndsWithin, IsOpen, Layout, Stands}
use Rattle.block_files.proofs.FileLaws.{goes_behind, begins_another, begins_first, last_reference_at, some_element}
use Rattle.block_files.proofs.RowLaws.{all_files as no_fewer, flat, row_more, row_split, rows_large, texts_more, whole}

-- a file that ends within the chunks stays the same with one chunk more
file_same : (e : Encoding) (all : List Text) (body : Text) (s : FileSpan) → s.first + s.count ≤ length all → file_at e (all ++ body ∷ []) s ≡ file_at e all s
file_same e all body s le =
    ap (λ (t : List Text). file_head ++ flat_map (chunk_element e) (take s.count t)) (drop-append-le s.first all (body ∷ []) (omega (arith, le)))
    ∙ ap (λ (t : List Text). file_head ++ flat_map (chunk_element e) t) (take-append-le s.count (drop s.first all) (body ∷ []) (omega (arith, le, length-drop s.first all)))

files_same : (e : Encoding) (all : List Text) (body : Text) (full : List FileSpan) → All (EndsWithin (length all)) full → map (file_at e (all ++ body ∷ [])) full ≡ map (file_at e all) full
files_same e all body [] h = refl
files_same e all body (s ∷ full) h =
    rw (file_same e all body s (All-head (EndsWithin (length all)) s full h)) (ap (λ (fs : List Text). file_at e all s ∷ fs) (files_same e all body full (All-tail (EndsWithin (length all)) s full h)))

within_more : (m n : ℕ) (full : List FileSpan) → m ≤ n → All (EndsWithin m) full → All (EndsWithin n) full
within_more m n [] le h = All-nil (EndsWithin n)
within_more m n (s ∷ full) le h =
    All-cons (EndsWithin n) s full (let l = All-head (EndsWithin m) s full h in omega (arith, le, l)) (within_more m n full le (All-tail (EndsWithin m) s full h))

-- the chunks from a place on, which the last file has
last_is : (e : Encoding) (all : List Text) (s : FileSpan) → s.first + s.count ≡ length all → file_at e all s ≡ file_head ++ flat_map (chunk_element e) (drop s.first all)
last_is e all s ends = ap (λ (t : List Text). file_head ++ flat_map (chunk_element e) t) (take_all s.count (drop s.first all) (omega (arith, ends, length-drop s.first all)))

last_more : (e : Encoding) (all : List Text) (body : Text) (s t : FileSpan) → s.first + s.count ≡ length all → t.first ≡ s.first → t.count ≡ s.count + 1 → file_at e (all ++ body ∷ []) t ≡ file_at e all s ++ chunk_element e body
last_more e all body s t ends first count =
    let n : length (all ++ body ∷ []) ≡ length all + 1 = length-append all (body ∷ []) in
    last_is e (all ++ body ∷ []) t (omega (arith, ends, first, count, n))
    ∙ ap (λ (k : ℕ). file_head ++ flat_map (chunk_element e) (drop k (all ++ body ∷ []))) first
    ∙ ap (λ (x : List Text). file_head ++ flat_map (chunk_element e) x) (drop-append-le s.first all (body ∷ []) (omega (arith, ends)))
    ∙ ap (λ (x : Text). file_head ++ x) (flat_map-push (chunk_element e) (drop s.first all) body)
    ∙ sym (append_assoc file_head (flat_map (chunk_element e) (drop s.first all)) (chunk_element e body))
    ∙ ap (λ (x : Text). x ++ chunk_element e body) (sym (last_is e all s ends))

-- a file that has only begun
file_begun : (e : Encoding) (all : List Text) (s : FileSpan) → s.count ≡ 0 → file_at e all s ≡ file_head
file_begun e all s none = ap (λ (k : ℕ). file_head ++ flat_map (chunk_element e) (take k (drop s.first all))) none

-- ---- where the next chunk goes

pub stays_open : (e : Encoding) (limit : ℕ) (all : List Text) (body : Text) (size : ℕ) (now : Layout) → length (chunk_element e body) ≡ size → 0 < now.len → now.len + size ≤ limit → Stands e limit all now → IsOpen e limit all body now
stays_open e limit all body size now n some room h =
    let len = h.len some in
    record {
      files = fold-push (with_chunk e limit) [] all body ∙ ap (λ (fs : List Text). with_chunk e limit fs body) (h.files some)
          ∙ goes_behind e limit (map (file_at e all) now.full) (file_at e all now.last) body (le-leb (length (file_at e all now.last) + length (chunk_element e body)) limit (omega (arith, n, len, room)));
      len = len;
      ends = h.ends;
      within = h.within;
    }

-- the first file begins
pub begins_open : (e : Encoding) (limit : ℕ) (all : List Text) (body : Text) (now next : Layout) → now.len ≡ 0 → next.full ≡ now.full → next.last.first ≡ now.last.first + now.last.count → next.last.count ≡ 0 → next.len ≡ 8 → Stands e limit all now → IsOpen e limit all body next
begins_open e limit all body now next none full first count len h =
    let nothing = h.none none in
    let begun = file_begun e all next.last count in
    record {
      files = ap (λ (ts : List Text). chunk_files e limit (ts ++ body ∷ [])) nothing.0 ∙ begins_first e limit body ∙ ap (λ (t : Text). (t ++ chunk_element e body) ∷ []) (sym begun)
          ∙ ap (λ (fs : List FileSpan). map (file_at e all) fs ++ (file_at e all next.last ++ chunk_element e body) ∷ []) (sym (full ∙ nothing.1));
      len = ap length begun ∙ sym len;
      ends = omega (arith, first, count, h.ends);
      within = rw full h.within;
    }

-- another file begins
pub moves_open : (e : Encoding) (limit : ℕ) (all : List Text) (body : Text) (size : ℕ) (now next : Layout) → length (chunk_element e body) ≡ size → 0 < now.len → limit < now.len + size → next.full ≡ now.full ++ now.last ∷ []
    → next.last.first ≡ now.last.first + now.last.count → next.last.count ≡ 0 → next.len ≡ 8 → Stands e limit all now → IsOpen e limit all body next
moves_open e limit all body size now next n some room full first count len h =
    let begun = file_begun e all next.last count in
    let long = h.len some in
    let files : chunk_files e limit (all ++ body ∷ []) ≡ map (file_at e all) now.full ++ file_at e all now.last ∷ (file_head ++ chunk_element e body) ∷ [] =
    fold-push (with_chunk e limit) [] all body ∙ ap (λ (fs : List Text). with_chunk e limit fs body) (h.files some)
    ∙ begins_another e limit (map (file_at e all) now.full) (file_at e all now.last) body (lt-leb (length (file_at e all now.last) + length (chunk_element e body)) limit (omega (arith, n, long, room))) in
    record {
      files = files ∙ sym (append_assoc (map (file_at e all) now.full) (file_at e all now.last ∷ []) ((file_head ++ chunk_element e body) ∷ []))
          ∙ ap (λ (fs : List Text). fs ++ (file_head ++ chunk_element e body) ∷ []) (sym (map_push (file_at e all) now.full now.last) ∙ ap (map (file_at e all)) (sym full))
          ∙ ap (λ (t : Text). map (file_at e all) next.full ++ (t ++ chunk_element e body) ∷ []) (sym begun);
      len = ap length begun ∙ sym len;
      ends = omega (arith, first, count, h.ends);
      within = rw full (All-append (EndsWithin (length all)) now.full (now.last ∷ []) h.within (All-cons (EndsWithin (length all)) now.last [] (omega (arith, h.ends)) (All-nil (EndsWithin (length all)))));
    }

-- how many files there are then
pub open_count : (e : Encoding) (limit : ℕ) (all : List Text) (body : Text) (now : Layout) → IsOpen e limit all body now → length (chunk_files e limit (all ++ body ∷ [])) ≡ length now.full + 1
open_count e limit all body now h =
    omega (arith, ap length h.files, length-append (map (file_at e all) now.full) ((file_at e all now.last ++ chunk_element e body) ∷ []), length-map now.full (file_at e all))

pub moves_count : (e : Encoding) (limit : ℕ) (all : List Text) (body : Text) (size : ℕ) (now : Layout) → length (chunk_element e body) ≡ size → 0 < now.len → limit < now.len + size → Stands e limit all now
    → length (chunk_files e limit (all ++ body ∷ [])) ≡ length now.full + 2
moves_count e limit all body size now n some room h =
    let next : Layout = record { full = now.full ++ now.last ∷ []; last = record { first = now.last.first + now.last.count; count = 0 }; len = 8 } in
    omega (arith, open_count e limit all body next (moves_open e limit all body size now next n some room refl refl refl refl h), length-append now.full (now.last ∷ []))

pub put_stands : (e : Encoding) (limit : ℕ) (all : List Text) (body : Text) (size : ℕ) (now next : Layout) → length (chunk_element e body) ≡ size → next.full ≡ now.full → next.last.first ≡ now.last.first → next.last.count ≡ now.last.count + 1 → next.len ≡ now.len + size
    → IsOpen e limit all body now → Stands e limit (all ++ body ∷ []) next
put_stands e limit all body size now next n full first count len h =
    let some = some_element e body in
    let more = last_more e all body now.last next.last h.ends first count in
    let long : length (all ++ body ∷ []) ≡ length all + 1 = length-append all (body ∷ []) in
    record {
      none = λ none. absurd (omega (arith, none, len, n, some));
      files = λ _. h.files ∙ ap (λ (fs : List Text). fs ++ (file_at e all now.last ++ chunk_element e body) ∷ []) (sym (files_same e all body now.full h.within) ∙ ap (map (file_at e (all ++ body ∷ []))) (sym full))
          ∙ ap (λ (t : Text). map (file_at e (all ++ body ∷ [])) next.full ++ t ∷ []) (sym more);
      len = λ _. omega (arith, ap length more, length-append (file_at e all now.last) (chunk_element e body), h.len, n, len);
      ends = omega (arith, first, count, h.ends, long);
      within = rw full (within_more (length all) (length (all ++ body ∷ [])) now.full (omega (arith, long)) h.within);
    }

pub open_reference : (e : Encoding) (limit : ℕ) (all : List Text) (body : Text) (now : Layout) → IsOpen e limit all body now → length now.full * 2 ^ 32 + now.len ≡ reference_behind e limit all body
unfolding reference_behind
open_reference e limit all body now h =
    let is = ap (λ (fs : List Text). last_reference e fs body) h.files ∙ last_reference_at e (map (file_at e all) now.full) (file_at e all now.last) body in
    omega (arith, is, length-map now.full (file_at e all), h.len)

-- ---- when all are placed

pub no_files : (e : Encoding) (limit : ℕ) (all : List Text) (now : Layout) → now.len ≡ 0 → Stands e limit all now → map (file_at e all) now.full ≡ chunk_files e limit all
no_files e limit all now none h = (let nothing = h.none none in rw (nothing.1, nothing.0) refl)

pub all_files : (e : Encoding) (limit : ℕ) (all : List Text) (now : Layout) (spans : List FileSpan) → 0 < now.len → spans ≡ now.full ++ now.last ∷ [] → Stands e limit all now → map (file_at e all) spans ≡ chunk_files e limit all
all_files e limit all now spans some is h = ap (map (file_at e all)) is ∙ map_push (file_at e all) now.full now.last ∙ sym (h.files some)

pub none_stand : (e : Encoding) (limit : ℕ) (now : Layout) → now.full ≡ [] → now.last.first ≡ 0 → now.last.count ≡ 0 → now.len ≡ 0 → Stands e limit [] now
none_stand e limit now full first count len = record {
  none = λ _. (refl, full);
  files = λ some. absurd (omega (arith, some, len));
  len = λ some. absurd (omega (arith, some, len));
  ends = omega (arith, first, count);
  within = rw full (All-nil (EndsWithin 0));
}

is_full : (limit size : ℕ) (now : Layout) (b : Bool) → ((0 < now.len) × (now.len + size ≤ limit) → b ≡ true) → b ≡ false → 0 < now.len → limit < now.len + size
is_full limit size now b room refused some = elim (cases_lt limit (now.len + size)) [
  | inl lt ↦ lt
  | inr le ↦ (let yes : b ≡ true = room (some, omega (arith, le)) in absurd cc)
]

-- a file begins where there is no room
pub opens : (e : Encoding) (limit : ℕ) (all : List Text) (body : Text) (size : ℕ) (now next : Layout) (b : Bool) → length (chunk_element e body) ≡ size → ((0 < now.len) × (now.len + size ≤ limit) → b ≡ true) → b ≡ false → (now.len ≡ 0 → next.full ≡ now.full)
    → (0 < now.len → next.full ≡ now.full ++ now.last ∷ []) → next.last.first ≡ now.last.first + now.last.count → next.last.count ≡ 0 → next.len ≡ 8 → Stands e limit all now → IsOpen e limit all body next
opens e limit all body size now next b n room refused none another first count len h = elim (cases_lt 0 now.len) [
  | inl some ↦ moves_open e limit all body size now next n some (is_full limit size now b room refused some) (another some) first count len h
  | inr le ↦ begins_open e limit all body now next (omega (arith, le)) (none (omega (arith, le))) first count len h
]

pub too_many : (e : Encoding) (limit : ℕ) (all : List Text) (body : Text) (size : ℕ) (now : Layout) (b : Bool) → length (chunk_element e body) ≡ size → ((0 < now.len) × (now.len + size ≤ limit) → b ≡ true) → b ≡ false → (0 < now.len) × (2 ^ 32 ≤ length now.full + 1) → Stands e limit all now
    → 2 ^ 32 < length (chunk_files e limit (all ++ body ∷ []))
too_many e limit all body size now b n room refused many h = omega (arith, many.1, moves_count e limit all body size now n many.0 (is_full limit size now b room refused many.0) h)

-- ---- rows

-- these chunks of a row are placed, after the rows before, and found
pub record RowStands (e : Encoding) (limit : ℕ) (before : List (List Text)) (done : List Chunk) (now : Layout) (found : List ℕ) : Type 0 where
  pub stands : Stands e limit (flat before ++ row_texts done) now
  pub found_is : found ≡ row_references e limit before (row_texts done)

pub row_begins : (e : Encoding) (limit : ℕ) (before : List (List Text)) (now : Layout) → Stands e limit (flat before) now → RowStands e limit before [] now []
row_begins e limit before now h = record { stands = subst (λ (ts : List Text). Stands e limit ts now) (sym (append-nil (flat before))) h; found_is = refl }

-- a chunk for places where there is none
abbrev pub no_chunk : Chunk
no_chunk = record { min_time = pos 0; max_time = pos 0; count = 0; text = [] }

pub long_at : (chunks : List Chunk) (row : List ChunkSpan) (i : ℕ) (d span : ChunkSpan) → i < length row → span ≡ get_or row i d → map span_of chunks ≡ row → length (get_or chunks i no_chunk).text ≡ span.len
long_at chunks row i d span lt is e =
    let n : i < length chunks = omega (arith, lt, ap length e, length-map chunks span_of) in
    ap (λ (s : ChunkSpan). s.len) (sym (get_or-map span_of chunks i no_chunk d n) ∙ ap (λ (r : List ChunkSpan). get_or r i d) e ∙ sym is)

pub row_step : (e : Encoding) (limit : ℕ) (before : List (List Text)) (chunks : List Chunk) (row : List ChunkSpan) (i : ℕ) (d span : ChunkSpan) (now next : Layout) (found every : List ℕ) (reference : ℕ) → i < length row → span ≡ get_or row i d → map span_of chunks ≡ row
    → ((all : List Text) (body : Text) → length body ≡ span.len → Stands e limit all now → Stands e limit (all ++ body ∷ []) next) → ((all : List Text) (body : Text) → length body ≡ span.len → Stands e limit all now → reference ≡ reference_behind e limit all body)
    → every ≡ found ++ reference ∷ [] → RowStands e limit before (take i chunks) now found → RowStands e limit before (take (i + 1) chunks) next every
row_step e limit before chunks row i d span now next found every reference lt is same stands at push h =
    let n : i < length chunks = omega (arith, lt, ap length same, length-map chunks span_of) in
    let body : Text = (get_or chunks i no_chunk).text in
    let long : length body ≡ span.len = long_at chunks row i d span lt is same in
    let more : row_texts (take (i + 1) chunks) ≡ row_texts (take i chunks) ++ body ∷ [] = row_more chunks i no_chunk n in
    let all : List Text = flat before ++ row_texts (take i chunks) in
    record {
      stands = subst (λ (ts : List Text). Stands e limit ts next) (append_assoc (flat before) (row_texts (take i chunks)) (body ∷ []) ∙ ap (λ (ts : List Text). flat before ++ ts) (sym more)) (stands all body long h.stands);
      found_is = push ∙ ap (λ (rs : List ℕ). rs ++ reference ∷ []) h.found_is ∙ ap (λ (r : ℕ). row_references e limit before (row_texts (take i chunks)) ++ r ∷ []) (at all body long h.stands)
          ∙ sym (along-push (λ others b. reference_behind e limit (flat before ++ others) b ∷ []) (row_texts (take i chunks)) body) ∙ ap (row_references e limit before) (sym more);
    }

pub row_stands : (e : Encoding) (limit : ℕ) (before : List (List Text)) (chunks : List Chunk) (row : List ChunkSpan) (i : ℕ) (now : Layout) (found : List ℕ) → length row ≤ i → map span_of chunks ≡ row → RowStands e limit before (take i chunks) now found → RowStands e limit before chunks now found
row_stands e limit before chunks row i now found le same h =
    subst (λ (cs : List Chunk). RowStands e limit before cs now found) (whole chunks i (omega (arith, le, ap length same, length-map chunks span_of))) h

pub flat_stands : (e : Encoding) (limit : ℕ) (before : List (List Text)) (chunks : List Chunk) (now : Layout) (found : List ℕ) → RowStands e limit before chunks now found → Stands e limit (flat (before ++ row_texts chunks ∷ [])) now
flat_stands e limit before chunks now found h = subst (λ (ts : List Text). Stands e limit ts now) (sym (flat_map-push (λ r. r) before (row_texts chunks))) h.stands

-- more chunks make no fewer files
more_chunks : (e : Encoding) (limit : ℕ) (some rest every : List Text) → every ≡ some ++ rest → length (chunk_files e limit some) ≤ length (chunk_files e limit every)
more_chunks e limit some rest every is =
    let split : chunk_files e limit every ≡ fold (with_chunk e limit) (chunk_files e limit some) rest = ap (chunk_files e limit) is ∙ fold-append (with_chunk e limit) [] some rest in
    omega (arith, ap length split, no_fewer e limit (chunk_files e limit some) rest)

pub row_too_many : (e : Encoding) (limit : ℕ) (before : List (List Text)) (chunks : List Chunk) (row : List ChunkSpan) (i : ℕ) (d span : ChunkSpan) (now : Layout) (found : List ℕ) → i < length row → span ≡ get_or row i d → map span_of chunks ≡ row
    → ((all : List Text) (body : Text) → length body ≡ span.len → Stands e limit all now → 2 ^ 32 < length (chunk_files e limit (all ++ body ∷ []))) → RowStands e limit before (take i chunks) now found
    → 2 ^ 32 < length (chunk_files e limit (flat (before ++ row_texts chunks ∷ [])))
row_too_many e limit before chunks row i d span now found lt is same large h =
    let n : i < length chunks = omega (arith, lt, ap length same, length-map chunks span_of) in
    let body : Text = (get_or chunks i no_chunk).text in
    let all : List Text = flat before ++ row_texts (take i chunks) in
    let rest : List Text = row_texts (drop (i + 1) chunks) in
    let split : flat (before ++ row_texts chunks ∷ []) ≡ (all ++ body ∷ []) ++ rest =
    flat_map-push (λ r. r) before (row_texts chunks) ∙ ap (λ (ts : List Text). flat before ++ ts) (row_split chunks i no_chunk n) ∙ sym (append_assoc (flat before) (row_texts (take i chunks) ++ body ∷ []) rest)
    ∙ ap (λ (ts : List Text). ts ++ rest) (sym (append_assoc (flat before) (row_texts (take i chunks)) (body ∷ []))) in
    omega (arith, large all body (long_at chunks row i d span lt is same) h.stands, more_chunks e limit (all ++ body ∷ []) rest (flat (before ++ row_texts chunks ∷ [])) split)

-- these rows are placed, and found
pub record RowsStand (e : Encoding) (limit : ℕ) (done : List (List Chunk)) (now : Layout) (found : List (List ℕ)) : Type 0 where
  pub stands : Stands e limit (all_texts done) now
  pub found_are : found ≡ references e limit (texts done)

pub row_at : (chunks : List (List Chunk)) (rows : List (List ChunkSpan)) (i : ℕ) (lent row : List ChunkSpan) → i < length rows → lent ≡ row → row ≡ get_or rows i row → map (map span_of) chunks ≡ rows → map span_of (get_or chunks i []) ≡ lent
row_at chunks rows i lent row lt e is same =
    let n : i < length chunks = omega (arith, lt, ap length same, length-map chunks (map span_of)) in
    sym (get_or-map (map span_of) chunks i [] row n) ∙ ap (λ (rs : List (List ChunkSpan)). get_or rs i row) same ∙ sym is ∙ sym e

pub rows_step : (e : Encoding) (limit : ℕ) (chunks : List (List Chunk)) (rows : List (List ChunkSpan)) (i : ℕ) (lent row : List ChunkSpan) (now next : Layout) (found every : List (List ℕ)) (one pushed : List ℕ) → i < length rows → lent ≡ row → row ≡ get_or rows i row
    → map (map span_of) chunks ≡ rows
    → ((before : List (List Text)) (cs : List Chunk) → map span_of cs ≡ lent → Stands e limit (flat before) now → Stands e limit (flat (before ++ row_texts cs ∷ [])) next)
    → ((before : List (List Text)) (cs : List Chunk) → map span_of cs ≡ lent → Stands e limit (flat before) now → one ≡ row_references e limit before (row_texts cs))
    → pushed ≡ one → every ≡ found ++ pushed ∷ [] → RowsStand e limit (take i chunks) now found → RowsStand e limit (take (i + 1) chunks) next every
rows_step e limit chunks rows i lent row now next found every one pushed lt b is same stands at p push h =
    let n : i < length chunks = omega (arith, lt, ap length same, length-map chunks (map span_of)) in
    let there : List Chunk = get_or chunks i [] in
    let spans = row_at chunks rows i lent row lt b is same in
    let before : List (List Text) = texts (take i chunks) in
    let more : texts (take (i + 1) chunks) ≡ before ++ row_texts there ∷ [] = texts_more chunks i [] n in
    record {
      stands = subst (λ (ts : List (List Text)). Stands e limit (flat ts) next) (sym more) (stands before there spans h.stands);
      found_are = push ∙ ap (λ (rs : List (List ℕ)). rs ++ pushed ∷ []) h.found_are ∙ ap (λ (r : List ℕ). references e limit before ++ r ∷ []) (p ∙ at before there spans h.stands)
          ∙ sym (along-push (λ rs r. row_references e limit rs r ∷ []) before (row_texts there)) ∙ ap (references e limit) (sym more);
    }

pub rows_stand : (e : Encoding) (limit : ℕ) (chunks : List (List Chunk)) (rows : List (List ChunkSpan)) (i : ℕ) (now : Layout) (found : List (List ℕ)) → length rows ≤ i → map (map span_of) chunks ≡ rows → RowsStand e limit (take i chunks) now found → RowsStand e limit chunks now found
rows_stand e limit chunks rows i now found le same h =
    subst (λ (cs : List (List Chunk)). RowsStand e limit cs now found) (whole chunks i (omega (arith, le, ap length same, length-map chunks (map span_of)))) h

pub rows_too_many : (e : Encoding) (limit : ℕ) (chunks : List (List Chunk)) (rows : List (List ChunkSpan)) (i : ℕ) (lent row : List ChunkSpan) (now : Layout) (found : List (List ℕ)) → i < length rows → lent ≡ row → row ≡ get_or rows i row → map (map span_of) chunks ≡ rows
    → ((before : List (List Text)) (cs : List Chunk) → map span_of cs ≡ lent → Stands e limit (flat before) now → 2 ^ 32 < length (chunk_files e limit (flat (before ++ row_texts cs ∷ [])))) → RowsStand e limit (take i chunks) now found
    → 2 ^ 32 < length (chunk_files e limit (all_texts chunks))
rows_too_many e limit chunks rows i lent row now found lt b is same large h =
    let n : i < length chunks = omega (arith, lt, ap length same, length-map chunks (map span_of)) in
    omega (arith, large (texts (take i chunks)) (get_or chunks i []) (row_at chunks rows i lent row lt b is same) h.stands, rows_large e limit chunks i [] n)

pub spans_short : (rows : List (List ChunkSpan)) (i : ℕ) (lent row : List ChunkSpan) → i < length rows → lent ≡ row → row ≡ get_or rows i row → All (λ spans. All (λ span. span.len ≤ longest_chunk) spans) rows → All (λ span. span.len ≤ longest_chunk) lent
spans_short rows i lent row lt b is h =
    subst (λ (r : List ChunkSpan). All (λ span. span.len ≤ longest_chunk) r) (sym (b ∙ is)) (All-get_or (λ spans. All (λ span. span.len ≤ longest_chunk) spans) rows i row lt h)

pub rows_begin : (e : Encoding) (limit : ℕ) (now : Layout) (found : List (List ℕ)) → found ≡ [] → Stands e limit [] now → RowsStand e limit [] now found
rows_begin e limit now found none h = record { stands = h; found_are = none }
