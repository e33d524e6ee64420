-- Rows of chunks, one chunk after the other.
use Rattle.std.proofs.Common.{◌≡◌, ℕ, zero, suc, ◌+◌, ◌<◌, ◌≤◌, Bool, true, false, leb, List, [], ◌∷◌, ◌++◌, length, take, drop, get_or, refl, sym, ap, subst, ◌∙◌, append_assoc, arith}
use Rattle.std.specs.List.{All, flat_map, fold}
use Rattle.std.proofs.lemmas.List.{append-nil, length-drop, take_more, take-append-drop, map-append, length-map}
use Rattle.std.proofs.lemmas.List.Elements.{All-cons, All-head, All-nil, All-tail}
use Rattle.std.proofs.lemmas.List.Sums.{fold-append}
use Rattle.std.proofs.lemmas.Grind.{flat_map-append}
use Rattle.hw_bytes.specs.Lists.{along}
use Rattle.hw_bytes.proofs.Lists.{along-push, flat_map-push, fold-push, map_push}
use Rattle.hw_bytes.specs.Sums.{Text}
use Rattle.head_column.specs.declared.chunk.Chunk.{Chunk}
use Rattle.block_files.specs.declared.encoding.Encoding.{Encoding}
use Rattle.block_files.specs.Files.{Written, chunk_element, chunk_files, last_reference, longest_chunk, reference_behind, references, row_references, row_texts, texts, with_chunk}
use Rattle.block_files.proofs.FileLaws.{goes_behind, begins_another}

-- the references of some chunks after these files
abbrev pub found_behind : Encoding → ℕ → List Text → List Text → List ℕ
found_behind enc limit files bodies = along (λ others body. last_reference enc (fold (with_chunk enc limit) files (others ++ body ∷ [])) body ∷ []) bodies

-- these chunks have been added to the files
pub record Added (before now : Written) (bodies : List Text) (found : List ℕ) : Type 0 where
  pub encoding : now.encoding ≡ before.encoding
  pub limit : now.limit ≡ before.limit
  pub files : now.files ≡ fold (with_chunk before.encoding before.limit) before.files bodies
  pub references : found ≡ found_behind before.encoding before.limit before.files bodies

pub added_none : (before : Written) → Added before before [] []
added_none before = record { encoding = refl; limit = refl; files = refl; references = refl }

pub added_more : (before now next : Written) (bodies : List Text) (body : Text) (found all : List ℕ) (reference : ℕ) → Added before now bodies found → next.encoding ≡ now.encoding → next.limit ≡ now.limit → next.files ≡ with_chunk now.encoding now.limit now.files body
    → reference ≡ last_reference now.encoding (with_chunk now.encoding now.limit now.files body) body → all ≡ found ++ reference ∷ [] → Added before next (bodies ++ body ∷ []) all
added_more before now next bodies body found all reference h d l f r push =
    let step : with_chunk now.encoding now.limit now.files body ≡ fold (with_chunk before.encoding before.limit) before.files (bodies ++ body ∷ []) =
    rw (h.encoding, h.limit, h.files) (sym (fold-push (with_chunk before.encoding before.limit) before.files bodies body)) in
    record {
      encoding = d ∙ h.encoding;
      limit = l ∙ h.limit;
      files = f ∙ step;
      references = push ∙ ap (λ (rs : List ℕ). rs ++ reference ∷ []) h.references
          ∙ ap (λ (n : ℕ). found_behind before.encoding before.limit before.files bodies ++ n ∷ []) (r ∙ ap (λ (fs : List Text). last_reference now.encoding fs body) step ∙ ap (λ (x : Encoding). last_reference x (fold (with_chunk before.encoding before.limit) before.files (bodies ++ body ∷ [])) body) h.encoding)
          ∙ sym (along-push (λ others b. last_reference before.encoding (fold (with_chunk before.encoding before.limit) before.files (others ++ b ∷ [])) b ∷ []) bodies body);
    }

pub row_more : (row : List Chunk) (i : ℕ) (d : Chunk) → i < length row → row_texts (take (i + 1) row) ≡ row_texts (take i row) ++ (get_or row i d).text ∷ []
row_more row i d lt = ap row_texts (take_more row i d lt) ∙ map_push (λ (c : Chunk). c.text) (take i row) (get_or row i d)

pub short_at : (row : List Chunk) (i : ℕ) (d : Chunk) → i < length row → All (λ body. length body ≤ longest_chunk) (row_texts row) → length (get_or row i d).text ≤ longest_chunk
short_at [] i d lt h = absurd (omega (arith, lt))
short_at (c ∷ row) zero d lt h = All-head (λ body. length body ≤ longest_chunk) c.text (row_texts row) h
short_at (c ∷ row) (suc i) d lt h = short_at row i d (omega (arith, lt)) (All-tail (λ body. length body ≤ longest_chunk) c.text (row_texts row) h)

-- ---- after the rows before

abbrev pub flat : List (List Text) → List Text
flat rows = flat_map (λ r. r) rows

pub along_same : {A B : Type 0} (f g : List A → A → List B) (xs : List A) → ((before : List A) (x : A) → f before x ≡ g before x) → along f xs ≡ along g xs
along_same f g [] e = refl
along_same f g (x ∷ xs) e = rw (e [] x) (ap (λ t. g [] x ++ t) (along_same (λ before. f (x ∷ before)) (λ before. g (x ∷ before)) xs (λ before y. e (x ∷ before) y)))

pub row_files : (enc : Encoding) (limit : ℕ) (before : List (List Text)) (row files : List Text) → files ≡ chunk_files enc limit (flat before) → fold (with_chunk enc limit) files row ≡ chunk_files enc limit (flat (before ++ row ∷ []))
row_files enc limit before row files e =
    ap (λ (fs : List Text). fold (with_chunk enc limit) fs row) e ∙ sym (fold-append (with_chunk enc limit) [] (flat before) row) ∙ ap (chunk_files enc limit) (sym (flat_map-push (λ r. r) before row))

pub row_found : (enc : Encoding) (limit : ℕ) (before : List (List Text)) (row files : List Text) → files ≡ chunk_files enc limit (flat before) → found_behind enc limit files row ≡ row_references enc limit before row
unfolding reference_behind
row_found enc limit before row files e =
    along_same (λ others body. last_reference enc (fold (with_chunk enc limit) files (others ++ body ∷ [])) body ∷ []) (λ others body. reference_behind enc limit (flat before ++ others) body ∷ []) row
    (λ others body. ap (λ (fs : List Text). last_reference enc fs body ∷ [])
    (ap (λ (fs : List Text). fold (with_chunk enc limit) fs (others ++ body ∷ [])) e ∙ sym (fold-append (with_chunk enc limit) [] (flat before) (others ++ body ∷ [])) ∙ ap (chunk_files enc limit) (sym (append_assoc (flat before) others (body ∷ [])))))

-- ---- how many files there are

more_files : (enc : Encoding) (limit : ℕ) (files : List Text) (body : Text) → length files ≤ length (with_chunk enc limit files body)
unfolding with_chunk
more_files enc limit [] body = omega arith
more_files enc limit (f ∷ []) body = by (leb (length f + length (chunk_element enc body)) limit) refl
  where
    by : (b : Bool) → leb (length f + length (chunk_element enc body)) limit ≡ b → 1 ≤ length (with_chunk enc limit (f ∷ []) body)
    by true e = omega (arith, ap length (goes_behind enc limit [] f body e))
    by false e = omega (arith, ap length (begins_another enc limit [] f body e))
more_files enc limit (f ∷ g ∷ files) body = omega (arith, more_files enc limit (g ∷ files) body)

pub all_files : (enc : Encoding) (limit : ℕ) (files bodies : List Text) → length files ≤ length (fold (with_chunk enc limit) files bodies)
all_files enc limit files [] = omega arith
all_files enc limit files (b ∷ bodies) = omega (arith, more_files enc limit files b, all_files enc limit (with_chunk enc limit files b) bodies)

-- a chunk of a row is the one too many
pub row_large : (enc : Encoding) (limit : ℕ) (before : List (List Text)) (row done files now : List Text) (body : Text) (rest : List Text) → files ≡ chunk_files enc limit (flat before) → now ≡ fold (with_chunk enc limit) files done → row ≡ (done ++ body ∷ []) ++ rest
    → length (with_chunk enc limit now body) ≤ length (chunk_files enc limit (flat (before ++ row ∷ [])))
row_large enc limit before row done files now body rest e n r =
    let step : with_chunk enc limit now body ≡ fold (with_chunk enc limit) files (done ++ body ∷ []) = ap (λ (fs : List Text). with_chunk enc limit fs body) n ∙ sym (fold-push (with_chunk enc limit) files done body) in
    let whole : chunk_files enc limit (flat (before ++ row ∷ [])) ≡ fold (with_chunk enc limit) (fold (with_chunk enc limit) files (done ++ body ∷ [])) rest =
    sym (row_files enc limit before row files e) ∙ ap (fold (with_chunk enc limit) files) r ∙ fold-append (with_chunk enc limit) files (done ++ body ∷ []) rest in
    omega (arith, ap length step, ap length whole, all_files enc limit (fold (with_chunk enc limit) files (done ++ body ∷ [])) rest)

pub row_split : (row : List Chunk) (i : ℕ) (d : Chunk) → i < length row → row_texts row ≡ (row_texts (take i row) ++ (get_or row i d).text ∷ []) ++ row_texts (drop (i + 1) row)
row_split row i d lt = ap row_texts (sym (take-append-drop (i + 1) row)) ∙ map-append (λ (c : Chunk). c.text) (take (i + 1) row) (drop (i + 1) row) ∙ ap (λ (t : List Text). t ++ row_texts (drop (i + 1) row)) (row_more row i d lt)

-- ---- row by row

-- these rows have been written
pub record Rows (enc : Encoding) (limit : ℕ) (now : Written) (rows : List (List Text)) (found : List (List ℕ)) : Type 0 where
  pub encoding_is : now.encoding ≡ enc
  pub limit_is : now.limit ≡ limit
  pub files : now.files ≡ chunk_files now.encoding now.limit (flat rows)
  pub references_are : found ≡ references enc limit rows

pub rows_more : (enc : Encoding) (limit : ℕ) (now next : Written) (rows all : List (List Text)) (row : List Text) (found every : List (List ℕ)) (one : List ℕ) → Rows enc limit now rows found → next.encoding ≡ now.encoding → next.limit ≡ now.limit
    → next.files ≡ chunk_files now.encoding now.limit (flat (rows ++ row ∷ [])) → one ≡ row_references now.encoding now.limit rows row → every ≡ found ++ one ∷ [] → all ≡ rows ++ row ∷ [] → Rows enc limit next all every
rows_more enc limit now next rows all row found every one h d l f r push is =
    record {
      encoding_is = d ∙ h.encoding_is;
      limit_is = l ∙ h.limit_is;
      files = rw (d, l, is) f;
      references_are = push ∙ ap (λ (rs : List (List ℕ)). rs ++ one ∷ []) h.references_are ∙ ap (λ (o : List ℕ). references enc limit rows ++ o ∷ []) (r ∙ rw (h.encoding_is, h.limit_is) refl)
          ∙ sym (along-push (λ before r. row_references enc limit before r ∷ []) rows row) ∙ ap (references enc limit) (sym is);
    }

pub texts_more : (rows : List (List Chunk)) (i : ℕ) (d : List Chunk) → i < length rows → texts (take (i + 1) rows) ≡ texts (take i rows) ++ row_texts (get_or rows i d) ∷ []
texts_more rows i d lt = ap texts (take_more rows i d lt) ∙ map_push row_texts (take i rows) (get_or rows i d)

-- a row is the one with a chunk too many
pub rows_large : (enc : Encoding) (limit : ℕ) (rows : List (List Chunk)) (i : ℕ) (d : List Chunk) → i < length rows → length (chunk_files enc limit (flat (texts (take i rows) ++ row_texts (get_or rows i d) ∷ []))) ≤ length (chunk_files enc limit (flat (texts rows)))
rows_large enc limit rows i d lt =
    let split : texts rows ≡ (texts (take i rows) ++ row_texts (get_or rows i d) ∷ []) ++ texts (drop (i + 1) rows) =
    ap texts (sym (take-append-drop (i + 1) rows)) ∙ map-append row_texts (take (i + 1) rows) (drop (i + 1) rows) ∙ ap (λ (t : List (List Text)). t ++ texts (drop (i + 1) rows)) (texts_more rows i d lt) in
    let whole : chunk_files enc limit (flat (texts rows)) ≡ fold (with_chunk enc limit) (chunk_files enc limit (flat (texts (take i rows) ++ row_texts (get_or rows i d) ∷ []))) (flat (texts (drop (i + 1) rows))) =
    ap (λ (rs : List (List Text)). chunk_files enc limit (flat rs)) split ∙ ap (chunk_files enc limit) (flat_map-append (λ r. r) (texts (take i rows) ++ row_texts (get_or rows i d) ∷ []) (texts (drop (i + 1) rows)))
    ∙ fold-append (with_chunk enc limit) [] (flat (texts (take i rows) ++ row_texts (get_or rows i d) ∷ [])) (flat (texts (drop (i + 1) rows))) in
    omega (arith, ap length whole, all_files enc limit (chunk_files enc limit (flat (texts (take i rows) ++ row_texts (get_or rows i d) ∷ []))) (flat (texts (drop (i + 1) rows))))

pub all_first : {X : Type 0} (P : X → Type 0) (xs ys : List X) → All P (xs ++ ys) → All P xs
all_first P [] ys h = All-nil P
all_first P (x ∷ xs) ys h = All-cons P x xs (All-head P x (xs ++ ys) h) (all_first P xs ys (All-tail P x (xs ++ ys) h))

pub all_second : {X : Type 0} (P : X → Type 0) (xs ys : List X) → All P (xs ++ ys) → All P ys
all_second P [] ys h = h
all_second P (x ∷ xs) ys h = all_second P xs ys (All-tail P x (xs ++ ys) h)

pub row_short : (rows : List (List Chunk)) (i : ℕ) (d : List Chunk) → i < length rows → All (λ body. length body ≤ longest_chunk) (flat (texts rows)) → All (λ body. length body ≤ longest_chunk) (row_texts (get_or rows i d))
row_short [] i d lt h = absurd (omega (arith, lt))
row_short (r ∷ rows) zero d lt h = all_first (λ body. length body ≤ longest_chunk) (row_texts r) (flat (texts rows)) h
row_short (r ∷ rows) (suc i) d lt h = row_short rows i d (omega (arith, lt)) (all_second (λ body. length body ≤ longest_chunk) (row_texts r) (flat (texts rows)) h)

-- ---- the steps of the loops

pub row_added : (before now next : Written) (row : List Chunk) (i : ℕ) (c : Chunk) (found all : List ℕ) (reference : ℕ) → i < length row → c ≡ get_or row i c → Added before now (row_texts (take i row)) found → next.encoding ≡ now.encoding → next.limit ≡ now.limit
    → next.files ≡ with_chunk now.encoding now.limit now.files c.text → reference ≡ last_reference now.encoding (with_chunk now.encoding now.limit now.files c.text) c.text → all ≡ found ++ reference ∷ [] → Added before next (row_texts (take (i + 1) row)) all
row_added before now next row i c found all reference lt is h d l f r push =
    subst (λ (ts : List Text). Added before next ts all) (sym (row_more row i c lt ∙ ap (λ (x : Chunk). row_texts (take i row) ++ x.text ∷ []) (sym is))) (added_more before now next (row_texts (take i row)) c.text found all reference h d l f r push)

pub whole : {X : Type 0} (xs : List X) (i : ℕ) → length xs ≤ i → take i xs ≡ xs
whole xs i le = sym (append-nil (take i xs)) ∙ ap (λ t. take i xs ++ t) (sym (none (drop i xs) (omega (arith, length-drop i xs, le)))) ∙ take-append-drop i xs
  where
    none : {Y : Type 0} (ys : List Y) → length ys ≡ 0 → ys ≡ []
    none [] e = refl
    none (y ∷ ys) e = absurd (omega (arith, e))

pub row_references_are : (before now : Written) (rows : List (List Text)) (row : List Chunk) (i : ℕ) (found : List ℕ) → length row ≤ i → before.files ≡ chunk_files before.encoding before.limit (flat rows) → Added before now (row_texts (take i row)) found
    → found ≡ row_references before.encoding before.limit rows (row_texts row)
row_references_are before now rows row i found le e h =
    h.references ∙ ap (λ (r : List Chunk). found_behind before.encoding before.limit before.files (row_texts r)) (whole row i le) ∙ row_found before.encoding before.limit rows (row_texts row) before.files e

pub row_too_large : (before now : Written) (rows : List (List Text)) (row : List Chunk) (i : ℕ) (c : Chunk) (found : List ℕ) → i < length row → c ≡ get_or row i c → before.files ≡ chunk_files before.encoding before.limit (flat rows) → Added before now (row_texts (take i row)) found
    → length (with_chunk now.encoding now.limit now.files c.text) ≤ length (chunk_files before.encoding before.limit (flat (rows ++ row_texts row ∷ [])))
row_too_large before now rows row i c found lt is e h =
    let split : row_texts row ≡ (row_texts (take i row) ++ c.text ∷ []) ++ row_texts (drop (i + 1) row) = row_split row i c lt ∙ ap (λ (x : Chunk). (row_texts (take i row) ++ x.text ∷ []) ++ row_texts (drop (i + 1) row)) (sym is) in
    let same : length (with_chunk now.encoding now.limit now.files c.text) ≡ length (with_chunk before.encoding before.limit now.files c.text) = rw (h.encoding, h.limit) refl in
    omega (arith, same, row_large before.encoding before.limit rows (row_texts row) (row_texts (take i row)) before.files now.files c.text (row_texts (drop (i + 1) row)) e h.files split)

pub chunk_short : (row : List Chunk) (i : ℕ) (c : Chunk) → i < length row → c ≡ get_or row i c → All (λ body. length body ≤ longest_chunk) (row_texts row) → length c.text ≤ longest_chunk
chunk_short row i c lt is h = subst (λ (x : Chunk). length x.text ≤ longest_chunk) (sym is) (short_at row i c lt h)

pub lent_short : (rows : List (List Chunk)) (i : ℕ) (lent r : List Chunk) → i < length rows → lent ≡ r → r ≡ get_or rows i r → All (λ body. length body ≤ longest_chunk) (flat (texts rows)) → All (λ body. length body ≤ longest_chunk) (row_texts lent)
lent_short rows i lent r lt e is h = subst (λ (x : List Chunk). All (λ body. length body ≤ longest_chunk) (row_texts x)) (sym (e ∙ is)) (row_short rows i r lt h)

pub rows_added : (enc : Encoding) (limit : ℕ) (now next : Written) (rows : List (List Chunk)) (i : ℕ) (lent r : List Chunk) (found every : List (List ℕ)) (one pushed : List ℕ) → i < length rows → lent ≡ r → r ≡ get_or rows i r → Rows enc limit now (texts (take i rows)) found
    → next.encoding ≡ now.encoding → next.limit ≡ now.limit → next.files ≡ chunk_files now.encoding now.limit (flat (texts (take i rows) ++ row_texts lent ∷ [])) → one ≡ row_references now.encoding now.limit (texts (take i rows)) (row_texts lent) → pushed ≡ one → every ≡ found ++ pushed ∷ []
    → Rows enc limit next (texts (take (i + 1) rows)) every
rows_added enc limit now next rows i lent r found every one pushed lt e is h d l f n p push =
    rows_more enc limit now next (texts (take i rows)) (texts (take (i + 1) rows)) (row_texts lent) found every one h d l f n (push ∙ ap (λ (o : List ℕ). found ++ o ∷ []) p)
    (texts_more rows i r lt ∙ ap (λ (x : List Chunk). texts (take i rows) ++ row_texts x ∷ []) (sym (e ∙ is)))

pub rows_too_large : (enc : Encoding) (limit : ℕ) (now : Written) (rows : List (List Chunk)) (i : ℕ) (lent r : List Chunk) (found : List (List ℕ)) → i < length rows → lent ≡ r → r ≡ get_or rows i r → Rows enc limit now (texts (take i rows)) found
    → length (chunk_files now.encoding now.limit (flat (texts (take i rows) ++ row_texts lent ∷ []))) ≤ length (chunk_files enc limit (flat (texts rows)))
rows_too_large enc limit now rows i lent r found lt e is h =
    let there : List Text = flat (texts (take i rows) ++ row_texts (get_or rows i r) ∷ []) in
    let same : length (chunk_files now.encoding now.limit there) ≡ length (chunk_files enc limit there) = rw (h.encoding_is, h.limit_is) refl in
    omega (
      arith,
      ap (λ (x : List Chunk). length (chunk_files now.encoding now.limit (flat (texts (take i rows) ++ row_texts x ∷ [])))) (e ∙ is),
      same,
      rows_large enc limit rows i r lt,
    )

pub along_count : {A B : Type 0} (f : List A → A → B) (xs : List A) → length (along (λ before x. f before x ∷ []) xs) ≡ length xs
along_count f [] = refl
along_count f (x ∷ xs) = omega (arith, along_count (λ before. f (x ∷ before)) xs)

pub row_count : (before now : Written) (row : List Chunk) (i : ℕ) (found : List ℕ) → length row ≤ i → Added before now (row_texts (take i row)) found → length found ≡ length row
row_count before now row i found le h =
    let texts_are : row_texts (take i row) ≡ row_texts row = ap row_texts (whole row i le) in
    omega (arith, ap length h.references, along_count (λ others body. last_reference before.encoding (fold (with_chunk before.encoding before.limit) before.files (others ++ body ∷ [])) body) (row_texts (take i row)), ap length texts_are, length-map row (λ (c : Chunk). c.text))
