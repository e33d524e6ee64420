-- A block, out of its parts, and its parts, out of a block.
use Rattle.std.proofs.Common.{◌≡◌, ℕ, ◌≤◌, ◌^◌, List, [], ◌∷◌, ◌++◌, length, map, refl, sym, ap, subst, ◌∙◌, arith}
use Rattle.std.specs.Prelude.{ℤ, pos, ◌+ℤ◌, ◌≤ℤ◌, FitsSigned}
use Rattle.std.specs.Int.{w64}
use Rattle.std.specs.List.{All, AllByRecursion, flat_map}
use Rattle.std.specs.declared.cmp.Ordering.TheVariants.{Less}
use Rattle.std.proofs.lemmas.Int.{ints}
use Rattle.std.proofs.lemmas.List.{length-map}
use Rattle.std.proofs.lemmas.List.Elements.{All-weaker}
use Rattle.wal_record.specs.Labels.{IsLabelSet, compare_labels}
use Rattle.head_column.specs.declared.items.Run.{Run}
use Rattle.head_column.specs.Samples.{Sample}
use Rattle.head_column.specs.Hours.{IsEdge, hour_start}
use Rattle.head_column.specs.Runs.{AreApart}
use Rattle.head_column.proofs.HourLaws.{above_least, below_greatest, inside}
use Rattle.hw_bytes.specs.Sums.{Text}
use Rattle.index_text.specs.declared.row.IndexRow.{IndexRow}
use Rattle.index_text.specs.Index.{index_text, series_ids}
use Rattle.index_text.specs.Rows.{FitsIndex, IsIndex, IsRow}
use Rattle.block_files.specs.declared.encoding.Encoding.{Encoding}
use Rattle.block_files.specs.declared.meta.Meta.{Meta}
use Rattle.block_files.specs.Meta.{meta_text}
use Rattle.block_files.specs.Tombstones.{tombstones_text}
use Rattle.block_read.specs.declared.block.Block.{Block}
use Rattle.block_read.specs.declared.rows.BlockRow.{BlockRow}
use Rattle.block_read.specs.declared.rows.BlockRows.{BlockRows}
use Rattle.block_read.specs.Blocks.{FitsRun, HasHidden, HasSamples, IsBlockOf, IsColumn, IsRowOf, IsWithin, block_text, chunk_count, description, files_of, hour_last, index_rows, samples_of_rows, tombstones_of}
use Rattle.block_read.specs.Reading.{AreOfHour, AreWithin, HasMeta, summary}
use Rattle.block_read.proofs.Described.{fits_from}
use Rattle.block_read.proofs.Joined.{index_rows_are}
use Rattle.block_read.proofs.Named.{chain_are, has_samples, index_count, labels_are, rows_of_block}

abbrev pub hidden_of_rows : List BlockRow → List (List Run)
hidden_of_rows rows = map (λ (r : BlockRow). r.hidden) rows

weaker : {X : Type 0} (P Q : X → Type 0) → ((x : X) → P x → Q x) → (xs : List X) → AllByRecursion P xs → AllByRecursion Q xs
weaker P Q f [] h = tt
weaker P Q f (x ∷ xs) h = (f x h.0, weaker P Q f xs h.1)

mapped : {X Y : Type 0} (f : X → Y) (P : Y → Type 0) (xs : List X) → AllByRecursion (λ x. P (f x)) xs → AllByRecursion P (map f xs)
mapped f P [] h = tt
mapped f P (x ∷ xs) h = (h.0, mapped f P xs h.1)

-- ---- the parts of a block

few_of : {e : Encoding} (block : Block) (b : BlockRows) → IsBlockOf e block b → length (files_of e (samples_of_rows b.rows)) ≤ 2 ^ 32
unfolding block_text
few_of {e = e} block b h = omega (arith, h.few_files, ap (λ (x : Block). length x.chunks) h.text)

column_of : (k : ℤ) (r : BlockRow) → IsRowOf k r → IsColumn r.samples
column_of k r h = record { some = h.some; rises = h.rises; fit = h.fit }

-- The index of a block is that of its rows.
pub index_of : {e : Encoding} (block : Block) (b : BlockRows) → IsBlockOf e block b → IsIndex block.index (index_rows e b.rows)
unfolding block_text
index_of {e = e} block b h = record {
  rows_are = rows_of_block e b.rows h.some (weaker (IsRowOf b.hour) (λ (r : BlockRow). IsLabelSet r.labels) (λ r p. p.labels) b.rows h.each)
      (weaker (IsRowOf b.hour) (λ (r : BlockRow). IsColumn r.samples) (column_of b.hour) b.rows h.each) h.ascending (few_of block b h);
  fits = h.index_fits;
  text = ap (λ (x : Block). x.index) h.text;
}

-- The chunk files of a block have its samples.
pub samples_of : {e : Encoding} (block : Block) (b : BlockRows) → IsBlockOf e block b → HasSamples e block.chunks (index_rows e b.rows) (samples_of_rows b.rows)
unfolding block_text
samples_of {e = e} block b h =
    subst (λ (fs : List Text). HasSamples e fs (index_rows e b.rows) (samples_of_rows b.rows)) (sym (ap (λ (x : Block). x.chunks) h.text))
    (has_samples e b.rows (weaker (IsRowOf b.hour) (λ (r : BlockRow). IsColumn r.samples) (column_of b.hour) b.rows h.each) (few_of block b h))

fits_between : (a b t : ℤ) → FitsSigned w64 a → FitsSigned w64 b → a ≤ℤ t → t ≤ℤ b → FitsSigned w64 t
fits_between a b t f g p q = (let low = above_least a f in let high = below_greatest b g in fits_from t (omega (arith, ints, low, p)) (omega (arith, ints, high, q)))

run_fits : (k : ℤ) → (IsEdge k → ⊥) → (r : Run) → IsWithin k r → FitsRun r
run_fits k inner r h =
    let f = inside k inner in
    record {
      min_time = fits_between (hour_start k) (hour_last k) r.min_time f.0 f.1 h.first (omega (arith, ints, h.some, h.last));
      max_time = fits_between (hour_start k) (hour_last k) r.max_time f.0 f.1 (omega (arith, ints, h.some, h.first)) h.last;
    }

-- The tombstones of a block have its hidden runs.
pub hidden_of : {e : Encoding} (block : Block) (b : BlockRows) → IsBlockOf e block b → HasHidden block.tombstones (index_rows e b.rows) (hidden_of_rows b.rows)
unfolding block_text
hidden_of {e = e} block b h = record {
  one_each = length-map b.rows (λ (r : BlockRow). r.hidden) ∙ sym (index_count e b.rows);
  apart = mapped (λ (r : BlockRow). r.hidden) AreApart b.rows (weaker (IsRowOf b.hour) (λ (r : BlockRow). AreApart r.hidden) (λ r p. p.apart) b.rows h.each);
  fit = mapped (λ (r : BlockRow). r.hidden) (All FitsRun) b.rows (weaker (IsRowOf b.hour) (λ (r : BlockRow). All FitsRun r.hidden) (λ r p. All-weaker (IsWithin b.hour) FitsRun (run_fits b.hour h.whole) r.hidden p.hidden_within) b.rows h.each);
  text = ap (λ (x : Block). x.tombstones) h.text;
}

pub flat_samples : (rows : List BlockRow) → flat_map (λ (r : BlockRow). r.samples) rows ≡ flat_map (λ s. s) (samples_of_rows rows)
flat_samples [] = refl
flat_samples (r ∷ rows) = ap (λ (t : List Sample). r.samples ++ t) (flat_samples rows)

abbrev counted : BlockRows → ℕ → ℕ → Meta
counted b samples series = record { ulid = b.ulid; min_time = hour_start b.hour; max_time = hour_start (b.hour +ℤ pos 1); samples = samples; series = series; chunks = chunk_count (samples_of_rows b.rows) }

summary_is : (b : BlockRows) → description b ≡ summary b.ulid b.hour (samples_of_rows b.rows)
summary_is b =
    ap (λ n. counted b n (length b.rows)) (ap length (flat_samples b.rows)) ∙ ap (λ n. counted b (length (flat_map (λ s. s) (samples_of_rows b.rows))) n) (sym (length-map b.rows (λ (r : BlockRow). r.samples)))

-- The meta.json of a block is that of its samples and runs.
pub meta_of_block : {e : Encoding} (block : Block) (b : BlockRows) → IsBlockOf e block b → HasMeta block.meta (samples_of_rows b.rows) (hidden_of_rows b.rows) b.ulid b.hour
unfolding block_text
meta_of_block {e = e} block b h = record {
  is_ulid = h.ulid;
  whole = h.whole;
  within = mapped (λ (r : BlockRow). r.samples) (AreOfHour b.hour) b.rows (weaker (IsRowOf b.hour) (λ (r : BlockRow). AreOfHour b.hour r.samples) (λ r p. p.within) b.rows h.each);
  hidden_within = mapped (λ (r : BlockRow). r.hidden) (AreWithin b.hour) b.rows (weaker (IsRowOf b.hour) (λ (r : BlockRow). AreWithin b.hour r.hidden) (λ r p. p.hidden_within) b.rows h.each);
  described = ap (λ (x : Block). x.meta) h.text ∙ ap meta_text (summary_is b);
}

-- ---- a block of its parts

same_block : (a b : Block) → a.index ≡ b.index → a.chunks ≡ b.chunks → a.tombstones ≡ b.tombstones → a.meta ≡ b.meta → a ≡ b
same_block a b i c t m =
    ap (λ x. let y : Block = record { index = x; chunks = a.chunks; tombstones = a.tombstones; meta = a.meta } in y) i
    ∙ ap (λ x. let y : Block = record { index = b.index; chunks = x; tombstones = a.tombstones; meta = a.meta } in y) c
    ∙ ap (λ x. let y : Block = record { index = b.index; chunks = b.chunks; tombstones = x; meta = a.meta } in y) t
    ∙ ap (λ x. let y : Block = record { index = b.index; chunks = b.chunks; tombstones = b.tombstones; meta = x } in y) m

rows_are : (k : ℤ) (rows : List BlockRow) → AllByRecursion (λ (r : BlockRow). IsLabelSet r.labels) rows → AllByRecursion IsColumn (samples_of_rows rows) → AllByRecursion (AreOfHour k) (samples_of_rows rows)
    → AllByRecursion AreApart (hidden_of_rows rows) → AllByRecursion (AreWithin k) (hidden_of_rows rows) → AllByRecursion (IsRowOf k) rows
rows_are k [] l c w a h = tt
rows_are k (r ∷ rows) l c w a h = (record { labels = l.0; some = c.0.some; rises = c.0.rises; fit = c.0.fit; within = w.0; apart = a.0; hidden_within = h.0 }, rows_are k rows l.1 c.1 w.1 a.1 h.1)

pub joined_block : {e : Encoding} (block : Block) (b : BlockRows) (index : List IndexRow) → IsIndex block.index index → HasSamples e block.chunks index (samples_of_rows b.rows) → HasHidden block.tombstones index (hidden_of_rows b.rows)
    → HasMeta block.meta (samples_of_rows b.rows) (hidden_of_rows b.rows) b.ulid b.hour → map (λ (r : BlockRow). r.labels) b.rows ≡ map (λ (r : IndexRow). r.labels) index → IsBlockOf e block b
unfolding block_text
joined_block {e = e} block b index i s t m labels =
    let is : index_rows e b.rows ≡ index = index_rows_are e b.rows index labels s.named in
    let sets = labels_are (λ (r : IndexRow). r.labels) (λ (r : BlockRow). r.labels) IsLabelSet index b.rows (sym labels) (weaker IsRow (λ (r : IndexRow). IsLabelSet r.labels) (λ r p. p.labels) index i.rows_are.each) in
    record {
      ulid = m.is_ulid;
      whole = m.whole;
      some = omega (arith, i.rows_are.some, ap length labels, length-map b.rows (λ (r : BlockRow). r.labels), length-map index (λ (r : IndexRow). r.labels));
      each = rows_are b.hour b.rows sets s.each m.within t.apart m.hidden_within;
      ascending = chain_are (λ (r : IndexRow). r.labels) (λ (r : BlockRow). r.labels) (λ x y. compare_labels x y ≡ Less) index b.rows (sym labels) i.rows_are.ascending;
      index_fits = subst FitsIndex (sym is) i.fits;
      few_files = s.few_files;
      text = same_block block (block_text e b) (i.text ∙ ap index_text (sym is)) s.files_are (t.text ∙ ap (λ (rs : List IndexRow). tombstones_text (tombstones_of (series_ids rs) (hidden_of_rows b.rows))) (sym is))
          (m.described ∙ ap meta_text (sym (summary_is b)));
    }

-- ---- rows are told by their labels, samples and runs

pub same_rows : (xs ys : List BlockRow) → map (λ (r : BlockRow). r.labels) xs ≡ map (λ (r : BlockRow). r.labels) ys → samples_of_rows xs ≡ samples_of_rows ys → hidden_of_rows xs ≡ hidden_of_rows ys → xs ≡ ys
same_rows [] [] l s h = refl
same_rows [] (y ∷ ys) l s h = absurd cc
same_rows (x ∷ xs) [] l s h = absurd cc
same_rows (x ∷ xs) (y ∷ ys) l s h =
    let a : x.labels ≡ y.labels = cc in
    let b : x.samples ≡ y.samples = cc in
    let d : x.hidden ≡ y.hidden = cc in
    let row : x ≡ y = ap (λ v. let z : BlockRow = record { labels = v; samples = x.samples; hidden = x.hidden } in z) a ∙ ap (λ v. let z : BlockRow = record { labels = y.labels; samples = v; hidden = x.hidden } in z) b
    ∙ ap (λ v. let z : BlockRow = record { labels = y.labels; samples = y.samples; hidden = v } in z) d in
    let ls : map (λ (r : BlockRow). r.labels) xs ≡ map (λ (r : BlockRow). r.labels) ys = cc in
    let ss : samples_of_rows xs ≡ samples_of_rows ys = cc in
    let hs : hidden_of_rows xs ≡ hidden_of_rows ys = cc in
    ap (λ (z : BlockRow). z ∷ xs) row ∙ ap (λ (zs : List BlockRow). y ∷ zs) (same_rows xs ys ls ss hs)

pub same_blocks : (a b : BlockRows) → a.ulid ≡ b.ulid → a.hour ≡ b.hour → a.rows ≡ b.rows → a ≡ b
same_blocks a b u h r =
    ap (λ v. let z : BlockRows = record { ulid = v; hour = a.hour; rows = a.rows } in z) u ∙ ap (λ v. let z : BlockRows = record { ulid = b.ulid; hour = v; rows = a.rows } in z) h
    ∙ ap (λ v. let z : BlockRows = record { ulid = b.ulid; hour = b.hour; rows = v } in z) r
