-- An index has few chunks: the text before its last series has a byte for each chunk at least.
use Rattle.std.proofs.Common.{ℕ, ◌+◌, ◌/◌, ◌^◌, ◌<◌, ◌≤◌, List, [], ◌∷◌, ◌++◌, length, map, subst, arith}
use Rattle.std.specs.List.{sum_by}
use Rattle.std.proofs.lemmas.List.{length-append}
use Rattle.std.proofs.lemmas.List.Sums.{sum_by-cons}
use Rattle.hw_bytes.specs.Writing.{uvarint}
use Rattle.hw_bytes.specs.Sums.{sum_text}
use Rattle.index_text.specs.declared.row.IndexRow.{IndexRow}
use Rattle.index_text.specs.Layout.{Text, counted, padding, places, put}
use Rattle.index_text.specs.Index.{series_body, series_ids, symbols, to_symbols}
use Rattle.index_text.specs.Rows.{AreSmall, FitsIndex}
use Rattle.index_text.proofs.GroupLoops.{places-cons}
use Rattle.index_text.proofs.Laid.{length-put}
use Rattle.index_text.proofs.Sizes.{chunks_shorter}

abbrev chunks_in : List IndexRow → ℕ
chunks_in rows = sum_by (λ (r : IndexRow). length r.chunks) rows

-- the series of a row as it is written
abbrev element : List Text → IndexRow → Text
element table r = counted (series_body table r)

abbrev sixteenths : List ℕ → List ℕ
sixteenths places = map (λ n. n / 16) places

element_longer : (table : List Text) (r : IndexRow) → length r.chunks ≤ length (element table r)
element_longer table r =
    let body = series_body table r in
    omega (arith, chunks_shorter table r, length-append (uvarint (length body) ++ body) (sum_text body), length-append (uvarint (length body)) body)

-- the places of a series and of those after it
ids_split : (table : List Text) (before : Text) (r : IndexRow) (rs : List IndexRow) → AreSmall (λ (id : ℕ). id) (sixteenths (places 16 before (map (element table) (r ∷ rs))))
    → AreSmall (λ (id : ℕ). id) (sixteenths ((length before + padding 16 (length before)) ∷ places 16 (put 16 before (element table r)) (map (element table) rs)))
ids_split table before r rs = subst (λ ps. AreSmall (λ (id : ℕ). id) (sixteenths ps)) (places-cons 16 before (element table r) (map (element table) rs))

-- the text before some series, and the chunks of these
few : (table : List Text) (before : Text) (r : IndexRow) (rs : List IndexRow) → AreSmall (λ r. length (series_body table r)) (r ∷ rs)
    → AreSmall (λ (id : ℕ). id) (sixteenths (places 16 before (map (element table) (r ∷ rs)))) → length before + chunks_in (r ∷ rs) < 2 ^ 36 + 2 ^ 32
few table before r [] small ids = omega (arith, small.0, (ids_split table before r [] ids).0, chunks_shorter table r, sum_by-cons (λ (r : IndexRow). length r.chunks) r [])
few table before r (s ∷ rs) small ids =
    omega (
      arith,
      few table (put 16 before (element table r)) s rs small.1 (ids_split table before r (s ∷ rs) ids).1,
      length-put 16 before (element table r),
      element_longer table r,
      sum_by-cons (λ (r : IndexRow). length r.chunks) r (s ∷ rs),
    )

pub few_chunks : (rows : List IndexRow) → FitsIndex rows → sum_by (λ r. length r.chunks) rows < 2 ^ 37
unfolding series_ids
few_chunks [] fits = omega arith
few_chunks (r ∷ rs) fits = omega (arith, few (symbols (r ∷ rs)) (to_symbols (r ∷ rs)) r rs fits.series_fit fits.ids_fit)
