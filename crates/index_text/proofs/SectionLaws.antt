-- A section is read again.
use Rattle.std.proofs.Common.{◌≡◌, ℕ, zero, suc, ◌+◌, ◌-◌, ◌^◌, ◌≤◌, ◌<◌, List, [], ◌∷◌, ◌++◌, length, map, Result, Ok, refl, sym, ap, ◌∙◌, arith}
use Rattle.std.specs.Prelude.{replicate}
use Rattle.std.specs.List.{AllByRecursion}
use Rattle.std.proofs.lemmas.List.{append-nil, length-append}
use Rattle.index_text.specs.declared.fault.ReadFault.{ReadFault}
use Rattle.index_text.specs.Layout.{Text, padding, framed, counted}
use Rattle.index_text.specs.Index.{series_body}
use Rattle.index_text.specs.Fields.{series_field}
use Rattle.index_text.specs.Reading.{framed_done, only_done, elements_done, series_element_at}
use Rattle.index_text.proofs.Laid.{laid, length-zeros}
use Rattle.index_text.proofs.Again.{whole_again, aligned_again, IsReadAt}
use Rattle.hw_bytes.specs.Spellings.{IsBytes}
use Rattle.index_text.proofs.Frames.{framed_again, counted_again}
use Rattle.index_text.specs.declared.row.IndexRow.{IndexRow}
use Rattle.index_text.proofs.SeriesLaws.{AreWithin, AreChunks, refs_of, stored_of, series-again}

-- the place from the bytes that are left
place_is : (n p t r end : ℕ) (bytes : List ℕ) → length bytes ≡ p + t + r → n + p + t + r ≡ end → end - length bytes ≡ n
place_is n p t r end bytes len e = omega arith

-- An element passes at the place n, whatever follows: of the section that ends at the place end.
abbrev pub IsPassedAt : ℕ → (List ℕ → Result (List ℕ) ReadFault) → Text → Type 0
IsPassedAt end element text = (n : ℕ) (rest : List ℕ) → n + padding 4 n + length text + length rest ≡ end → element (replicate (padding 4 n) 0 ++ (text ++ rest)) ≡ Ok rest

pub framed_done_again : (done : List ℕ → Result (Unit {0}) ReadFault) (end : ℕ) (body : Text) → done body ≡ Ok tt → IsBytes body → length body < 2 ^ 32 → IsPassedAt end (framed_done done end) (framed body)
unfolding framed_done
framed_done_again done end body passes bytes fits n rest e =
    let left : length (replicate (padding 4 n) 0 ++ (framed body ++ rest)) ≡ padding 4 n + length (framed body) + length rest =
    (omega (arith, length-append (replicate (padding 4 n) 0) (framed body ++ rest), length-append (framed body) rest, length-zeros (padding 4 n))) in
    let here : end - length (replicate (padding 4 n) 0 ++ (framed body ++ rest)) ≡ n =
    place_is n (padding 4 n) (length (framed body)) (length rest) end (replicate (padding 4 n) 0 ++ (framed body ++ rest)) left e in
    rw (here, aligned_again 4 n (framed body ++ rest), framed_again body rest bytes fits, passes) refl

-- each text passes, and is not empty
abbrev pub ArePassedAt : ℕ → (List ℕ → Result (List ℕ) ReadFault) → List Text → Type 0
ArePassedAt end element [] = Unit {0}
ArePassedAt end element (t ∷ ts) = (0 < length t) × IsPassedAt end element t × ArePassedAt end element ts

one_passed : (element : List ℕ → Result (List ℕ) ReadFault) (k : ℕ) (bytes rest : List ℕ) → 0 < length bytes → element bytes ≡ Ok rest → elements_done element k rest ≡ Ok tt → elements_done element (suc k) bytes ≡ Ok tt
unfolding elements_done
one_passed element k [] rest some one more = absurd (omega arith)
one_passed element k (b ∷ bytes) rest some one more = rw (one, more) refl

none_passed : (element : List ℕ → Result (List ℕ) ReadFault) (k : ℕ) → elements_done element k [] ≡ Ok tt
unfolding elements_done
none_passed element zero = refl
none_passed element (suc k) = refl

-- A section passes: elements laid after n bytes, up to the place end.
pub elements_done_again : (end : ℕ) (element : List ℕ → Result (List ℕ) ReadFault) (ts : List Text) (n k : ℕ) → ArePassedAt end element ts → n + length (laid 4 n ts) ≡ end → length (laid 4 n ts) ≤ k
    → elements_done element k (laid 4 n ts) ≡ Ok tt
unfolding laid
elements_done_again end element [] n k h e le = none_passed element k
elements_done_again end element (t ∷ ts) n zero h e le =
    absurd (omega (arith, h.0, le, length-append (replicate (padding 4 n) 0) (t ++ laid 4 (n + padding 4 n + length t) ts), length-append t (laid 4 (n + padding 4 n + length t) ts)))
elements_done_again end element (t ∷ ts) n (suc k) h e le =
    let l1 = length-append (replicate (padding 4 n) 0) (t ++ laid 4 (n + padding 4 n + length t) ts) in
    let l2 = length-append t (laid 4 (n + padding 4 n + length t) ts) in
    let l3 = length-zeros (padding 4 n) in
    one_passed element k (replicate (padding 4 n) 0 ++ (t ++ laid 4 (n + padding 4 n + length t) ts)) (laid 4 (n + padding 4 n + length t) ts) (omega (arith, h.0, l1, l2))
    (h.1 n (laid 4 (n + padding 4 n + length t) ts) (omega (arith, e, l1, l2, l3)))
    (elements_done_again end element ts (n + padding 4 n + length t) k h.2 (omega (arith, e, l1, l2, l3)) (omega (arith, le, h.0, l1, l2)))

-- a section of one element that is not kept
pub only_done_again : (done : List ℕ → Result (Unit {0}) ReadFault) (body : Text) → done body ≡ Ok tt → IsBytes body → length body < 2 ^ 32 → only_done done (framed body) ≡ Ok tt
unfolding only_done
only_done_again done body passes bytes fits = ap (only_done done) (sym (append-nil (framed body))) ∙ rw (framed_again body [] bytes fits, passes) refl

pub series_element_again : (limit end : ℕ) (table : List Text) (r : IndexRow) → limit < 2 ^ 64 → length r.labels < 2 ^ 64 → length r.chunks < 2 ^ 64 → AllByRecursion (AreWithin limit) (map (refs_of table) r.labels) → AreChunks r.chunks
    → IsBytes (series_body table r) → length (series_body table r) < 2 ^ 64 → IsReadAt 16 end (series_element_at limit end) (counted (series_body table r)) (stored_of table r)
unfolding series_element_at
series_element_again limit end table r small labels_fit chunks_fit within chunks bytes fits n rest e =
    let left : length (replicate (padding 16 n) 0 ++ (counted (series_body table r) ++ rest)) ≡ padding 16 n + length (counted (series_body table r)) + length rest =
    (omega (arith, length-append (replicate (padding 16 n) 0) (counted (series_body table r) ++ rest), length-append (counted (series_body table r)) rest, length-zeros (padding 16 n))) in
    let here : end - length (replicate (padding 16 n) 0 ++ (counted (series_body table r) ++ rest)) ≡ n =
    place_is n (padding 16 n) (length (counted (series_body table r))) (length rest) end (replicate (padding 16 n) 0 ++ (counted (series_body table r) ++ rest)) left e in
    rw (
      here,
      aligned_again 16 n (counted (series_body table r) ++ rest),
      counted_again (series_body table r) rest bytes fits,
      whole_again (series_field limit) (series_body table r) (stored_of table r) (series-again limit table r [] small labels_fit chunks_fit within chunks),
    ) refl
