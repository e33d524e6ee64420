-- The whole, from its steps.
use Rattle.std.proofs.Common.{◌≡◌, ℕ, zero, suc, ◌-◌, ◌^◌, ◌<◌, List, [], ◌∷◌, ◌++◌, length, map, Ok, refl, sym, ap, ◌∙◌, arith}
use Rattle.std.specs.List.{AllByRecursion}
use Rattle.std.proofs.lemmas.List.{append-nil}
use Rattle.index_text.specs.declared.toc.Toc.{Toc}
use Rattle.index_text.specs.Layout.{Text, framed}
use Rattle.index_text.specs.Fields.{Field, Stored, symbols_field, label_index_done, label_table_done, postings_done, postings_table_done}
use Rattle.index_text.specs.Reading.{Element, only_element, all_elements, series_element_at, framed_done, elements_done, only_done, between, head_of, toc_of, stored_in}
use Rattle.index_text.proofs.Again.{whole_again, IsReadAt, AreReadAt}
use Rattle.hw_bytes.specs.Spellings.{IsBytes}
use Rattle.index_text.proofs.Frames.{framed_again}

-- a section of one element
pub only_element_again : {X : Type 0} (field : Field X) (body : Text) (x : X) → IsBytes body → length body < 2 ^ 32 → field (body ++ []) ≡ Ok (x, []) → only_element field (framed body) ≡ Ok x
unfolding only_element
only_element_again field body x bytes small again =
    let frame : framed body ≡ framed body ++ [] = sym (append-nil (framed body)) in
    ap (λ t. only_element field t) frame ∙ rw (framed_again body [] bytes small, whole_again field body x again) refl

-- each element of a list is read again
pub all_read : {A X : Type 0} (align end : ℕ) (element : Element X) (spell : A → Text) (value : A → X) (P : A → Type 0) → ((a : A) → P a → (0 < length (spell a)) × IsReadAt align end element (spell a) (value a))
    → (as_ : List A) → AllByRecursion P as_ → AreReadAt align end element (map spell as_) (map value as_)
all_read align end element spell value P each [] h = tt
all_read align end element spell value P each (a ∷ more) h = ((each a h.0).0, (each a h.0).1, all_read align end element spell value P each more h.1)

pub IsBytes-left : (a b : List ℕ) → IsBytes (a ++ b) → IsBytes a
IsBytes-left [] b h i = omega arith
IsBytes-left (x ∷ a) b h zero = h zero
IsBytes-left (x ∷ a) b h (suc i) = IsBytes-left a b (λ j. h (suc j)) i

pub IsBytes-right : (a b : List ℕ) → IsBytes (a ++ b) → IsBytes b
IsBytes-right [] b h i = h i
IsBytes-right (x ∷ a) b h i = IsBytes-right a b (λ j. h (suc j)) i

-- what stored_in gives, if each of its steps gives this
pub stored_from : (bytes : List ℕ) (t : Toc) (table : List Text) (stored : List Stored)
    → head_of bytes ≡ Ok tt → toc_of bytes ≡ Ok t
    → only_element symbols_field (between t.symbols t.series bytes) ≡ Ok table
    → all_elements (series_element_at (length table) t.label_indices) (between t.series t.label_indices bytes) ≡ Ok stored
    → elements_done (framed_done (label_index_done (length table)) t.postings) (length (between t.label_indices t.postings bytes)) (between t.label_indices t.postings bytes) ≡ Ok tt
    → elements_done (framed_done postings_done t.label_table) (length (between t.postings t.label_table bytes)) (between t.postings t.label_table bytes) ≡ Ok tt
    → only_done label_table_done (between t.label_table t.postings_table bytes) ≡ Ok tt
    → only_done postings_table_done (between t.postings_table (length bytes - 52) bytes) ≡ Ok tt
    → stored_in bytes ≡ Ok (table, stored)
unfolding stored_in
stored_from bytes t table stored a b c d e f g h = rw (a, b, c, d, e, f, g, h) refl
