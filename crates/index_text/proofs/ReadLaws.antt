-- What a caller may conclude of what was read, from the one law that an index is read again.
use Rattle.std.proofs.Common.{◌≡◌, ℕ, ◌<◌, ◌^◌, length, List, Result, Ok, refl, sym, ap, subst, ◌∙◌}
use Rattle.index_text.specs.declared.fault.ReadFault.{ReadFault}
use Rattle.index_text.specs.declared.fault.ReadFault.TheVariants as faults
use Rattle.index_text.specs.declared.row.IndexRow.{IndexRow}
use Rattle.index_text.specs.Index.{index_text}
use Rattle.index_text.specs.Rows.{AreRows, FitsIndex, IsIndex}
use Rattle.index_text.specs.Reading.{rows_in, Answers}
use Rattle.hw_bytes.specs.Spellings.{IsBytes}

-- the law
abbrev pub ReadsAgain : Type 0
ReadsAgain = (rows : List IndexRow) → AreRows rows → FitsIndex rows → IsBytes (index_text rows) → length (index_text rows) < 2 ^ 64 → rows_in (index_text rows) ≡ Ok rows

abbrev rows_ok : List IndexRow → Result (List IndexRow) ReadFault
rows_ok rows = Ok rows

ok_is : (a b : List IndexRow) → rows_ok a ≡ rows_ok b → a ≡ b
ok_is a b e = cc

there : ReadsAgain → (bytes : List ℕ) → IsBytes bytes → length bytes < 2 ^ 64 → (rows : List IndexRow) → IsIndex bytes rows → rows_in bytes ≡ Ok rows
there law bytes small short rows is = ap rows_in is.text ∙ law rows is.rows_are is.fits (subst IsBytes is.text small) (subst (λ b. length b < 2 ^ 64) is.text short)

-- bytes are the index of at most one list of rows
pub one_index : ReadsAgain → (bytes : List ℕ) → IsBytes bytes → length bytes < 2 ^ 64 → (a b : List IndexRow) → IsIndex bytes a → IsIndex bytes b → a ≡ b
one_index law bytes small short a b x y = ok_is a b (sym (there law bytes small short a x) ∙ there law bytes small short b y)

-- no index is refused, unless memory ran out
pub refuses_none : ReadsAgain → (bytes : List ℕ) → IsBytes bytes → length bytes < 2 ^ 64 → (rows : List IndexRow) → IsIndex bytes rows → (e : ReadFault) → Answers bytes e → e ≡ faults.Memory
refuses_none law bytes small short rows is = by
  where
    read : rows_in bytes ≡ Ok rows
    read = there law bytes small short rows is

    by : (e : ReadFault) → Answers bytes e → e ≡ faults.Memory
    by faults.Memory h = refl
    by faults.NotCanonical (others, e, differs) = absurd (differs (subst (IsIndex bytes) (ok_is rows others (sym read ∙ e)) is))
    by faults.BadMagic h = absurd (let e = sym read ∙ h in cc)
    by faults.BadVersion h = absurd (let e = sym read ∙ h in cc)
    by faults.BadToc h = absurd (let e = sym read ∙ h in cc)
    by faults.BadSum h = absurd (let e = sym read ∙ h in cc)
    by faults.BadSection h = absurd (let e = sym read ∙ h in cc)
