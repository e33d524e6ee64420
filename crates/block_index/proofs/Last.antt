-- The last step of reading: what the steps before it and the comparison say of the answer.
use Rattle.std.proofs.Common.{◌≡◌, ◌⊎◌, inl, inr, ◌<◌, ◌^◌, ℕ, List, length, map, Result, Ok, Err, refl, sym, subst}
use Rattle.std.specs.Prelude.{IfErr, IfOk}
use Rattle.hw_bytes.specs.Spellings.{IsBytes}
use Rattle.index_text.specs.declared.fault.ReadFault.{ReadFault}
use Rattle.index_text.specs.declared.fault.ReadFault.TheVariants as faults
use Rattle.index_text.specs.declared.row.IndexRow.{IndexRow}
use Rattle.index_text.specs.Fields.{Stored}
use Rattle.index_text.specs.Gives.{Fails}
use Rattle.index_text.specs.Layout.{Text}
use Rattle.index_text.specs.Reading.{Answers, row_of, rows_in, stored_in}
use Rattle.index_text.specs.Rows.{IsIndex}
use Rattle.index_text.proofs.Early.{stored-early}
use Rattle.index_text.proofs.ReadLaws.{ReadsAgain, one_index, refuses_none}
use Rattle.index_text.proofs.RowsAgain.{rows_again}

law : ReadsAgain
law rows are fits bytes short = rows_again rows are fits bytes short

rows_fail : (bytes : List ℕ) (e : ReadFault) → stored_in bytes ≡ Err e → rows_in bytes ≡ Err e
unfolding rows_in
rows_fail bytes e h = rw h refl

pub rows_read : (bytes : List ℕ) (table : List Text) (series : List Stored) → stored_in bytes ≡ Ok (table, series) → rows_in bytes ≡ Ok (map (row_of table) series)
unfolding rows_in
rows_read bytes table series h = rw h refl

pub answers_early : (bytes : List ℕ) (e : ReadFault) → Fails e (stored_in bytes) → Answers bytes e
answers_early bytes faults.Memory h = tt
answers_early bytes faults.NotCanonical h = absurd ((stored-early bytes).early h)
answers_early bytes faults.BadMagic h = rows_fail bytes faults.BadMagic h
answers_early bytes faults.BadVersion h = rows_fail bytes faults.BadVersion h
answers_early bytes faults.BadToc h = rows_fail bytes faults.BadToc h
answers_early bytes faults.BadSum h = rows_fail bytes faults.BadSum h
answers_early bytes faults.BadSection h = rows_fail bytes faults.BadSection h

pub refuses_early : (bytes : List ℕ) (e : ReadFault) → IsBytes bytes → length bytes < 2 ^ 64 → Fails e (stored_in bytes) → (rows : List IndexRow) → IsIndex bytes rows → e ≡ faults.Memory
refuses_early bytes e small short h rows is = refuses_none law bytes small short rows is e (answers_early bytes e h)

-- a fault of the last step
abbrev pub IsLast : List ℕ → List IndexRow → ReadFault → Type 0
IsLast bytes rows e = (e ≡ faults.Memory) ⊎ ((e ≡ faults.NotCanonical) × (IsIndex bytes rows → ⊥))

pub answers_last : (bytes : List ℕ) (table : List Text) (series : List Stored) → stored_in bytes ≡ Ok (table, series) → (e : ReadFault) → IsLast bytes (map (row_of table) series) e → Answers bytes e
answers_last bytes table series read e (inl memory) = subst (Answers bytes) (sym memory) tt
answers_last bytes table series read e (inr other) = subst (Answers bytes) (sym other.0) (map (row_of table) series, rows_read bytes table series read, other.1)

pub refuses_last : (bytes : List ℕ) (table : List Text) (series : List Stored) → IsBytes bytes → length bytes < 2 ^ 64 → stored_in bytes ≡ Ok (table, series) → (rows : List IndexRow) → IsIndex bytes rows
    → (e : ReadFault) → IsLast bytes (map (row_of table) series) e → e ≡ faults.Memory
refuses_last bytes table series small short read rows is e h = refuses_none law bytes small short rows is e (answers_last bytes table series read e h)

pub only_last : (bytes : List ℕ) → IsBytes bytes → length bytes < 2 ^ 64 → (rows others : List IndexRow) → IsIndex bytes rows → IsIndex bytes others → others ≡ rows
only_last bytes small short rows others is are = one_index law bytes small short others rows are is

-- ---- what holds of an answer, and what follows from it

pub IfOk-then : {A B : Type 0} (r : Result A B) (P Q : A → Type 0) → IfOk r P → ((x : A) → P x → Q x) → IfOk r Q
IfOk-then (Ok x) P Q h f = f x h
IfOk-then (Err e) P Q h f = tt

pub IfErr-then : {A B : Type 0} (r : Result A B) (P Q : B → Type 0) → IfErr r P → ((e : B) → P e → Q e) → IfErr r Q
IfErr-then (Ok x) P Q h f = tt
IfErr-then (Err e) P Q h f = f e h
