-- A log whose files have just some records reads as these.
use Rattle.std.proofs.Common.{◌≡◌, ℕ, inl, inr, All, List, [], ◌∷◌, ◌++◌, Option, Some, None, ap, sym, subst, ◌∙◌, refl, map}
use Rattle.std.specs.List.{AllZip}
use Rattle.std.proofs.lemmas.List.{map-append}
use Rattle.std.proofs.lemmas.List.Elements.{All-head, All-tail}
use Rattle.wal_page.specs.declared.fault.FaultKind.{FaultKind}
use Rattle.wal_page.specs.File.{IsFile, PieceValue}
use Rattle.wal_record.specs.declared.record.WalRecord.{WalRecord}
use Rattle.wal_record.specs.Records.{IsRecord}
use Rattle.wal_log.specs.declared.reading.Damage.{Damage}
use Rattle.wal_log.specs.declared.reading.Placed.{Placed}
use Rattle.wal_log.specs.Inputs.{Files}
use Rattle.wal_log.specs.Log.{IsReading, LogFile, ReadsFile, ReadsFiles, Spells, contents, in_order}
use Rattle.log_directory.proofs.Results.{some_not_none}
use Rattle.headline.specs.Records.{HasJust, HaveJust, IsLogOf, SpellsOne}

-- pieces that spell are spelled, one after another, and there is no damage
spelled_whole : (file : LogFile) (pieces : List PieceValue) (placed : List Placed) (damage : Option Damage) → All SpellsOne (map (λ (p : PieceValue). p.bytes) pieces) → Spells file pieces None placed damage
    → (damage ≡ None) × AllZip IsRecord (map (λ (p : PieceValue). p.bytes) pieces) (contents placed)
spelled_whole file [] placed damage all h = (h.1, subst (λ (ps : List Placed). AllZip IsRecord [] (contents ps)) (sym h.0) tt)
spelled_whole file (piece ∷ more) placed damage all (inl (content, others, is, whole, rest)) =
    let later = spelled_whole file more others damage (All-tail SpellsOne _ _ all) rest in
    (later.0, subst (λ (ps : List Placed). AllZip IsRecord (piece.bytes ∷ map (λ (p : PieceValue). p.bytes) more) (contents ps)) (sym whole) (is, later.1))
spelled_whole file (piece ∷ more) placed damage all (inr (none, empty, found)) =
    let spelled = All-head SpellsOne _ _ all in absurd (none spelled.0 spelled.1)

-- two lists of records after each other
both_zip : (rs : List (List ℕ)) (cs : List WalRecord) (ss : List (List ℕ)) (ds : List WalRecord) → AllZip IsRecord rs cs → AllZip IsRecord ss ds → AllZip IsRecord (rs ++ ss) (cs ++ ds)
both_zip [] [] ss ds h k = k
both_zip [] (c ∷ cs) ss ds h k = absurd h
both_zip (r ∷ rs) [] ss ds h k = absurd h
both_zip (r ∷ rs) (c ∷ cs) ss ds h k = (h.0, both_zip rs cs ss ds h.1 k)

module _ (one_file : (bytes : List ℕ) (rs ss : List PieceValue) (f g : Option (ℕ × FaultKind)) → IsFile bytes rs f → IsFile bytes ss g → (rs ≡ ss) × (f ≡ g)) where
  -- what one file holds
  file_whole : (file : LogFile) (records : List (List ℕ)) (placed : List Placed) (damage : Option Damage) → HasJust file records → ReadsFile file placed damage → (damage ≡ None) × AllZip IsRecord records (contents placed)
  file_whole file records placed damage has reads =
      let same = one_file file.segment.bytes reads.pieces has.pieces reads.fault None reads.read has.read in
      let bytes : map (λ (p : PieceValue). p.bytes) reads.pieces ≡ records = ap (λ (ps : List PieceValue). map (λ (p : PieceValue). p.bytes) ps) same.0 ∙ has.same in
      let spelled = subst (λ (f : Option (ℕ × FaultKind)). Spells file reads.pieces f placed damage) same.1 reads.spelled in
      let whole = spelled_whole file reads.pieces placed damage (subst (All SpellsOne) (sym bytes) has.spelled) spelled in
      (whole.0, subst (λ (rs : List (List ℕ)). AllZip IsRecord rs (contents placed)) bytes whole.1)

  files_whole : (files : List LogFile) (records : List (List ℕ)) (placed : List Placed) (damage : Option Damage) → HaveJust files records → ReadsFiles files placed damage → (damage ≡ None) × AllZip IsRecord records (contents placed)
  files_whole [] records placed damage has h = (h.1, subst (λ (rs : List (List ℕ)). AllZip IsRecord rs (contents placed)) (sym has) (subst (λ (ps : List Placed). AllZip IsRecord [] (contents ps)) (sym h.0) tt))
  files_whole (file ∷ more) records placed damage (mine, rest, has, is, later) (here, Some found, others, read, whole, behind) = absurd (some_not_none found (file_whole file mine here (Some found) has read).0)
  files_whole (file ∷ more) records placed damage (mine, rest, has, is, later) (here, None, others, read, whole, behind) =
      let first = file_whole file mine here None has read in
      let last = files_whole more rest others damage later behind in
      let joined = both_zip mine (contents here) rest (contents others) first.1 last.1 in (
        last.0,
        subst (λ (rs : List (List ℕ)). AllZip IsRecord rs (contents placed)) (sym is)
            (subst (AllZip IsRecord (mine ++ rest)) (sym (ap contents whole ∙ map-append (λ (p : Placed). p.content) here others)) joined),
      )

  -- a log of just these records reads as them, and has no damage
  pub log_whole : (records : List (List ℕ)) (log : Files) (placed : List Placed) (damage : Option Damage) → IsLogOf records log → IsReading log placed damage → (damage ≡ None) × AllZip IsRecord records (contents placed)
  log_whole records log placed damage has reading = files_whole (in_order log) records placed damage has reading

-- bytes spell one list of records
pub one_list : ((bytes : List ℕ) (a b : WalRecord) → IsRecord bytes a → IsRecord bytes b → a ≡ b) → (rs : List (List ℕ)) (cs ds : List WalRecord) → AllZip IsRecord rs cs → AllZip IsRecord rs ds → cs ≡ ds
one_list one [] [] [] h k = refl
one_list one [] (c ∷ cs) ds h k = absurd h
one_list one [] [] (d ∷ ds) h k = absurd k
one_list one (r ∷ rs) [] ds h k = absurd h
one_list one (r ∷ rs) (c ∷ cs) [] h k = absurd k
one_list one (r ∷ rs) (c ∷ cs) (d ∷ ds) h k = ap (λ (x : WalRecord). x ∷ cs) (one r c d h.0 k.0) ∙ ap (λ (xs : List WalRecord). d ∷ xs) (one_list one rs cs ds h.1 k.1)
