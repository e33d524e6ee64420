-- What a surveyor has taken, with one more event.
use Rattle.std.proofs.Common.{◌≡◌, ℤ, List, [], ◌∷◌, ◌++◌, length, take, refl, sym, subst, ◌∙◌}
use Rattle.std.specs.List.{AllZip}
use Rattle.std.proofs.lemmas.List.{append-nil, append_assoc, length-map, map-append, take-map}
use Rattle.std.proofs.lemmas.Slice.Zip.{AllZip-long}
use Rattle.wal_record.specs.declared.record.WalRecord.{WalRecord}
use Rattle.wal_record.specs.Records.{IsRecord}
use Rattle.wal_log.specs.declared.reading.Placed.{Placed}
use Rattle.wal_log.specs.Log.{contents}
use Rattle.wal_survey.specs.Unbound.{AreReferencesOf, ReferencesValue}
use Rattle.wal_unpack.specs.declared.fault.Passed.{Passed}
use Rattle.wal_unpack.specs.declared.unpacking.UnpackedRecord.{UnpackedRecord}
use Rattle.wal_unpack.specs.Salvage.{Event, PassedOver, Taken, records_in}
use Rattle.wal_survey.specs.declared.records.Survey.{Survey}
use Rattle.wal_survey.specs.declared.surveying.Surveyor.{Surveyor}
use Rattle.wal_survey.specs.Surveys.{IsPlacedRecord, IsSurveyOf, front}
use Rattle.wal_survey.specs.Taking.{SurveyStart, HasCounted, HasTaken}
use Rattle.wal_survey.proofs.Events.{passed_records, taken_records}

-- two lists with one more item each
AllZip_more : {A B : Type 0} (R : A → B → Type 0) (xs : List A) (ys : List B) (x : A) (y : B) → AllZip R xs ys → R x y → AllZip R (xs ++ x ∷ []) (ys ++ y ∷ [])
AllZip_more R [] [] x y each last = (last, tt)
AllZip_more R [] (b ∷ ys) x y each last = absurd each
AllZip_more R (a ∷ xs) [] x y each last = absurd each
AllZip_more R (a ∷ xs) (b ∷ ys) x y each last = (each.0, AllZip_more R xs ys x y each.1 last)

-- no events
pub none_taken : (start : SurveyStart) (survey : Survey) → HasCounted [] [] survey → HasTaken start [] (record { in_checkpoint = start.in_checkpoint; number = start.number; survey = survey; references = start.references })
none_taken start survey none = record {
  in_checkpoint = refl;
  number = refl;
  placed = [];
  spelled = tt;
  counted = none;
  taken = λ m before h. subst (λ (ps : List Placed). AreReferencesOf m ps start.references) (sym (append-nil before)) h;
}

module _ (start : SurveyStart) (es : List Event) (s : Surveyor) (h : HasTaken start es s) where
  -- as many records as are spelled
  pub long : length (contents h.placed) ≡ length (records_in es)
  long = length-map h.placed (λ (p : Placed). p.content) ∙ AllZip-long (IsPlacedRecord start.in_checkpoint start.number) (records_in es) h.placed h.spelled

  -- a record
  pub record_taken : (r : UnpackedRecord) (p : Placed) (survey : Survey) (references : ReferencesValue) → p.place ≡ record { in_checkpoint = s.in_checkpoint; file = s.number; offset = r.offset } → IsRecord r.bytes p.content
      → HasCounted (es ++ Taken r ∷ []) (contents h.placed ++ p.content ∷ []) survey → ((m : ℤ) (before : List Placed) → AreReferencesOf m before s.references → AreReferencesOf m (before ++ p ∷ []) references)
      → HasTaken start (es ++ Taken r ∷ []) (record s { survey = survey; references = references })
  record_taken r p survey references place is counted taken =
      let all : contents (h.placed ++ p ∷ []) ≡ contents h.placed ++ p.content ∷ [] = map-append (λ (q : Placed). q.content) h.placed (p ∷ []) in
      record {
        in_checkpoint = h.in_checkpoint;
        number = h.number;
        placed = h.placed ++ p ∷ [];
        spelled =
            subst (λ (rs : List UnpackedRecord). AllZip (IsPlacedRecord start.in_checkpoint start.number) rs (h.placed ++ p ∷ [])) (sym (taken_records es r))
            (AllZip_more (IsPlacedRecord start.in_checkpoint start.number) (records_in es) h.placed r p h.spelled
            (place ∙ (λ k. record { in_checkpoint = h.in_checkpoint k; file = h.number k; offset = r.offset }), is));
        counted = subst (λ (ks : List WalRecord). HasCounted (es ++ Taken r ∷ []) ks survey) (sym all) counted;
        taken = λ m before b. subst (λ (ps : List Placed). AreReferencesOf m ps references) (append_assoc before h.placed (p ∷ [])) (taken m (before ++ h.placed) (h.taken m before b));
      }

  -- what is passed over
  pub passed_taken : (x : Passed) (survey : Survey) → HasCounted (es ++ PassedOver x ∷ []) (contents h.placed) survey → HasTaken start (es ++ PassedOver x ∷ []) (record s { survey = survey })
  passed_taken x survey counted = record {
    in_checkpoint = h.in_checkpoint;
    number = h.number;
    placed = h.placed;
    spelled = subst (λ (rs : List UnpackedRecord). AllZip (IsPlacedRecord start.in_checkpoint start.number) rs h.placed) (sym (passed_records es x)) h.spelled;
    counted = counted;
    taken = h.taken;
  }

-- the survey of the records before the first damage
pub as_survey : (es : List Event) (placed : List Placed) (survey : Survey) → HasCounted es (contents placed) survey → IsSurveyOf (contents (take (length (front es)) placed)) survey
as_survey es placed survey h = subst (λ (ks : List WalRecord). IsSurveyOf ks survey) (take-map (λ (p : Placed). p.content) (length (front es)) placed) h.counted
