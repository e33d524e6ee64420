-- The events of a file, and one more.
use Rattle.std.proofs.Common.{arith, ◌≡◌, ◌≤◌, Bool, true, false, is_some, List, [], ◌∷◌, ◌++◌, length, take, Option, Some, None, refl, sym, ap, subst, ◌∙◌, true≢false}
use Rattle.std.specs.Prelude.{slice_get, unwrap_or}
use Rattle.std.specs.Option.{option_map}
use Rattle.std.proofs.lemmas.List.{append-nil, length_push, take-append-le, take_all}
use Rattle.std.proofs.lemmas.List.Elements.{filter_map-append}
use Rattle.wal_record.specs.declared.record.WalRecord.{WalRecord}
use Rattle.wal_unpack.specs.declared.fault.Passed.{Passed}
use Rattle.wal_unpack.specs.declared.fault.UnpackDamage.{UnpackDamage}
use Rattle.wal_unpack.specs.declared.unpacking.UnpackedRecord.{UnpackedRecord}
use Rattle.wal_unpack.specs.Salvage.{Event, PassedOver, Taken, passed_in, passed_of, record_of, records_in}
use Rattle.wal_survey.specs.declared.records.Readable.{Readable}
use Rattle.wal_survey.specs.declared.records.Survey.{Survey}
use Rattle.wal_survey.specs.Surveys.{IsReadableOf, IsSurveyOf, front}
use Rattle.wal_survey.specs.Taking.{HasCounted}

-- ---- the first damage

abbrev is_empty : {A : Type 0} → List A → Bool
is_empty [] = true
is_empty (x ∷ xs) = false

cons_some : {A : Type 0} (x : A) (xs : List A) → x ∷ xs ≡ [] → ⊥
cons_some x xs h = true≢false (sym (ap is_empty h))

-- the damage of what is passed over first
abbrev first_damage : List Passed → Option UnpackDamage
first_damage [] = None
first_damage (x ∷ xs) = Some x.damage

damage_is : (xs : List Passed) → option_map (λ (x : Passed). x.damage) (slice_get xs 0) ≡ first_damage xs
damage_is [] = refl
damage_is (x ∷ xs) = refl

none_first : (xs : List Passed) → is_some (first_damage xs) ≡ false → xs ≡ []
none_first [] h = refl
none_first (x ∷ xs) h = absurd (true≢false h)

some_first : (xs : List Passed) → is_some (first_damage xs) ≡ true → xs ≡ [] → ⊥
some_first [] h e = true≢false (sym h)
some_first (x ∷ xs) h e = cons_some x xs e

-- the first damage, when more is passed over
first_on : (xs : List Passed) (x : Passed) → first_damage (xs ++ x ∷ []) ≡ Some (unwrap_or (first_damage xs) x.damage)
first_on [] x = refl
first_on (y ∷ xs) x = refl

-- ---- the records before it

front_whole : (es : List Event) → passed_in es ≡ [] → front es ≡ records_in es
front_whole [] h = refl
front_whole (Taken r ∷ es) h = ap (λ rs. r ∷ rs) (front_whole es h)
front_whole (PassedOver x ∷ es) h = absurd (cons_some x (passed_in es) h)

front_fewer : (es : List Event) → length (front es) ≤ length (records_in es)
front_fewer [] = omega arith
front_fewer (Taken r ∷ es) = omega (arith, front_fewer es)
front_fewer (PassedOver x ∷ es) = omega arith

front_behind : (es : List Event) (e : Event) → (passed_in es ≡ [] → ⊥) → front (es ++ e ∷ []) ≡ front es
front_behind [] e h = absurd (h refl)
front_behind (Taken r ∷ es) e h = ap (λ rs. r ∷ rs) (front_behind es e h)
front_behind (PassedOver x ∷ es) e h = refl

front_passed : (es : List Event) (x : Passed) → front (es ++ PassedOver x ∷ []) ≡ front es
front_passed [] x = refl
front_passed (Taken r ∷ es) x = ap (λ rs. r ∷ rs) (front_passed es x)
front_passed (PassedOver y ∷ es) x = refl

-- ---- one more event

pub taken_records : (es : List Event) (r : UnpackedRecord) → records_in (es ++ Taken r ∷ []) ≡ records_in es ++ r ∷ []
taken_records es r = filter_map-append record_of es (Taken r ∷ [])

pub passed_records : (es : List Event) (x : Passed) → records_in (es ++ PassedOver x ∷ []) ≡ records_in es
passed_records es x = filter_map-append record_of es (PassedOver x ∷ []) ∙ append-nil (records_in es)

taken_passed : (es : List Event) (r : UnpackedRecord) → passed_in (es ++ Taken r ∷ []) ≡ passed_in es
taken_passed es r = filter_map-append passed_of es (Taken r ∷ []) ∙ append-nil (passed_in es)

passed_passed : (es : List Event) (x : Passed) → passed_in (es ++ PassedOver x ∷ []) ≡ passed_in es ++ x ∷ []
passed_passed es x = filter_map-append passed_of es (PassedOver x ∷ [])

-- ---- counts

-- the counts of the kinds, beside other figures
same_counts : (rs : List WalRecord) (s : Survey) (damage : Option UnpackDamage) (readable : Readable) → IsSurveyOf rs s → IsSurveyOf rs (record s { damage = damage; readable = readable })
same_counts rs s damage readable h = record { series = h.series; samples = h.samples; stones = h.stones; skipped = h.skipped; times = h.times }

module _ (es : List Event) (rs : List WalRecord) (s : Survey) (h : HasCounted es rs s) where
  -- what is passed over, by the damage
  none_passed : is_some s.damage ≡ false → passed_in es ≡ []
  none_passed none = none_first (passed_in es) (ap is_some (sym (h.damage ∙ damage_is (passed_in es))) ∙ none)

  some_passed : is_some s.damage ≡ true → passed_in es ≡ [] → ⊥
  some_passed some = some_first (passed_in es) (ap is_some (sym (h.damage ∙ damage_is (passed_in es))) ∙ some)

  -- before the first damage all records are counted by their kinds
  pub whole_counted : length rs ≡ length (records_in es) → is_some s.damage ≡ false → IsSurveyOf rs s
  whole_counted long none =
      let all : take (length (front es)) rs ≡ rs = take_all (length (front es)) rs (omega (arith, long, ap length (front_whole es (none_passed none)))) in
      subst (λ (ks : List WalRecord). IsSurveyOf ks s) all h.counted

  -- a record before the first damage
  pub taken_before : (r : UnpackedRecord) (k : WalRecord) (new : Survey) (readable : Readable) → length rs ≡ length (records_in es) → is_some s.damage ≡ false → IsSurveyOf (rs ++ k ∷ []) new → new.damage ≡ s.damage
      → IsReadableOf (rs ++ k ∷ []) (passed_in es) readable → HasCounted (es ++ Taken r ∷ []) (rs ++ k ∷ []) (record new { readable = readable })
  taken_before r k new readable long none counted damage read =
      let none : passed_in es ≡ [] = none_passed none in
      let none_after : passed_in (es ++ Taken r ∷ []) ≡ [] = taken_passed es r ∙ none in
      let fronts = ap length (front_whole (es ++ Taken r ∷ []) none_after) ∙ ap length (taken_records es r) ∙ length_push (records_in es) r in
      let all : take (length (front (es ++ Taken r ∷ []))) (rs ++ k ∷ []) ≡ rs ++ k ∷ [] = take_all (length (front (es ++ Taken r ∷ []))) (rs ++ k ∷ []) (omega (arith, long, length_push rs k, fronts)) in
      record {
        counted = subst (λ (ks : List WalRecord). IsSurveyOf ks (record new { readable = readable })) (sym all) (same_counts (rs ++ k ∷ []) new new.damage readable counted);
        damage = damage ∙ h.damage ∙ ap (λ (xs : List Passed). option_map (λ (x : Passed). x.damage) (slice_get xs 0)) (sym (taken_passed es r));
        readable = subst (λ (xs : List Passed). IsReadableOf (rs ++ k ∷ []) xs readable) (sym (taken_passed es r)) read;
      }

  -- a record after it
  pub taken_behind : (r : UnpackedRecord) (k : WalRecord) (readable : Readable) → length rs ≡ length (records_in es) → is_some s.damage ≡ true → IsReadableOf (rs ++ k ∷ []) (passed_in es) readable
      → HasCounted (es ++ Taken r ∷ []) (rs ++ k ∷ []) (record s { readable = readable })
  taken_behind r k readable long some read =
      let fronts = ap length (front_behind es (Taken r) (some_passed some)) in
      let front_records : take (length (front (es ++ Taken r ∷ []))) (rs ++ k ∷ []) ≡ take (length (front es)) rs =
      ap (λ n. take n (rs ++ k ∷ [])) fronts ∙ take-append-le (length (front es)) rs (k ∷ []) (omega (arith, long, front_fewer es)) in
      record {
        counted = subst (λ (ks : List WalRecord). IsSurveyOf ks (record s { readable = readable })) (sym front_records) (same_counts (take (length (front es)) rs) s s.damage readable h.counted);
        damage = h.damage ∙ ap (λ (xs : List Passed). option_map (λ (x : Passed). x.damage) (slice_get xs 0)) (sym (taken_passed es r));
        readable = subst (λ (xs : List Passed). IsReadableOf (rs ++ k ∷ []) xs readable) (sym (taken_passed es r)) read;
      }

  -- what is passed over
  pub passed_on : (x : Passed) (readable : Readable) → IsReadableOf rs (passed_in es ++ x ∷ []) readable
      → HasCounted (es ++ PassedOver x ∷ []) rs (record s { damage = Some (unwrap_or s.damage x.damage); readable = readable })
  passed_on x readable read =
      let damage : Option UnpackDamage = Some (unwrap_or s.damage x.damage) in
      record {
        counted = subst (λ (rows : List UnpackedRecord). IsSurveyOf (take (length rows) rs) (record s { damage = damage; readable = readable })) (sym (front_passed es x)) (same_counts (take (length (front es)) rs) s damage readable h.counted);
        damage =
            ap (λ (d : Option UnpackDamage). Some (unwrap_or d x.damage)) (h.damage ∙ damage_is (passed_in es))
            ∙ sym (first_on (passed_in es) x)
            ∙ sym (ap first_damage (passed_passed es x))
            ∙ sym (damage_is (passed_in (es ++ PassedOver x ∷ [])));
        readable = subst (λ (xs : List Passed). IsReadableOf rs xs readable) (sym (passed_passed es x)) read;
      }
