-- What is kept of records, with one record more.
use Rattle.std.proofs.Common.{◌≡◌, ℕ, ℤ, Bool, true, false, List, [], ◌∷◌, ◌++◌, refl, sym, ap, ◌∙◌, append_assoc}
use Rattle.std.specs.Prelude.{◌||◌, filter, fold, not, nat_eq, if◌then◌else◌}
use Rattle.std.specs.List.{flat_map, list_any}
use Rattle.std.proofs.lemmas.List.Folds.{list_any-append}
use Rattle.hw_bytes.specs.Lists.{distinct, if_new}
use Rattle.hw_bytes.proofs.Lists.{along-push, append_none, flat_map-push}
use Rattle.wal_record.specs.declared.record.SampleEntry.{SampleEntry}
use Rattle.wal_record.specs.declared.record.SeriesEntry.{SeriesEntry}
use Rattle.wal_record.specs.declared.record.WalRecord.TheVariants.{Samples, Series}
use Rattle.wal_record.specs.Validity.{valid_sample}
use Rattle.wal_log.specs.declared.reading.Place.{Place}
use Rattle.wal_log.specs.declared.reading.Placed.{Placed}
use Rattle.wal_survey.specs.declared.references.UnboundReference.{UnboundReference}
use Rattle.wal_survey.specs.ReferenceSets.{ReferenceSetValue, has}
use Rattle.wal_survey.specs.Keeping.{noted_if, noted_with, noted_with_all}
use Rattle.wal_survey.specs.Unbound.{AreReferencesOf, ReferencesValue, at_place, bound_by, is_bound_in, named_by, named_in, same_reference, sample_references, series_references}
use Rattle.wal_survey.proofs.DistinctReferences.{any_distinct, any_kept, distinct_kept, kept, kept-append, one_kept}

or_comm : (a b : Bool) → (a || b) ≡ (b || a)
or_comm true true = refl
or_comm true false = refl
or_comm false true = refl
or_comm false false = refl

or_none : (a : Bool) → (a || false) ≡ a
or_none true = refl
or_none false = refl

neither : (a b c : Bool) → c ≡ (a || b) → c ≡ false → b ≡ false
neither true b c e f = absurd cc
neither false b c e f = sym e ∙ f

-- what one record more binds and names
bound_more : (placed : List Placed) (p : Placed) (references : List ℕ) → bound_by p.content ≡ references → (r : ℕ) → is_bound_in (placed ++ p ∷ []) r ≡ (is_bound_in placed r || list_any (nat_eq r) references)
bound_more placed p references e r =
    ap (list_any (nat_eq r)) (flat_map-push (λ (q : Placed). bound_by q.content) placed p)
    ∙ list_any-append (nat_eq r) _ (bound_by p.content)
    ∙ ap (λ z. is_bound_in placed r || list_any (nat_eq r) z) e

named_more : (m : ℤ) (placed : List Placed) (p : Placed) (references : List ℕ) → named_by m p.content ≡ references → named_in m (placed ++ p ∷ []) ≡ named_in m placed ++ at_place p.place references
named_more m placed p references e =
    flat_map-push (λ (q : Placed). at_place q.place (named_by m q.content)) placed p
    ∙ ap (λ z. named_in m placed ++ at_place p.place z) e

-- tests that agree
kept_alike : (f g : ℕ → Bool) → ((r : ℕ) → f r ≡ g r) → (us : List UnboundReference) → filter (kept f) us ≡ filter (kept g) us
kept_alike f g alike us = ap (λ h. filter (kept h) us) (λ j r. alike r j)

-- what is bound already is bound later
module _ (f g : ℕ → Bool) (later : (r : ℕ) → g r ≡ false → f r ≡ false) where
  kept_later : (u : UnboundReference) → kept g u ≡ true → kept f u ≡ true
  kept_later u = by (g u.reference) refl where
    by : (b : Bool) → g u.reference ≡ b → not b ≡ true → kept f u ≡ true
    by true e h = absurd cc
    by false e h = ap not (later u.reference e)

  kept_on : (us : List UnboundReference) → filter (kept g) us ≡ filter (kept g) (filter (kept f) us)
  kept_on [] = refl
  kept_on (u ∷ us) = by (kept_on us) (kept g u) refl (kept f u) refl where
    by : filter (kept g) us ≡ filter (kept g) (filter (kept f) us) → (b : Bool) → kept g u ≡ b → (c : Bool) → kept f u ≡ c → filter (kept g) (u ∷ us) ≡ filter (kept g) (filter (kept f) (u ∷ us))
    by rest true e c h = (let yes = kept_later u e in rw yes (rw e (ap (λ z. u ∷ z) rest)))
    by rest false e true h = rw h (rw e rest)
    by rest false e false h = rw h (rw e rest)

-- a record of series more
pub series_taken : (m : ℤ) (placed : List Placed) (p : Placed) (entries : List SeriesEntry) (old : ReferencesValue) (new : ReferenceSetValue) → p.content ≡ Series entries → AreReferencesOf m placed old
    → ((r : ℕ) → has new r ≡ (list_any (nat_eq r) (series_references entries) || has old.bound r)) → AreReferencesOf m (placed ++ p ∷ []) (record { bound = new; noted = old.noted; min_valid = old.min_valid })
series_taken m placed p entries old new is h more =
    let bound : (r : ℕ) → has new r ≡ is_bound_in (placed ++ p ∷ []) r = λ r.
    more r
    ∙ ap (λ z. list_any (nat_eq r) (series_references entries) || z) (h.bound r)
    ∙ or_comm (list_any (nat_eq r) (series_references entries)) (is_bound_in placed r)
    ∙ sym (bound_more placed p (series_references entries) (ap bound_by is) r) in
    let was : (r : ℕ) → has new r ≡ false → has old.bound r ≡ false = λ r e. neither (list_any (nat_eq r) (series_references entries)) (has old.bound r) (has new r) (more r) e in
    let names : named_in m (placed ++ p ∷ []) ≡ named_in m placed = named_more m placed p [] (ap (named_by m) is) ∙ append_none (named_in m placed) in
    record {
      min_valid = h.min_valid;
      bound = bound;
      noted =
          kept_on (has old.bound) (has new) was old.noted
          ∙ ap (filter (kept (has new))) h.noted
          ∙ sym (distinct_kept (has new) (filter (kept (is_bound_in placed)) (named_in m placed)))
          ∙ ap (distinct same_reference) (sym (kept_on (is_bound_in placed) (has new) (λ r e. sym (h.bound r) ∙ was r e) (named_in m placed)))
          ∙ ap (distinct same_reference) (kept_alike (has new) (is_bound_in (placed ++ p ∷ [])) bound (named_in m placed))
          ∙ ap (λ z. distinct same_reference (filter (kept (is_bound_in (placed ++ p ∷ []))) z)) (sym names);
    }

-- one reference more that is named
one_on : (bound : ReferenceSetValue) (noted names : List UnboundReference) (u : UnboundReference) → filter (kept (has bound)) noted ≡ distinct same_reference (filter (kept (has bound)) names)
    → filter (kept (has bound)) (noted_if bound noted u) ≡ distinct same_reference (filter (kept (has bound)) (names ++ u ∷ []))
one_on bound noted names u h = by (kept k u) refl ∙ sym (ap (distinct same_reference) (kept-append k names (u ∷ []) ∙ ap (λ z. filter (kept k) names ++ z) (one_kept k u (kept k u) refl))) where
  k : ℕ → Bool
  k = has bound

  by_there : kept (has bound) u ≡ true → (c : Bool) → list_any (same_reference u) noted ≡ c → filter (kept (has bound)) (if c then noted else noted ++ u ∷ []) ≡ distinct same_reference (filter (kept (has bound)) names) ++ (if c then [] else u ∷ [])
  by_there e true f = h ∙ sym (append_none (distinct same_reference (filter (kept (has bound)) names)))
  by_there e false f = kept-append (has bound) noted (u ∷ []) ∙ ap (λ z. z ++ filter (kept (has bound)) (u ∷ [])) h ∙ ap (λ z. distinct same_reference (filter (kept (has bound)) names) ++ z) (one_kept (has bound) u true e)

  there : kept (has bound) u ≡ true → list_any (same_reference u) noted ≡ list_any (same_reference u) (filter (kept (has bound)) names)
  there e = sym (any_kept (has bound) u e noted) ∙ ap (list_any (same_reference u)) h ∙ any_distinct u (filter (kept (has bound)) names)

  by : (b : Bool) → kept (has bound) u ≡ b → filter (kept (has bound)) (if b then noted_with noted u else noted) ≡ distinct same_reference (filter (kept (has bound)) names ++ (if b then u ∷ [] else []))
  by true e =
      by_there e (list_any (same_reference u) noted) refl
      ∙ ap (λ c. distinct same_reference (filter (kept (has bound)) names) ++ (if c then [] else u ∷ [])) (there e)
      ∙ sym (along-push (if_new same_reference) (filter (kept (has bound)) names) u)
  by false e = h ∙ ap (distinct same_reference) (sym (append_none (filter (kept (has bound)) names)))

-- references that are named
all_on : (bound : ReferenceSetValue) (noted names us : List UnboundReference) → filter (kept (has bound)) noted ≡ distinct same_reference (filter (kept (has bound)) names)
    → filter (kept (has bound)) (fold (noted_if bound) noted us) ≡ distinct same_reference (filter (kept (has bound)) (names ++ us))
all_on bound noted names [] h = h ∙ ap (λ z. distinct same_reference (filter (kept (has bound)) z)) (sym (append_none names))
all_on bound noted names (u ∷ us) h =
    all_on bound (noted_if bound noted u) (names ++ u ∷ []) us (one_on bound noted names u h)
    ∙ ap (λ z. distinct same_reference (filter (kept (has bound)) z)) (append_assoc names (u ∷ []) us)

-- a record of samples more
pub samples_taken : (m : ℤ) (placed : List Placed) (p : Placed) (place : Place) (samples : List SampleEntry) (old : ReferencesValue) (noted : List UnboundReference) → p.place ≡ place → p.content ≡ Samples samples → AreReferencesOf m placed old
    → noted ≡ noted_with_all old.bound old.noted place (sample_references (flat_map (valid_sample m) samples)) → AreReferencesOf m (placed ++ p ∷ []) (record { bound = old.bound; noted = noted; min_valid = old.min_valid })
samples_taken m placed p place samples old noted here is h made =
    let bound : (r : ℕ) → has old.bound r ≡ is_bound_in (placed ++ p ∷ []) r = λ r. h.bound r ∙ sym (bound_more placed p [] (ap bound_by is) r ∙ or_none (is_bound_in placed r)) in
    let names : named_in m (placed ++ p ∷ []) ≡ named_in m placed ++ at_place place (sample_references (flat_map (valid_sample m) samples)) =
    named_more m placed p (sample_references (flat_map (valid_sample m) samples)) (ap (named_by m) is) ∙ ap (λ z. named_in m placed ++ at_place z (sample_references (flat_map (valid_sample m) samples))) here in
    record {
      min_valid = h.min_valid;
      bound = bound;
      noted =
          ap (filter (kept (has old.bound))) made
          ∙ all_on old.bound old.noted (named_in m placed) (at_place place (sample_references (flat_map (valid_sample m) samples))) (h.noted ∙ ap (distinct same_reference) (sym (kept_alike (has old.bound) (is_bound_in placed) h.bound (named_in m placed))))
          ∙ ap (λ z. distinct same_reference (filter (kept (has old.bound)) z)) (sym names)
          ∙ ap (distinct same_reference) (kept_alike (has old.bound) (is_bound_in (placed ++ p ∷ [])) bound (named_in m (placed ++ p ∷ [])));
    }

-- a record more that binds and names nothing
pub other_taken : (m : ℤ) (placed : List Placed) (p : Placed) (old : ReferencesValue) → bound_by p.content ≡ [] → named_by m p.content ≡ [] → AreReferencesOf m placed old → AreReferencesOf m (placed ++ p ∷ []) old
other_taken m placed p old binds names h =
    let bound : (r : ℕ) → has old.bound r ≡ is_bound_in (placed ++ p ∷ []) r = λ r. h.bound r ∙ sym (bound_more placed p [] binds r ∙ or_none (is_bound_in placed r)) in
    let more : named_in m (placed ++ p ∷ []) ≡ named_in m placed = named_more m placed p [] names ∙ append_none (named_in m placed) in
    record {
      min_valid = h.min_valid;
      bound = bound;
      noted =
          h.noted
          ∙ ap (distinct same_reference) (kept_alike (is_bound_in placed) (is_bound_in (placed ++ p ∷ [])) (λ r. sym (h.bound r) ∙ bound r) (named_in m placed))
          ∙ ap (λ z. distinct same_reference (filter (kept (is_bound_in (placed ++ p ∷ []))) z)) (sym more);
    }
