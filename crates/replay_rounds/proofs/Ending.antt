-- Items dealt one after another, over as many deals as it takes.
use Rattle.std.proofs.Common.{◌≡◌, ℕ, suc, ◌+◌, List, [], ◌∷◌, ◌++◌, length, refl, sym, ap, subst, ◌∙◌, append_assoc}
use Rattle.std.specs.Prelude.{map}
use Rattle.std.specs.List.{enumerate_from}
use Rattle.std.proofs.lemmas.List.{append-nil}
use Rattle.head_deal.specs.Jobs.{Job, State, Queued, Finished}
use Rattle.head_deal.specs.Endings.{item_at, moved, moved_by, told, told_of, with_outcome_of, outcomes, job_endings, slot_endings}
use Rattle.head_deal.specs.Dealing.{Dealing, course, end_slots, end_jobs, ending_values, ending_outcomes}
use Rattle.head_deal.specs.Spreads.{dealt, dealt_all}
use Rattle.head_deal.proofs.Steps.{slot_endings_more, job_endings_more}
use Rattle.head_column.specs.declared.items.Item.{Item}
use Rattle.head_column.specs.declared.items.Outcome.{Outcome}
use Rattle.head_resolver.specs.declared.counts.Counts.{Counts}
use Rattle.head_core.specs.Applied.{values_after, outcomes_after, AreCountsOfOutcomes}
use Rattle.replay_rounds.specs.Applying.{Ends}

outcome_first : {I O : Type 0} (s : State I O) (os ps : List O) → with_outcome_of s os ++ ps ≡ with_outcome_of s (os ++ ps)
outcome_first (Queued i) os ps = refl
outcome_first (Finished o) os ps = refl

outcomes_split : {I O : Type 0} (js ks : List (Job I O)) → outcomes (js ++ ks) ≡ outcomes js ++ outcomes ks
outcomes_split [] ks = refl
outcomes_split (j ∷ js) ks = ap (with_outcome_of j.state) (outcomes_split js ks) ∙ sym (outcome_first j.state (outcomes js) (outcomes ks))

pub length_map : {A B : Type 0} (f : A → B) (xs : List A) → length (map f xs) ≡ length xs
length_map f [] = refl
length_map f (x ∷ xs) = ap suc (length_map f xs)

pub length_numbered : {A : Type 0} (n : ℕ) (xs : List A) → length (enumerate_from n xs) ≡ length xs
length_numbered n [] = refl
length_numbered n (x ∷ xs) = ap suc (length_numbered (n + 1) xs)

module _ {V I : Type 0} (after : V → I → V) where
  pub length_values : (slots : List (ℕ × V)) (ks : List (ℕ × I)) → length (values_after after slots ks) ≡ length slots
  length_values slots [] = refl
  length_values slots (k ∷ ks) = length_values (map (item_at after k.0 k.1) slots) ks ∙ length_map (item_at after k.0 k.1) slots

module _ {V I O : Type 0} (after : V → I → V) (outcome : V → I → O) where
  values_snoc : (slots : List (ℕ × V)) (ks : List (ℕ × I)) (k : ℕ × I) → values_after after slots (ks ++ k ∷ []) ≡ map (item_at after k.0 k.1) (values_after after slots ks)
  values_snoc slots [] k = refl
  values_snoc slots (j ∷ ks) k = values_snoc (map (item_at after j.0 j.1) slots) ks k

  pub outcomes_both : (slots : List (ℕ × V)) (ks js : List (ℕ × I)) → outcomes_after after outcome slots (ks ++ js) ≡ outcomes_after after outcome slots ks ++ outcomes_after after outcome (values_after after slots ks) js
  outcomes_both slots [] js = refl
  outcomes_both slots (k ∷ ks) js =
      let next : List (ℕ × V) = map (item_at after k.0 k.1) slots in
      ap (with_outcome_of (told_of outcome k.0 k.1 slots)) (outcomes_both next ks js)
      ∙ sym (outcome_first (told_of outcome k.0 k.1 slots) (outcomes_after after outcome next ks) (outcomes_after after outcome (values_after after next ks) js))

  -- ---- each slot has its place as its number

  abbrev AreNumbered : ℕ → List (ℕ × V) → Type 0
  AreNumbered n slots = enumerate_from n (map (λ p. p.1) slots) ≡ slots

  numbered_first : (n : ℕ) (vs : List V) → AreNumbered n (enumerate_from n vs)
  numbered_first n [] = refl
  numbered_first n (v ∷ vs) = ap (λ (ps : List (ℕ × V)). (n, v) ∷ ps) (numbered_first (n + 1) vs)

  numbered_item : (n s : ℕ) (i : I) (slots : List (ℕ × V)) → AreNumbered n slots → AreNumbered n (map (item_at after s i) slots)
  numbered_item n s i [] h = refl
  numbered_item n s i (p ∷ slots) h =
      let first : ◌≡◌ {A = ℕ × V} (n, p.1) p = cc in
      let rest : AreNumbered (n + 1) slots = cc in
      let number : n ≡ p.0 = ap (λ (q : ℕ × V). q.0) first in
      ap (λ (m : ℕ). (m, (item_at after s i p).1) ∷ enumerate_from (n + 1) (map (λ q. q.1) (map (item_at after s i) slots))) number
      ∙ ap (λ (ps : List (ℕ × V)). item_at after s i p ∷ ps) (numbered_item (n + 1) s i slots rest)

  numbered_moved : (n : ℕ) (job : Job I O) (slots : List (ℕ × V)) → AreNumbered n slots → AreNumbered n (moved after job slots)
  numbered_moved n job slots h = by job.state where
    by : (s : State I O) → AreNumbered n (moved_by after job.slot s slots)
    by (Queued i) = numbered_item n job.slot i slots h
    by (Finished o) = h

  numbered_endings : (n : ℕ) (jobs : List (Job I O)) (slots : List (ℕ × V)) → AreNumbered n slots → AreNumbered n (slot_endings after slots jobs)
  numbered_endings n [] slots h = h
  numbered_endings n (job ∷ jobs) slots h = numbered_endings n jobs (moved after job slots) (numbered_moved n job slots h)

  -- ---- there are as many slots as before

  length_moved : (job : Job I O) (slots : List (ℕ × V)) → length (moved after job slots) ≡ length slots
  length_moved job slots = by job.state where
    by : (s : State I O) → length (moved_by after job.slot s slots) ≡ length slots
    by (Queued i) = length_map (item_at after job.slot i) slots
    by (Finished o) = refl

  length_endings : (jobs : List (Job I O)) (slots : List (ℕ × V)) → length (slot_endings after slots jobs) ≡ length slots
  length_endings [] slots = refl
  length_endings (job ∷ jobs) slots = length_endings jobs (moved after job slots) ∙ length_moved job slots

module _ {B V : Type 0} (value : B → V) (after : V → Item → V) (outcome : V → Item → Outcome) where
  -- the builders of a deal that was run are as many as before
  pub builders_long : (builders : List B) (d : Dealing B Item Outcome) → map value builders ≡ ending_values after (course value d) → length builders ≡ length d.builders
  builders_long builders d is =
      sym (length_map value builders)
      ∙ ap length is
      ∙ length_map (λ (p : ℕ × V). p.1) (end_slots after (course value d))
      ∙ length_endings after outcome d.jobs (enumerate_from 0 (map value d.builders))
      ∙ length_numbered 0 (map value d.builders)
      ∙ length_map value d.builders

  pub ends_first : (tag workers : ℕ) (d : Dealing B Item Outcome) (c : Counts) → d ≡ record { tag = tag; workers = workers; builders = []; jobs = [] } → AreCountsOfOutcomes [] c → Ends value after outcome [] [] d c
  ends_first tag workers d c is none =
      subst (λ (e : Dealing B Item Outcome). Ends value after outcome [] [] e c) (sym is)
      (record { values = refl; counted = []; outcomes = refl; counts = none })

  module _ {slots : List (ℕ × V)} {items : List (ℕ × Item)} {d : Dealing B Item Outcome} {c : Counts} (h : Ends value after outcome slots items d c) where
    -- one item more is dealt
    pub ends_more : (e : Dealing B Item Outcome) (n s : ℕ) (i : Item) → end_slots after (course value e) ≡ map (item_at after s i) (end_slots after (course value d))
        → end_jobs after outcome (course value e) ≡ end_jobs after outcome (course value d) ++ told outcome (end_slots after (course value d)) (record { number = n; slot = s; state = Queued i }) ∷ []
        → Ends value after outcome slots (items ++ (s, i) ∷ []) e c
    ends_more e n s i slots_are jobs_are =
        let job : Job Item Outcome = told outcome (end_slots after (course value d)) (record { number = n; slot = s; state = Queued i }) in
        record {
          values = slots_are ∙ ap (map (item_at after s i)) h.values ∙ sym (values_snoc after outcome slots items (s, i));
          counted = h.counted;
          outcomes =
              ap (λ (js : List (Job Item Outcome)). h.counted ++ outcomes js) jobs_are
              ∙ ap (λ (os : List Outcome). h.counted ++ os) (outcomes_split (end_jobs after outcome (course value d)) (job ∷ []))
              ∙ sym (append_assoc h.counted (ending_outcomes after outcome (course value d)) (outcomes (job ∷ [])))
              ∙ ap (λ (os : List Outcome). os ++ with_outcome_of (told_of outcome s i (end_slots after (course value d))) []) h.outcomes
              ∙ ap (λ (ps : List (ℕ × V)). outcomes_after after outcome slots items ++ with_outcome_of (told_of outcome s i ps) []) h.values
              ∙ sym (outcomes_both after outcome slots items ((s, i) ∷ []));
          counts = h.counts;
        }

    -- the outcome of an item that is applied at once stands after those of the items before it
    pub outcomes_at_once : (s : ℕ) (i : Item) (o : Outcome) → d.jobs ≡ [] → told_of outcome s i (course value d).slots ≡ Finished o → h.counted ++ o ∷ [] ≡ outcomes_after after outcome slots (items ++ (s, i) ∷ [])
    outcomes_at_once s i o none told_is =
        let values_are : (course value d).slots ≡ values_after after slots items = sym (ap (slot_endings after (course value d).slots) none) ∙ h.values in
        let counted_are : h.counted ≡ outcomes_after after outcome slots items =
        sym (append-nil h.counted) ∙ ap (λ (js : List (Job Item Outcome)). h.counted ++ outcomes (job_endings after outcome (course value d).slots js)) (sym none) ∙ h.outcomes in
        ap (λ (os : List Outcome). os ++ o ∷ []) counted_are
        ∙ ap (λ (t : State Item Outcome). outcomes_after after outcome slots items ++ with_outcome_of t []) (sym told_is)
        ∙ ap (λ (ps : List (ℕ × V)). outcomes_after after outcome slots items ++ with_outcome_of (told_of outcome s i ps) []) values_are
        ∙ sym (outcomes_both after outcome slots items ((s, i) ∷ []))

    -- an item is applied at once
    pub ends_at_once : (e : Dealing B Item Outcome) (now : Counts) (s : ℕ) (i : Item) (o : Outcome) → d.jobs ≡ [] → e.jobs ≡ [] → (course value e).slots ≡ map (item_at after s i) (course value d).slots → told_of outcome s i (course value d).slots ≡ Finished o
        → AreCountsOfOutcomes (h.counted ++ o ∷ []) now → Ends value after outcome slots (items ++ (s, i) ∷ []) e now
    ends_at_once e now s i o none still slots_are told_is counted =
        let values_are : (course value d).slots ≡ values_after after slots items = sym (ap (slot_endings after (course value d).slots) none) ∙ h.values in
        record {
          values = ap (slot_endings after (course value e).slots) still ∙ slots_are ∙ ap (map (item_at after s i)) values_are ∙ sym (values_snoc after outcome slots items (s, i));
          counted = h.counted ++ o ∷ [];
          outcomes =
              ap (λ (js : List (Job Item Outcome)). (h.counted ++ o ∷ []) ++ outcomes (job_endings after outcome (course value e).slots js)) still
              ∙ append-nil (h.counted ++ o ∷ [])
              ∙ outcomes_at_once s i o none told_is;
          counts = counted;
        }

    -- all outcomes, where an item is applied at once and others come after it
    pub all_at_once : (s : ℕ) (i : Item) (o : Outcome) (more : List (ℕ × Item)) → d.jobs ≡ [] → told_of outcome s i (course value d).slots ≡ Finished o
        → outcomes_after after outcome slots (items ++ (s, i) ∷ more) ≡ (h.counted ++ o ∷ []) ++ outcomes_after after outcome (values_after after slots (items ++ (s, i) ∷ [])) more
    all_at_once s i o more none told_is =
        ap (outcomes_after after outcome slots) (sym (append_assoc items ((s, i) ∷ []) more))
        ∙ outcomes_both after outcome slots (items ++ (s, i) ∷ []) more
        ∙ ap (λ (os : List Outcome). os ++ outcomes_after after outcome (values_after after slots (items ++ (s, i) ∷ [])) more) (sym (outcomes_at_once s i o none told_is))

    -- what was dealt is run and counted, and a new deal begins
    pub ends_again : (tag workers : ℕ) (builders : List B) (e : Dealing B Item Outcome) (now : Counts) → map value builders ≡ ending_values after (course value d) → AreCountsOfOutcomes (h.counted ++ ending_outcomes after outcome (course value d)) now
        → e ≡ record { tag = tag; workers = workers; builders = builders; jobs = [] } → Ends value after outcome slots items e now
    ends_again tag workers builders e now values_are counted is =
        let numbered : enumerate_from 0 (map (λ p. p.1) (end_slots after (course value d))) ≡ end_slots after (course value d) = numbered_endings after outcome 0 d.jobs (enumerate_from 0 (map value d.builders)) (numbered_first after outcome 0 (map value d.builders)) in
        subst (λ (f : Dealing B Item Outcome). Ends value after outcome slots items f now) (sym is)
        (record {
          values = ap (enumerate_from 0) values_are ∙ numbered ∙ h.values;
          counted = h.counted ++ ending_outcomes after outcome (course value d);
          outcomes = append-nil (h.counted ++ ending_outcomes after outcome (course value d)) ∙ h.outcomes;
          counts = counted;
        })

    -- the outcomes of all items are those that were counted, those of the deal, and those of the items that are not dealt yet
    pub all_outcomes : (more : List (ℕ × Item)) → outcomes_after after outcome slots (items ++ more) ≡ (h.counted ++ ending_outcomes after outcome (course value d)) ++ outcomes_after after outcome (values_after after slots items) more
    all_outcomes more = outcomes_both after outcome slots items more ∙ ap (λ (os : List Outcome). os ++ outcomes_after after outcome (values_after after slots items) more) (sym h.outcomes)

  -- the items of a spread are dealt
  pub ends_all : {slots : List (ℕ × V)} (ks : List (ℕ × Item)) {items : List (ℕ × Item)} {d : Dealing B Item Outcome} {c : Counts} → Ends value after outcome slots items d c → Ends value after outcome slots (items ++ ks) (dealt_all d ks) c
  ends_all {slots} [] {items} {d} {c} h = subst (λ (is : List (ℕ × Item)). Ends value after outcome slots is d c) (sym (append-nil items)) h
  ends_all {slots} (k ∷ ks) {items} {d} {c} h =
      let job : Job Item Outcome = record { number = length d.jobs; slot = k.0; state = Queued k.1 } in
      let first : List (ℕ × V) = enumerate_from 0 (map value d.builders) in
      subst (λ (is : List (ℕ × Item)). Ends value after outcome slots is (dealt_all (dealt d k.0 k.1) ks) c) (append_assoc items (k ∷ []) ks)
      (ends_all ks (ends_more h (dealt d k.0 k.1) (length d.jobs) k.0 k.1 (slot_endings_more after outcome first d.jobs job) (job_endings_more after outcome first d.jobs job)))

  -- a spread changes no worker and no builder
  pub dealt_workers : (ks : List (ℕ × Item)) (d : Dealing B Item Outcome) → (dealt_all d ks).workers ≡ d.workers
  dealt_workers [] d = refl
  dealt_workers (k ∷ ks) d = dealt_workers ks (dealt d k.0 k.1)

  pub dealt_builders : (ks : List (ℕ × Item)) (d : Dealing B Item Outcome) → (dealt_all d ks).builders ≡ d.builders
  dealt_builders [] d = refl
  dealt_builders (k ∷ ks) d = dealt_builders ks (dealt d k.0 k.1)
