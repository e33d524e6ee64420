-- What is kept of a history, one item more.
use Rattle.std.proofs.Common.{◌≡◌, Bool, true, false, List, [], ◌∷◌, ◌++◌, Option, Some, None, ap, sym, subst, ◌∙◌, refl, arith}
use Rattle.std.specs.Prelude.{ℤ, ◌||◌, int_le, if◌then◌else◌}
use Rattle.std.proofs.lemmas.Int.{ints}
use Rattle.std.proofs.lemmas.List.Elements.{filter-append}
use Rattle.std.proofs.lemmas.List.Folds.{list_any-append}
use Rattle.hw_bytes.proofs.Lists.{append_none}
use Rattle.xor_chunk.specs.declared.sample.Sample.{Sample}
use Rattle.head_column.specs.declared.items.Run.{Run}
use Rattle.head_column.specs.declared.items.Item.{Item}
use Rattle.head_column.specs.declared.items.Item.TheVariants as item
use Rattle.head_column.specs.declared.items.Outcome.TheVariants.{Accepted, Stale}
use Rattle.head_column.specs.Histories.{History, has_reached, history_after, history_outcome, latest}
use Rattle.head_column.specs.Kept.{KeptValue, kept_after, kept_of, kept_outcome, samples_at, seen_at, with_sample}
use Rattle.head_column.specs.Merging.{with_run}
use Rattle.head_column.specs.Runs.{spans}
use Rattle.head_column.specs.Times.{reaches}
use Rattle.head_column.proofs.Bools.{or_false}
use Rattle.head_column.proofs.Rising.{has_reached_latest, latest-push, later_past}

-- the outcome of an item by the greatest accepted time alone
pub kept_outcome_is : (times : Run) (h : History) (i : Item) → kept_outcome (kept_of times h) i ≡ history_outcome h i
kept_outcome_is times h (item.Sample s) = ap (λ (b : Bool). if b then Stale else Accepted) (sym (has_reached_latest h.samples s.time))
kept_outcome_is times h (item.Stone r) = refl

-- a sample more, seen through the times
sample_seen : (times : Run) (h : History) (s : Sample) → seen_at times (record { samples = h.samples ++ s ∷ []; hidden = h.hidden }) ≡ with_sample times (seen_at times h) s
sample_seen times h s =
    let whole : List Sample → History = λ samples. record { samples = samples; hidden = h.hidden } in
    ap whole (filter-append (λ (x : Sample). spans times x.time) h.samples (s ∷ [])) ∙ by (spans times s.time) refl
  where
    by : (b : Bool) → spans times s.time ≡ b
        → record { samples = samples_at times h.samples ++ (if b then s ∷ [] else []); hidden = h.hidden } ≡ (if b then record { samples = samples_at times h.samples ++ s ∷ []; hidden = h.hidden } else seen_at times h)
    by true e = refl
    by false e = ap (λ (samples : List Sample). record { samples = samples; hidden = h.hidden }) (append_none (samples_at times h.samples))

-- what is kept of a history after one more item
pub kept_after_is : (times : Run) (h : History) (i : Item) → kept_after (kept_of times h) i ≡ kept_of times (history_after h i)
kept_after_is times h (item.Sample s) = ap (λ (b : Bool). if b then kept_of times h else more) (sym (has_reached_latest h.samples s.time)) ∙ by (has_reached h.samples s.time) refl where
  more : KeptValue
  more = record { times = times; history = with_sample times (seen_at times h) s; latest = Some s.time }

  by : (b : Bool) → has_reached h.samples s.time ≡ b → (if b then kept_of times h else more) ≡ kept_of times (if b then h else record { samples = h.samples ++ s ∷ []; hidden = h.hidden })
  by true e = refl
  by false e =
      ap (λ (k : History). record { times = times; history = k; latest = Some s.time }) (sym (sample_seen times h s))
      ∙ ap (λ (l : Option ℤ). record { times = times; history = seen_at times (record { samples = h.samples ++ s ∷ []; hidden = h.hidden }); latest = l })
      (sym (latest-push h.samples s ∙ later_past (latest h.samples) s.time (sym (has_reached_latest h.samples s.time) ∙ e)))
kept_after_is times h (item.Stone r) = by (int_le r.min_time r.max_time) where
  by : (b : Bool)
      → record {
        times = times;
        history = (if b then record { samples = samples_at times h.samples; hidden = with_run h.hidden r } else seen_at times h);
        latest = latest h.samples;
      }
      ≡ kept_of times (if b then record { samples = h.samples; hidden = with_run h.hidden r } else h)
  by true = refl
  by false = refl

-- ---- no kept sample is later than the greatest accepted one

later_reaches : (l : Option ℤ) (t u : ℤ) → reaches l t ≡ true → reaches l u ≡ false → int_le t u ≡ true
later_reaches None t u h k = absurd cc
later_reaches (Some w) t u h k = grind (arith, ints)

not_or : (b : Bool) → (b ≡ true → ⊥) → b ≡ false
not_or true h = absurd (h refl)
not_or false h = refl

-- a sample that the greatest accepted time has not reached is not reached by one that is kept
pub not_kept_past : (samples : List Sample) (l : Option ℤ) (t : ℤ) → ((u : ℤ) → has_reached samples u ≡ true → reaches l u ≡ true) → reaches l t ≡ false → has_reached samples t ≡ false
not_kept_past samples l t h past = not_or (has_reached samples t) (λ reached. let there = h t reached in absurd cc)

-- after a sample that was not reached, its time is the greatest one
pub kept_past : (samples : List Sample) (l : Option ℤ) (t : ℤ) → ((u : ℤ) → has_reached samples u ≡ true → reaches l u ≡ true) → reaches l t ≡ false → (u : ℤ) → has_reached samples u ≡ true → reaches (Some t) u ≡ true
kept_past samples l t h past u reached = later_reaches l u t (h u reached) past

either : (a b : Bool) → (a || b) ≡ true → (a ≡ false → b ≡ true)
either true b h k = absurd cc
either false b h k = h

-- the same with that sample kept
pub kept_push : (samples : List Sample) (l : Option ℤ) (s : Sample) → ((u : ℤ) → has_reached samples u ≡ true → reaches l u ≡ true) → reaches l s.time ≡ false
    → (u : ℤ) → has_reached (samples ++ s ∷ []) u ≡ true → reaches (Some s.time) u ≡ true
kept_push samples l s h past u reached = by (has_reached samples u) refl where
  parts : (has_reached samples u || int_le u s.time) ≡ true
  parts = ap (λ (b : Bool). has_reached samples u || b) (sym (or_false (int_le u s.time))) ∙ sym (list_any-append (λ (x : Sample). int_le u x.time) samples (s ∷ [])) ∙ reached

  by : (b : Bool) → has_reached samples u ≡ b → reaches (Some s.time) u ≡ true
  by true e = kept_past samples l s.time h past u e
  by false e = either (has_reached samples u) (int_le u s.time) parts e

-- the same of a history that took the sample
pub applied_past : (h new : History) (l : Option ℤ) (s : Sample) → ((u : ℤ) → has_reached h.samples u ≡ true → reaches l u ≡ true) → reaches l s.time ≡ false → new ≡ history_after h (item.Sample s)
    → (u : ℤ) → has_reached new.samples u ≡ true → reaches (Some s.time) u ≡ true
applied_past h new l s inv past is u reached =
    let none : has_reached h.samples s.time ≡ false = not_kept_past h.samples l s.time inv past in
    let same : new ≡ record { samples = h.samples ++ s ∷ []; hidden = h.hidden } = is ∙ ap (λ (b : Bool). if b then h else record { samples = h.samples ++ s ∷ []; hidden = h.hidden }) none in
    kept_push h.samples l s inv past u (subst (λ (k : History). has_reached k.samples u ≡ true) same reached)
