-- One item more of a history.
use Rattle.std.proofs.Common.{◌≡◌, Bool, true, false, List, [], ◌∷◌, ◌++◌, ap, sym, subst, ◌∙◌, refl, arith}
use Rattle.std.specs.Prelude.{ℤ, ◌≤ℤ◌, ◌||◌, ◌&&◌, int_le, if◌then◌else◌}
use Rattle.std.specs.List.{scan}
use Rattle.std.proofs.lemmas.Int.{ints}
use Rattle.std.proofs.lemmas.List.Folds.{list_any-append}
use Rattle.hw_bytes.proofs.Lists.{along-push, append_none, by_push, fold-push, scan-along}
use Rattle.xor_chunk.specs.declared.sample.Sample.{Sample}
use Rattle.head_column.specs.declared.items.Run.{Run}
use Rattle.head_column.specs.declared.items.Item.{Item}
use Rattle.head_column.specs.declared.items.Item.TheVariants as item
use Rattle.head_column.specs.declared.items.Outcome.TheVariants.{Accepted, Stale}
use Rattle.head_column.specs.Runs.{spans, IsRun, AreRunsOf}
use Rattle.head_column.specs.Merging.{with_run}
use Rattle.head_column.specs.Items.{is_stale, is_hidden_by, is_hidden, outcome_of, outcomes_of, accepted, samples_of}
use Rattle.head_column.specs.Histories.{History, IsHistoryOf, no_history, has_reached, history_after, history_outcome, history_of}
use Rattle.head_column.proofs.Bools.{or_false}
use Rattle.head_column.proofs.Merged.{span_any-with_run, AreApart-with_run}
use Rattle.head_column.proofs.OneRuns.{one_runs_of}
use Rattle.head_column.proofs.Stale.{has_reached-samples_of}

stale_is : (items : List Item) (h : History) (t : ℤ) → IsHistoryOf items h → is_stale items t ≡ has_reached h.samples t
stale_is items h t is = sym (ap (λ xs. has_reached xs t) is.samples ∙ has_reached-samples_of items t)

-- what is kept tells the outcome
pub history_outcome_is : (items : List Item) (h : History) (i : Item) → IsHistoryOf items h → history_outcome h i ≡ outcome_of items i
history_outcome_is items h (item.Sample x) is = ap (λ b. if b then Stale else Accepted) (sym (stale_is items h x.time is))
history_outcome_is items h (item.Stone r) is = refl

-- the runs of a test are those of one that is the same at each time
AreRunsOf-same : (f g : ℤ → Bool) (rs : List Run) → ((t : ℤ) → f t ≡ g t) → AreRunsOf f rs → AreRunsOf g rs
AreRunsOf-same f g rs e h = record { apart = h.apart; same = λ t. h.same t ∙ e t }

hidden_more : (items : List Item) (i : Item) (t : ℤ) → (is_hidden items t || is_hidden_by t i) ≡ is_hidden (items ++ i ∷ []) t
hidden_more items i t =
    ap (λ b. is_hidden items t || b) (sym (or_false (is_hidden_by t i))) ∙ sym (list_any-append (is_hidden_by t) items (i ∷ []))

-- an item that hides no time leaves the runs
hidden_same : (items : List Item) (i : Item) (rs : List Run) → ((t : ℤ) → is_hidden_by t i ≡ false) → AreRunsOf (is_hidden items) rs → AreRunsOf (is_hidden (items ++ i ∷ [])) rs
hidden_same items i rs none h =
    AreRunsOf-same (is_hidden items) (is_hidden (items ++ i ∷ [])) rs
    (λ t. sym (or_false (is_hidden items t)) ∙ ap (λ b. is_hidden items t || b) (sym (none t)) ∙ hidden_more items i t)
    h

samples_more : (items : List Item) (i : Item) → samples_of items ++ accepted items i ≡ samples_of (items ++ i ∷ [])
samples_more items i = sym (along-push accepted items i)

sample_step : (items : List Item) (h : History) (s : Sample) (b : Bool) → is_stale items s.time ≡ b → IsHistoryOf items h
    → IsHistoryOf (items ++ item.Sample s ∷ []) (if b then h else record { samples = h.samples ++ s ∷ []; hidden = h.hidden })
sample_step items h s true e is = record {
  samples = is.samples ∙ sym (append_none (samples_of items)) ∙ ap (λ b. samples_of items ++ (if b then [] else s ∷ [])) (sym e) ∙ samples_more items (item.Sample s);
  hidden = hidden_same items (item.Sample s) h.hidden (λ t. refl) is.hidden;
}
sample_step items h s false e is = record {
  samples = ap (λ xs. xs ++ s ∷ []) is.samples ∙ ap (λ b. samples_of items ++ (if b then [] else s ∷ [])) (sym e) ∙ samples_more items (item.Sample s);
  hidden = hidden_same items (item.Sample s) h.hidden (λ t. refl) is.hidden;
}

le_true : (a b : ℤ) → int_le a b ≡ true → a ≤ℤ b
le_true a b h = grind (arith, ints)

-- an empty run has no time
spans_none : (a b t : ℤ) → int_le a b ≡ false → (int_le a t && int_le t b) ≡ false
spans_none a b t h = grind (arith, ints)

stone_step : (items : List Item) (h : History) (r : Run) (b : Bool) → int_le r.min_time r.max_time ≡ b → IsHistoryOf items h
    → IsHistoryOf (items ++ item.Stone r ∷ []) (if b then record { samples = h.samples; hidden = with_run h.hidden r } else h)
stone_step items h r true e is =
    let some : IsRun r = record { some = le_true r.min_time r.max_time e } in
    record {
      samples = is.samples ∙ sym (append_none (samples_of items)) ∙ samples_more items (item.Stone r);
      hidden = record {
        apart = AreApart-with_run h.hidden r is.hidden.apart some;
        same = λ t. span_any-with_run h.hidden r t is.hidden.apart some ∙ ap (λ b. b || spans r t) (is.hidden.same t) ∙ hidden_more items (item.Stone r) t;
      };
    }
stone_step items h r false e is = record {
  samples = is.samples ∙ sym (append_none (samples_of items)) ∙ samples_more items (item.Stone r);
  hidden = hidden_same items (item.Stone r) h.hidden (λ t. spans_none r.min_time r.max_time t e) is.hidden;
}

-- one item more
pub IsHistoryOf-push : (items : List Item) (h : History) (i : Item) → IsHistoryOf items h → IsHistoryOf (items ++ i ∷ []) (history_after h i)
IsHistoryOf-push items h (item.Sample s) is = sample_step items h s (has_reached h.samples s.time) (stale_is items h s.time is) is
IsHistoryOf-push items h (item.Stone r) is = stone_step items h r (int_le r.min_time r.max_time) refl is

pub IsHistoryOf-none : IsHistoryOf [] no_history
IsHistoryOf-none = record { samples = refl; hidden = record { apart = tt; same = λ t. refl } }

-- one item more of the history that items make
pub history_of-push : (items : List Item) (i : Item) → history_of (items ++ i ∷ []) ≡ history_after (history_of items) i
history_of-push items i = fold-push history_after no_history items i

pub IsHistoryOf-history_of : (items : List Item) → IsHistoryOf items (history_of items)
IsHistoryOf-history_of items = by_push (λ is. IsHistoryOf is (history_of is)) IsHistoryOf-none step items where
  step : (is : List Item) (i : Item) → IsHistoryOf is (history_of is) → IsHistoryOf (is ++ i ∷ []) (history_of (is ++ i ∷ []))
  step is i h = subst (IsHistoryOf (is ++ i ∷ [])) (sym (history_of-push is i)) (IsHistoryOf-push is (history_of is) i h)

history_equal : (h k : History) → h.samples ≡ k.samples → h.hidden ≡ k.hidden → h ≡ k
history_equal h k e f = ap (λ xs. record { samples = xs; hidden = h.hidden }) e ∙ ap (λ rs. record { samples = k.samples; hidden = rs }) f

-- items make one history
pub one_history : (items : List Item) (h k : History) → IsHistoryOf items h → IsHistoryOf items k → h ≡ k
one_history items h k a b = history_equal h k (a.samples ∙ sym b.samples) (one_runs_of (is_hidden items) h.hidden k.hidden a.hidden b.hidden)

pub history_outcomes : (items : List Item) → scan history_after history_outcome no_history items ≡ outcomes_of items
history_outcomes items = scan-along history_after history_outcome no_history outcome_of (λ is i. history_outcome_is is (history_of is) i (IsHistoryOf-history_of is)) items
