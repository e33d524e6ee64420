use Rattle.std.proofs.Common.{rules, ◌≡◌, ◌∙◌, ◌+◌, ◌++◌, ◌∷◌, ◌<◌, [], Err, ℕ, List, length, take, drop, refl, sym, ap, subst, append_assoc, arith}
use Rattle.std.specs.Prelude.{All}
use Rattle.std.proofs.lemmas.List.{append-nil, drop_more, take-append-drop, take_all, take_more}
use Rattle.head_column.specs.declared.items.Item.{Item}
use Rattle.head_core.specs.Applied.{outcomes_after, AreCountsOfOutcomes}
use Rattle.replay_rounds.specs.declared.fault.RoundFault.TheVariants.{Full}
use Rattle.replay_rounds.specs.Applying.{Ends}
use Rattle.replay_rounds.proofs.Lists.{all_at}
use Rattle.replay_rounds.proofs.rounds.Rounds.apply_items.Goals as goal

pub loop-taken-init : goal.loop-taken-init
loop-taken-init g c = (
  refl,
  refl,
  λ slots before h. subst (λ (ks : List (ℕ × Item)). Ends g.B.Builder.value g.B.Builder.after g.B.Builder.outcome slots ks c.args.self.now.deal c.args.self.now.counts) (sym (append-nil before)) h,
  c.requires.none,
)

pub apply_item-requires-clause-exists : goal.apply_item-requires-clause-exists
apply_item-requires-clause-exists g c κs within =
    let items : List (ℕ × Item) = c.args.items.now in
    let i : ℕ = c.loop-taken.taken-index in
    let item : ℕ × Item = c.taken-item.result in
    let rest : drop i items ≡ item ∷ drop (i + 1) items = drop_more items i item c.loop-taken-test.true ∙ ap (λ (k : ℕ × Item). k ∷ drop (i + 1) items) (sym c.taken-item.is) in
    let all : items ≡ take i items ++ item ∷ drop (i + 1) items = sym (take-append-drop i items) ∙ ap (λ (ks : List (ℕ × Item)). take i items ++ ks) rest in
    let low : item.0 < length c.args.self.now.deal.builders = all_at (λ (k : ℕ × Item). k.0 < length c.args.self.now.deal.builders) (take i items) item (drop (i + 1) items) (subst (All (λ (k : ℕ × Item). k.0 < length c.args.self.now.deal.builders)) all c.requires.within) in
    subst (λ (n : ℕ). item.0 < n) (sym c.loop-taken.invariant.1) low

pub loop-taken-preserved : goal.loop-taken-preserved
loop-taken-preserved g c =
    let so_far = c.loop-taken.invariant in
    let items : List (ℕ × Item) = c.args.items.now in
    let i : ℕ = c.loop-taken.taken-index in
    let item : ℕ × Item = c.taken-item.result in
    let more : take (i + 1) items ≡ take i items ++ item ∷ [] = take_more items i item c.loop-taken-test.true ∙ ap (λ (k : ℕ × Item). take i items ++ k ∷ []) (sym c.taken-item.is) in (
      c.apply_item.ensures.workers ∙ so_far.0,
      c.apply_item.ensures.builders ∙ so_far.1,
      λ slots before h. subst (λ (ks : List (ℕ × Item)). Ends g.B.Builder.value g.B.Builder.after g.B.Builder.outcome slots ks c.apply_item.new.self.deal c.apply_item.new.self.counts)
          (append_assoc before (take i items) (item ∷ []) ∙ ap (λ (ks : List (ℕ × Item)). before ++ ks) (sym more))
          (c.in_ok-apply_item.ensures.ends slots (before ++ take i items) (so_far.2 slots before h)),
      c.apply_item.ensures.none,
    )

pub returns-in_err-apply_item-clause-full : goal.returns-in_err-apply_item-clause-full
returns-in_err-apply_item-clause-full g c = λ e slots before all_counts h k w.
    let so_far = c.loop-taken.invariant in
    let items : List (ℕ × Item) = c.args.items.now in
    let i : ℕ = c.loop-taken.taken-index in
    let item : ℕ × Item = c.taken-item.result in
    let rest : drop i items ≡ item ∷ drop (i + 1) items = drop_more items i item c.loop-taken-test.true ∙ ap (λ (k : ℕ × Item). k ∷ drop (i + 1) items) (sym c.taken-item.is) in
    let all : items ≡ take i items ++ item ∷ drop (i + 1) items = sym (take-append-drop i items) ∙ ap (λ (ks : List (ℕ × Item)). take i items ++ ks) rest in
    let whole : before ++ items ≡ (before ++ take i items) ++ item ∷ drop (i + 1) items = ap (λ (ks : List (ℕ × Item)). before ++ ks) all ∙ sym (append_assoc before (take i items) (item ∷ drop (i + 1) items)) in
    let full : c.apply_item.result ≡ Err Full = search rules in
    c.apply_item.ensures.full full slots (before ++ take i items) (drop (i + 1) items) all_counts (so_far.2 slots before h)
    (subst (λ (ks : List (ℕ × Item)). AreCountsOfOutcomes (outcomes_after g.B.Builder.after g.B.Builder.outcome slots ks) all_counts) whole k) w

pub returns-clause-ends : goal.returns-clause-ends
returns-clause-ends g c = λ slots before h.
    let items : List (ℕ × Item) = c.args.items.now in
    let all : take c.loop-taken.taken-index items ≡ items = take_all c.loop-taken.taken-index items (omega (arith, c.loop-taken-test.false)) in
    subst (λ (ks : List (ℕ × Item)). Ends g.B.Builder.value g.B.Builder.after g.B.Builder.outcome slots (before ++ ks) c.loop-taken.self.deal c.loop-taken.self.counts) all (c.loop-taken.invariant.2 slots before h)
