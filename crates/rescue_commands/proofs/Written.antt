-- Blocks that are written hour by hour.
use Rattle.std.specs.Prelude.{◌≡◌, ◌⊎◌, ℕ, suc, ◌+◌, ◌<◌, ◌≤◌, ℤ, IsErrAnd, length, Err, IsOk, Ok, OnErr, OnOk, Result, List, [], ◌∷◌, ◌++◌, Contains, ⊤, refl}
use Rattle.std.proofs.Common.{ap, arith, drop, get_or, inl, inr, subst, sym, take, ◌∙◌}
use Rattle.std.proofs.Math.Seq.{drop-cons}
use Rattle.std.proofs.lemmas.List.{take-append-drop, take_all, take_more}
use Rattle.block_read.specs.declared.block.Block.{Block}
use Rattle.hw_bytes.specs.Sums.{Text}
use Rattle.store.specs.Calls.{Call}
use Rattle.store.specs.Found.{Found}
use Rattle.block_commands.specs.Folders.{WritesBlock}
use Rattle.block_commands.proofs.Less.{writes_less}
use Rattle.rescue_commands.specs.Rescues.{GivesUpBlock, HasBlock, HaveBlocks}

-- an error is no value
pub not_ok : {T E : Type 0} (Q : E → Type 0) (r : Result T E) → IsErrAnd r Q → IsOk r → ⊥
not_ok Q (Ok x) is ok = is
not_ok Q (Err e) is ok = absurd cc

-- nor is what is known to be an error
pub err_not_ok : {T E : Type 0} (r : Result T E) (e : E) → r ≡ Err e → IsOk r → ⊥
err_not_ok (Ok x) e was ok = absurd cc
err_not_ok (Err f) e was ok = absurd cc

pub ok_is : {T E : Type 0} (r : Result T E) (x : T) → r ≡ Ok x → IsOk r
ok_is (Ok x) y was = refl
ok_is (Err f) y was = absurd cc

module _ {S : Type 0} (did : S → List Call → S → Type 0) (holds : S → List ℕ → Found → Type 0) (out : List ℕ) where
  -- ---- hour by hour

  module _ (P : ℤ → Text → Block → Type 0) where
    -- the hours after these
    pub have_then : (old middle new : S) (first rest : List ℤ) (W : Type 0) → HaveBlocks did holds out P old first ⊤ middle → HaveBlocks did holds out P middle rest W new → HaveBlocks did holds out P old (first ++ rest) W new
    have_then old middle new [] rest W same more = subst (λ (s : S). HaveBlocks did holds out P s rest W new) same more
    have_then old middle new (hour ∷ first) rest W (inl (next, has, have)) more = inl (next, has, have_then next middle new first rest W have more)
    have_then old middle new (hour ∷ first) rest W (inr (failed, left)) more = absurd (failed tt)

    -- where less is known of whether all went well
    pub have_less : (old new : S) (hours : List ℤ) (V W : Type 0) → (V → W) → HaveBlocks did holds out P old hours W new → HaveBlocks did holds out P old hours V new
    have_less old new [] V W less same = same
    have_less old new (hour ∷ hours) V W less (inl (next, has, have)) = inl (next, has, have_less next new hours V W less have)
    have_less old new (hour ∷ hours) V W less (inr (failed, left)) = inr ((λ v. failed (less v)), left)

    -- nothing was written, and not all went well
    pub have_none : (old : S) (hours : List ℤ) (W : Type 0) → (W → ⊥) → HaveBlocks did holds out P old hours W old
    have_none old [] W failed = refl
    have_none old (hour ∷ hours) W failed = inr (failed, inl refl)

    -- some hours, of which not all went well, and those after them
    pub have_cut : (old new : S) (hours later : List ℤ) (V W : Type 0) → (V → ⊥) → (W → ⊥) → HaveBlocks did holds out P old hours V new → HaveBlocks did holds out P old (hours ++ later) W new
    have_cut old new [] later V W not failed same = subst (λ (s : S). HaveBlocks did holds out P old later W s) (sym same) (have_none old later W failed)
    have_cut old new (hour ∷ hours) later V W not failed (inl (next, has, have)) = inl (next, has, have_cut next new hours later V W not failed have)
    have_cut old new (hour ∷ hours) later V W not failed (inr (fails, left)) = inr (failed, left)

    -- one hour more
    pub have_one_more : (old middle new : S) (hours : List ℤ) (i : ℕ) (hour : ℤ) → i < length hours → hour ≡ get_or hours i hour → HaveBlocks did holds out P old (take i hours) ⊤ middle
        → HasBlock did holds out P middle hour new → HaveBlocks did holds out P old (take (i + 1) hours) ⊤ new
    have_one_more old middle new hours i hour lt is have has =
        let last : HaveBlocks did holds out P middle (hour ∷ []) ⊤ new = inl (new, has, refl) in
        subst (λ (hs : List ℤ). HaveBlocks did holds out P old hs ⊤ new) (ap (λ (h : ℤ). take i hours ++ h ∷ []) is ∙ sym (take_more hours i hour lt)) (have_then old middle new (take i hours) (hour ∷ []) ⊤ have last)

    -- up to an hour at which not all went well
    pub have_up_to : (old middle new : S) (hours : List ℤ) (i : ℕ) (hour : ℤ) (W : Type 0) → i < length hours → hour ≡ get_or hours i hour → HaveBlocks did holds out P old (take i hours) ⊤ middle
        → (W → ⊥) → (new ≡ middle) ⊎ GivesUpBlock did holds out P middle hour new → HaveBlocks did holds out P old hours W new
    have_up_to old middle new hours i hour W lt is have failed left =
        let here : HaveBlocks did holds out P middle (hour ∷ drop (suc i) hours) W new = inr (failed, left) in
        subst (λ (hs : List ℤ). HaveBlocks did holds out P old hs W new)
        (ap (λ (h : ℤ). take i hours ++ h ∷ drop (suc i) hours) is ∙ ap (λ (hs : List ℤ). take i hours ++ hs) (sym (drop-cons hours i hour lt)) ∙ take-append-drop i hours)
        (have_then old middle new (take i hours) (hour ∷ drop (suc i) hours) W have here)

    -- all hours
    pub have_all : (old new : S) (hours : List ℤ) (i : ℕ) (W : Type 0) → length hours ≤ i → HaveBlocks did holds out P old (take i hours) ⊤ new → HaveBlocks did holds out P old hours W new
    have_all old new hours i W past have = subst (λ (hs : List ℤ). HaveBlocks did holds out P old hs W new) (take_all i hours past) (have_less old new (take i hours) W ⊤ (λ _. tt) have)

  -- ---- in other words

  module _ (P Q : ℤ → Text → Block → Type 0) where
    left_more : (old : S) (hour : ℤ) (new : S) → ((name : Text) (block : Block) → P hour name block → Q hour name block) → (new ≡ old) ⊎ GivesUpBlock did holds out P old hour new → (new ≡ old) ⊎ GivesUpBlock did holds out Q old hour new
    left_more old hour new more (inl same) = inl same
    left_more old hour new more (inr (name, block, is, wrote)) = inr (name, block, more name block is, wrote)

    -- what holds of the blocks of these hours
    pub have_more : (old new : S) (hours : List ℤ) (W : Type 0) → ((hour : ℤ) → Contains hours hour → (name : Text) (block : Block) → P hour name block → Q hour name block) → HaveBlocks did holds out P old hours W new
        → HaveBlocks did holds out Q old hours W new
    have_more old new [] W more same = same
    have_more old new (hour ∷ hours) W more (inl (next, (name, block, is, at), have)) =
        inl (next, (name, block, more hour (0, omega arith, refl) name block is, at), have_more next new hours W (λ (later : ℤ) (among : Contains hours later). more later (suc among.0, omega (arith, among.1), among.2)) have)
    have_more old new (hour ∷ hours) W more (inr (failed, left)) = inr (failed, left_more old hour new (more hour (0, omega arith, refl)) left)

  -- ---- one block

  module _ (old new : S) (name : Text) (block : Block) where
    pub wrote : {T E : Type 0} (r : Result T E) → WritesBlock did holds old out name block (IsOk r) new → OnOk r (WritesBlock did holds old out name block ⊤ new)
    wrote {T = T} {E = E} (Ok x) it = writes_less did holds old new ⊤ (IsOk {T = T} {E = E} (Ok x)) (λ _. refl) out name block it
    wrote (Err e) it = tt

    pub left : {T E : Type 0} (r : Result T E) → WritesBlock did holds old out name block (IsOk r) new → OnErr r ((new ≡ old) ⊎ WritesBlock did holds old out name block ⊥ new)
    left (Ok x) it = tt
    left {T = T} {E = E} (Err e) it = inr (writes_less did holds old new ⊥ (IsOk {T = T} {E = E} (Err e)) (λ (no : ⊥). absurd no) out name block it)

    module _ (P : ℤ → Text → Block → Type 0) (hour : ℤ) (is : P hour name block) where
      pub has : {T E : Type 0} (r : Result T E) → OnOk r (WritesBlock did holds old out name block ⊤ new) → OnOk r (HasBlock did holds out P old hour new)
      has (Ok x) it = (name, block, is, inr it)
      has (Err e) it = tt

      pub leaves : (new ≡ old) ⊎ WritesBlock did holds old out name block ⊥ new → (new ≡ old) ⊎ GivesUpBlock did holds out P old hour new
      leaves (inl same) = inl same
      leaves (inr it) = inr (name, block, is, it)

      pub has_left : {T E : Type 0} (r : Result T E) → OnErr r ((new ≡ old) ⊎ WritesBlock did holds old out name block ⊥ new) → OnErr r ((new ≡ old) ⊎ GivesUpBlock did holds out P old hour new)
      has_left (Ok x) it = tt
      has_left (Err e) it = leaves it
