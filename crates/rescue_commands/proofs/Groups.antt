-- Hours that are cut side by side.
use Rattle.std.specs.Prelude.{◌≡◌, ℕ, zero, suc, ◌+◌, ◌<◌, ◌≤◌, ℤ, length, map, List, [], ◌∷◌, ◌++◌, ⊤, refl}
use Rattle.std.specs.Prelude.{Result, Ok, Err, IfOk}
use Rattle.std.specs.List.{AllZip}
use Rattle.std.proofs.Common.{ap, arith, drop, get_or, inr, subst, sym, take, append_assoc, ◌∙◌}
use Rattle.std.proofs.lemmas.List.{map-append, take-append-drop, take_more}
use Rattle.head_core.specs.Content.{Content}
use Rattle.store.specs.Calls.{Call}
use Rattle.store.specs.Found.{Found}
use Rattle.answers.specs.declared.fault.Fault.{Fault}
use Rattle.block_commands.specs.Folders.{WritesBlock}
use Rattle.rescue_commands.specs.Rescues.{HaveBlocks}
use Rattle.rescue_commands.specs.Steps.{AreBlocksOf, IsBlockOfHead, LeavesBlock}
use Rattle.rescue_commands.specs.declared.cutting.NamedBlock.{NamedBlock}
use Rattle.rescue_commands.specs.declared.cutting.NamedHour.{NamedHour}
use Rattle.rescue_commands.proofs.Written.{have_all, have_cut, have_one_more, have_then, have_up_to, leaves}

-- ---- places of two lists

module _ {A B : Type 0} (R : A → B → Type 0) where
  at_place : (xs : List A) (ys : List B) (i : ℕ) (d : A) (e : B) → AllZip R xs ys → i < length ys → R (get_or xs i d) (get_or ys i e)
  at_place [] [] i d e all lt = absurd (omega (arith, lt))
  at_place [] (y ∷ ys) i d e all lt = absurd all
  at_place (x ∷ xs) [] i d e all lt = absurd all
  at_place (x ∷ xs) (y ∷ ys) zero d e all lt = all.0
  at_place (x ∷ xs) (y ∷ ys) (suc i) d e all lt = at_place xs ys i d e all.1 (omega (arith, lt))

  as_long : (xs : List A) (ys : List B) → AllZip R xs ys → length xs ≡ length ys
  as_long [] [] all = refl
  as_long [] (y ∷ ys) all = absurd all
  as_long (x ∷ xs) [] all = absurd all
  as_long (x ∷ xs) (y ∷ ys) all = ap suc (as_long xs ys all.1)

-- ---- what threads give

module _ (content : Content) where
  -- each thread's answer: the block of its hour
  abbrev pub Cut : NamedHour → Result NamedBlock Fault → Type 0
  Cut it answer = IfOk answer (λ (named : NamedBlock). named.hour ≡ it.hour) × IfOk answer (λ (named : NamedBlock). IsBlockOfHead content it.hour named.ulid named.block)

  pub are_blocks : (hours : List NamedHour) (answers : List (Result NamedBlock Fault)) (blocks : List NamedBlock) → AllZip Cut hours answers → answers ≡ map Ok blocks
      → AreBlocksOf content (map (λ (it : NamedHour). it.hour) hours) blocks
  are_blocks [] [] [] all is = tt
  are_blocks [] [] (y ∷ ys) all is = absurd cc
  are_blocks [] (r ∷ rs) ys all is = absurd all
  are_blocks (x ∷ xs) [] ys all is = absurd all
  are_blocks (x ∷ xs) (r ∷ rs) [] all is = absurd cc
  are_blocks (x ∷ xs) (Err fault ∷ rs) (y ∷ ys) all is = absurd cc
  are_blocks (x ∷ xs) (Ok z ∷ rs) (y ∷ ys) all is =
      let first : z ≡ y = cc in
      let rest : rs ≡ map Ok ys = cc in
      (subst (λ (named : NamedBlock). (named.hour ≡ x.hour) × IsBlockOfHead content x.hour named.ulid named.block) first (all.0.0, all.0.1), are_blocks xs rs ys all.1 rest)

-- ---- names of hours

-- one more is named
pub one_more_named : (hours : List ℤ) (i : ℕ) (named : List NamedHour) (hour : ℤ) (last : NamedHour) → i < length hours → hour ≡ get_or hours i hour → last.hour ≡ hour
    → map (λ (it : NamedHour). it.hour) named ≡ take i hours → map (λ (it : NamedHour). it.hour) (named ++ last ∷ []) ≡ take (i + 1) hours
one_more_named hours i named hour last lt is same so_far =
    map-append (λ (it : NamedHour). it.hour) named (last ∷ [])
    ∙ ap (λ (hs : List ℤ). hs ++ last.hour ∷ []) so_far
    ∙ ap (λ (h : ℤ). take i hours ++ h ∷ []) (same ∙ is)
    ∙ sym (take_more hours i hour lt)

-- ---- blocks that are written in their order

module _ {S : Type 0} (did : S → List Call → S → Type 0) (holds : S → List ℕ → Found → Type 0) (out : List ℕ) (content : Content) where
  abbrev Has : S → List ℤ → Type 0 → S → Type 0
  Has old hours W new = HaveBlocks did holds out (IsBlockOfHead content) old hours W new

  module _ (hours : List ℤ) (blocks : List NamedBlock) (all : AreBlocksOf content hours blocks) (i : ℕ) (named : NamedBlock) (lt : i < length blocks) (is : named ≡ get_or blocks i named) where
    its : (named.hour ≡ get_or hours i named.hour) × IsBlockOfHead content (get_or hours i named.hour) named.ulid named.block
    its =
        subst (λ (it : NamedBlock). (it.hour ≡ get_or hours i named.hour) × IsBlockOfHead content (get_or hours i named.hour) it.ulid it.block) (sym is)
        (at_place (λ (hour : ℤ) (it : NamedBlock). (it.hour ≡ hour) × IsBlockOfHead content hour it.ulid it.block) hours blocks i named.hour named all lt)

    its_block : IsBlockOfHead content named.hour named.ulid named.block
    its_block = subst (λ (hour : ℤ). IsBlockOfHead content hour named.ulid named.block) (sym its.0) its.1

    there : i < length hours
    there = omega (arith, lt, as_long (λ (hour : ℤ) (it : NamedBlock). (it.hour ≡ hour) × IsBlockOfHead content hour it.ulid it.block) hours blocks all)

    pub one_more_written : (old middle new : S) → Has old (take i hours) ⊤ middle → WritesBlock did holds middle out named.ulid named.block ⊤ new → Has old (take (i + 1) hours) ⊤ new
    one_more_written old middle new have wrote =
        have_one_more did holds out (IsBlockOfHead content) old middle new hours i named.hour there its.0 have (named.ulid, named.block, its_block, inr wrote)

    pub written_up_to : (old middle new : S) (W : Type 0) → Has old (take i hours) ⊤ middle → (W → ⊥) → LeavesBlock did holds out middle named new → Has old hours W new
    written_up_to old middle new W have failed left =
        have_up_to did holds out (IsBlockOfHead content) old middle new hours i named.hour W there its.0 have failed (leaves did holds out middle new named.ulid named.block (IsBlockOfHead content) named.hour its_block left)

  pub written_all : (hours : List ℤ) (blocks : List NamedBlock) → AreBlocksOf content hours blocks → (old new : S) (i : ℕ) (W : Type 0) → length blocks ≤ i → Has old (take i hours) ⊤ new → Has old hours W new
  written_all hours blocks all old new i W past have =
      have_all did holds out (IsBlockOfHead content) old new hours i W (omega (arith, past, as_long (λ (hour : ℤ) (it : NamedBlock). (it.hour ≡ hour) × IsBlockOfHead content hour it.ulid it.block) hours blocks all)) have

  -- ---- hours, some at a time

  pub parted : (rest next later : List ℤ) (n : ℕ) → next ≡ take n rest → later ≡ drop n rest → rest ≡ next ++ later
  parted rest next later n front back = sym (ap (λ (hs : List ℤ). hs ++ later) front ∙ ap (λ (hs : List ℤ). take n rest ++ hs) back ∙ take-append-drop n rest)

  -- so many of the hours are written, and these are left
  pub record Left (old : S) (hours rest : List ℤ) (now : S) : Type 0 where
    pub first : List ℤ
    pub whole : first ++ rest ≡ hours
    pub have : Has old first ⊤ now

  pub none_yet : (old : S) (hours : List ℤ) → Left old hours hours old
  none_yet old hours = record { first = []; whole = refl; have = refl }

  pub some_more : (old middle new : S) (hours next later : List ℤ) → Left old hours (next ++ later) middle → Has middle next ⊤ new → Left old hours later new
  some_more old middle new hours next later left have = record {
    first = left.first ++ next;
    whole = append_assoc left.first next later ∙ left.whole;
    have = have_then did holds out (IsBlockOfHead content) old middle new left.first next ⊤ left.have have;
  }

  pub some_failed : (old middle new : S) (hours next later : List ℤ) (V W : Type 0) → (V → ⊥) → (W → ⊥) → Left old hours (next ++ later) middle → Has middle next V new → Has old hours W new
  some_failed old middle new hours next later V W not failed left have =
      subst (λ (hs : List ℤ). Has old hs W new) left.whole
      (have_then did holds out (IsBlockOfHead content) old middle new left.first (next ++ later) W left.have (have_cut did holds out (IsBlockOfHead content) middle new next later V W not failed have))

  pub none_left : (old new : S) (hours rest : List ℤ) (W : Type 0) → length rest ≡ 0 → Left old hours rest new → Has old hours W new
  none_left old new hours [] W none left = subst (λ (hs : List ℤ). Has old hs W new) left.whole (have_then did holds out (IsBlockOfHead content) old new new left.first [] W left.have refl)
  none_left old new hours (hour ∷ rest) W none left = absurd (omega (arith, none))
