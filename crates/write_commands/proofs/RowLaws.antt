-- Reading a row in its parts, and its labels word by word.
use Rattle.std.proofs.Common.{◌≡◌, ℕ, ◌<◌, Bool, true, false, cond, Option, Some, None, MatchOption, Vec, List, [], ◌∷◌, ◌++◌, length, take, drop, refl, sym, ap, ◌∙◌, subst, append_assoc, append-nil, arith, lit<, Bor}
use Rattle.std.proofs.lemmas.List.{flat_map_more, map_push, take-append-drop}
use Rattle.std.proofs.lemmas.Option.{slice_get-map}
use Rattle.std.proofs.lemmas.Slice.Zip.{AllZip-left}
use Rattle.std.proofs.lemmas.Str.Pattern.{drop_at_char}
use Rattle.std.specs.Option.{IsSomeAnd, option_map}
use Rattle.std.specs.Prelude.{if◌then◌else◌, not, slice_get, unwrap_or}
use Rattle.indexmap.proofs.SetLemmas.{AllZip-push}
use Rattle.std.specs.Str.Pattern.{FindsChar, SplitsAroundMatch}
use Rattle.std.specs.List.{flat_map}
use Rattle.std.specs.declared.str.Split.{Split}
use Rattle.std.specs.Str.Iter.{split_has_more, split_pattern, split_steps, split_text}
use Rattle.write_commands.specs.RowTexts.{IsNumberText, IsRowLine, IsValueText, label_word}
use Rattle.wal_record.specs.declared.labels.Label.{Label}
use Rattle.wal_record.specs.Labels.{Labels, label}
use Rattle.head_live.specs.declared.rows.AgainRow.{AgainRow}
use Rattle.head_live.specs.declared.rows.RawRow.{RawRow}
use Rattle.head_live.specs.Rows.{row_again, row_of}
use Rattle.write_commands.specs.declared.rows.RowParts.{RowParts}
use Rattle.write_commands.specs.RowParts.{ArePartsOf, AreSpelled, IsPlaced, SpellsLabels, labels_behind, labels_of, sets_of}
use Rattle.answers.specs.Spellings.{pair_text}

-- ---- the words of a line, which is cut at its spaces

-- what is still to come of the line, with the space before it
abbrev pub left_of : Split ℕ → List ℕ
left_of words = cond (split_has_more words) (32 ∷ split_text words) []

-- a text that is cut at its first space
cut_joined : (text word rest : List ℕ) (more : Bool) (found : Option (ℕ × ℕ)) → FindsChar 32 text found → MatchOption found ((word ≡ text) × (more ≡ false)) (λ p. 0 < p.1 → (word ≡ take p.0 text) × (more ≡ true) × (rest ≡ drop p.1 text)) → text ≡ word ++ cond more (32 ∷ rest) []
cut_joined text word rest more None at cut = sym cut.0 ∙ sym (append-nil word) ∙ ap (λ (b : Bool). word ++ cond b (32 ∷ rest) []) (sym cut.1)
cut_joined text word rest more (Some p) at cut =
    let on : 0 < p.1 = omega (arith, at.1.ends) in
    let parts = cut on in
    sym (take-append-drop p.0 text)
    ∙ ap (λ (t : List ℕ). take p.0 text ++ t) (drop_at_char 32 text p.0 p.1 at.1 (lit< tt))
    ∙ ap (λ (t : List ℕ). t ++ 32 ∷ drop p.1 text) (sym parts.0)
    ∙ ap (λ (t : List ℕ). word ++ 32 ∷ t) (sym parts.2)
    ∙ ap (λ (b : Bool). word ++ cond b (32 ∷ rest) []) (sym parts.1)

-- the next word, and what is left after it
pub word_joined : (s t : Split ℕ) (word : Bor (List ℕ)) → split_pattern s ≡ 32 → split_steps FindsChar (λ a b. b ≡ a) s (Some word) t
    → (split_text s ≡ word.now ++ left_of t) × (left_of s ≡ 32 ∷ (word.now ++ left_of t)) × (split_pattern t ≡ 32)
word_joined s t word space step =
    let cut = step.1.1.1 in
    let joined = cut_joined (split_text s) word.now (split_text t) (split_has_more t) cut.0 (subst (λ (d : ℕ). FindsChar d (split_text s) cut.0) space cut.1) cut.2 in (
      joined,
      ap (λ (b : Bool). cond b (32 ∷ split_text s) []) (sym step.0) ∙ ap (λ (u : List ℕ). 32 ∷ u) joined,
      step.1.0 ∙ space,
    )

-- nothing is left after the last word
pub none_left : (s t : Split ℕ) → split_steps FindsChar (λ a b. b ≡ a) s None t → left_of s ≡ []
none_left s t step = ap (λ (b : Bool). cond b (32 ∷ split_text s) []) (sym step.0)

-- two parts round the first space
pub parted : (text before behind : List ℕ) → SplitsAroundMatch (FindsChar 32) text before behind → text ≡ before ++ 32 ∷ behind
parted text before behind cut =
    sym (take-append-drop cut.0 text)
    ∙ ap (λ (t : List ℕ). take cut.0 text ++ t) (drop_at_char 32 text cut.0 cut.1 cut.2.1 (lit< tt))
    ∙ ap (λ (t : List ℕ). t ++ 32 ∷ drop cut.1 text) (sym cut.3)
    ∙ ap (λ (t : List ℕ). before ++ 32 ∷ t) (sym cut.4)

-- labels that are there stand behind a space
pub behind_some : (text : List ℕ) → 0 < length text → labels_behind text ≡ 32 ∷ text
behind_some [] h = absurd (omega (arith, h))
behind_some (b ∷ text) h = refl

-- no labels, no text
pub behind_none : (text : List ℕ) → length text ≡ 0 → labels_behind text ≡ []
behind_none [] h = refl
behind_none (b ∷ text) h = absurd (omega (arith, h))

-- ---- the labels that words spell

-- one pair more is read and pushed
pub pair_read : {A : Type 0} (text word left after : List ℕ) (pairs more : List (Vec ℕ A × Vec ℕ A)) (p : Vec ℕ A × Vec ℕ A) → text ≡ flat_map label_word (labels_of pairs) ++ left → left ≡ 32 ∷ (word ++ after) → word ≡ pair_text p.0.items p.1.items → more ≡ pairs ++ p ∷ []
    → text ≡ flat_map label_word (labels_of more) ++ after
pair_read {A} text word left after pairs more p so_far rest is pushed =
    let l : Label = label p.0.items p.1.items in
    let made : labels_of more ≡ labels_of pairs ++ l ∷ [] = ap (λ (ps : List (Vec ℕ A × Vec ℕ A)). labels_of ps) pushed ∙ map_push (λ (q : Vec ℕ A × Vec ℕ A). label q.0.items q.1.items) pairs p in
    so_far
    ∙ ap (λ (u : List ℕ). flat_map label_word (labels_of pairs) ++ u) (rest ∙ ap (λ (u : List ℕ). 32 ∷ (u ++ after)) is)
    ∙ sym (append_assoc (flat_map label_word (labels_of pairs)) (label_word l) after)
    ∙ ap (λ (u : List ℕ). u ++ after) (flat_map_more label_word [] (labels_of pairs) l)
    ∙ ap (λ (ls : List Label). flat_map label_word ls ++ after) (sym made)

-- ---- the row, whose labels have their place

-- the labels in a place
labels_in : (first : List RawRow) (place : ℕ) (raw : RawRow) → slice_get first place ≡ Some raw → unwrap_or (slice_get (sets_of first) place) [] ≡ (row_of raw).labels
labels_in first place raw here =
    let f : RawRow → Labels = λ (r : RawRow). (row_of r).labels in
    ap (λ (o : Option Labels). unwrap_or o []) (slice_get-map f first place ∙ ap (option_map f) here)

-- the row of a line
pub row_in : {floats : Bool} (line : List ℕ) (parts : RowParts) (first : List RawRow) (row : AgainRow) → ArePartsOf floats line parts → IsPlaced parts.labels.now first row.place → row.time ≡ parts.time → row.value ≡ parts.value → IsRowLine floats line (row_again (sets_of first) row)
row_in {floats} line parts first row are placed time value = record {
  time_text = are.time_text;
  value_text = are.value_text;
  whole = are.whole ∙ ap (λ (u : List ℕ). are.time_text ++ (32 ∷ are.value_text ++ u)) (placed.spelled ∙ ap (λ (ls : List Label). flat_map label_word ls) (sym (labels_in first row.place placed.raw placed.here)));
  time_spelled = subst (IsNumberText are.time_text) (sym time) are.time_spelled;
  value_spelled = subst (IsValueText floats are.value_text) (sym value) are.value_spelled;
}

-- the text of the labels in a place
pub placed_at : (texts : List (Bor (List ℕ))) (first : List RawRow) (place : ℕ) (text : List ℕ) (found : Bor (List ℕ)) → AreSpelled texts first → slice_get texts place ≡ Some found → text ≡ found.now → IsPlaced text first place
placed_at texts first place text found spelled here same = by (slice_get first place) refl (subst (λ o. MatchOption o (Unit {0}) (λ t. IsSomeAnd (slice_get first place) (Spelled t))) here (AllZip-left Spelled texts first spelled place))
  where
    Spelled : Bor (List ℕ) → RawRow → Type 0
    Spelled t raw = SpellsLabels t.now (row_of raw).labels

    by : (o : Option RawRow) → slice_get first place ≡ o → IsSomeAnd o (Spelled found) → IsPlaced text first place
    by None is some = absurd some
    by (Some raw) is some = record { raw = raw; here = is; spelled = ap labels_behind same ∙ some }

-- ---- texts of labels that are kept

not_true : (b : Bool) → true ≡ not b → b ≡ false
not_true true e = cc
not_true false e = refl

not_false : (b : Bool) → false ≡ not b → b ≡ true
not_false true e = refl
not_false false e = cc

-- a new text, with the first row that has it
pub spelled_more : (texts now : List (Bor (List ℕ))) (text : Bor (List ℕ)) (b : Bool) (first more : List RawRow) (raw : RawRow) → now ≡ (if b then texts else texts ++ text ∷ []) → true ≡ not b → AreSpelled texts first → SpellsLabels text.now (row_of raw).labels → more ≡ first ++ raw ∷ [] → AreSpelled now more
spelled_more texts now text b first more raw keys new before here pushed =
    let are : now ≡ texts ++ text ∷ [] = keys ∙ ap (λ c. if c then texts else texts ++ text ∷ []) (not_true b new) in
    subst (λ ts. AreSpelled ts more) (sym are) (subst (AreSpelled (texts ++ text ∷ [])) (sym pushed) (AllZip-push (λ (t : Bor (List ℕ)) r. SpellsLabels t.now (row_of r).labels) texts first text raw before here))

-- a text that was there
pub texts_stay : (texts now : List (Bor (List ℕ))) (text : Bor (List ℕ)) (b : Bool) → now ≡ (if b then texts else texts ++ text ∷ []) → false ≡ not b → now ≡ texts
texts_stay texts now text b keys old = keys ∙ ap (λ c. if c then texts else texts ++ text ∷ []) (not_false b old)
