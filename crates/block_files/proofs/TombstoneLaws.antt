-- Entries of tombstones, one after another.
use Rattle.std.proofs.Common.{◌≡◌, ℕ, ◌+◌, ◌-◌, ◌<◌, List, [], ◌∷◌, ◌++◌, length, take, drop, refl, sym, ap, subst, ◌∙◌, append_assoc, arith}
use Rattle.std.specs.List.{All}
use Rattle.std.specs.Prelude.{Bool, true, false, not, nat_eq}
use Rattle.std.specs.Cmp.Lexicographic.{pointwise, other_text}
use Rattle.std.proofs.lemmas.List.{append-nil, length-append, take_at}
use Rattle.std.proofs.lemmas.List.Elements.{All-append, All-cons, All-head, All-nil, All-tail}
use Rattle.hw_bytes.specs.Writing.{uvarint, varint}
use Rattle.hw_bytes.proofs.Groups.{uvarint_code}
use Rattle.hw_bytes.proofs.Shortest.{uvarint_shortest}
use Rattle.hw_bytes.specs.Sums.{sum_text}
use Rattle.hw_bytes.proofs.SumLaws.{sum_length}
use Rattle.block_files.specs.declared.tombstones.Tombstone.{Tombstone}
use Rattle.block_files.specs.Tombstones.{IsFit, entry_text, entries_text, tombstones_text}

some_entry : (t : Tombstone) → IsFit t → 0 < length (entry_text t)
some_entry t h =
    let some = uvarint_code.some (uvarint t.series) t.series (uvarint_shortest t.series h.series).spelled in
    omega (arith, length-append (uvarint t.series ++ varint t.run.min_time) (varint t.run.max_time), length-append (uvarint t.series) (varint t.run.min_time))

-- the others of these entries are the rest of the bytes
pub record AreLeft (rest : List ℕ) (all found : List Tombstone) : Type 0 where
  pub others : List Tombstone
  pub is : all ≡ found ++ others
  pub fit : All IsFit others
  pub text : rest ≡ entries_text others

pub all_left : (bytes : List ℕ) (all : List Tombstone) → All IsFit all → bytes ≡ entries_text all → AreLeft bytes all []
all_left bytes all fit e = record { others = all; is = refl; fit = fit; text = e }

-- the next one is the first of the others
pub left_more : (rest more : List ℕ) (all found now : List Tombstone) (t : Tombstone) → 0 < length rest → now ≡ found ++ t ∷ []
    → ((u : Tombstone) (after : List ℕ) → IsFit u → rest ≡ entry_text u ++ after → (t ≡ u) × (more ≡ after)) → AreLeft rest all found → AreLeft more all now
left_more rest more all found now t some push next h = by h.others h.is h.fit h.text
  where
    by : (others : List Tombstone) → all ≡ found ++ others → All IsFit others → rest ≡ entries_text others → AreLeft more all now
    by [] is fit e = absurd (omega (arith, some, ap length e))
    by (u ∷ others) is fit e =
        let n = next u (entries_text others) (All-head IsFit u others fit) e in
        record {
          others = others;
          is = is ∙ ap (λ (v : Tombstone). found ++ v ∷ others) (sym n.0) ∙ sym (append_assoc found (t ∷ []) others) ∙ ap (λ (f : List Tombstone). f ++ others) (sym push);
          fit = All-tail IsFit u others fit;
          text = n.1;
        }

-- no entry is left after the last byte
pub left_none : (rest : List ℕ) (all found : List Tombstone) → length rest ≡ 0 → AreLeft rest all found → found ≡ all
left_none rest all found none h = by h.others h.is h.fit h.text
  where
    by : (others : List Tombstone) → all ≡ found ++ others → All IsFit others → rest ≡ entries_text others → found ≡ all
    by [] is fit e = sym (is ∙ append-nil found)
    by (u ∷ others) is fit e = absurd (omega (arith, some_entry u (All-head IsFit u others fit), ap length e, none, length-append (entry_text u) (entries_text others)))

pub left_bad : (rest : List ℕ) (all found : List Tombstone) → 0 < length rest → ((u : Tombstone) (after : List ℕ) → IsFit u → rest ≡ entry_text u ++ after → ⊥) → AreLeft rest all found → ⊥
left_bad rest all found some next h = by h.others h.fit h.text
  where
    by : (others : List Tombstone) → All IsFit others → rest ≡ entries_text others → ⊥
    by [] fit e = omega (arith, some, ap length e)
    by (u ∷ others) fit e = next u (entries_text others) (All-head IsFit u others fit) e

-- ---- the text

pub text_length : (ts : List Tombstone) → length (tombstones_text ts) ≡ 9 + length (entries_text ts)
unfolding tombstones_text
text_length ts = omega (arith, length-append (entries_text ts) (sum_text (entries_text ts)), sum_length (entries_text ts))

pub text_entries : (bytes body entries : List ℕ) (n : ℕ) (ts : List Tombstone) → body ≡ drop 5 bytes → n ≡ length body → entries ≡ take (n - 4) body → bytes ≡ tombstones_text ts → entries ≡ entries_text ts
unfolding tombstones_text
text_entries bytes body entries n ts b len i e =
    let whole : body ≡ entries_text ts ++ sum_text (entries_text ts) = b ∙ ap (drop 5) e in
    let k : n - 4 ≡ length (entries_text ts) = omega (arith, len, ap length whole, length-append (entries_text ts) (sum_text (entries_text ts)), sum_length (entries_text ts)) in
    i ∙ ap (take (n - 4)) whole ∙ ap (λ (m : ℕ). take m (entries_text ts ++ sum_text (entries_text ts))) k ∙ take_at (entries_text ts) (sum_text (entries_text ts)) (length (entries_text ts)) refl

-- what was written again is not the bytes
pub other_tombstones : (bytes again : List ℕ) (found ts : List Tombstone) → again ≡ tombstones_text found → true ≡ not (pointwise nat_eq again bytes) → found ≡ ts → bytes ≡ tombstones_text ts → ⊥
other_tombstones bytes again found ts a other is e = other_text again bytes (negated (pointwise nat_eq again bytes) other) (a ∙ ap tombstones_text is ∙ sym e)
  where
    negated : (b : Bool) → true ≡ not b → false ≡ b
    negated true e = sym e
    negated false e = refl

pub more_fit : (found now : List Tombstone) (t : Tombstone) → All IsFit found → IsFit t → now ≡ found ++ t ∷ [] → All IsFit now
more_fit found now t h f e = subst (All IsFit) (sym e) (All-append IsFit found (t ∷ []) h (All-cons IsFit t [] f (All-nil IsFit)))
