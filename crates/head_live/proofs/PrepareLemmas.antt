-- Rows whose labels are read and whose label sets are numbered, one after another.
use Rattle.std.proofs.Common.{◌≡◌, ℕ, ◌+◌, ◌<◌, Bool, true, false, List, [], ◌∷◌, ◌++◌, Vec, Some, ap, sym, subst, ◌∙◌, refl, append_assoc, length, get_or, take, drop}
use Rattle.std.specs.Prelude.{All, map, slice_get, unwrap_or, if◌then◌else◌}
use Rattle.std.specs.Global.{Global}
use Rattle.std.proofs.lemmas.List.{map-append, take-append-drop, take-map, take_more}
use Rattle.std.proofs.lemmas.List.Elements.{All-append, All-cons, All-map, All-nil}
use Rattle.std.proofs.lemmas.Option.{slice_get-map, slice_get_read}
use Rattle.std.specs.Option.{option_map}
use Rattle.wal_record.specs.declared.labels.Label.{Label}
use Rattle.wal_record.specs.declared.labels.LabelFault.{LabelFault}
use Rattle.wal_record.specs.declared.labels.LabelFault.TheVariants as label
use Rattle.wal_record.specs.Labels.{IsLabelSet, IsNext, Labels, label as label_of, same_labels}
use Rattle.head_series.specs.Table.{has_series, with_series}
use Rattle.head_series.specs.Texts.{place}
use Rattle.head_live.specs.declared.fault.PrepareFault.{PrepareFault}
use Rattle.head_live.specs.declared.fault.PrepareFault.TheVariants as prepare
use Rattle.head_live.specs.declared.rows.RawRow.{RawRow}
use Rattle.head_live.specs.Rows.{IsFirstBad, IsRefusal, Row, row_of}
use Rattle.head_live.specs.Refused.{IsRefusedAt, IsRefusedSet, labels_of}
use Rattle.head_live.proofs.SetLemmas.{at_place, place_kept}

-- ---- the labels of a row

abbrev Pair : Type 0
Pair = Vec ℕ Global × Vec ℕ Global

abbrev label_at : Pair → Label
label_at p = label_of p.0.items p.1.items

-- the labels before a pair, its own, and those after it
labels_parted : (pairs : List Pair) (k : ℕ) (pair : Pair) → k < length pairs → pair ≡ get_or pairs k pair → labels_of pairs ≡ labels_of (take k pairs) ++ label_at pair ∷ labels_of (drop (k + 1) pairs)
labels_parted pairs k pair within is =
    ap labels_of (sym (take-append-drop (k + 1) pairs))
    ∙ (map-append label_at (take (k + 1) pairs) (drop (k + 1) pairs)
    ∙ (ap (λ ps. labels_of ps ++ labels_of (drop (k + 1) pairs)) (take_more pairs k pair within ∙ ap (λ p. take k pairs ++ p ∷ []) (sym is))
    ∙ (ap (λ ls. ls ++ labels_of (drop (k + 1) pairs)) (map-append label_at (take k pairs) (pair ∷ [])) ∙ append_assoc (labels_of (take k pairs)) (label_at pair ∷ []) (labels_of (drop (k + 1) pairs)))))

-- a label that cannot stand after those before it
pub label_refused : (pairs : List Pair) (k : ℕ) (pair : Pair) (name : List ℕ) (front : Labels) (fault : LabelFault) → k < length pairs → pair ≡ get_or pairs k pair → name ≡ pair.0.items
    → front ≡ labels_of (take k pairs) → IsLabelSet front → (fault ≡ label.EmptyName → length name ≡ 0) → (fault ≡ label.NotAscending → (0 < length name) × (IsNext front name → ⊥))
    → IsRefusedSet (labels_of pairs) fault
label_refused pairs k pair name front label.EmptyName within is named before ordered empty order = record {
  front = front;
  next = label_at pair;
  rest = labels_of (drop (k + 1) pairs);
  whole = labels_parted pairs k pair within is ∙ ap (λ ls. ls ++ label_at pair ∷ labels_of (drop (k + 1) pairs)) (sym before);
  ordered = ordered;
  bad = subst (λ n. length n ≡ 0) named (empty refl);
}
label_refused pairs k pair name front label.NotAscending within is named before ordered empty order = record {
  front = front;
  next = label_at pair;
  rest = labels_of (drop (k + 1) pairs);
  whole = labels_parted pairs k pair within is ∙ ap (λ ls. ls ++ label_at pair ∷ labels_of (drop (k + 1) pairs)) (sym before);
  ordered = ordered;
  bad = subst (λ n. (0 < length n) × (IsNext front n → ⊥)) named (order refl);
}
label_refused pairs k pair name front label.Memory within is named before ordered empty order = tt

-- ---- the first row that is refused

abbrev IsOrdered : RawRow → Type 0
IsOrdered raw = IsLabelSet (row_of raw).labels

pub ordered_more : (raws : List RawRow) (k : ℕ) (raw : RawRow) → k < length raws → raw ≡ get_or raws k raw → All IsOrdered (take k raws) → IsOrdered raw → All IsOrdered (take (k + 1) raws)
ordered_more raws k raw within is before here =
    subst (All IsOrdered) (sym (take_more raws k raw within))
    (All-append IsOrdered (take k raws) (get_or raws k raw ∷ []) before (All-cons IsOrdered (get_or raws k raw) [] (subst IsOrdered is here) (All-nil IsOrdered)))

pub row_refused : (raws : List RawRow) (k : ℕ) (raw : RawRow) (fault : PrepareFault) → k < length raws → raw ≡ get_or raws k raw → All IsOrdered (take k raws) → IsRefusedAt k (row_of raw).labels fault → IsRefusal (map row_of raws) fault
row_refused raws k raw (prepare.Labels row fault) within is before (at, bad) = subst (λ n. IsFirstBad (map row_of raws) n fault) (sym at) first where
  first : IsFirstBad (map row_of raws) k fault
  first = record {
    row = row_of raw;
    here = slice_get-map row_of raws k ∙ ap (option_map row_of) (slice_get_read raws (length raws) k raw refl within is);
    before = subst (All (λ (r : Row). IsLabelSet r.labels)) (sym (take-map row_of k raws)) (All-map (λ (r : Row). IsLabelSet r.labels) row_of (take k raws) before);
    bad = bad;
  }
row_refused raws k raw prepare.Memory within is before refused = tt

-- ---- the numbers of label sets

pub placed_kept : (l m : Labels) (sets : List Labels) (i : ℕ) → place (same_labels l) sets ≡ Some i → place (same_labels l) (with_series sets m) ≡ Some i
placed_kept l m sets i p = at (has_series sets m) where
  at : (b : Bool) → place (same_labels l) (if b then sets else sets ++ m ∷ []) ≡ Some i
  at true = p
  at false = place_kept l m sets i p

-- the labels in a place
pub at_number : (l : Labels) (sets : List Labels) (i : ℕ) → place (same_labels l) sets ≡ Some i → unwrap_or (slice_get sets i) [] ≡ l
at_number l sets i p = ap (λ o. unwrap_or o []) (at_place l sets i p)
