-- Label sets as the keys of a map.
use Rattle.std.proofs.Common.{◌≡◌, ℕ, ◌+◌, Bool, true, false, cond, List, [], ◌∷◌, ◌++◌, Some, refl, sym, ap, ◌∙◌, arith}
use Rattle.std.specs.List.{flat_map, fold, list_any, position_or_len}
use Rattle.std.specs.Option.{option_map}
use Rattle.indexmap.specs.IndexSet.{insert_key}
use Rattle.wal_record.specs.declared.labels.Label.{Label}
use Rattle.wal_record.specs.Hashes.{label_input}
use Rattle.wal_record.specs.Labels.{same_labels}
use Rattle.head_series.specs.Table.{with_series}
use Rattle.head_series.specs.Texts.{place}
use Rattle.head_live.specs.declared.set_key.SetKey.{SetKey}
use Rattle.head_live.specs.Keys.{labels_of_keys}
use Rattle.head_live.proofs.SetLemmas.{same_self}
use Rattle.std.specs.Prelude.{◌||◌, not, if◌then◌else◌}

fold_both : {S X : Type 0} (f : S → X → S) (s : S) (xs ys : List X) → fold f s (xs ++ ys) ≡ fold f (fold f s xs) ys
fold_both f s [] ys = refl
fold_both f s (x ∷ xs) ys = fold_both f (f s x) xs ys

inputs_both : (ls ms : List Label) → flat_map label_input (ls ++ ms) ≡ flat_map label_input ls ++ flat_map label_input ms
inputs_both [] ms = refl
inputs_both (l ∷ ls) ms = ap (λ t. l.name ∷ l.value ∷ t) (inputs_both ls ms)

-- the state after one label more
pub written_more : {S : Type 0} (f : S → List ℕ → S) (s t u v : S) (ls more : List Label) (l : Label) → t ≡ fold f s (flat_map label_input ls) → more ≡ ls ++ l ∷ [] → u ≡ f t l.name → v ≡ f u l.value
    → v ≡ fold f s (flat_map label_input more)
written_more f s t u v ls more l before is first second =
    second ∙ ap (λ w. f w l.value) (first ∙ ap (λ w. f w l.name) before)
    ∙ sym (ap (λ ms. fold f s (flat_map label_input ms)) is ∙ ap (fold f s) (inputs_both ls (l ∷ [])) ∙ fold_both f s (flat_map label_input ls) (l.name ∷ l.value ∷ []))

abbrev same_key : SetKey → SetKey → Bool
same_key a b = same_labels a.labels.value b.labels.value

any_keys : (k : SetKey) (keys : List SetKey) → list_any (same_key k) keys ≡ list_any (same_labels k.labels.value) (labels_of_keys keys)
any_keys k [] = refl
any_keys k (x ∷ keys) = ap (λ b. same_labels k.labels.value x.labels.value || b) (any_keys k keys)

keys_both : (xs ys : List SetKey) → labels_of_keys (xs ++ ys) ≡ labels_of_keys xs ++ labels_of_keys ys
keys_both [] ys = refl
keys_both (x ∷ xs) ys = ap (λ ls. x.labels.value ∷ ls) (keys_both xs ys)

-- the label sets once one was inserted
pub keys_with : (k : SetKey) (keys : List SetKey) → labels_of_keys (insert_key same_key keys k) ≡ with_series (labels_of_keys keys) k.labels.value
keys_with k keys = by (list_any (same_key k) keys) ∙ ap (λ b. if b then labels_of_keys keys else labels_of_keys keys ++ k.labels.value ∷ []) (any_keys k keys)
  where
    by : (b : Bool) → labels_of_keys (if b then keys else keys ++ k ∷ []) ≡ (if b then labels_of_keys keys else labels_of_keys keys ++ k.labels.value ∷ [])
    by true = refl
    by false = keys_both keys (k ∷ [])

abbrev index_in : SetKey → List SetKey → ℕ
index_in k keys = position_or_len (same_key k) keys

place_some : (k : SetKey) (keys : List SetKey) → list_any (same_key k) keys ≡ true → place (same_labels k.labels.value) (labels_of_keys keys) ≡ Some (index_in k keys)
place_some k [] h = cc
place_some k (x ∷ keys) h = by (same_labels k.labels.value x.labels.value) h (place_some k keys)
  where
    by : (b : Bool) → (b || list_any (same_key k) keys) ≡ true → (list_any (same_key k) keys ≡ true → place (same_labels k.labels.value) (labels_of_keys keys) ≡ Some (index_in k keys))
        → (if b then Some 0 else option_map (λ n. n + 1) (place (same_labels k.labels.value) (labels_of_keys keys))) ≡ Some (cond (not b) (1 + index_in k keys) 0)
    by true e more = refl
    by false e more = ap (option_map (λ n. n + 1)) (more e) ∙ ap Some (omega arith)

place_none : (k : SetKey) (keys : List SetKey) → list_any (same_key k) keys ≡ false → place (same_labels k.labels.value) (labels_of_keys (keys ++ k ∷ [])) ≡ Some (index_in k keys)
place_none k [] h = rw (same_self k.labels.value) refl
place_none k (x ∷ keys) h = by (same_labels k.labels.value x.labels.value) h (place_none k keys)
  where
    by : (b : Bool) → (b || list_any (same_key k) keys) ≡ false → (list_any (same_key k) keys ≡ false → place (same_labels k.labels.value) (labels_of_keys (keys ++ k ∷ [])) ≡ Some (index_in k keys))
        → (if b then Some 0 else option_map (λ n. n + 1) (place (same_labels k.labels.value) (labels_of_keys (keys ++ k ∷ [])))) ≡ Some (cond (not b) (1 + index_in k keys) 0)
    by true e more = absurd cc
    by false e more = ap (option_map (λ n. n + 1)) (more e) ∙ ap Some (omega arith)

-- the index of the label set among them
pub place_key : (k : SetKey) (keys : List SetKey) → place (same_labels k.labels.value) (labels_of_keys (insert_key same_key keys k)) ≡ Some (index_in k keys)
place_key k keys = by (list_any (same_key k) keys) refl
  where
    by : (b : Bool) → list_any (same_key k) keys ≡ b → place (same_labels k.labels.value) (labels_of_keys (if b then keys else keys ++ k ∷ [])) ≡ Some (index_in k keys)
    by true e = place_some k keys e
    by false e = place_none k keys e
