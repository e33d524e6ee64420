-- The hints of a block, as values and as what these stand for.
use Rattle.std.proofs.Common.{◌≡◌, ◌↔◌, ℕ, zero, suc, ◌<◌, List, [], ◌∷◌, length, map, Bool, Option, Some, None, refl, sym, ◌∙◌, ap, subst, arith, All, Any, IsSome, IsTrue, MatchOption}
use Rattle.std.specs.Prelude.{IsUtf8}
use Rattle.std.proofs.lemmas.List.{get_or-map, length-map}
use Rattle.std.proofs.lemmas.List.Elements.{All-map}
use Rattle.serde_json.specs.Data.{Data, null, boolean, number, string, array, object, Items, no_items, item}
use Rattle.serde_json.specs.Find.{as_array, as_str}
use Rattle.serde_json.specs.Read.{read}
use Rattle.serde_json.specs.View.{items_of, items_view, view}
use Rattle.serde_json.specs.declared.value.Value.{Value}
use Rattle.log_directory.specs.declared.meta.BlockTimes.{BlockTimes}
use Rattle.log_directory.specs.Metas.{AreHints, IsMeta, IsMetaText, SaysLate, late_hint}

-- a list of items is that of one list of data
items_of_same : (xs ys : List Data) → items_of xs ≡ items_of ys → xs ≡ ys
items_of_same [] [] e = refl
items_of_same [] (y ∷ ys) e = absurd (cc)
items_of_same (x ∷ xs) [] e = absurd (cc)
items_of_same (x ∷ xs) (y ∷ ys) e =
    let rest : items_of xs ≡ items_of ys = cc in
    let same : xs ≡ ys = items_of_same xs ys rest in
    let first : x ≡ y = cc in
    cc

array_of : (d : Data) (items : Items) → as_array d ≡ Some items → d ≡ array items
array_of null items e = absurd (cc)
array_of (boolean b) items e = absurd (cc)
array_of (number n) items e = absurd (cc)
array_of (string s) items e = absurd (cc)
array_of (array ds) items e = cc
array_of (object ms) items e = absurd (cc)

any_mapped : {X Y : Type 0} (P : Y → Type 0) (f : X → Y) (xs : List X) → Any (λ x. P (f x)) xs → Any P (map f xs)
any_mapped P f xs (k, x, lt, e, p) = (k, f x, (simp length-map lt), get_or-map f xs k x (f x) lt ∙ ap f e, p)

any_unmapped : {X Y : Type 0} (P : Y → Type 0) (f : X → Y) (xs : List X) → Any P (map f xs) → Any (λ x. P (f x)) xs
any_unmapped P f [] (k, y, lt, e, p) = absurd (omega arith)
any_unmapped P f (x ∷ xs) (zero, y, lt, e, p) = (0, x, omega arith, refl, subst P (sym e) p)
any_unmapped P f (x ∷ xs) (suc k, y, lt, e, p) =
    let less : k < length (map f xs) = omega arith in
    let rest = any_unmapped P f xs (k, y, less, e, p) in
    (suc rest.0, rest.1, omega (arith, rest.2), rest.3, rest.4)

all_unmapped : {X Y : Type 0} (P : Y → Type 0) (f : X → Y) (xs : List X) → All P (map f xs) → All (λ x. P (f x)) xs
all_unmapped P f xs all k d lt = subst P (get_or-map f xs k d (f d) lt) (all k (f d) (simp length-map lt))

-- these texts are the hints
pub says_late : (d : Data) (values : List Value) (late : Bool) → as_array d ≡ Some (items_view values) → All (λ v. IsSome (as_str (view v))) values
    → (IsTrue late ↔ Any (λ v. view v ≡ late_hint) values) → SaysLate (AreHints (Some d)) late
says_late d values late is texts says = record {
  hints = map view values;
  listed = (array_of d _ is, All-map (λ hint. IsSome (as_str hint)) view values texts);
  says = (λ yes. any_mapped (λ hint. hint ≡ late_hint) view values (says.0 yes), λ one. says.1 (any_unmapped (λ hint. hint ≡ late_hint) view values one));
}

-- these are not all texts, so no texts are the hints
pub no_hints : (d : Data) (values : List Value) → as_array d ≡ Some (items_view values) → (All (λ v. IsSome (as_str (view v))) values → ⊥)
    → (hints : List Data) → AreHints (Some d) hints → ⊥
no_hints d values is not_texts hints (e, texts) =
    let listed : d ≡ array (items_view values) = array_of d _ is in
    let items : items_of hints ≡ items_of (map view values) = cc in
    let same : hints ≡ map view values = items_of_same hints (map view values) items in
    not_texts (all_unmapped (λ hint. IsSome (as_str hint)) view values (subst (λ (hs : List Data). All (λ hint. IsSome (as_str hint)) hs) same texts))

-- what is found in the data of a text is found in the text
pub meta_text : (bytes : List ℕ) (d : Data) (found : Option BlockTimes) → IsUtf8 bytes → read bytes ≡ Some d
    → MatchOption found ((times : BlockTimes) → IsMeta d times → ⊥) (IsMeta d) → MatchOption found ((times : BlockTimes) → IsMetaText bytes times → ⊥) (IsMetaText bytes)
meta_text bytes d None utf8 is none = λ times text.
    let same : text.meta ≡ d = let e : Some text.meta ≡ Some d = sym text.is ∙ is in cc in
    none times (subst (λ (m : Data). IsMeta m times) same text.says)
meta_text bytes d (Some times) utf8 is says = record { utf8 = utf8; meta = d; is = is; says = says }
