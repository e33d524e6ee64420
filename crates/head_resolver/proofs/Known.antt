-- The items of a label set, with one entry more.
use Rattle.std.proofs.Common.{◌≡◌, ℕ, ◌==◌, Bool, true, false, List, [], ◌∷◌, ◌++◌, Some, None, Option, ap, sym, subst, ◌∙◌, refl}
use Rattle.std.specs.Prelude.{◌||◌, map, filter, if◌then◌else◌}
use Rattle.std.specs.List.{list_any}
use Rattle.std.proofs.lemmas.List.{map-append}
use Rattle.std.proofs.lemmas.List.Folds.{list_any-append}
use Rattle.std.proofs.lemmas.List.Elements.{filter-append}
use Rattle.hw_bytes.specs.Lists.{or_else, if_new, distinct}
use Rattle.hw_bytes.proofs.Lists.{along-push, append_none, by_push, map_push, flat_map-push, last_found-push, list_any-distinct}
use Rattle.wal_record.specs.Labels.{same_labels}
use Rattle.wal_record.specs.Entries.{Entry, series, sample, stone}
use Rattle.wal_record.proofs.Equality.{labels_same}
use Rattle.head_column.specs.declared.items.Item.{Item}
use Rattle.head_series.specs.Table.{Labels, has_series}
use Rattle.head_series.specs.Bindings.{Binding, bound_by, series_of, owner as owner_of}
use Rattle.head_resolver.specs.Owners.{binding, bindings, owner}
use Rattle.head_resolver.specs.Counts.{sample_item, stone_item, with_owner, known_at, known, items_of}
use Rattle.head_resolver.proofs.Lists.{or_first, or_left, or_right}

pub bindings-push : (es : List Entry) (e : Entry) → bindings (es ++ e ∷ []) ≡ bindings es ++ binding e
bindings-push es e = flat_map-push binding es e

-- the label sets that are bound, in order
abbrev pub label_sets : List Binding → List Labels
label_sets bs = map (λ b. b.labels) bs

-- a binding was made with the label set
abbrev pub is_bound : List Binding → Labels → Bool
is_bound bs l = list_any (same_labels l) (label_sets bs)

pub is_bound-push : (bs : List Binding) (b : Binding) (l : Labels) → is_bound (bs ++ b ∷ []) l ≡ (is_bound bs l || (same_labels l b.labels || false))
is_bound-push bs b l = ap (list_any (same_labels l)) (map_push (λ (c : Binding). c.labels) bs b) ∙ list_any-append (same_labels l) (label_sets bs) (b.labels ∷ [])

-- the series are the label sets that are bound
pub is_bound-series_of : (bs : List Binding) (l : Labels) → list_any (same_labels l) (series_of bs) ≡ is_bound bs l
is_bound-series_of bs l = list_any-distinct same_labels labels_same.exact l (label_sets bs)

-- an owner is bound
pub owner_is_bound : (bs : List Binding) (r : ℕ) (l : Labels) → owner_of bs r ≡ Some l → is_bound bs l ≡ true
owner_is_bound bs r l = by_push (λ cs. owner_of cs r ≡ Some l → is_bound cs l ≡ true) (λ h. cc) step bs where
  step : (cs : List Binding) (b : Binding) → (owner_of cs r ≡ Some l → is_bound cs l ≡ true) → owner_of (cs ++ b ∷ []) r ≡ Some l → is_bound (cs ++ b ∷ []) l ≡ true
  step cs b f h = is_bound-push cs b l ∙ at (b.reference == r) (sym (last_found-push (bound_by r) cs b) ∙ h) where
    at : (c : Bool) → or_else (if c then Some b.labels else None) (owner_of cs r) ≡ Some l → (is_bound cs l || (same_labels l b.labels || false)) ≡ true
    at true k = let e : b.labels ≡ l = cc in or_right (is_bound cs l) (same_labels l b.labels || false) (or_left (same_labels l b.labels) false (subst (λ m. same_labels l m ≡ true) (sym e) (labels_same.reflexive l)))
    at false k = or_left (is_bound cs l) (same_labels l b.labels || false) (f k)

-- of some known items those of the label set
abbrev mine : Labels → List (Labels × Item) → List Item
mine l ks = map (λ k. k.1) (filter (λ k. same_labels l k.0) ks)

items_of-push : (l : Labels) (es : List Entry) (e : Entry) → items_of l (es ++ e ∷ []) ≡ items_of l es ++ mine l (known_at es e)
items_of-push l es e =
    ap (mine l) (along-push known_at es e)
    ∙ ap (map (λ (k : Labels × Item). k.1)) (filter-append (λ (k : Labels × Item). same_labels l k.0) (known es) (known_at es e))
    ∙ map-append (λ (k : Labels × Item). k.1) (filter (λ k. same_labels l k.0) (known es)) (filter (λ k. same_labels l k.0) (known_at es e))

-- what is not bound owns no item
no_items : (es : List Entry) (l : Labels) → is_bound (bindings es) l ≡ false → items_of l es ≡ []
no_items es l = by_push (λ fs. is_bound (bindings fs) l ≡ false → items_of l fs ≡ []) (λ h. refl) step es where
  not_owned : (fs : List Entry) (r : ℕ) (i : Item) (o : Option Labels) → owner fs r ≡ o → is_bound (bindings fs) l ≡ false → mine l (with_owner o i) ≡ []
  not_owned fs r i None e h = refl
  not_owned fs r i (Some m) e h = at (same_labels l m) refl where
    at : (b : Bool) → same_labels l m ≡ b → map (λ (k : Labels × Item). k.1) (if b then (m, i) ∷ [] else []) ≡ []
    at true k = let found : is_bound (bindings fs) l ≡ true = subst (λ n. is_bound (bindings fs) n ≡ true) (sym (labels_same.exact l m k)) (owner_is_bound (bindings fs) r m e) in cc
    at false k = refl

  not_known : (fs : List Entry) (e : Entry) → is_bound (bindings fs) l ≡ false → mine l (known_at fs e) ≡ []
  not_known fs (series e) h = refl
  not_known fs (sample s) h = not_owned fs s.reference (sample_item s) (owner fs s.reference) refl h
  not_known fs (stone d) h = not_owned fs d.reference (stone_item d) (owner fs d.reference) refl h

  front : (fs : List Entry) (e : Entry) → is_bound (bindings (fs ++ e ∷ [])) l ≡ false → is_bound (bindings fs) l ≡ false
  front fs e h = or_first (is_bound (bindings fs) l) (is_bound (binding e) l)
      (sym (ap (λ bs. is_bound bs l) (bindings-push fs e)
      ∙ ap (list_any (same_labels l)) (map-append (λ (b : Binding). b.labels) (bindings fs) (binding e))
      ∙ list_any-append (same_labels l) (label_sets (bindings fs)) (label_sets (binding e))) ∙ h)

  step : (fs : List Entry) (e : Entry) → (is_bound (bindings fs) l ≡ false → items_of l fs ≡ []) → is_bound (bindings (fs ++ e ∷ [])) l ≡ false → items_of l (fs ++ e ∷ []) ≡ []
  step fs e f h = items_of-push l fs e ∙ ap (λ is. is ++ mine l (known_at fs e)) (f (front fs e h)) ∙ not_known fs e (front fs e h)

-- what is not among the series owns no item
pub no_items_of : (es : List Entry) (l : Labels) → has_series (series_of (bindings es)) l ≡ false → items_of l es ≡ []
no_items_of es l h = no_items es l (sym (is_bound-series_of (bindings es) l) ∙ h)

-- the items of a label set, with one entry more
module _ (l : Labels) (es : List Entry) (e : Entry) where
  -- no item more
  pub items_of-none : known_at es e ≡ [] → items_of l (es ++ e ∷ []) ≡ items_of l es
  items_of-none h = items_of-push l es e ∙ ap (λ ks. items_of l es ++ mine l ks) h ∙ append_none (items_of l es)

  -- one item more of the label set itself
  pub items_of-own : (i : Item) → known_at es e ≡ (l, i) ∷ [] → items_of l (es ++ e ∷ []) ≡ items_of l es ++ i ∷ []
  items_of-own i h =
      items_of-push l es e
      ∙ ap (λ ks. items_of l es ++ mine l ks) h
      ∙ ap (λ b. items_of l es ++ map (λ (k : Labels × Item). k.1) (if b then (l, i) ∷ [] else [])) (labels_same.reflexive l)

  -- one item more of another label set
  pub items_of-other : (m : Labels) (i : Item) → known_at es e ≡ (m, i) ∷ [] → same_labels l m ≡ false → items_of l (es ++ e ∷ []) ≡ items_of l es
  items_of-other m i h other =
      items_of-push l es e
      ∙ ap (λ ks. items_of l es ++ mine l ks) h
      ∙ ap (λ b. items_of l es ++ map (λ (k : Labels × Item). k.1) (if b then (m, i) ∷ [] else [])) other
      ∙ append_none (items_of l es)

-- what one binding more does to the series
pub series_of-push : (bs : List Binding) (b : Binding) → series_of (bs ++ b ∷ []) ≡ series_of bs ++ (if has_series (series_of bs) b.labels then [] else b.labels ∷ [])
series_of-push bs b =
    ap (distinct same_labels) (map_push (λ (c : Binding). c.labels) bs b)
    ∙ along-push (if_new same_labels) (label_sets bs) b.labels
    ∙ ap (λ f. series_of bs ++ (if f then [] else b.labels ∷ [])) (sym (is_bound-series_of bs b.labels))
