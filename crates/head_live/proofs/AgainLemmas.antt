-- Rows that come again, by the numbers of their label sets.
use Rattle.std.proofs.Common.{◌≡◌, ◌⊎◌, inl, inr, ℕ, zero, suc, ◌+◌, ◌<◌, ◌≤◌, Bool, true, false, List, [], ◌∷◌, ◌++◌, Option, Some, All, map, take, length, get_or, refl, sym, ap, subst, ◌∙◌, arith, append_assoc, length-append}
use Rattle.std.specs.Prelude.{ℤ, slice_get, unwrap_or, if◌then◌else◌}
use Rattle.std.specs.List.{AllZip}
use Rattle.std.specs.Option.{option_map}
use Rattle.std.proofs.lemmas.List.{length-map, map-append, take_more}
use Rattle.std.proofs.lemmas.List.Elements.{All-append, All-cons, All-head, All-nil, All-push, All-tail}
use Rattle.std.proofs.lemmas.Option.{get_or_from_slice_get, slice_get-get_or, slice_get-map, slice_get_within, unwrap_or-slice_get}
use Rattle.indexmap.proofs.SetLemmas.{AllZip-push}
use Rattle.wal_record.specs.Labels.{Labels, same_labels}
use Rattle.head_series.specs.Table.{with_series}
use Rattle.head_series.specs.Texts.{place}
use Rattle.head_live.specs.declared.prepared.PreparedRow.{PreparedRow}
use Rattle.head_live.specs.declared.rows.AgainRow.{AgainRow}
use Rattle.head_live.specs.declared.rows.RawRow.{RawRow}
use Rattle.head_live.specs.declared.set_key.SetKey.{SetKey}
use Rattle.head_live.specs.Keys.{labels_of_keys}
use Rattle.head_live.specs.InUse.{AreOnce, IsMoreBy, NumbersInUse}
use Rattle.head_live.specs.Rows.{ReadyRows, Row, row_again, row_of}
use Rattle.head_live.specs.Sets.{AreNumbers, ArePlaced, AreReady, IsReady, again_from, set_in, sets_in, with_set}
use Rattle.head_live.proofs.InUseLemmas.{got_kept}
use Rattle.head_live.proofs.PrepareLemmas.{at_number, placed_kept}
use Rattle.head_live.proofs.SetLemmas.{place_within, same_exact, same_self}

pub all_more : {X : Type 0} (P : X → Type 0) (xs : List X) (k : ℕ) (d : X) → k < length xs → All P (take k xs) → P (get_or xs k d) → All P (take (k + 1) xs)
all_more P xs k d within before here =
    subst (All P) (sym (take_more xs k d within)) (All-append P (take k xs) (get_or xs k d ∷ []) before (All-cons P (get_or xs k d) [] here (All-nil P)))

-- ---- rows by numbers

module _ (places numbers after : List ℕ) (n : ℕ) (grown : IsMoreBy n numbers after) where
  ready_kept : (r : AgainRow) (p : PreparedRow) → IsReady places numbers r p → IsReady places after r p
  ready_kept r p h = record { number = h.number; here = h.here; there = got_kept n numbers after h.number p.set grown h.there; time = h.time; value = h.value }

  all_kept : (rs : List AgainRow) (ps : List PreparedRow) → AllZip (IsReady places numbers) rs ps → AllZip (IsReady places after) rs ps
  all_kept [] [] h = h
  all_kept [] (p ∷ ps) h = h
  all_kept (r ∷ rs) [] h = h
  all_kept (r ∷ rs) (p ∷ ps) h = (ready_kept r p h.0, all_kept rs ps h.1)

  -- one row more is ready
  pub ready_more : (rs more : List AgainRow) (ps all : List PreparedRow) (r : AgainRow) (p : PreparedRow) → AllZip (IsReady places numbers) rs ps → more ≡ rs ++ r ∷ [] → all ≡ ps ++ p ∷ [] → IsReady places after r p → AllZip (IsReady places after) more all
  ready_more rs more ps all r p before rows pushed here =
      subst (λ xs. AllZip (IsReady places after) xs all) (sym rows) (subst (λ ys. AllZip (IsReady places after) (rs ++ r ∷ []) ys) (sym pushed) (AllZip-push (IsReady places after) rs ps r p (all_kept rs ps before) here))

  -- what holds of the numbers holds of one more
  pub numbers_more : (P : ℕ → Type 0) → All P numbers → P n → All P after
  numbers_more P before here = by grown where
    by : (after ≡ numbers) ⊎ (after ≡ numbers ++ n ∷ []) → All P after
    by (inl e) = subst (All P) (sym e) before
    by (inr e) = subst (All P) (sym e) (All-push P numbers n before here)

-- ---- rows with their label sets

module _ (sets : List Labels) (places numbers : List ℕ) where
  pub set_by : (ns : List ℕ) (i n : ℕ) → slice_get ns i ≡ Some n → unwrap_or (slice_get (sets_in sets ns) i) [] ≡ set_in sets n
  set_by ns i n h = ap (λ (o : Option Labels). unwrap_or o []) (slice_get-map (set_in sets) ns i ∙ ap (option_map (set_in sets)) h)

  abbrev with_time : Labels → ℤ → ℤ → Row
  with_time l t v = record { labels = l; time = t; value = v }

  one_again : (r : AgainRow) (p : PreparedRow) → IsReady places numbers r p → with_set (sets_in sets numbers) p ≡ row_again (sets_in sets places) r
  one_again r p h =
      let l : Labels = set_in (sets_in sets numbers) p.set in
      ap (λ (t : ℤ). with_time l t p.value) h.time ∙ ap (λ (v : ℤ). with_time l r.time v) h.value
      ∙ ap (λ (m : Labels). with_time m r.time r.value) (set_by numbers p.set h.number h.there ∙ sym (set_by places r.place h.number h.here))

  pub rows_again : (rs : List AgainRow) (ps : List PreparedRow) → AllZip (IsReady places numbers) rs ps → map (with_set (sets_in sets numbers)) ps ≡ map (row_again (sets_in sets places)) rs
  rows_again [] [] h = refl
  rows_again [] (p ∷ ps) h = absurd h
  rows_again (r ∷ rs) [] h = absurd h
  rows_again (r ∷ rs) (p ∷ ps) h =
      ap (λ x. x ∷ map (with_set (sets_in sets numbers)) ps) (one_again r p h.0)
      ∙ ap (λ xs. row_again (sets_in sets places) r ∷ xs) (rows_again rs ps h.1)

-- ---- the indices of label sets in use

module _ (sets : List Labels) where
  abbrev IsNumber : ℕ → Type 0
  IsNumber n = place (same_labels (set_in sets n)) sets ≡ Some n

  once_tail : (m : ℕ) (ns : List ℕ) → AreOnce (m ∷ ns) → AreOnce ns
  once_tail m ns once i j n a b = (let e : suc i ≡ suc j = once (suc i) (suc j) n a b in omega (arith, e))

  used_next : (m : ℕ) (ns : List ℕ) (i n : ℕ) → All IsNumber (m ∷ ns) → AreOnce (m ∷ ns) → IsNumber n → slice_get ns i ≡ Some n → place (same_labels (set_in sets n)) (sets_in sets ns) ≡ Some i → place (same_labels (set_in sets n)) (sets_in sets (m ∷ ns)) ≡ Some (suc i)
  used_next m ns i n are once is h deep = by (same_labels (set_in sets n) (set_in sets m)) refl
    where
      apart : same_labels (set_in sets n) (set_in sets m) ≡ true → ⊥
      apart e =
          let same = same_exact (set_in sets n) (set_in sets m) e in
          let there : place (same_labels (set_in sets n)) sets ≡ Some m = ap (λ l. place (same_labels l) sets) same ∙ All-head IsNumber m ns are in
          let one : Some n ≡ Some m = sym is ∙ there in
          let at : slice_get (m ∷ ns) 0 ≡ Some n = (let k : n ≡ m = cc in ap Some (sym k)) in
          let never : suc i ≡ 0 = once (suc i) 0 n h at in
          omega (arith, never)

      by : (b : Bool) → same_labels (set_in sets n) (set_in sets m) ≡ b → (if same_labels (set_in sets n) (set_in sets m) then Some 0 else option_map (λ k. k + 1) (place (same_labels (set_in sets n)) (sets_in sets ns))) ≡ Some (suc i)
      by true e = absurd (apart e)
      by false e = ap (λ b. if b then Some 0 else option_map (λ k. k + 1) (place (same_labels (set_in sets n)) (sets_in sets ns))) e ∙ ap (option_map (λ k. k + 1)) deep ∙ ap Some (omega arith)

  -- the label set of a number has its index in the list of those in use
  place_used : (ns : List ℕ) (i n : ℕ) → All IsNumber ns → AreOnce ns → IsNumber n → slice_get ns i ≡ Some n → place (same_labels (set_in sets n)) (sets_in sets ns) ≡ Some i
  place_used [] i n are once is h = absurd cc
  place_used (m ∷ ns) zero n are once is h =
      let e : m ≡ n = cc in
      ap (λ b. if b then Some 0 else option_map (λ k. k + 1) (place (same_labels (set_in sets n)) (sets_in sets ns))) (ap (λ k. same_labels (set_in sets n) (set_in sets k)) e ∙ same_self (set_in sets n))
  place_used (m ∷ ns) (suc i) n are once is h = used_next m ns i n are once is h (place_used ns i n (All-tail IsNumber m ns are) (once_tail m ns once) is h)

  all_zip_right : {A B : Type 0} (P : A → B → Type 0) (Q : B → Type 0) → ((a : A) (b : B) → P a b → Q b) → (xs : List A) (ys : List B) → AllZip P xs ys → All Q ys
  all_zip_right P Q f [] [] h = All-nil Q
  all_zip_right P Q f [] (y ∷ ys) h = absurd h
  all_zip_right P Q f (x ∷ xs) [] h = absurd h
  all_zip_right P Q f (x ∷ xs) (y ∷ ys) h = All-cons Q y ys (f x y h.0) (all_zip_right P Q f xs ys h.1)

  pub placed_again : (places numbers : List ℕ) (rs : List AgainRow) (ps : List PreparedRow) → AreNumbers sets places → AreNumbers sets numbers → AreOnce numbers → AllZip (IsReady places numbers) rs ps → ArePlaced (sets_in sets numbers) ps
  placed_again places numbers rs ps checked used once ready = all_zip_right (IsReady places numbers) (λ p. place (same_labels (with_set (sets_in sets numbers) p).labels) (sets_in sets numbers) ≡ Some p.set) one rs ps ready
    where
      one : (r : AgainRow) (p : PreparedRow) → IsReady places numbers r p → place (same_labels (with_set (sets_in sets numbers) p).labels) (sets_in sets numbers) ≡ Some p.set
      one r p h =
          ap (λ l. place (same_labels l) (sets_in sets numbers)) (set_by sets places numbers numbers p.set h.number h.there)
          ∙ place_used numbers p.set h.number used once (number_in numbers p.set h.number used h.there) h.there
        where
          number_in : (ns : List ℕ) (i n : ℕ) → All IsNumber ns → slice_get ns i ≡ Some n → IsNumber n
          number_in [] i n are e = absurd cc
          number_in (m ∷ ns) zero n are e = subst IsNumber (let k : m ≡ n = cc in k) (All-head IsNumber m ns are)
          number_in (m ∷ ns) (suc i) n are e = number_in ns i n (All-tail IsNumber m ns are) e

-- what holds of the places holds of the numbers that come from them
pub among_places : (P : ℕ → Type 0) (places numbers : List ℕ) → All P places → All (λ n. (k : ℕ) × (slice_get places k ≡ Some n)) numbers → All P numbers
among_places P places numbers all from = λ i d within.
    let at = from i d within in
    subst P (get_or_from_slice_get places at.0 (get_or numbers i d) 0 at.1) (all at.0 0 (slice_get_within places at.0 (get_or numbers i d) at.1))

-- ---- one label set more

module _ (sets : List Labels) (l : Labels) where
  abbrev more : List Labels
  more = with_series sets l

  set_kept : (n : ℕ) → place (same_labels (set_in sets n)) sets ≡ Some n → set_in more n ≡ set_in sets n
  set_kept n h = at_number (set_in sets n) more n (placed_kept (set_in sets n) l sets n h)

  pub sets_kept : (ns : List ℕ) → AreNumbers sets ns → sets_in more ns ≡ sets_in sets ns
  sets_kept [] h = refl
  sets_kept (n ∷ ns) h =
      ap (λ x. x ∷ sets_in more ns) (set_kept n (All-head (λ m. place (same_labels (set_in sets m)) sets ≡ Some m) n ns h))
      ∙ ap (λ xs. set_in sets n ∷ xs) (sets_kept ns (All-tail (λ m. place (same_labels (set_in sets m)) sets ≡ Some m) n ns h))

  pub numbers_kept : (ns : List ℕ) → AreNumbers sets ns → AreNumbers more ns
  numbers_kept ns h = λ k d within. one (get_or ns k d) (h k d within)
    where
      one : (n : ℕ) → place (same_labels (set_in sets n)) sets ≡ Some n → place (same_labels (set_in more n)) more ≡ Some n
      one n e = ap (λ m. place (same_labels m) more) (set_kept n e) ∙ placed_kept (set_in sets n) l sets n e

  pub sets_push : (ns : List ℕ) (n : ℕ) → AreNumbers sets ns → place (same_labels l) more ≡ Some n → sets_in more (ns ++ n ∷ []) ≡ sets_in sets ns ++ l ∷ []
  sets_push ns n h at =
      map-append (set_in more) ns (n ∷ [])
      ∙ ap (λ xs. xs ++ set_in more n ∷ []) (sets_kept ns h)
      ∙ ap (λ m. sets_in sets ns ++ m ∷ []) (at_number l more n at)

  pub numbers_push : (ns : List ℕ) (n : ℕ) → AreNumbers sets ns → place (same_labels l) more ≡ Some n → AreNumbers more (ns ++ n ∷ [])
  numbers_push ns n h at = All-push (λ m. place (same_labels (set_in more m)) more ≡ Some m) ns n (numbers_kept ns h) (ap (λ m. place (same_labels m) more) (at_number l more n at) ∙ at)

-- what is kept of checked rows, with one more
pub ready_one : (sets all : List Labels) (l : Labels) (places pushed : List ℕ) (old new : NumbersInUse) (rows now : List PreparedRow) (room wide n : ℕ) → AreReady sets places old rows room → all ≡ with_series sets l → place (same_labels l) all ≡ Some n
    → pushed ≡ places ++ n ∷ [] → new.numbers ≡ old.numbers → now ≡ rows → old.places ≤ new.places → n < new.places → length places < new.room → length places < wide → AreReady all pushed new now wide
ready_one sets all l places pushed old new rows now room wide n ready grown at more same stay kept here number row =
    let long : length pushed ≡ length places + 1 = omega (arith, ap length more, length-append places (n ∷ [])) in
    let found : place (same_labels l) (with_series sets l) ≡ Some n = ap (place (same_labels l)) (sym grown) ∙ at in
    let used : sets_in all new.numbers ≡ sets_in sets old.numbers = ap (sets_in all) same ∙ ap (λ (ss : List Labels). sets_in ss old.numbers) grown ∙ sets_kept sets l old.numbers ready.used in
    record {
      placed = subst (λ (ss : List Labels). ArePlaced ss now) (sym used) (subst (ArePlaced (sets_in sets old.numbers)) (sym stay) ready.placed);
      checked = subst (λ (ss : List Labels). AreNumbers ss pushed) (sym grown) (subst (AreNumbers (with_series sets l)) (sym more) (numbers_push sets l places n ready.checked found));
      used = subst (λ (ss : List Labels). AreNumbers ss new.numbers) (sym grown) (subst (AreNumbers (with_series sets l)) (sym same) (numbers_kept sets l old.numbers ready.used));
      here = subst (All (λ m. m < new.places)) (sym more) (All-push (λ m. m < new.places) places n (λ k d lt. omega (arith, kept, ready.here k d lt)) here);
      rows_fit = omega (arith, long, row);
      numbers_fit = omega (arith, long, number);
    }

-- ---- the rows in order

pub again_push : (n : ℕ) (raws : List RawRow) (raw : RawRow) → again_from n (raws ++ raw ∷ []) ≡ again_from n raws ++ record { place = n + length raws; time = raw.time; value = raw.value } ∷ []
again_push n [] raw = ap (λ k. record { place = k; time = raw.time; value = raw.value } ∷ []) (omega arith)
again_push n (x ∷ raws) raw =
    ap (λ t. record { place = n; time = x.time; value = x.value } ∷ t) (again_push (suc n) raws raw
    ∙ ap (λ k. again_from (suc n) raws ++ record { place = k; time = raw.time; value = raw.value } ∷ []) (omega arith))

abbrev labels_in : RawRow → Labels
labels_in raw = (row_of raw).labels

at_front : (front : List Labels) (l : Labels) (rest : List Labels) → unwrap_or (slice_get (front ++ l ∷ rest) (length front)) [] ≡ l
at_front [] l rest = refl
at_front (x ∷ front) l rest = at_front front l rest

in_next : (front : List Labels) (raw : RawRow) (raws : List RawRow) → map (row_again ((front ++ labels_in raw ∷ []) ++ map labels_in raws)) (again_from (length (front ++ labels_in raw ∷ [])) raws) ≡ map row_of raws
    → map (row_again (front ++ labels_in raw ∷ map labels_in raws)) (again_from (suc (length front)) raws) ≡ map row_of raws
in_next front raw raws deep =
    let longer : front ++ labels_in raw ∷ map labels_in raws ≡ (front ++ labels_in raw ∷ []) ++ map labels_in raws = sym (append_assoc front (labels_in raw ∷ []) (map labels_in raws)) in
    let long : suc (length front) ≡ length (front ++ labels_in raw ∷ []) = omega (arith, length-append front (labels_in raw ∷ [])) in
    ap (λ (sets : List Labels). map (row_again sets) (again_from (suc (length front)) raws)) longer
    ∙ ap (λ (k : ℕ). map (row_again ((front ++ labels_in raw ∷ []) ++ map labels_in raws)) (again_from k raws)) long
    ∙ deep

first_in : (front : List Labels) (raw : RawRow) (rest : List Labels) → row_again (front ++ labels_in raw ∷ rest) (record { place = length front; time = raw.time; value = raw.value }) ≡ row_of raw
first_in front raw rest = ap made_of (at_front front (labels_in raw) rest) where
  made_of : Labels → Row
  made_of l = record { labels = l; time = raw.time; value = raw.value }

in_order : (front : List Labels) (raws : List RawRow) → map (row_again (front ++ map labels_in raws)) (again_from (length front) raws) ≡ map row_of raws
in_order front [] = refl
in_order front (raw ∷ raws) =
    ap (λ (r : Row). r ∷ map (row_again (front ++ labels_in raw ∷ map labels_in raws)) (again_from (suc (length front)) raws)) (first_in front raw (map labels_in raws))
    ∙ ap (λ (rs : List Row). row_of raw ∷ rs) (in_next front raw raws (in_order (front ++ labels_in raw ∷ []) raws))

-- the rows of their own label sets, each in its place
pub rows_in_order : (sets : List Labels) (raws : List RawRow) → sets ≡ map labels_in raws → map (row_again sets) (again_from 0 raws) ≡ map row_of raws
rows_in_order sets raws is = ap (λ ss. map (row_again ss) (again_from 0 raws)) is ∙ in_order [] raws

-- ---- what is lent of prepared rows

-- the numbers lie within the keys
pub numbers_within : (keys given : List SetKey) (numbers have : List ℕ) → given ≡ keys → have ≡ numbers → AreNumbers (labels_of_keys keys) numbers → All (λ n. n < length given) have
numbers_within keys given numbers have same is are = λ k d within.
    let n = get_or have k d in
    let found = subst (AreNumbers (labels_of_keys keys)) (sym is) are k d within in
    let inside = place_within (set_in (labels_of_keys keys) n) (labels_of_keys keys) n found in
    omega (arith, inside, length-map keys (λ (s : SetKey). s.labels.value), ap length same)

-- the label sets in use, as they are lent
pub sets_lent : (keys given : List SetKey) (numbers have : List ℕ) → given ≡ keys → have ≡ numbers → sets_in (labels_of_keys keys) numbers ≡ sets_in (labels_of_keys given) have
sets_lent keys given numbers have same is = ap (λ (ks : List SetKey). sets_in (labels_of_keys ks) numbers) (sym same) ∙ ap (sets_in (labels_of_keys given)) (sym is)

-- a label set by its index
pub here_in : (sets : List Labels) (i : ℕ) (l : Labels) → i < length sets → l ≡ set_in sets i → l ≡ get_or sets i l
here_in sets i l within is = is ∙ unwrap_or-slice_get sets i [] ∙ sym (get_or_from_slice_get sets i (get_or sets i []) l (slice_get-get_or sets i [] within))

-- the rows have their places among the label sets that are lent
pub placed_lent : (keys given : List SetKey) (numbers have : List ℕ) (rows lent : List PreparedRow) → given ≡ keys → have ≡ numbers → lent ≡ rows → ArePlaced (sets_in (labels_of_keys keys) numbers) rows → ArePlaced (sets_in (labels_of_keys given) have) lent
placed_lent keys given numbers have rows lent same is as_lent placed =
    subst (ArePlaced (sets_in (labels_of_keys given) have)) (sym as_lent) (subst (λ (ss : List Labels). ArePlaced ss rows) (sets_lent keys given numbers have same is) placed)

-- the rows, by what is lent
pub rows_lent : (keys given : List SetKey) (numbers have : List ℕ) (rows lent : List PreparedRow) (seen : ReadyRows) {sets : List Labels} → given ≡ keys → have ≡ numbers → lent ≡ rows
    → record { sets = sets; rows = map (with_set (sets_in (labels_of_keys keys) numbers)) rows } ≡ seen → map (with_set (sets_in (labels_of_keys given) have)) lent ≡ seen.rows
rows_lent keys given numbers have rows lent seen {sets} same is as_lent view =
    ap (map (with_set (sets_in (labels_of_keys given) have))) as_lent ∙ ap (λ (ss : List Labels). map (with_set ss) rows) (sym (sets_lent keys given numbers have same is)) ∙ ap (λ (v : ReadyRows). v.rows) view

-- the label set of a key by its index
pub key_at : (keys : List SetKey) (numbers : List ℕ) (i n : ℕ) (key : SetKey) → i < length numbers → n ≡ get_or numbers i 0 → n < length keys → key ≡ get_or keys n key → key.labels.value ≡ get_or (sets_in (labels_of_keys keys) numbers) i key.labels.value
key_at keys numbers i n key within is inside there =
    let f : SetKey → Labels = λ k. k.labels.value in
    let got : slice_get keys n ≡ Some key = slice_get-get_or keys n key inside ∙ ap Some (sym there) in
    let found : unwrap_or (slice_get (labels_of_keys keys) n) [] ≡ key.labels.value = ap (λ (o : Option Labels). unwrap_or o []) (slice_get-map f keys n ∙ ap (option_map f) got) in
    let at : slice_get numbers i ≡ Some n = slice_get-get_or numbers i 0 within ∙ ap Some (sym is) in
    here_in (sets_in (labels_of_keys keys) numbers) i key.labels.value (omega (arith, within, length-map numbers (set_in (labels_of_keys keys))))
    (sym found ∙ sym (set_by (labels_of_keys keys) numbers numbers numbers i n at))
