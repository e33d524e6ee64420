-- Bindings that are yet to be made.
use Rattle.std.proofs.Common.{◌≡◌, ℕ, ◌+◌, ◌*◌, ◌<◌, ◌≤◌, ◌⊎◌, inl, inr, Bool, true, false, List, [], ◌∷◌, ◌++◌, Some, ap, sym, subst, ◌∙◌, refl, arith, length, length-append, take}
use Rattle.std.specs.Prelude.{◌||◌, not, slice_get, if◌then◌else◌}
use Rattle.std.specs.List.{list_any}
use Rattle.std.proofs.lemmas.List.{append_assoc}
use Rattle.wal_record.specs.declared.labels.Label.{Label}
use Rattle.wal_record.specs.Labels.{same_text, same_labels}
use Rattle.head_series.specs.Texts.{Text, has_text, with_text, with_texts, texts_of}
use Rattle.head_series.specs.Table.{Labels, Table, has_series, with_series, AreAlike}
use Rattle.series_references.specs.ReferenceSlots.{low_end}
use Rattle.head_series.specs.Bindings.{Binding}
use Rattle.head_series.specs.Room.{texts_seen, Fits, HavePlaces, IsPlanOf, IsReserved, Planned, series_after, texts_after, text_count, high_count, high_one}
use Rattle.head_series.proofs.TextLemmas.{take_more, texts_of-push, with_texts-append}

any-append : {A : Type 0} (p : A → Bool) (xs ys : List A) → list_any p (xs ++ ys) ≡ (list_any p xs || list_any p ys)
any-append p [] ys = refl
any-append p (x ∷ xs) ys = at (p x) (any-append p xs ys) where
  at : (b : Bool) → list_any p (xs ++ ys) ≡ (list_any p xs || list_any p ys) → (b || list_any p (xs ++ ys)) ≡ ((b || list_any p xs) || list_any p ys)
  at true h = refl
  at false h = h

pub front_same : {A : Type 0} (p : A → Bool) (xs ys : List A) → list_any p xs ≡ true → list_any p (xs ++ ys) ≡ true
front_same p xs ys h = any-append p xs ys ∙ ap (λ b. b || list_any p ys) h

pub back_same : {A : Type 0} (p : A → Bool) (xs ys : List A) → list_any p xs ≡ false → list_any p (xs ++ ys) ≡ list_any p ys
back_same p xs ys h = any-append p xs ys ∙ ap (λ b. b || list_any p ys) h

pub text_known : (ts ms : List Text) (u : Text) → has_text ts u ≡ true → ts ++ ms ≡ with_text (ts ++ ms) u
text_known ts ms u h = sym (ap (λ b. if b then ts ++ ms else (ts ++ ms) ++ u ∷ []) (front_same (same_text u) ts ms h))

pub text_noted : (ts ms : List Text) (u : Text) → has_text ts u ≡ false → ts ++ with_text ms u ≡ with_text (ts ++ ms) u
text_noted ts ms u h = at (has_text ms u) ∙ sym (ap (λ b. if b then ts ++ ms else (ts ++ ms) ++ u ∷ []) (back_same (same_text u) ts ms h)) where
  at : (b : Bool) → ts ++ (if b then ms else ms ++ u ∷ []) ≡ (if b then ts ++ ms else (ts ++ ms) ++ u ∷ [])
  at true = refl
  at false = sym (append_assoc ts ms (u ∷ []))

pub note_step : (base ts ms ns os : List Text) (ls : List Label) (i : ℕ) (p : Label) → slice_get ls i ≡ Some p → ts ++ ms ≡ with_texts base (texts_of (take i ls))
    → ts ++ ns ≡ with_text (ts ++ ms) p.name → ts ++ os ≡ with_text (ts ++ ns) p.value → ts ++ os ≡ with_texts base (texts_of (take (i + 1) ls))
note_step base ts ms ns os ls i p g h e f =
    f ∙ ap (λ z. with_text z p.value) (e ∙ ap (λ z. with_text z p.name) h)
    ∙ sym (with_texts-append base (texts_of (take i ls)) (p.name ∷ p.value ∷ []))
    ∙ ap (with_texts base) (sym (texts_of-push (take i ls) p))
    ∙ ap (λ z. with_texts base (texts_of z)) (sym (take_more ls i p g))

pub series_after-push : (ss : List Labels) (bs : List Binding) (b : Binding) → series_after ss (bs ++ b ∷ []) ≡ with_series (series_after ss bs) b.labels
series_after-push ss [] b = refl
series_after-push ss (c ∷ bs) b = series_after-push (with_series ss c.labels) bs b

pub texts_after-push : (ss : List Labels) (ts : List Text) (bs : List Binding) (b : Binding) → texts_after ss ts (bs ++ b ∷ []) ≡ texts_seen (series_after ss bs) (texts_after ss ts bs) b.labels
texts_after-push ss ts [] b = refl
texts_after-push ss ts (c ∷ bs) b = texts_after-push (with_series ss c.labels) (texts_seen ss ts c.labels) bs b

pub fits_push : (most : ℕ) (ss : List Labels) (ts : List Text) (bs : List Binding) (b : Binding) → Fits most ss ts bs → length (series_after ss (bs ++ b ∷ [])) ≤ most → length (texts_after ss ts (bs ++ b ∷ [])) ≤ most → Fits most ss ts (bs ++ b ∷ [])
fits_push most ss ts [] b h e f = (e, f, tt)
fits_push most ss ts (c ∷ bs) b (x, y, z) e f = (x, y, fits_push most (with_series ss c.labels) (texts_seen ss ts c.labels) bs b z e f)

pub fits_last : (most : ℕ) (ss : List Labels) (ts : List Text) (bs : List Binding) (b : Binding) → Fits most ss ts (bs ++ b ∷ []) → (length (series_after ss (bs ++ b ∷ [])) ≤ most) × (length (texts_after ss ts (bs ++ b ∷ [])) ≤ most)
fits_last most ss ts [] b (x, y, z) = (x, y)
fits_last most ss ts (c ∷ bs) b (x, y, z) = fits_last most (with_series ss c.labels) (texts_seen ss ts c.labels) bs b z

-- the binding of a label set that is there, or is planned
pub plan_same : (t : Table) (bs : List Binding) (b : Binding) (p : Planned) → IsPlanOf t bs p → has_series (t.series ++ p.series) b.labels ≡ true → IsPlanOf t (bs ++ b ∷ []) p
plan_same t bs b p h k =
    let known : has_series (series_after t.series bs) b.labels ≡ true = ap (λ ss. has_series ss b.labels) (sym h.series) ∙ k in
    record {
      series = h.series ∙ sym (series_after-push t.series bs b ∙ ap (λ c. if c then series_after t.series bs else series_after t.series bs ++ b.labels ∷ []) known);
      texts = h.texts ∙ sym (texts_after-push t.series t.texts bs b ∙ ap (λ c. if c then texts_after t.series t.texts bs else with_texts (texts_after t.series t.texts bs) (texts_of b.labels)) known);
      few = h.few;
      few_texts = h.few_texts;
    }

new_series : (ss : List Labels) (l : Labels) → has_series ss l ≡ false → with_series ss l ≡ ss ++ l ∷ []
new_series ss l h = ap (λ c. if c then ss else ss ++ l ∷ []) h

-- what `created` says
pub was_there : (x c : Bool) → x ≡ not c → not x ≡ true → c ≡ true
was_there x true h e = refl
was_there x false h e = let k : not x ≡ false = ap not h in absurd (cc)

was_new : (x c : Bool) → x ≡ not c → not x ≡ false → c ≡ false
was_new x false h e = refl
was_new x true h e = let k : not x ≡ true = ap not h in absurd (cc)

-- What a plan keeps once it noted a label set that neither the table nor the plan had.
pub record IsNoted (t : Table) (p : Planned) (ls : Labels) (ss : List Labels) (ts : List Text) : Type 0 where
  pub new : has_series (t.series ++ p.series) ls ≡ false
  pub series : ss ≡ p.series ++ ls ∷ []
  pub texts : t.texts ++ ts ≡ with_texts (t.texts ++ p.texts) (texts_of ls)

pub noted_new : (t : Table) (p : Planned) (ls : Labels) (kept ss : List Labels) (own had ts : List Text) (created : Bool) → kept ≡ p.series → own ≡ t.texts → had ≡ p.texts
    → created ≡ not (has_series kept ls) → not created ≡ false → has_series t.series ls ≡ false → ss ≡ with_series kept ls → own ++ ts ≡ with_texts (own ++ had) (texts_of ls) → IsNoted t p ls ss ts
noted_new t p ls kept ss own had ts created was seen keeps said made absent grown noted =
    let gone : has_series p.series ls ≡ false = ap (λ zs. has_series zs ls) (sym was) ∙ was_new created (has_series kept ls) said made in
    record {
      new = back_same (same_labels ls) t.series p.series absent ∙ gone;
      series = grown ∙ ap (λ zs. with_series zs ls) was ∙ new_series p.series ls gone;
      texts = ap (λ z. z ++ ts) (sym seen) ∙ noted ∙ ap (λ z. with_texts (z ++ had) (texts_of ls)) seen ∙ ap (λ z. with_texts (t.texts ++ z) (texts_of ls)) keeps;
    }

-- the binding of a new one
new_after : (t : Table) (bs : List Binding) (b : Binding) (p : Planned) (ss : List Labels) (ts : List Text) → IsPlanOf t bs p → IsNoted t p b.labels ss ts
    → (t.series ++ ss ≡ series_after t.series (bs ++ b ∷ [])) × (t.texts ++ ts ≡ texts_after t.series t.texts (bs ++ b ∷ []))
new_after t bs b p ss ts h n =
    let new : has_series (series_after t.series bs) b.labels ≡ false = ap (λ ss. has_series ss b.labels) (sym h.series) ∙ n.new in (
      ap (λ z. t.series ++ z) n.series ∙ sym (append_assoc t.series p.series (b.labels ∷ [])) ∙ ap (λ z. z ++ b.labels ∷ []) h.series
          ∙ sym (series_after-push t.series bs b ∙ ap (λ c. if c then series_after t.series bs else series_after t.series bs ++ b.labels ∷ []) new),
      n.texts ∙ ap (λ z. with_texts z (texts_of b.labels)) h.texts
          ∙ sym (texts_after-push t.series t.texts bs b ∙ ap (λ c. if c then texts_after t.series t.texts bs else with_texts (texts_after t.series t.texts bs) (texts_of b.labels)) new),
    )

pub plan_new : (t : Table) (bs : List Binding) (b : Binding) (p q : Planned) → IsPlanOf t bs p → IsNoted t p b.labels q.series q.texts
    → length t.series + length q.series ≤ t.most → length t.texts + length q.texts ≤ t.most → IsPlanOf t (bs ++ b ∷ []) q
plan_new t bs b p q h n x y = record {
  series = (new_after t bs b p q.series q.texts h n).0;
  texts = (new_after t bs b p q.series q.texts h n).1;
  few = (let m : length (t.series ++ q.series) ≡ length t.series + length q.series = (simp length-append) in omega (arith, m, x));
  few_texts = (let m : length (t.texts ++ q.texts) ≡ length t.texts + length q.texts = (simp length-append) in omega (arith, m, y));
}

pub plan_full : (t : Table) (bs : List Binding) (b : Binding) (p : Planned) (ss : List Labels) (ts : List Text) → IsPlanOf t bs p → IsNoted t p b.labels ss ts
    → (t.most < length t.series + length ss) ⊎ (t.most < length t.texts + length ts) → Fits t.most t.series t.texts (bs ++ b ∷ []) → ⊥
plan_full t bs b p ss ts h n w fits = at w where
  last : (length (series_after t.series (bs ++ b ∷ [])) ≤ t.most) × (length (texts_after t.series t.texts (bs ++ b ∷ [])) ≤ t.most)
  last = fits_last t.most t.series t.texts bs b fits

  at : (t.most < length t.series + length ss) ⊎ (t.most < length t.texts + length ts) → ⊥
  at (inl x) = let m = simp length-append at (ap length (new_after t bs b p ss ts h n).0) in let k = last.0 in absurd (omega (arith, m, k, x))
  at (inr x) = let m = simp length-append at (ap length (new_after t bs b p ss ts h n).1) in let k = last.1 in absurd (omega (arith, m, k, x))

-- a new one at the limit of series
pub at_limit : (t : Table) (bs : List Binding) (b : Binding) (p : Planned) → IsPlanOf t bs p → has_series t.series b.labels ≡ false → has_series p.series b.labels ≡ false
    → t.most ≤ length t.series + length p.series → Fits t.most t.series t.texts (bs ++ b ∷ []) → ⊥
at_limit t bs b p h absent unplanned many fits =
    let new : has_series (series_after t.series bs) b.labels ≡ false = ap (λ ss. has_series ss b.labels) (sym h.series) ∙ back_same (same_labels b.labels) t.series p.series absent ∙ unplanned in
    let grown : series_after t.series (bs ++ b ∷ []) ≡ (t.series ++ p.series) ++ b.labels ∷ [] =
    series_after-push t.series bs b ∙ ap (λ c. if c then series_after t.series bs else series_after t.series bs ++ b.labels ∷ []) new ∙ ap (λ ss. ss ++ b.labels ∷ []) (sym h.series) in
    let m = simp length-append at (ap length grown) in
    let last = (fits_last t.most t.series t.texts bs b fits).0 in
    absurd (omega (arith, m, last, many))

texts_of-length : (ls : Labels) → length (texts_of ls) ≡ 2 * length ls
texts_of-length [] = refl
texts_of-length (l ∷ ls) = let k = texts_of-length ls in omega (arith, k)

count-push : (bs : List Binding) (b : Binding) → text_count (bs ++ b ∷ []) ≡ text_count bs + length (texts_of b.labels)
count-push [] b = omega arith
count-push (c ∷ bs) b = let k = count-push bs b in omega (arith, k)

high-push : (bs : List Binding) (b : Binding) → high_count (bs ++ b ∷ []) ≡ high_count bs + high_one b.reference
high-push [] b = omega arith
high-push (c ∷ bs) b = let k = high-push bs b in omega (arith, k)

places-push : (m n : ℕ) (bs : List Binding) (b : Binding) → m ≤ n → HavePlaces m bs → (b.reference < low_end → b.reference < n) → HavePlaces n (bs ++ b ∷ [])
places-push m n [] b l h k = (k, tt)
places-push m n (c ∷ bs) b l (x, y) k = ((λ r. let j = x r in omega (arith, j, l)), places-push m n bs b l y k)

-- One binding more is reserved.
pub reserved_push : (t u : Table) (bs : List Binding) (b : Binding) (p q : Planned) → AreAlike t u → IsReserved t bs p → IsPlanOf t (bs ++ b ∷ []) q
    → q.bindings ≡ p.bindings + 1 → q.texts_most ≡ p.texts_most + 2 * length b.labels → q.high ≡ p.high + high_one b.reference
    → q.bindings ≤ u.room.rows → q.bindings ≤ u.room.lower_bounds → q.bindings ≤ u.room.last_by_hash → q.texts_most ≤ u.room.texts → q.high ≤ u.room.high
    → t.room.places ≤ u.room.places → (b.reference < low_end → b.reference < u.room.places) → IsReserved u (bs ++ b ∷ []) q
reserved_push t u bs b p q a h is n m g rows lower_bounds last_by_hash texts high places place =
    let long : length (bs ++ b ∷ []) ≡ length bs + 1 = (simp length-append) in
    let i = h.bindings in
    let j = h.texts_most in
    let k = h.high in
    let c = count-push bs b in
    let d = high-push bs b in
    let e = texts_of-length b.labels in
    let many : length (bs ++ b ∷ []) ≤ q.bindings = omega (arith, long, i, n) in
    let many_texts : text_count (bs ++ b ∷ []) ≤ q.texts_most = omega (arith, c, e, j, m) in
    let many_high : high_count (bs ++ b ∷ []) ≤ q.high = omega (arith, d, k, g) in
    let fits : Fits t.most t.series t.texts (bs ++ b ∷ []) = fits_push t.most t.series t.texts bs b h.room.fits (subst (λ z. length z ≤ t.most) is.series is.few) (subst (λ z. length z ≤ t.most) is.texts is.few_texts) in
    record {
      room = record {
        fits = subst (λ z. Fits z u.series u.texts (bs ++ b ∷ [])) (sym a.most) (subst (λ z. Fits t.most z u.texts (bs ++ b ∷ [])) (sym a.series) (subst (λ z. Fits t.most t.series z (bs ++ b ∷ [])) (sym a.texts) fits));
        rows = omega (arith, many, rows);
        lower_bounds = omega (arith, many, lower_bounds);
        last_by_hash = omega (arith, many, last_by_hash);
        texts = omega (arith, many_texts, texts);
        places = places-push t.room.places u.room.places bs b places h.room.places place;
        high = omega (arith, many_high, high);
      };
      plan = record {
        series = ap (λ z. z ++ q.series) a.series ∙ is.series ∙ ap (λ z. series_after z (bs ++ b ∷ [])) (sym a.series);
        texts = ap (λ z. z ++ q.texts) a.texts ∙ is.texts ∙ ap (λ z. texts_after z t.texts (bs ++ b ∷ [])) (sym a.series) ∙ ap (λ z. texts_after u.series z (bs ++ b ∷ [])) (sym a.texts);
        few = subst (λ z. length (u.series ++ q.series) ≤ z) (sym a.most) (subst (λ z. length (z ++ q.series) ≤ t.most) (sym a.series) is.few);
        few_texts = subst (λ z. length (u.texts ++ q.texts) ≤ z) (sym a.most) (subst (λ z. length (z ++ q.texts) ≤ t.most) (sym a.texts) is.few_texts);
      };
      bindings = many;
      texts_most = many_texts;
      high = many_high;
    }

-- the label set is planned
pub plan_kept : (t : Table) (bs : List Binding) (b : Binding) (p q : Planned) → IsPlanOf t bs p → has_series p.series b.labels ≡ true → q.series ≡ with_series p.series b.labels → q.texts ≡ p.texts → IsPlanOf t (bs ++ b ∷ []) q
plan_kept t bs b p q h k e f =
    let same : q.series ≡ p.series = e ∙ ap (λ c. if c then p.series else p.series ++ b.labels ∷ []) k in
    let there : has_series (t.series ++ p.series) b.labels ≡ true = any-append (same_labels b.labels) t.series p.series ∙ ap (λ c. has_series t.series b.labels || c) k ∙ or_true (has_series t.series b.labels) in
    let old = plan_same t bs b p h there in
    record {
      series = ap (λ z. t.series ++ z) same ∙ old.series;
      texts = ap (λ z. t.texts ++ z) f ∙ old.texts;
      few = subst (λ z. length (t.series ++ z) ≤ t.most) (sym same) old.few;
      few_texts = subst (λ z. length (t.texts ++ z) ≤ t.most) (sym f) old.few_texts;
    } where
      or_true : (c : Bool) → (c || true) ≡ true
      or_true true = refl
      or_true false = refl

-- a plan of the same series and texts
pub plan_counted : (t : Table) (bs : List Binding) (p q : Planned) → IsPlanOf t bs p → q.series ≡ p.series → q.texts ≡ p.texts → IsPlanOf t bs q
plan_counted t bs p q h e f = record {
  series = ap (λ z. t.series ++ z) e ∙ h.series;
  texts = ap (λ z. t.texts ++ z) f ∙ h.texts;
  few = subst (λ z. length (t.series ++ z) ≤ t.most) (sym e) h.few;
  few_texts = subst (λ z. length (t.texts ++ z) ≤ t.most) (sym f) h.few_texts;
}
