-- What room is left once a binding was made.
use Rattle.std.proofs.Common.{◌≡◌, suc, ◌<◌, ◌≤◌, false, List, [], ◌∷◌, ◌++◌, ap, sym, subst, refl, arith, length, length-append}
use Rattle.std.specs.Prelude.{if◌then◌else◌}
use Rattle.head_series.specs.Texts.{with_texts, texts_of}
use Rattle.head_series.specs.Table.{Table, has_series, with_series, texts_with}
use Rattle.head_series.specs.Bindings.{Binding}
use Rattle.head_series.specs.Room.{Fits, HasRoom, HavePlaces, Uses}

pub room_left : (t u : Table) (b : Binding) (bs : List Binding) → Uses t u b → u.series ≡ with_series t.series b.labels → u.texts ≡ texts_with t b.labels → u.most ≡ t.most → HasRoom t (b ∷ bs) → HasRoom u bs
room_left t u b bs w e f m h = record {
  fits = subst (λ n. Fits n u.series u.texts bs) (sym m) (subst (λ ss. Fits t.most ss u.texts bs) (sym e) (subst (λ ts. Fits t.most (with_series t.series b.labels) ts bs) (sym f) h.fits.2));
  rows = (let k = h.rows in let j = w.rows in omega (arith, k, j));
  lower_bounds = (let k = h.lower_bounds in let j = w.lower_bounds in omega (arith, k, j));
  last_by_hash = (let k = h.last_by_hash in let j = w.last_by_hash in omega (arith, k, j));
  texts = (let k = h.texts in let j = w.texts in omega (arith, k, j));
  places = subst (λ n. HavePlaces n bs) (sym w.places) h.places.1;
  high = (let k = h.high in let j = w.high in omega (arith, k, j));
}

-- what one binding more says of the limits
pub room_new : (t : Table) (b : Binding) → HasRoom t (b ∷ []) → has_series t.series b.labels ≡ false → (length t.series < t.most) × (length (with_texts t.texts (texts_of b.labels)) ≤ t.most)
room_new t b h e = (
  (let k = simp length-append at (ap length (ap (λ c. if c then t.series else t.series ++ b.labels ∷ []) e)) in let j = h.fits.0 in omega (arith, k, j)),
  subst (λ c. length (if c then t.texts else with_texts t.texts (texts_of b.labels)) ≤ t.most) e h.fits.1,
)

-- room for several is room for the first
pub room_first : (t : Table) (b : Binding) (bs : List Binding) → HasRoom t (b ∷ bs) → HasRoom t (b ∷ [])
room_first t b bs h = record {
  fits = (h.fits.0, h.fits.1, tt);
  rows = (let k = h.rows in let j : length (b ∷ bs) ≡ suc (length bs) = refl in omega (arith, k, j));
  lower_bounds = (let k = h.lower_bounds in let j : length (b ∷ bs) ≡ suc (length bs) = refl in omega (arith, k, j));
  last_by_hash = (let k = h.last_by_hash in let j : length (b ∷ bs) ≡ suc (length bs) = refl in omega (arith, k, j));
  texts = (let k = h.texts in omega (arith, k));
  places = (h.places.0, tt);
  high = (let k = h.high in omega (arith, k));
}
