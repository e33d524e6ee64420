-- Texts put in by the copies that were made beforehand.
use Rattle.std.proofs.Common.{◌≡◌, ℕ, suc, ◌+◌, ◌<◌, ◌≤◌, false, List, [], ◌∷◌, ◌++◌, Some, ap, sym, subst, ◌∙◌, refl, arith, length, length-append, drop}
use Rattle.std.specs.Prelude.{map, reverse, slice_get, if◌then◌else◌}
use Rattle.std.proofs.lemmas.List.{map-append, reverse-append, append_assoc}
use Rattle.wal_record.specs.declared.labels.Label.{Label}
use Rattle.wal_record.specs.Labels.{same_text}
use Rattle.head_series.specs.Rows.{labels_in, IsRead}
use Rattle.head_series.specs.Texts.{Text, TextTable, place, has_text, with_text, with_texts, texts_of}
use Rattle.series_references.proofs.EntryLemmas.{drop_at}
use Rattle.head_series.proofs.TextLemmas.{IsRead-push, with_texts-append, with_texts_length}

pub texts_of-append : (xs ys : List Label) → texts_of (xs ++ ys) ≡ texts_of xs ++ texts_of ys
texts_of-append [] ys = refl
texts_of-append (x ∷ xs) ys = ap (λ us. x.name ∷ x.value ∷ us) (texts_of-append xs ys)

-- the last of a list is the first of the reversed one
pub reversed-push : {A B : Type 0} (f : A → B) (xs : List A) (x : A) → reverse (map f (xs ++ x ∷ [])) ≡ f x ∷ reverse (map f xs)
reversed-push f xs x = ap reverse (map-append f xs (x ∷ [])) ∙ reverse-append (map f xs) (f x ∷ [])

pub drop_one : {A : Type 0} (xs : List A) (n : ℕ) (x : A) → slice_get xs n ≡ Some x → drop n xs ≡ x ∷ drop (n + 1) xs
drop_one xs n x h = let k : suc n ≡ n + 1 = omega arith in drop_at xs n x h ∙ ap (λ m. x ∷ drop m xs) k

-- What there is once some labels were put in, and the rest not yet.
pub record IsPut (old : TextTable) (ready : List Label) (now : TextTable) (ns : List (ℕ × ℕ)) (rest : List Label) : Type 0 where
  pub read : IsRead old.texts (labels_in now.texts ns) now.texts ns
  pub all : labels_in now.texts ns ++ rest ≡ ready
  pub most : now.most ≡ old.most
  pub room : old.room ≤ now.room + length (texts_of (labels_in now.texts ns))

-- the last of the list that is left comes next
pub put_next : {A : Type 0} (f : A → Label) (old : TextTable) (ready : List Label) (now : TextTable) (ns : List (ℕ × ℕ)) (xs ys : List A) (x : A) → xs ≡ ys ++ x ∷ [] → IsPut old ready now ns (reverse (map f xs)) → IsPut old ready now ns (f x ∷ reverse (map f ys))
put_next f old ready now ns xs ys x e h = subst (IsPut old ready now ns) (ap (λ zs. reverse (map f zs)) e ∙ reversed-push f ys x) h

-- the texts that come yet
pub texts_left : (old : TextTable) (ready : List Label) (now : TextTable) (ns : List (ℕ × ℕ)) (rest : List Label) → IsPut old ready now ns rest → with_texts old.texts (texts_of ready) ≡ with_texts now.texts (texts_of rest)
texts_left old ready now ns rest h =
    ap (λ ls. with_texts old.texts (texts_of ls)) (sym h.all) ∙ ap (with_texts old.texts) (texts_of-append (labels_in now.texts ns) rest)
    ∙ with_texts-append old.texts (texts_of (labels_in now.texts ns)) (texts_of rest) ∙ ap (λ ts. with_texts ts (texts_of rest)) (sym h.read.texts)

pub put_room : (old : TextTable) (ready : List Label) (now : TextTable) (ns : List (ℕ × ℕ)) (p : Label) (rest : List Label) → IsPut old ready now ns (p ∷ rest) → length (texts_of ready) ≤ old.room → 2 ≤ now.room
put_room old ready now ns p rest h w =
    let all : length (texts_of ready) ≡ length (texts_of (labels_in now.texts ns)) + length (texts_of (p ∷ rest)) = ap (λ ls. length (texts_of ls)) (sym h.all) ∙ ap length (texts_of-append (labels_in now.texts ns) (p ∷ rest)) ∙ (simp length-append) in
    let more : length (texts_of (p ∷ rest)) ≡ suc (suc (length (texts_of rest))) = refl in
    let r = h.room in
    omega (arith, all, more, r, w)

-- a new text fits where all the texts do
pub fits_first : (ts us : List Text) (u : Text) (most : ℕ) → length (with_texts ts (u ∷ us)) ≤ most → has_text ts u ≡ false → length ts < most
fits_first ts us u most h n =
    let long = with_texts_length us (with_text ts u) in
    let grown = simp length-append at (ap length (ap (λ b. if b then ts else ts ++ u ∷ []) n)) in
    omega (arith, long, grown, h)

pub put_few : (old : TextTable) (ready : List Label) (now : TextTable) (ns : List (ℕ × ℕ)) (p : Label) (rest : List Label) → IsPut old ready now ns (p ∷ rest) → length (with_texts old.texts (texts_of ready)) ≤ old.most
    → has_text now.texts p.name ≡ false → length now.texts < now.most
put_few old ready now ns p rest h w n =
    subst (λ m. length now.texts < m) (sym h.most)
    (fits_first now.texts (p.value ∷ texts_of rest) p.name old.most (subst (λ ts. length ts ≤ old.most) (texts_left old ready now ns (p ∷ rest) h) w) n)

pub put_few_second : (old : TextTable) (ready : List Label) (now us : TextTable) (ns : List (ℕ × ℕ)) (p : Label) (rest : List Label) → IsPut old ready now ns (p ∷ rest) → length (with_texts old.texts (texts_of ready)) ≤ old.most
    → us.texts ≡ with_text now.texts p.name → us.most ≡ now.most → has_text us.texts p.value ≡ false → length us.texts < us.most
put_few_second old ready now us ns p rest h w e m n =
    subst (λ k. length us.texts < k) (sym (m ∙ h.most))
    (fits_first us.texts (texts_of rest) p.value old.most (subst (λ ts. length ts ≤ old.most) (texts_left old ready now ns (p ∷ rest) h ∙ ap (λ ts. with_texts ts (p.value ∷ texts_of rest)) (sym e)) w) n)

pub IsPut-push : (old : TextTable) (ready : List Label) (now us vs : TextTable) (ns : List (ℕ × ℕ)) (p : Label) (n m : ℕ) (rest : List Label)
    → IsPut old ready now ns (p ∷ rest) → us.texts ≡ with_text now.texts p.name → place (same_text p.name) us.texts ≡ Some n → vs.texts ≡ with_text us.texts p.value → place (same_text p.value) vs.texts ≡ Some m
    → us.most ≡ now.most → vs.most ≡ us.most → now.room ≤ us.room + 1 → us.room ≤ vs.room + 1 → IsPut old ready vs (ns ++ (n, m) ∷ []) rest
IsPut-push old ready now us vs ns p n m rest h e f g k a b c d =
    let read : IsRead old.texts (labels_in now.texts ns ++ p ∷ []) vs.texts (ns ++ (n, m) ∷ []) = IsRead-push old.texts (labels_in now.texts ns) now.texts us.texts vs.texts ns p n m h.read e f g k in
    let said : labels_in vs.texts (ns ++ (n, m) ∷ []) ≡ labels_in now.texts ns ++ p ∷ [] = read.numbers in
    let long : length (texts_of (labels_in vs.texts (ns ++ (n, m) ∷ []))) ≡ length (texts_of (labels_in now.texts ns)) + 2 = ap (λ ls. length (texts_of ls)) said ∙ ap length (texts_of-append (labels_in now.texts ns) (p ∷ [])) ∙ (simp length-append) in
    let r = h.room in
    record {
      read = subst (λ ls. IsRead old.texts ls vs.texts (ns ++ (n, m) ∷ [])) (sym said) read;
      all = ap (λ ls. ls ++ rest) said ∙ append_assoc (labels_in now.texts ns) (p ∷ []) rest ∙ h.all;
      most = b ∙ a ∙ h.most;
      room = omega (arith, long, r, c, d);
    }
