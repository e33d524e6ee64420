-- The room beside each text, and the room that a label set uses.
use Rattle.std.proofs.Common.{◌≡◌, ℕ, ◌+◌, ◌<◌, ◌≤◌, Bool, true, false, List, [], ◌∷◌, ◌++◌, Some, zero, suc, take, ap, sym, subst, ◌∙◌, refl, arith, length, length-append}
use Rattle.std.proofs.lemmas.List.{length-replicate, take_all}
use Rattle.std.specs.Prelude.{◌&&◌, ◌||◌, if◌then◌else◌, slice_get}
use Rattle.wal_record.specs.declared.labels.Label.{Label}
use Rattle.wal_record.specs.Labels.{same_text, same_label, IsLabelSet}
use Rattle.wal_record.proofs.SameText.{same_text_exact, same_text_refl}
use Rattle.hw_bytes.proofs.Places.{take_more}
use Rattle.head_postings.specs.Postings.{Text, Labels, Lists, holds, label, listed, slots_of}
use Rattle.head_postings.specs.Placed.{places}
use Rattle.head_postings.specs.Room.{Counted, HasRoom, IsCountOf, IsReserved, occurrences, room_of}
use Rattle.head_postings.specs.Given.{given}
use Rattle.head_postings.proofs.Listed.{IsPut}
use Rattle.head_postings.proofs.Kept.{popped_had}
use Rattle.head_postings.proofs.GivenLemmas.{given_at, given-more, given-set}

pub many_places : (n : ℕ) → length (places n) ≡ n
many_places n = (simp length-replicate)

-- the list of t was written: what is in it, and what is in the others
pub put_room : {A : Type 0} (t : Text) (w : List A) (old new : List (Text × List A)) (more : ℕ) → IsPut t w old new → more ≤ length w → more ≤ length (listed new t)
put_room t w old new more put h = subst (λ z. more ≤ length z) (sym (popped_had t w new old put)) h

pub put_left : {A : Type 0} (t : Text) (w : List A) (old new : List (Text × List A)) (n : ℕ) → IsPut t w old new → length (listed old t) ≤ length w + n → (v : Text) → length (listed old v) ≤ length (listed new v) + (if same_text v t then n else 0)
put_left t w old new n put h v = subst (λ z. length (listed old v) ≤ length z + (if same_text v t then n else 0)) (sym (put v)) (at (same_text v t) refl) where
  at : (b : Bool) → same_text v t ≡ b → length (listed old v) ≤ length (if b then w else listed old v) + (if b then n else 0)
  at true e = subst (λ z. length (listed old z) ≤ length w + n) (sym (same_text_exact v t e)) h
  at false e = omega arith

pub put_kept : {A : Type 0} (t : Text) (w : List A) (old new : List (Text × List A)) → IsPut t w old new → length (listed old t) ≤ length w → (v : Text) → length (listed old v) ≤ length (listed new v)
put_kept t w old new put h v = subst (λ z. length (listed old v) ≤ length z) (sym (put v)) (at (same_text v t) refl) where
  at : (b : Bool) → same_text v t ≡ b → length (listed old v) ≤ length (if b then w else listed old v)
  at true e = subst (λ z. length (listed old z) ≤ length w) (sym (same_text_exact v t e)) h
  at false e = omega arith

-- a label is given once more by the labels than by those before it
given_within : (ls : Labels) (i : ℕ) (l : Label) (n v : Text) → slice_get ls i ≡ Some l → same_label (label n v) l ≡ true → length (given 0 (take i ls) n v) + 1 ≤ length (given 0 ls n v)
given_within [] i l n v h e = cc
given_within (x ∷ xs) zero l n v h e =
    let k : x ≡ l = cc in
    let same : same_label (label n v) x ≡ true = ap (same_label (label n v)) k ∙ e in
    let one = ap (λ b. length ((if b then 0 ∷ [] else []) ++ given 0 xs n v)) same in
    omega (arith, one)
given_within (x ∷ xs) (suc i) l n v h e =
    let k = given_within xs i l n v h e in
    let a : length (given 0 (x ∷ take i xs) n v) ≡ length (given_at 0 x n v) + length (given 0 (take i xs) n v) = (simp length-append) in
    let b : length (given 0 (x ∷ xs) n v) ≡ length (given_at 0 x n v) + length (given 0 xs n v) = (simp length-append) in
    omega (arith, k, a, b)

label_itself : (l : Label) → same_label (label l.name l.value) l ≡ true
label_itself l = ap (λ b. b && same_text l.value l.value) (same_text_refl l.name) ∙ same_text_refl l.value

-- one place for a label that is in the set
abbrev pub one_if : Bool → ℕ
one_if b = if b then 1 else 0

one_long : (s : ℕ) (b : Bool) → length (if b then s ∷ [] else []) ≡ one_if b
one_long s true = refl
one_long s false = refl

given-count : (ls : Labels) (n v : Text) → IsLabelSet ls → length (given 0 ls n v) ≡ one_if (holds ls n v)
given-count ls n v o = ap length (given-set 0 ls n v o) ∙ one_long 0 (holds ls n v)

-- while a label is left, its place is there
pub place_left : (ls : Labels) (i : ℕ) (n v : Text) (old now : ℕ) → IsLabelSet ls → slice_get ls i ≡ Some (label n v) → one_if (holds ls n v) ≤ old → old ≤ now + length (given 0 (take i ls) n v) → 0 < now
place_left ls i n v old now o h e f =
    let more = given_within ls i (label n v) n v h (label_itself (label n v)) in
    let all = given-count ls n v o in
    omega (arith, more, all, e, f)

-- one label more used its place
pub used_next : (ls : Labels) (i : ℕ) (l : Label) (n v : Text) (old now new : ℕ) → slice_get ls i ≡ Some l → old ≤ now + length (given 0 (take i ls) n v) → now ≤ new + one_if (same_label (label n v) l) → old ≤ new + length (given 0 (take (i + 1) ls) n v)
used_next ls i l n v old now new h e f =
    let more : length (given 0 (take (i + 1) ls) n v) ≡ length (given 0 (take i ls) n v) + length (given_at 0 l n v) = ap length (given-more 0 ls i l n v h) ∙ (simp length-append) in
    let one = one_long 0 (same_label (label n v) l) in
    omega (arith, e, f, more, one)

-- and so each label of a set used one
pub used_all : (ls : Labels) (i : ℕ) (n v : Text) (old new : ℕ) → IsLabelSet ls → length ls ≤ i → old ≤ new + length (given 0 (take i ls) n v) → old ≤ new + one_if (holds ls n v)
used_all ls i n v old new o h e =
    let all = ap (λ z. length (given 0 z n v)) (take_all i ls h) ∙ given-count ls n v o in
    omega (arith, e, all)

-- room at the labels before a place, and at the one there
holds_push : (ls : Labels) (l : Label) (n v : Text) → holds (ls ++ l ∷ []) n v ≡ true → holds ls n v ≡ false → same_label (label n v) l ≡ true
holds_push [] l n v h e = at (same_label (label n v) l) h where
  at : (b : Bool) → (b || false) ≡ true → b ≡ true
  at true k = refl
  at false k = k
holds_push (x ∷ xs) l n v h e = at (same_label (label n v) x) (holds_push xs l n v) h e where
  at : (b : Bool) → (holds (xs ++ l ∷ []) n v ≡ true → holds xs n v ≡ false → same_label (label n v) l ≡ true) → (b || holds (xs ++ l ∷ []) n v) ≡ true → (b || holds xs n v) ≡ false → same_label (label n v) l ≡ true
  at true deep k m = absurd cc
  at false deep k m = deep k m

pub room_next : (ls : Labels) (i : ℕ) (l : Label) (n v : Text) (need old new : Text → Text → ℕ) → slice_get ls i ≡ Some l → (holds (take i ls) n v ≡ true → need n v ≤ old n v) → old n v ≤ new n v
    → need l.name l.value ≤ new l.name l.value → holds (take (i + 1) ls) n v ≡ true → need n v ≤ new n v
room_next ls i l n v need old new h before kept one k = at (holds (take i ls) n v) refl where
  is_l : holds (take i ls) n v ≡ false → same_label (label n v) l ≡ true
  is_l e = holds_push (take i ls) l n v (sym (ap (λ z. holds z n v) (take_more ls i l h)) ∙ k) e

  both : (a b : Bool) → (a && b) ≡ true → (a ≡ true) × (b ≡ true)
  both true b e = (refl, e)
  both false b e = absurd cc

  at : (b : Bool) → holds (take i ls) n v ≡ b → need n v ≤ new n v
  at true e = let k = before e in omega (arith, k, kept)
  at false e =
      let same = both (same_text n l.name) (same_text v l.value) (is_l e) in
      subst (λ z. need z v ≤ new z v) (sym (same_text_exact n l.name same.0)) (subst (λ z. need l.name z ≤ new l.name z) (sym (same_text_exact v l.value same.1)) one)

pub room_all : (ls : Labels) (i : ℕ) (n v : Text) → length ls ≤ i → holds ls n v ≡ true → holds (take i ls) n v ≡ true
room_all ls i n v h e = ap (λ z. holds z n v) (take_all i ls h) ∙ e

-- one label set more
occurrences-push : (sets : List Labels) (ls : Labels) (n v : Text) → occurrences (sets ++ ls ∷ []) n v ≡ occurrences sets n v + one_if (holds ls n v)
occurrences-push [] ls n v = omega arith
occurrences-push (x ∷ sets) ls n v = let k = occurrences-push sets ls n v in omega (arith, k)

pub count_push : (sets : List Labels) (ls : Labels) (s : ℕ) (b c : Counted) → IsCountOf sets b → c.many ≡ b.many + 1
    → ((n v : Text) → slots_of c.names n v ≡ slots_of b.names n v ++ (if holds ls n v then s ∷ [] else [])) → IsCountOf (sets ++ ls ∷ []) c
count_push sets ls s b c h m f = record {
  every = let k : length (sets ++ ls ∷ []) ≡ length sets + 1 = (simp length-append) in let e = h.every in omega (arith, k, e, m);
  each = λ n v.
      let k = occurrences-push sets ls n v in
      let one = one_long s (holds ls n v) in
      let e = h.each n v in
      let more : length (slots_of c.names n v) ≡ length (slots_of b.names n v) + length (if holds ls n v then s ∷ [] else []) = ap length (f n v) ∙ (simp length-append) in
      omega (arith, k, one, e, more);
}

pub reserved_push : (p q : Lists) (sets : List Labels) (ls : Labels) (b c : Counted) → IsReserved p sets b → IsCountOf (sets ++ ls ∷ []) c → c.many ≤ q.rooms.all
    → ((n v : Text) → room_of p.rooms.names n v ≤ room_of q.rooms.names n v) → ((n v : Text) → holds ls n v ≡ true → length (slots_of c.names n v) ≤ room_of q.rooms.names n v) → IsReserved q (sets ++ ls ∷ []) c
reserved_push p q sets ls b c h k all kept more = record {
  room = record { every = let e = k.every in omega (arith, all, e); each = λ n v. at n v (holds ls n v) refl };
  count = k;
} where
  at : (n v : Text) (d : Bool) → holds ls n v ≡ d → occurrences (sets ++ ls ∷ []) n v ≤ room_of q.rooms.names n v
  at n v true e =
      let m = more n v e in
      let f = k.each n v in
      omega (arith, m, f)
  at n v false e =
      let one = ap one_if e in
      let m = occurrences-push sets ls n v in
      let f = h.room.each n v in
      let g = kept n v in
      omega (arith, m, one, f, g)

-- a label set took its places
pub room_left : (p q : Lists) (ls : Labels) (rest : List Labels) → p.rooms.all ≤ q.rooms.all + 1 → ((n v : Text) → room_of p.rooms.names n v ≤ room_of q.rooms.names n v + one_if (holds ls n v)) → HasRoom p (ls ∷ rest) → HasRoom q rest
room_left p q ls rest all used h = record {
  every = let e = h.every in omega (arith, all, e);
  each = λ n v. let e = h.each n v in let u = used n v in omega (arith, e, u);
}

pub room_first : (p : Lists) (ls : Labels) (rest : List Labels) → HasRoom p (ls ∷ rest) → HasRoom p (ls ∷ [])
room_first p ls rest h = record {
  every = let e = h.every in omega (arith, e);
  each = λ n v. let e = h.each n v in omega (arith, e);
}

pub room_rest : (p : Lists) (ls : Labels) (rest : List Labels) → HasRoom p (ls ∷ rest) → HasRoom p rest
room_rest p ls rest h = record {
  every = let e = h.every in omega (arith, e);
  each = λ n v. let e = h.each n v in omega (arith, e);
}
