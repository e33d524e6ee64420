-- Chunks keep their places.
use Rattle.std.proofs.Common.{◌≡◌, ℕ, zero, suc, ◌+◌, ◌*◌, ◌/◌, ◌%◌, ◌<◌, ◌≤◌, ◌^◌, Bool, true, false, leb, List, [], ◌∷◌, ◌++◌, length, drop, Some, refl, sym, ap, subst, ◌∙◌, append_assoc, arith, lit<}
use Rattle.std.specs.List.{All, fold, slice_get}
use Rattle.std.proofs.lemmas.Bool.{leb-true}
use Rattle.std.proofs.lemmas.List.{append-nil, drop_at}
use Rattle.std.proofs.lemmas.List.Elements.{All-head, All-tail}
use Rattle.std.proofs.lemmas.List.Sums.{fold-append}
use Rattle.hw_bytes.specs.Writing.{uvarint}
use Rattle.hw_bytes.proofs.Shortest.{uvarint_shortest}
use Rattle.hw_bytes.specs.Sums.{Text}
use Rattle.block_files.specs.declared.encoding.Encoding.{Encoding}
use Rattle.block_files.specs.Files.{BeginsWith, StandsAt, chunk_element, chunk_files, file_head, last_reference, longest_chunk, reference_behind, with_chunk}
use Rattle.block_files.proofs.FileLaws.{goes_behind, begins_another, begins_first, last_reference_at}

-- where a chunk goes
pub record Placed (enc : Encoding) (limit : ℕ) (files : List Text) (body : Text) : Type 0 where
  pub full : List Text
  pub front : Text
  pub is : with_chunk enc limit files body ≡ full ++ (front ++ chunk_element enc body) ∷ []
  pub low : length front < 2 ^ 32

pub placed : (enc : Encoding) (limit : ℕ) (files : List Text) (body : Text) → limit < 2 ^ 32 → Placed enc limit files body
unfolding with_chunk
placed enc limit [] body h = record { full = []; front = file_head; is = begins_first enc limit body; low = lit< tt }
placed enc limit (f ∷ []) body h = by (leb (length f + length (chunk_element enc body)) limit) refl
  where
    by : (b : Bool) → leb (length f + length (chunk_element enc body)) limit ≡ b → Placed enc limit (f ∷ []) body
    by true e = record { full = []; front = f; is = goes_behind enc limit [] f body e; low = omega (arith, h, leb-true (length f + length (chunk_element enc body)) limit e) }
    by false e = record { full = f ∷ []; front = file_head; is = begins_another enc limit [] f body e; low = lit< tt }
placed enc limit (f ∷ g ∷ more) body h = (let p = placed enc limit (g ∷ more) body h in record { full = f ∷ p.full; front = p.front; is = ap (λ (t : List Text). f ∷ t) p.is; low = p.low })

-- each file is the beginning of the one in its place
pub record Grown (a b : List Text) : Type 0 where
  pub at : (i : ℕ) (f : Text) → slice_get a i ≡ Some f → (more : Text) × (slice_get b i ≡ Some (f ++ more))

grown_same : (a : List Text) → Grown a a
grown_same a = record { at = λ i f e. ([], e ∙ ap Some (sym (append-nil f))) }

grown_on : (a b c : List Text) → Grown a b → Grown b c → Grown a c
grown_on a b c p q = record { at = λ i f e. (let x = p.at i f e in let y = q.at i (f ++ x.0) x.1 in (x.0 ++ y.0, y.1 ∙ ap Some (append_assoc f x.0 y.0))) }

none_there : (i : ℕ) (f : Text) → slice_get [] i ≡ Some f → ⊥
none_there i f e = absurd cc

first_grown : (x y : Text) (xs bs : List Text) → (more : Text) → y ≡ x ++ more → Grown xs bs → Grown (x ∷ xs) (y ∷ bs)
first_grown x y xs bs more e g = record { at = there }
  where
    there : (i : ℕ) (f : Text) → slice_get (x ∷ xs) i ≡ Some f → (rest : Text) × (slice_get (y ∷ bs) i ≡ Some (f ++ rest))
    there zero f h = (let same : x ≡ f = cc in (more, ap Some (e ∙ ap (λ (t : Text). t ++ more) same)))
    there (suc i) f h = g.at i f h

none_grown : (bs : List Text) → Grown [] bs
none_grown bs = record { at = λ i f e. absurd (none_there i f e) }

grown_chunk : (enc : Encoding) (limit : ℕ) (files : List Text) (body : Text) → Grown files (with_chunk enc limit files body)
unfolding with_chunk
grown_chunk enc limit [] body = none_grown ((file_head ++ chunk_element enc body) ∷ [])
grown_chunk enc limit (f ∷ []) body = by (leb (length f + length (chunk_element enc body)) limit) refl
  where
    by : (b : Bool) → leb (length f + length (chunk_element enc body)) limit ≡ b → Grown (f ∷ []) (with_chunk enc limit (f ∷ []) body)
    by true e = subst (Grown (f ∷ [])) (sym (goes_behind enc limit [] f body e)) (first_grown f (f ++ chunk_element enc body) [] [] (chunk_element enc body) refl (none_grown []))
    by false e = subst (Grown (f ∷ [])) (sym (begins_another enc limit [] f body e)) (first_grown f f [] ((file_head ++ chunk_element enc body) ∷ []) [] (sym (append-nil f)) (none_grown ((file_head ++ chunk_element enc body) ∷ [])))
grown_chunk enc limit (f ∷ g ∷ more) body = first_grown f f (g ∷ more) (with_chunk enc limit (g ∷ more) body) [] (sym (append-nil f)) (grown_chunk enc limit (g ∷ more) body)

pub grown_chunks : (enc : Encoding) (limit : ℕ) (files : List Text) (bodies : List Text) → Grown files (fold (with_chunk enc limit) files bodies)
grown_chunks enc limit files [] = grown_same files
grown_chunks enc limit files (b ∷ bodies) = grown_on files (with_chunk enc limit files b) (fold (with_chunk enc limit) (with_chunk enc limit files b) bodies) (grown_chunk enc limit files b) (grown_chunks enc limit (with_chunk enc limit files b) bodies)

last_there : (full : List Text) (x : Text) → slice_get (full ++ x ∷ []) (length full) ≡ Some x
last_there [] x = refl
last_there (f ∷ full) x = last_there full x

all_at : {X : Type 0} (P : X → Type 0) (before : List X) (x : X) (after : List X) → All P (before ++ x ∷ after) → P x
all_at P [] x after h = All-head P x after h
all_at P (b ∷ before) x after h = all_at P before x after (All-tail P b (before ++ x ∷ after) h)

begins_there : (enc : Encoding) (front body more : Text) → length body < 2 ^ 64 → BeginsWith enc (drop (length front) ((front ++ chunk_element enc body) ++ more)) body
begins_there enc front body more short = record {
  spelled = uvarint (length body);
  rest = more;
  is_length = (uvarint_shortest (length body) short).spelled;
  whole = ap (drop (length front)) (append_assoc front (chunk_element enc body) more) ∙ drop_at front (chunk_element enc body ++ more) (length front) refl;
}

pub chunk_stands : (enc : Encoding) (limit : ℕ) (before : List Text) (body : Text) (after : List Text) → limit < 2 ^ 32 → length body < 2 ^ 64 → StandsAt enc (chunk_files enc limit (before ++ body ∷ after)) (reference_behind enc limit before body) body
unfolding reference_behind
chunk_stands enc limit before body after h short =
    let files : List Text = chunk_files enc limit before in
    let p = placed enc limit files body h in
    let now : chunk_files enc limit (before ++ body ∷ []) ≡ p.full ++ (p.front ++ chunk_element enc body) ∷ [] = fold-append (with_chunk enc limit) [] before (body ∷ []) ∙ p.is in
    let all : chunk_files enc limit (before ++ body ∷ after) ≡ fold (with_chunk enc limit) (with_chunk enc limit files body) after = fold-append (with_chunk enc limit) [] before (body ∷ after) in
    let reference : last_reference enc (chunk_files enc limit (before ++ body ∷ [])) body ≡ length p.full * 2 ^ 32 + length p.front = ap (λ (fs : List Text). last_reference enc fs body) now ∙ last_reference_at enc p.full p.front body in
    let high : (length p.full * 2 ^ 32 + length p.front) / 2 ^ 32 ≡ length p.full = omega (arith, p.low) in
    let offset : (length p.full * 2 ^ 32 + length p.front) % 2 ^ 32 ≡ length p.front = omega (arith, p.low) in
    let g = (grown_chunks enc limit (with_chunk enc limit files body) after).at (length p.full) (p.front ++ chunk_element enc body) (ap (λ (fs : List Text). slice_get fs (length p.full)) p.is ∙ last_there p.full (p.front ++ chunk_element enc body)) in
    record {
      file = (p.front ++ chunk_element enc body) ++ g.0;
      is_file = rw (reference, high, all) g.1;
      there = rw (reference, offset) (begins_there enc p.front body g.0 short);
    }

pub chunks_stand : (enc : Encoding) (limit : ℕ) (before : List Text) (body : Text) (after : List Text) → 4096 ≤ limit → limit < 2 ^ 32 → All (λ d. length d ≤ longest_chunk) (before ++ body ∷ after)
    → StandsAt enc (chunk_files enc limit (before ++ body ∷ after)) (reference_behind enc limit before body) body
chunks_stand enc limit before body after room h short = chunk_stands enc limit before body after h (let s = all_at (λ d. length d ≤ longest_chunk) before body after short in omega (arith, s))
