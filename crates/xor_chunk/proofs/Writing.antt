-- A chunk that is written sample by sample.
use Rattle.std.proofs.Common.{◌≡◌, ℕ, ◌+◌, ◌<◌, ◌≤◌, Bool, true, false, cond, eqb, List, [], ◌∷◌, ◌++◌, None, Ok, refl, sym, ap, ◌∙◌, subst, arith, append_assoc, length, length-append, drop}
use Rattle.std.specs.Prelude.{All, bit_xor, replicate}
use Rattle.std.proofs.lemmas.List.{append-nil, drop_at}
use Rattle.std.proofs.lemmas.List.Elements.{All-nil, All-push}
use Rattle.byteorder.specs.Numbers.{length-bytes_high_first}
use Rattle.hw_bytes.specs.Spellings.{IsBytes}
use Rattle.hw_bytes.proofs.Codes.{bytes_append, bytes_drop}
use Rattle.xor_chunk.specs.Samples.{IsFit}
use Rattle.xor_chunk.specs.declared.sample.Sample.{Sample}
use Rattle.xor_chunk.specs.Bits.{bits_in, bytes_of}
use Rattle.xor_chunk.specs.Chunks.{pattern, after, second, sample_bits, samples_bits, value_bits, is_whole, ends_whole, first_bytes, delta_bytes, head_bytes, behind_head, count_bytes, chunk_bits, is_whole_chunk, xor_text}
use Rattle.xor_chunk.specs.Reading.{body_samples, first_at, or_none, unpacked}
use Rattle.xor_chunk.specs.Private.{IsBodyOf, IsEnded, ending, IsPacked, IsWritten, after_all, body_bits, last_of, next_bits, next_last, next_whole, read_of}
use Rattle.xor_chunk.specs.Writing.{xor_body}
use Rattle.xor_chunk.specs.declared.before.Before.{Before}
use Rattle.xor_chunk.specs.declared.before.Last.{Last}
use Rattle.xor_chunk.specs.declared.before.Last.TheVariants.{Nothing, First, Later}
use Rattle.xor_chunk.proofs.Bits.{bits_in-append, no_bytes}
use Rattle.xor_chunk.proofs.Cut.{cut_front}
use Rattle.xor_chunk.proofs.Front.{unpacked_more}
use Rattle.xor_chunk.proofs.Packing.{bytes_packed, bytes_small, xor_is, xor_packed, xor_small}
use Rattle.xor_chunk.proofs.RoundTrip.{count_back, count_drop, count_small, head_round, head_small, round_trip}

-- ---- one sample more

samples_more : (b : Before) (more : List Sample) (s : Sample) → samples_bits b (more ++ s ∷ []) ≡ samples_bits b more ++ sample_bits (after_all b more) s
unfolding samples_bits
samples_more b [] s = append-nil (sample_bits b s)
samples_more b (m ∷ more) s = ap (λ (bs : List Bool). sample_bits b m ++ bs) (samples_more (after b m) more s) ∙ sym (append_assoc (sample_bits b m) (samples_bits (after b m) more) (sample_bits (after_all (after b m) more) s))

whole_more : (w : Bool) (b : Before) (more : List Sample) (s : Sample) → ends_whole w b (more ++ s ∷ []) ≡ is_whole (after_all b more).window (bit_xor (after_all b more).value (pattern s.value))
unfolding ends_whole
whole_more w b [] s = refl
whole_more w b (m ∷ more) s = whole_more (is_whole b.window (bit_xor b.value (pattern m.value))) (after b m) more s

last_more : (b : Before) (more : List Sample) (s : Sample) → after_all b (more ++ s ∷ []) ≡ after (after_all b more) s
last_more b [] s = refl
last_more b (m ∷ more) s = last_more (after b m) more s

none_more : (s : Sample) → body_bits [] ++ next_bits Nothing s ≡ body_bits (s ∷ [])
unfolding next_bits
none_more s = ap (λ (bs : List Bool). (bs ++ []) ++ bits_in (first_bytes s)) no_bytes ∙ sym (append-nil (bits_in (first_bytes s)))

one_more : (a s : Sample) → body_bits (a ∷ []) ++ next_bits (First a) s ≡ body_bits (a ∷ s ∷ [])
unfolding next_bits samples_bits
one_more a s =
    let v : List Bool = value_bits None (bit_xor (pattern a.value) (pattern s.value)) in
    let f : List Bool = bits_in (first_bytes a) in
    let d : List Bool = bits_in (delta_bytes a s) in
    ap (λ (bs : List Bool). bs ++ (d ++ v)) (append-nil f) ∙ sym (append_assoc f d v) ∙ ap (λ (bs : List Bool). bs ++ v) (sym (bits_in-append (first_bytes a) (delta_bytes a s)))
    ∙ ap (λ (bs : List Bool). bits_in (first_bytes a ++ delta_bytes a s) ++ bs) (sym (append-nil v))

two_more : (a b : Sample) (more : List Sample) (s : Sample) → body_bits (a ∷ b ∷ more) ++ next_bits (Later (after_all (second a b) more)) s ≡ body_bits (a ∷ b ∷ (more ++ s ∷ []))
unfolding next_bits
two_more a b more s =
    let h : List Bool = bits_in (first_bytes a ++ delta_bytes a b) in
    let v : List Bool = value_bits None (bit_xor (pattern a.value) (pattern b.value)) in
    let m : List Bool = samples_bits (second a b) more in
    let n : List Bool = sample_bits (after_all (second a b) more) s in
    append_assoc h (v ++ m) n ∙ ap (λ (bs : List Bool). h ++ bs) (append_assoc v m n ∙ ap (λ (bs : List Bool). v ++ bs) (sym (samples_more (second a b) more s)))

bits_more : (samples : List Sample) (s : Sample) → body_bits samples ++ next_bits (last_of samples) s ≡ body_bits (samples ++ s ∷ [])
bits_more [] s = none_more s
bits_more (a ∷ []) s = one_more a s
bits_more (a ∷ b ∷ more) s = two_more a b more s

whole_after : (samples : List Sample) (s : Sample) → next_whole (last_of samples) s ≡ is_whole_chunk (samples ++ s ∷ [])
unfolding next_whole ends_whole
whole_after [] s = refl
whole_after (a ∷ []) s = refl
whole_after (a ∷ b ∷ more) s = sym (whole_more (is_whole None (bit_xor (pattern a.value) (pattern b.value))) (second a b) more s)

last_after : (samples : List Sample) (s : Sample) → next_last (last_of samples) s ≡ last_of (samples ++ s ∷ [])
unfolding next_last
last_after [] s = refl
last_after (a ∷ []) s = refl
last_after (a ∷ b ∷ more) s = ap Later (sym (last_more (second a b) more s))

all_more : (samples : List Sample) (s : Sample) → All IsFit samples → IsFit s → All IsFit (samples ++ s ∷ [])
all_more samples s h f = All-push IsFit samples s h f

pub written_none : IsWritten [] [] 0 false Nothing
written_none = record {
  few = omega arith;
  fit = All-nil IsFit;
  bits_are = sym (ap (λ (bs : List Bool). bs ++ []) no_bytes);
  count_is = refl;
  whole_is = refl;
  last_is = refl;
}

pub written_more : (samples : List Sample) (s : Sample) (bits : List Bool) (count : ℕ) (whole : Bool) (last : Last) → IsWritten samples bits count whole last → length samples < 65535 → IsFit s
    → IsWritten (samples ++ s ∷ []) (bits ++ next_bits last s) (count + 1) (next_whole last s) (next_last last s)
written_more samples s bits count whole last h few fit = record {
  few = omega (arith, length-append samples (s ∷ []), few);
  fit = all_more samples s h.fit fit;
  bits_are = ap (λ (bs : List Bool). bs ++ next_bits last s) h.bits_are ∙ ap (λ (l : Last). body_bits samples ++ next_bits l s) h.last_is ∙ bits_more samples s;
  count_is = omega (arith, length-append samples (s ∷ []), h.count_is);
  whole_is = ap (λ (l : Last). next_whole l s) h.last_is ∙ whole_after samples s;
  last_is = ap (λ (l : Last). next_last l s) h.last_is ∙ last_after samples s;
}

-- ---- what is read of it

pub read_written : (samples : List Sample) (bits : List Bool) (count : ℕ) (whole : Bool) (last : Last) → IsWritten samples bits count whole last → read_of count bits ≡ samples
read_written samples bits count whole last h =
    let packed = bytes_packed bits in
    let zeros : List Bool = replicate packed.pad false in
    let cut = cut_front (head_bytes samples) (bytes_of bits) (behind_head samples ++ zeros) (head_small samples h.fit) (bytes_small bits)
    (packed.filled ∙ ap (λ (bs : List Bool). bs ++ zeros) h.bits_are ∙ append_assoc (bits_in (head_bytes samples)) (behind_head samples) zeros) in
    ap or_none (ap (λ (bs : List ℕ). first_at count bs) cut.whole ∙ ap (λ (n : ℕ). first_at n (head_bytes samples ++ cut.back)) h.count_is ∙ head_round samples cut.back zeros h.fit cut.behind)

-- ---- the end of a chunk

count_long : (n : ℕ) → length (count_bytes n) ≡ 2
unfolding count_bytes
count_long n = length-bytes_high_first 2 n

body_behind : (text : List ℕ) (samples : List Sample) → count_bytes (length samples) ++ text ≡ xor_text samples → text ≡ xor_body samples
unfolding xor_body
body_behind text samples e = sym (drop_at (count_bytes (length samples)) text 2 (count_long (length samples))) ∙ ap (drop 2) e

body_is : (text : List ℕ) (samples : List Sample) (bits : List Bool) (count : ℕ) (whole : Bool) (last : Last) → IsWritten samples bits count whole last → IsBytes text → IsPacked text whole bits → text ≡ xor_body samples
unfolding chunk_bits
body_is text samples bits count whole last h small packed =
    let n : List ℕ = count_bytes (length samples) in
    let zeros : List Bool = replicate packed.pad false in
    let front : List Bool = bits_in n in
    let all : bits_in (n ++ text) ≡ (bits_in (n ++ head_bytes samples) ++ behind_head samples) ++ zeros =
    bits_in-append n text ∙ ap (λ (bs : List Bool). front ++ bs) (packed.filled ∙ ap (λ (bs : List Bool). bs ++ zeros) h.bits_are) ∙ sym (append_assoc front (body_bits samples) zeros)
    ∙ ap (λ (bs : List Bool). bs ++ zeros) (sym (append_assoc front (bits_in (head_bytes samples)) (behind_head samples)) ∙ ap (λ (bs : List Bool). bs ++ behind_head samples) (sym (bits_in-append n (head_bytes samples)))) in
    let whole_packed : IsPacked (n ++ text) (is_whole_chunk samples) (chunk_bits samples) = subst (λ (w : Bool). IsPacked (n ++ text) w (chunk_bits samples)) h.whole_is (record { pad = packed.pad; short = packed.short; filled = all }) in
    body_behind text samples (xor_is (n ++ text) samples (bytes_append n text (count_small (length samples) h.few) small) whole_packed)

pub ended_is : (old new : List ℕ) (samples : List Sample) (bits : List Bool) (count : ℕ) (whole : Bool) (last : Last) → IsWritten samples bits count whole last → IsBytes new → IsEnded old new whole bits → new ≡ old ++ xor_body samples
ended_is old new samples bits count whole last h small ended =
    ended.is ∙ ap (λ (bs : List ℕ). old ++ bs) (body_is ended.back samples bits count whole last h (bytes_drop (old ++ ended.back) ended.back (length old) (subst IsBytes ended.is small) (sym (drop_at old ended.back (length old) refl))) ended.packed)

-- ---- the writer's invariant

pub begun : (bits : List Bool) → bits ≡ [] → IsWritten [] bits 0 false Nothing
begun bits e = subst (λ (bs : List Bool). IsWritten [] bs 0 false Nothing) (sym e) written_none

pub written_read : (samples : List Sample) (bits : List Bool) (count : ℕ) (whole : Bool) (last : Last) → IsWritten samples bits count whole last → IsWritten (read_of count bits) bits count whole last
written_read samples bits count whole last h = subst (λ (l : List Sample). IsWritten l bits count whole last) (sym (read_written samples bits count whole last h)) h

pub pushed : (samples : List Sample) (s : Sample) (bits new : List Bool) (count : ℕ) (whole whole' : Bool) (last last' : Last) → IsWritten samples bits count whole last → length samples < 65535 → IsFit s
    → new ≡ bits ++ next_bits last s → last' ≡ next_last last s → whole' ≡ next_whole last s → IsWritten (samples ++ s ∷ []) new (count + 1) whole' last'
pushed samples s bits new count whole whole' last last' h few fit e f g = rw (e, f, g) (written_more samples s bits count whole last h few fit)

pub ending_most : (count : ℕ) → ending count ≤ 8
ending_most count = either (eqb count 0)
  where
    either : (b : Bool) → cond b 0 8 ≤ 8
    either false = omega arith
    either true = omega arith

-- ---- a whole chunk

pub text_parts : (samples : List Sample) → length samples ≤ 65535 → xor_text samples ≡ count_bytes (length samples) ++ xor_body samples
unfolding chunk_bits xor_body
text_parts samples few =
    let n : List ℕ = count_bytes (length samples) in
    let text : List ℕ = xor_text samples in
    let packed = xor_packed samples in
    let zeros : List Bool = replicate packed.pad false in
    let behind : List Bool = bits_in (head_bytes samples) ++ behind_head samples in
    let parts : bits_in text ≡ bits_in n ++ (behind ++ zeros) =
    packed.filled ∙ ap (λ (bs : List Bool). (bs ++ behind_head samples) ++ zeros) (bits_in-append n (head_bytes samples)) ∙ ap (λ (bs : List Bool). bs ++ zeros) (append_assoc (bits_in n) (bits_in (head_bytes samples)) (behind_head samples)) ∙ append_assoc (bits_in n) behind zeros in
    let cut = cut_front n text (behind ++ zeros) (count_small (length samples) few) (xor_small samples) parts in
    let back : cut.back ≡ drop 2 text = sym (drop_at n cut.back 2 (count_long (length samples))) ∙ ap (drop 2) (sym cut.whole) in
    cut.whole ∙ ap (λ (bs : List ℕ). n ++ bs) back

pub body_read : (samples : List Sample) → length samples ≤ 65535 → All IsFit samples → first_at (length samples) (xor_body samples) ≡ Ok samples
body_read samples few fit =
    let n : List ℕ = count_bytes (length samples) in
    let body : List ℕ = xor_body samples in
    let long : 2 ≤ length (n ++ body) = omega (arith, length-append n body, count_long (length samples)) in
    unpacked_more (n ++ body) body (length samples) long (count_back (length samples) body few) (count_drop (length samples) body) ∙ ap unpacked (sym (text_parts samples few)) ∙ round_trip samples few fit

pub none_is : (text : List ℕ) (samples : List Sample) → length samples ≡ 0 → text ≡ count_bytes (length samples) → text ≡ xor_text samples
unfolding chunk_bits
none_is text [] h e =
    xor_is text [] (subst IsBytes (sym e) (count_small 0 (omega arith)))
    (record { pad = 0; short = omega arith; filled = ap bits_in (e ∙ sym (append-nil (count_bytes 0))) ∙ sym (append-nil (bits_in (count_bytes 0 ++ []))) ∙ sym (append-nil (bits_in (count_bytes 0 ++ []) ++ [])) })
none_is text (a ∷ more) h e = absurd (omega (arith, h))

pub body_of : (samples : List Sample) (bits : List Bool) (count : ℕ) (whole : Bool) (last : Last) → IsWritten samples bits count whole last → IsBodyOf samples count whole bits
body_of samples bits count whole last h = record { few = h.few; fit = h.fit; count_is = h.count_is; text_is = λ text small packed. body_is text samples bits count whole last h small packed }

pub body_back : (samples : List Sample) → length samples ≤ 65535 → All IsFit samples → body_samples (length samples) (xor_body samples) ≡ samples
unfolding body_samples
body_back samples few fit = ap or_none (body_read samples few fit)
