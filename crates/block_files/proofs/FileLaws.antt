-- One chunk more.
use Rattle.std.proofs.Common.{◌≡◌, ℕ, ◌+◌, ◌-◌, ◌*◌, ◌<◌, ◌≤◌, ◌^◌, Bool, true, false, List, [], ◌∷◌, ◌++◌, length, leb, inl, inr, refl, sym, ap, ◌∙◌, append_assoc, arith}
use Rattle.std.proofs.lemmas.List.{length-append}
use Rattle.std.proofs.lemmas.Bool.{cases_lt, le-leb, lt-leb}
use Rattle.hw_bytes.specs.Writing.{uvarint}
use Rattle.hw_bytes.specs.Sums.{Text, sum_text}
use Rattle.block_files.specs.declared.encoding.Encoding.{Encoding}
use Rattle.block_files.specs.Files.{chunk_element, encoding_byte, file_head, with_chunk, with_last, last_length, last_reference}

-- after the last file, where it has room, and else in a file of its own
pub goes_behind : (enc : Encoding) (limit : ℕ) (full : List Text) (last body : Text) → leb (length last + length (chunk_element enc body)) limit ≡ true → with_chunk enc limit (full ++ last ∷ []) body ≡ full ++ (last ++ chunk_element enc body) ∷ []
unfolding with_chunk
goes_behind enc limit [] last body h = rw h refl
goes_behind enc limit (f ∷ []) last body h = ap (λ (t : List Text). f ∷ t) (goes_behind enc limit [] last body h)
goes_behind enc limit (f ∷ g ∷ full) last body h = ap (λ (t : List Text). f ∷ t) (goes_behind enc limit (g ∷ full) last body h)

pub begins_another : (enc : Encoding) (limit : ℕ) (full : List Text) (last body : Text) → leb (length last + length (chunk_element enc body)) limit ≡ false → with_chunk enc limit (full ++ last ∷ []) body ≡ full ++ last ∷ (file_head ++ chunk_element enc body) ∷ []
unfolding with_chunk
begins_another enc limit [] last body h = rw h refl
begins_another enc limit (f ∷ []) last body h = ap (λ (t : List Text). f ∷ t) (begins_another enc limit [] last body h)
begins_another enc limit (f ∷ g ∷ full) last body h = ap (λ (t : List Text). f ∷ t) (begins_another enc limit (g ∷ full) last body h)

pub begins_first : (enc : Encoding) (limit : ℕ) (body : Text) → with_chunk enc limit [] body ≡ (file_head ++ chunk_element enc body) ∷ []
unfolding with_chunk
begins_first enc limit body = refl

-- the last file, with a chunk after some of its bytes
some_last : (full : List Text) (front body : Text) → 0 < length body → with_last full (front ++ body) ≡ full ++ (front ++ body) ∷ []
some_last full [] [] h = absurd (omega arith)
some_last full [] (b ∷ body) h = refl
some_last full (b ∷ front) body h = refl

pub some_element : (enc : Encoding) (body : Text) → 0 < length (chunk_element enc body)
some_element enc body = omega (arith, length-append (uvarint (length body) ++ encoding_byte enc ∷ body) (sum_text (encoding_byte enc ∷ body)), length-append (uvarint (length body)) (encoding_byte enc ∷ body))

with_last-put : (enc : Encoding) (full : List Text) (front body : Text) → with_last full (front ++ chunk_element enc body) ≡ full ++ (front ++ chunk_element enc body) ∷ []
with_last-put enc full front body = some_last full front (chunk_element enc body) (some_element enc body)

-- where the next chunk goes: after so many bytes of the last file, after the full ones
pub stays : (enc : Encoding) (limit : ℕ) (full : List Text) (last body : Text) → 0 < length last → length last + length (chunk_element enc body) ≤ limit → with_chunk enc limit (with_last full last) body ≡ with_last full (last ++ chunk_element enc body)
stays enc limit full [] body some room = absurd (omega (arith, some))
stays enc limit full (b ∷ last) body some room = goes_behind enc limit full (b ∷ last) body (le-leb (length (b ∷ last) + length (chunk_element enc body)) limit room)

pub moves : (enc : Encoding) (limit : ℕ) (full before : List Text) (last body : Text) → (last ≡ [] → before ≡ []) → (0 < length last → limit < length last + length (chunk_element enc body)) → full ≡ with_last before last
    → with_chunk enc limit (with_last before last) body ≡ with_last full (file_head ++ chunk_element enc body)
moves enc limit full before [] body none room is =
    ap (λ (fs : List Text). with_chunk enc limit fs body) (none refl) ∙ begins_first enc limit body ∙ ap (λ (fs : List Text). fs ++ (file_head ++ chunk_element enc body) ∷ []) (sym (is ∙ none refl))
moves enc limit full before (b ∷ last) body none room is =
    begins_another enc limit before (b ∷ last) body (lt-leb (length (b ∷ last) + length (chunk_element enc body)) limit (room (omega arith)))
    ∙ sym (append_assoc before ((b ∷ last) ∷ []) ((file_head ++ chunk_element enc body) ∷ [])) ∙ ap (λ (fs : List Text). fs ++ (file_head ++ chunk_element enc body) ∷ []) (sym is)

pub moves_length : (enc : Encoding) (limit : ℕ) (before : List Text) (last body : Text) → (last ≡ [] → before ≡ []) → (0 < length last → limit < length last + length (chunk_element enc body))
    → length (with_chunk enc limit (with_last before last) body) ≡ length (with_last before last) + 1
moves_length enc limit before last body none room =
    let full : List Text = with_last before last in
    let is = moves enc limit full before last body none room refl in
    omega (arith, ap length is, length-append (with_last before last) ((file_head ++ chunk_element enc body) ∷ []))

pub no_room : (b : Bool) (enc : Encoding) (limit : ℕ) (lent last body : Text) (len : ℕ) → lent ≡ last → length (chunk_element enc body) ≡ len → ((0 < length lent) × (length lent + len ≤ limit) → b ≡ true) → b ≡ false
    → 0 < length last → limit < length last + length (chunk_element enc body)
no_room b enc limit lent last body len e n room refused some = elim (cases_lt limit (length last + length (chunk_element enc body))) [
  | inl lt ↦ lt
  | inr le ↦ (let yes : b ≡ true = room (omega (arith, ap length e), omega (arith, ap length e)) in absurd cc)
]

last_length-push : (full : List Text) (last : Text) → last_length (full ++ last ∷ []) ≡ length last
last_length-push [] last = refl
last_length-push (f ∷ []) last = refl
last_length-push (f ∷ g ∷ full) last = last_length-push (g ∷ full) last

pub last_reference_at : (enc : Encoding) (full : List Text) (front body : Text) → last_reference enc (full ++ (front ++ chunk_element enc body) ∷ []) body ≡ length full * 2 ^ 32 + length front
last_reference_at enc full front body =
    let n : length (full ++ (front ++ chunk_element enc body) ∷ []) - 1 ≡ length full = omega (arith, length-append full ((front ++ chunk_element enc body) ∷ [])) in
    let k : last_length (full ++ (front ++ chunk_element enc body) ∷ []) - length (chunk_element enc body) ≡ length front = omega (arith, last_length-push full (front ++ chunk_element enc body), length-append front (chunk_element enc body)) in
    rw (n, k) refl

pub last_reference_is : (enc : Encoding) (full : List Text) (front body : Text) → last_reference enc (with_last full (front ++ chunk_element enc body)) body ≡ length full * 2 ^ 32 + length front
last_reference_is enc full front body = ap (λ (fs : List Text). last_reference enc fs body) (with_last-put enc full front body) ∙ last_reference_at enc full front body
