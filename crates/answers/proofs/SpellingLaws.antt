-- Reading a spelled word byte by byte, and a label part by part.
use Rattle.std.proofs.Common.{◌≡◌, ℕ, List, [], ◌∷◌, ◌++◌, take, drop, sym, ap, ◌∙◌, append_assoc, lit<}
use Rattle.std.proofs.lemmas.List.{flat_map_more, take-append-drop}
use Rattle.std.proofs.lemmas.Str.Pattern.{drop_at_char}
use Rattle.std.specs.Str.Pattern.{FindsChar, SplitsAroundMatch}
use Rattle.answers.specs.Spellings.{byte_spelling, pair_text, spelled}

-- one byte more of the word is read
pub spelled_more : (word rest label : List ℕ) (byte taken : ℕ) → word ≡ spelled label ++ rest → take taken rest ≡ byte_spelling byte → word ≡ spelled (label ++ byte ∷ []) ++ drop taken rest
spelled_more word rest label byte taken so_far is =
    so_far
    ∙ ap (λ (t : List ℕ). spelled label ++ t) (sym (take-append-drop taken rest) ∙ ap (λ (t : List ℕ). t ++ drop taken rest) is)
    ∙ sym (append_assoc (spelled label) (byte_spelling byte) (drop taken rest))
    ∙ ap (λ (t : List ℕ). t ++ drop taken rest) (flat_map_more byte_spelling [] label byte)

-- the two parts of a word stand round its first `=`
pub parts_joined : (word name value : List ℕ) → SplitsAroundMatch (FindsChar 61) word name value → word ≡ name ++ 61 ∷ value
parts_joined word name value cut =
    sym (take-append-drop cut.0 word)
    ∙ ap (λ (t : List ℕ). take cut.0 word ++ t) (drop_at_char 61 word cut.0 cut.1 cut.2.1 (lit< tt))
    ∙ ap (λ (t : List ℕ). t ++ 61 ∷ drop cut.1 word) (sym cut.3)
    ∙ ap (λ (t : List ℕ). name ++ 61 ∷ t) (sym cut.4)

-- a word whose two parts spell a name and a value is that label
pub pair_of_parts : (word name value names values : List ℕ) → SplitsAroundMatch (FindsChar 61) word name value → name ≡ spelled names → value ≡ spelled values → word ≡ pair_text names values
pair_of_parts word name value names values cut n v =
    parts_joined word name value cut
    ∙ ap (λ (t : List ℕ). t ++ 61 ∷ value) n
    ∙ ap (λ (t : List ℕ). spelled names ++ 61 ∷ t) v
