-- A page with one more token.
use Rattle.std.specs.Prelude.{◌≡◌, ℕ, List, [], ◌∷◌, ◌++◌, refl}
use Rattle.std.specs.List.{flat_map}
use Rattle.std.proofs.Common.{ap, append_assoc, subst, sym, ◌∙◌, append-nil}
use Rattle.std.proofs.lemmas.Grind.{flat_map-append}
use Rattle.std.proofs.lemmas.List.{reverse-append}
use Rattle.html_text.specs.declared.names.Tag.{Tag}
use Rattle.html_text.specs.declared.names.Attribute.{Attribute}
use Rattle.html_text.specs.Html.{End, IsWritten, Opens, Single, Start, Token, Words, end_text, ends_text, escaped, first_line, start_text, token_text}

-- the text of one token behind others
behind : (text more : List ℕ) (tokens : List Token) (t : Token) → text ≡ first_line ++ flat_map token_text tokens → more ≡ token_text t → text ++ more ≡ first_line ++ flat_map token_text (tokens ++ t ∷ [])
behind text more tokens t is same =
    ap (λ (l : List ℕ). l ++ more) is ∙ append_assoc first_line (flat_map token_text tokens) more
    ∙ ap (λ (l : List ℕ). first_line ++ l) (ap (λ (l : List ℕ). flat_map token_text tokens ++ l) (same ∙ sym (append-nil (token_text t))) ∙ sym (flat_map-append token_text tokens (t ∷ [])))

pub nothing : IsWritten (record { text = first_line; around = [] })
nothing = record { tokens = []; opens = Opens.none; is = refl }

module _ (text : List ℕ) (around : List Tag) (tag : Tag) where
  pub started : (attributes : List (Attribute × List ℕ)) → IsWritten (record { text = text; around = around }) → IsWritten (record { text = text ++ start_text tag attributes; around = around ++ tag ∷ [] })
  started attributes w = record {
    tokens = w.tokens ++ Start tag attributes ∷ [];
    opens = Opens.start w.tokens around tag attributes w.opens;
    is = behind text (start_text tag attributes) w.tokens (Start tag attributes) w.is refl;
  }

  pub single : (attributes : List (Attribute × List ℕ)) → IsWritten (record { text = text; around = around }) → IsWritten (record { text = text ++ start_text tag attributes; around = around })
  single attributes w = record {
    tokens = w.tokens ++ Single tag attributes ∷ [];
    opens = Opens.single w.tokens around tag attributes w.opens;
    is = behind text (start_text tag attributes) w.tokens (Single tag attributes) w.is refl;
  }

  pub ended : IsWritten (record { text = text; around = around ++ tag ∷ [] }) → IsWritten (record { text = text ++ end_text tag; around = around })
  ended w = record {
    tokens = w.tokens ++ End tag ∷ [];
    opens = Opens.end w.tokens around tag w.opens;
    is = behind text (end_text tag) w.tokens (End tag) w.is refl;
  }

pub worded : (text words : List ℕ) (around : List Tag) → IsWritten (record { text = text; around = around }) → IsWritten (record { text = text ++ escaped words; around = around })
worded text words around w = record {
  tokens = w.tokens ++ Words words ∷ [];
  opens = Opens.words w.tokens around words w.opens;
  is = behind text (escaped words) w.tokens (Words words) w.is refl;
}

-- the ends of elements, of which one is inside all others
pub last_first : (around : List Tag) (tag : Tag) → ends_text (around ++ tag ∷ []) ≡ end_text tag ++ ends_text around
last_first around tag = ap (λ (l : List Tag). flat_map end_text l) (reverse-append around (tag ∷ []))

module _ (text : List ℕ) (all around : List Tag) (tag : Tag) (is : all ≡ around ++ tag ∷ []) where
  -- the innermost element ends
  pub ended_of : IsWritten (record { text = text; around = all }) → IsWritten (record { text = text ++ end_text tag; around = around })
  ended_of w = ended text around tag (subst (λ (l : List Tag). IsWritten (record { text = text; around = l })) is w)

  -- and the ends of the others are behind its own
  pub ends_of : (text ++ end_text tag) ++ ends_text around ≡ text ++ ends_text all
  ends_of = append_assoc text (end_text tag) (ends_text around) ∙ ap (λ (l : List ℕ). text ++ l) (sym (ap ends_text is ∙ last_first around tag))
