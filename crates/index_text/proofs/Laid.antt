-- Elements laid one after another, from the front.
use Rattle.std.proofs.Common.{◌≡◌, ℕ, ◌+◌, List, [], ◌∷◌, ◌++◌, length, drop, refl, sym, ap, ◌∙◌, append_assoc}
use Rattle.std.specs.Prelude.{replicate}
use Rattle.std.proofs.lemmas.List.{append-nil, length-append, length-replicate, drop_at}
use Rattle.index_text.specs.Layout.{Text, padding, put, put_all}

-- what follows a text of n bytes, where these elements are put after it
unfoldable pub laid : ℕ → ℕ → List Text → Text
laid align n [] = []
laid align n (e ∷ es) = replicate (padding align n) 0 ++ (e ++ laid align (n + padding align n + length e) es)

pub length-zeros : (n : ℕ) → length (replicate {A = ℕ} n 0) ≡ n
length-zeros n = length-replicate {A = ℕ} n 0

pub length-put : (align : ℕ) (before element : Text) → length (put align before element) ≡ length before + padding align (length before) + length element
length-put align before element =
    length-append (before ++ replicate (padding align (length before)) 0) element
    ∙ ap (λ n. n + length element) (length-append before (replicate (padding align (length before)) 0) ∙ ap (λ n. length before + n) (length-zeros (padding align (length before))))

pub put_all-laid : (align : ℕ) (before : Text) (es : List Text) → put_all align before es ≡ before ++ laid align (length before) es
unfolding laid
put_all-laid align before [] = sym (append-nil before)
put_all-laid align before (e ∷ es) =
    put_all-laid align (put align before e) es
    ∙ ap (λ n. put align before e ++ laid align n es) (length-put align before e)
    ∙ regrouped before (replicate (padding align (length before)) 0) e (laid align (length before + padding align (length before) + length e) es)
  where
    regrouped : (a b c d : Text) → ((a ++ b) ++ c) ++ d ≡ a ++ (b ++ (c ++ d))
    regrouped a b c d = append_assoc (a ++ b) c d ∙ append_assoc a b (c ++ d)

-- the section is what is laid
pub section-laid : (align : ℕ) (before : Text) (es : List Text) (rest : Text) → drop (length before) (put_all align before es ++ rest) ≡ laid align (length before) es ++ rest
section-laid align before es rest =
    ap (λ t. drop (length before) (t ++ rest)) (put_all-laid align before es)
    ∙ ap (drop (length before)) (append_assoc before (laid align (length before) es) rest)
    ∙ drop_at before (laid align (length before) es ++ rest) (length before) refl

pub length-zeros-behind : (text : Text) (n : ℕ) → length (text ++ replicate n 0) ≡ length text + n
length-zeros-behind text n = length-append text (replicate n 0) ∙ ap (λ k. length text + k) (length-zeros n)
