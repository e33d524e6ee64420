-- How many parts of files are lost.
use Rattle.std.proofs.Common.{◌≡◌, ◌≢◌, ◌∷◌, ◌++◌, ◌+◌, ◌<◌, [], ◌∙◌, ℕ, List, arith, length, length-append, take, get_or, ap, sym, refl}
use Rattle.std.specs.Prelude.{None, Some}
use Rattle.std.proofs.lemmas.Grind.{flat_map-append}
use Rattle.std.proofs.lemmas.List.{append-nil, length-map, take_more}
use Rattle.answers.specs.declared.damage.Flaw.TheVariants as flaw
use Rattle.log_directory.specs.declared.lost.Lost.{Lost}
use Rattle.log_directory.specs.declared.source.FileRead.{FileRead}
use Rattle.log_directory.specs.Rescued.{lost_of}
use Rattle.log_directory.specs.Sources.{flaw_of_lost, lost_in}

-- the parts of files, and of one more
lost_more : (files : List FileRead) (i : ℕ) (d : FileRead) → i < length files → length (lost_in (take (i + 1) files)) ≡ length (lost_in (take i files)) + length (get_or files i d).lost.items
lost_more files i d within =
    let parts = λ (f : FileRead). lost_of f.in_checkpoint f.number f.lost.items in
    let file = get_or files i d in
    ap (λ fs. length (lost_in fs)) (take_more files i d within)
    ∙ (ap length (flat_map-append parts (take i files) (file ∷ []) ∙ ap (λ more. lost_in (take i files) ++ more) (append-nil (parts file)))
    ∙ (length-append (lost_in (take i files)) (parts file) ∙ ap (λ n. length (lost_in (take i files)) + n) (length-map file.lost.items _)))

pub counted_more : (files : List FileRead) (i : ℕ) (d : FileRead) (count more next : ℕ) → i < length files → count ≡ length (lost_in (take i files)) → more ≡ length (get_or files i d).lost.items → next ≡ count + more
    → next ≡ length (lost_in (take (i + 1) files))
counted_more files i d count more next within so_far is sum = sum ∙ (ap (λ n. n + more) so_far ∙ (ap (λ n. length (lost_in (take i files)) + n) is ∙ sym (lost_more files i d within)))

-- nothing is lost
pub lost_none : (lost : List Lost) → length lost ≡ 0 → None ≡ flaw_of_lost lost
lost_none [] none = refl
lost_none (one ∷ more) none = absurd (omega (arith, none))

-- so much is lost
pub lost_some : (lost : List Lost) (count : ℕ) → count ≡ length lost → count ≢ 0 → Some (flaw.Lost count) ≡ flaw_of_lost lost
lost_some [] count is some = absurd (some is)
lost_some (one ∷ more) count is some = ap (λ n. Some (flaw.Lost n)) is
