-- Texts that grow by lines.
use Rattle.std.proofs.Common.{◌≡◌, ℕ, ◌+◌, ◌<◌, Bool, List, [], ◌∷◌, ◌++◌, map, Result, Ok, Err, OnOk, is_ok, if◌then◌else◌, ap, refl, sym, subst, ◌∙◌, length, take, get_or, slice_get, Some, append_assoc}
use Rattle.std.specs.Prelude.{ℤ}
use Rattle.std.specs.List.{AllZip, flat_map}
use Rattle.std.specs.Fmt.{signed_decimal}
use Rattle.std.proofs.lemmas.List.{append-nil, flat_map_more, map-append, take_more}
use Rattle.std.proofs.lemmas.Grind.{flat_map-append}
use Rattle.std.proofs.lemmas.Option.{get_or_from_slice_get, slice_get_within}
use Rattle.wal_record.specs.declared.labels.Label.{Label}
use Rattle.wal_record.specs.Labels.{Labels}
use Rattle.answers.specs.Spellings.{pair_text}
use Rattle.head_column.specs.Samples.{Sample}
use Rattle.answers.specs.Outputs.{IsMade}
use Rattle.query_commands.specs.Dumps.{AppendsLine, AppendsValue, IsLine, MakesLines, labelled, labels_text}

-- ---- a line

in_a_row : (old labels time word : List ℕ) → (((old ++ labels) ++ (time ++ 32 ∷ [])) ++ word) ++ 10 ∷ [] ≡ old ++ (labels ++ (time ++ (32 ∷ (word ++ 10 ∷ []))))
in_a_row old labels time word = simp append_assoc

-- the labels, the time, the value and the end of the line are appended in turn
pub line_written : {A E : Type 0} (r : Result A E) (floats : Bool) (labels : List ℕ) (s : Sample) (old t1 t2 t3 t4 end : List ℕ) (time value : ℤ)
    → t1 ≡ old ++ labels → t2 ≡ t1 ++ (signed_decimal time ++ 32 ∷ []) → AppendsValue floats value t2 t3 → t4 ≡ (if is_ok r then t3 ++ end else t3)
    → time ≡ s.time → value ≡ s.value → end ≡ 10 ∷ [] → OnOk r (AppendsLine floats labels s old t4)
line_written (Ok x) floats labels s old t1 t2 t3 t4 end time value e1 e2 v e4 is_time is_value is_end =
    let spelled = subst (λ (z : ℤ). AppendsValue floats z t2 t3) is_value v in
    record {
      line = labels ++ (signed_decimal s.time ++ (32 ∷ (spelled.word ++ 10 ∷ [])));
      of = record { word = spelled.word; value = spelled.spelled; is = refl };
      is =
          e4 ∙ ap (λ (t : List ℕ). t3 ++ t) is_end
          ∙ ap (λ (t : List ℕ). t ++ 10 ∷ []) (spelled.is ∙ ap (λ (t : List ℕ). t ++ spelled.word) (e2 ∙ ap (λ (t : List ℕ). t ++ (signed_decimal time ++ 32 ∷ [])) e1 ∙ ap (λ (z : ℤ). (old ++ labels) ++ (signed_decimal z ++ 32 ∷ [])) is_time))
          ∙ in_a_row old labels (signed_decimal s.time) spelled.word;
    }
line_written (Err e) floats labels s old t1 t2 t3 t4 end time value e1 e2 v e4 is_time is_value is_end = tt

-- ---- several lines

both_zipped : {A B : Type 0} (R : A → B → Type 0) (xs ys : List A) (us vs : List B) → AllZip R xs us → AllZip R ys vs → AllZip R (xs ++ ys) (us ++ vs)
both_zipped R [] ys [] vs h k = k
both_zipped R [] ys (u ∷ us) vs h k = absurd h
both_zipped R (x ∷ xs) ys [] vs h k = absurd h
both_zipped R (x ∷ xs) ys (u ∷ us) vs h k = (h.0, both_zipped R xs ys us vs h.1 k)

module _ {O : Type 0} (printed : O → List ℕ → O → Type 0) (floats : Bool) where
  pub makes_none : (out : O) (text : List ℕ) → MakesLines printed floats [] out text out text
  makes_none out text = record { lines = []; each = tt; made = λ first all h. subst (IsMade printed first out text) (sym (append-nil all)) h }

  pub makes_both : (ps qs : List (List ℕ × Sample)) (old between new : O) (waiting middle rest : List ℕ) → MakesLines printed floats ps old waiting between middle → MakesLines printed floats qs between middle new rest
      → MakesLines printed floats (ps ++ qs) old waiting new rest
  makes_both ps qs old between new waiting middle rest h k =
      let flat : List (List ℕ) → List ℕ = λ lines. flat_map (λ line. line) lines in
      record {
        lines = h.lines ++ k.lines;
        each = both_zipped (λ p line. IsLine floats p.0 p.1 line) ps qs h.lines k.lines h.each k.each;
        made = λ first all made. subst (IsMade printed first new rest)
            (append_assoc all (flat h.lines) (flat k.lines) ∙ ap (λ (t : List ℕ). all ++ t) (sym (flat_map-append (λ (line : List ℕ). line) h.lines k.lines)))
            (k.made first (all ++ flat h.lines) (h.made first all made));
      }

  -- the line of a sample is appended to what waits, and then some of it may be printed
  pub makes_line : (labels : List ℕ) (s : Sample) (old new : O) (waiting longer rest : List ℕ) → AppendsLine floats labels s waiting longer
      → ((first : O) (all : List ℕ) → IsMade printed first old longer all → IsMade printed first new rest all) → MakesLines printed floats ((labels, s) ∷ []) old waiting new rest
  makes_line labels s old new waiting longer rest h on = record {
    lines = h.line ∷ [];
    each = (h.of, tt);
    made = λ first all (before, was, is). on first (all ++ (h.line ++ []))
        (before, was, ap (λ (t : List ℕ). all ++ t) (append-nil h.line) ∙ ap (λ (t : List ℕ). t ++ h.line) is ∙ append_assoc before waiting h.line ∙ ap (λ (t : List ℕ). before ++ t) (sym h.is));
  }

  -- the line of the next sample
  pub samples_more : (labels : List ℕ) (samples : List Sample) (i : ℕ) (d : Sample) (old between new : O) (waiting middle rest : List ℕ) → i < length samples
      → MakesLines printed floats (labelled labels (take i samples)) old waiting between middle → MakesLines printed floats ((labels, get_or samples i d) ∷ []) between middle new rest
      → MakesLines printed floats (labelled labels (take (i + 1) samples)) old waiting new rest
  samples_more labels samples i d old between new waiting middle rest lt h k =
      let f : Sample → List ℕ × Sample = λ s. (labels, s) in
      let next : labelled labels (take (i + 1) samples) ≡ labelled labels (take i samples) ++ (labels, get_or samples i d) ∷ [] = ap (labelled labels) (take_more samples i d lt) ∙ map-append f (take i samples) (get_or samples i d ∷ []) in
      subst (λ (ps : List (List ℕ × Sample)). MakesLines printed floats ps old waiting new rest) (sym next)
      (makes_both (labelled labels (take i samples)) ((labels, get_or samples i d) ∷ []) old between new waiting middle rest h k)

-- ---- labels

-- the text with one label more
pub labels_more : (labels : Labels) (i : ℕ) (l : Label) (old with_pair all space : List ℕ) → slice_get labels i ≡ Some l → old ≡ labels_text (take i labels)
    → with_pair ≡ old ++ pair_text l.name l.value → all ≡ with_pair ++ space → space ≡ 32 ∷ [] → all ≡ labels_text (take (i + 1) labels)
labels_more labels i l old with_pair all space at so_far pair behind is_space =
    let text : Label → List ℕ = λ l. pair_text l.name l.value ++ 32 ∷ [] in
    let next : take (i + 1) labels ≡ take i labels ++ l ∷ [] =
    take_more labels i l (slice_get_within labels i l at) ∙ ap (λ (m : Label). take i labels ++ m ∷ []) (get_or_from_slice_get labels i l l at) in
    behind
    ∙ ap (λ (t : List ℕ). with_pair ++ t) is_space
    ∙ ap (λ (t : List ℕ). t ++ 32 ∷ []) (pair ∙ ap (λ (t : List ℕ). t ++ pair_text l.name l.value) so_far)
    ∙ append_assoc (labels_text (take i labels)) (pair_text l.name l.value) (32 ∷ [])
    ∙ flat_map_more text [] (take i labels) l
    ∙ ap labels_text (sym next)
