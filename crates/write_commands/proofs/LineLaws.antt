-- Reading rows line by line.
use Rattle.std.proofs.Common.{◌≡◌, ◌≢◌, ◌⊎◌, ℕ, ◌+◌, ◌<◌, All, Bool, true, false, cond, ◌==◌, Option, Some, None, MatchOption, MatchBool, unwrap_or, List, [], ◌∷◌, ◌++◌, map, length, get_or, inl, inr, refl, sym, ap, ◌∙◌, subst, append_assoc, append-nil, arith, eqb-true, length-append, Bor}
use Rattle.std.proofs.lemmas.Fn.{always_returns_same}
use Rattle.std.proofs.lemmas.List.{flat_map_more, get_or_append_left, get_or_at, length-map, map-append, map_push}
use Rattle.std.proofs.lemmas.List.Elements.{All-head, All-push, All-tail}
use Rattle.std.proofs.lemmas.Option.{unwrap_or-slice_get}
use Rattle.std.specs.Prelude.{slice_get}
use Rattle.std.proofs.lemmas.Slice.Zip.{all_zipped_more}
use Rattle.std.specs.declared.iter.Zip.{Zip}
use Rattle.std.specs.declared.ops.RangeFrom.{RangeFrom}
use Rattle.std.specs.declared.slice.Split.{Split}
use Rattle.std.specs.Fn.{CalledAt, ComputesKey, Mut}
use Rattle.std.specs.Iterator.Adapters.{zip_first, zip_second}
use Rattle.std.specs.List.{AllZip, IsFirstMatchOrLen}
use Rattle.std.specs.Slice.Iter.{split_callee, split_done, split_rest, split_steps}
use Rattle.store.specs.Found.{Bytes, Found}
use Rattle.write_commands.specs.RowTexts.{AreRowsAt, AreRowsOf, IsRowLine, lines_text}
use Rattle.wal_record.specs.Labels.{Labels}
use Rattle.head_live.specs.Rows.{Row, row_again, row_of}
use Rattle.head_live.specs.declared.rows.AgainRow.{AgainRow}
use Rattle.head_live.specs.declared.rows.RawRow.{RawRow}
use Rattle.write_commands.specs.RowParts.{sets_of}

-- ---- the lines of a text, which is cut at its newlines, and their numbers

-- what is still to come of the text, with a newline at its end
abbrev pub left_in : {F : Type 0} → Split ℕ F → List ℕ
left_in lines = cond (split_done lines) [] (split_rest lines ++ 10 ∷ [])

-- the lines, each with its number
abbrev pub Lines : Type 0 → Type 0
Lines F = Zip (RangeFrom ℕ) (Split ℕ F)

-- what is still to come of the text
abbrev pub lines_left : {F : Type 0} → Lines F → List ℕ
lines_left lines = left_in (zip_second lines)

-- the number of the next line
abbrev pub next_number : {F : Type 0} → Lines F → ℕ
next_number lines = (zip_first lines).start

-- at first the whole text is left
pub lines_begin : {F : Type 0} (it made : Lines F) (from : RangeFrom ℕ) (parts : Split ℕ F) (text : List ℕ) → it ≡ made → zip_first made ≡ from → zip_second made ≡ parts → split_rest parts ≡ text → split_done parts ≡ false
    → (lines_left it ≡ text ++ 10 ∷ []) × (next_number it ≡ from.start)
lines_begin {F} it made from parts text same first second rest done = (
  ap (λ (z : Lines F). lines_left z) same ∙ ap (λ (p : Split ℕ F). left_in p) second ∙ (λ i. cond (done i) [] (rest i ++ 10 ∷ [])),
  ap (λ (z : Lines F). next_number z) same ∙ ap (λ (r : RangeFrom ℕ). r.start) first,
)

-- nothing is left after the last line
pub none_left : {F : Type 0} (it : Lines F) → split_done (zip_second it) ≡ true → lines_left it ≡ []
none_left it done = ap (λ (b : Bool). cond b [] (split_rest (zip_second it) ++ 10 ∷ [])) done

-- a text that is cut at its first newline
cut_joined : (rest line after : List ℕ) (done : Bool) → MatchBool done (rest ≡ line) ((y : ℕ) × (rest ≡ line ++ (y ∷ after))) → IsFirstMatchOrLen (λ b. b == 10) rest (length line) → rest ++ 10 ∷ [] ≡ (line ++ 10 ∷ []) ++ cond done [] (after ++ 10 ∷ [])
cut_joined rest line after true cut first = ap (λ (t : List ℕ). t ++ 10 ∷ []) cut ∙ sym (append-nil (line ++ 10 ∷ []))
cut_joined rest line after false cut first =
    let y : ℕ = cut.0 in
    let within : length line < length rest = omega (arith, ap length cut.1, length-append line (y ∷ after)) in
    let at : get_or rest (length line) 0 ≡ y = ap (λ (t : List ℕ). get_or t (length line) 0) cut.1 ∙ get_or_at line y after 0 (length line) refl in
    let newline : y ≡ 10 = sym at ∙ eqb-true (get_or rest (length line) 0) 10 (first.1 within 0) in
    ap (λ (t : List ℕ). t ++ 10 ∷ []) (cut.1 ∙ ap (λ (b : ℕ). line ++ b ∷ after) newline)
    ∙ append_assoc line (10 ∷ after) (10 ∷ [])
    ∙ sym (append_assoc line (10 ∷ []) (after ++ 10 ∷ []))

-- the next line, and what is left after its newline
pub line_joined : {F : Type 0} (g : Mut F (Bor ℕ × Unit {0}) Bool) (s t : Split ℕ F) (line : Bor (List ℕ)) → split_steps g s (Some line) t
    → ((x : ℕ) (b : Bool) (f : F) → CalledAt g (split_callee s) x b f → (f ≡ split_callee s) × (b ≡ (x == 10)))
    → left_in s ≡ (line.now ++ 10 ∷ []) ++ left_in t
line_joined g s t line step tests =
    let key : ComputesKey g (λ b. b == 10) (split_callee s) = always_returns_same g (λ a r. r ≡ (a.0.now == 10)) (split_callee s) (λ a r f called. let m = tests a.0.now r f (record { shown = a.0; shows = refl; called = called }) in (m.1, m.0)) in
    ap (λ (b : Bool). cond b [] (split_rest s ++ 10 ∷ [])) step.0
    ∙ cut_joined (split_rest s) line.now (split_rest t) (split_done t) step.1 (step.2 (λ b. b == 10) key).1

-- ---- the rows that they spell

-- the row has its place among these
abbrev pub HasPlace : List RawRow → AgainRow → Type 0
HasPlace first r = r.place < length first

-- rows are read of the text
pub record AreReadUpTo (floats : Bool) (text : List ℕ) (rows : List Row) (left : List ℕ) : Type 0 where
  pub lines : List (List ℕ)
  pub whole : text ≡ lines_text lines ++ left
  pub each : AllZip (IsRowLine floats) lines rows

-- no row is read yet
pub none_read : {floats : Bool} (text : List ℕ) (sets : List Labels) (rows : List AgainRow) → rows ≡ [] → AreReadUpTo floats text (map (row_again sets) rows) text
none_read {floats} text sets rows none = subst (λ (rs : List AgainRow). AreReadUpTo floats text (map (row_again sets) rs) text) (sym none) (record { lines = []; whole = refl; each = tt })

-- one row more is read
one_read : {floats : Bool} (text line left after : List ℕ) (rows : List Row) (row : Row) → AreReadUpTo floats text rows left → left ≡ (line ++ 10 ∷ []) ++ after → IsRowLine floats line row → AreReadUpTo floats text (rows ++ row ∷ []) after
one_read {floats} text line left after rows row so_far cut is = record {
  lines = so_far.lines ++ line ∷ [];
  whole =
      so_far.whole
      ∙ ap (λ (t : List ℕ). lines_text so_far.lines ++ t) cut
      ∙ sym (append_assoc (lines_text so_far.lines) (line ++ 10 ∷ []) after)
      ∙ ap (λ (t : List ℕ). t ++ after) (flat_map_more (λ (l : List ℕ). l ++ 10 ∷ []) [] so_far.lines line);
  each = all_zipped_more (IsRowLine floats) so_far.lines rows line row so_far.each is;
}

-- a row that has its place stays as it is where first rows are added
row_kept : (first more : List RawRow) (r : AgainRow) → r.place < length first → row_again (sets_of (first ++ more)) r ≡ row_again (sets_of first) r
row_kept first more r within =
    let f : RawRow → Labels = λ (raw : RawRow). (row_of raw).labels in
    let short : r.place < length (sets_of first) = omega (arith, within, length-map first f) in
    ap (λ (l : Labels). made l)
    (ap (λ (sets : List Labels). unwrap_or (slice_get sets r.place) []) (map-append f first more)
    ∙ unwrap_or-slice_get (sets_of first ++ sets_of more) r.place []
    ∙ get_or_append_left (sets_of first) (sets_of more) [] r.place short
    ∙ sym (unwrap_or-slice_get (sets_of first) r.place []))
  where
    made : Labels → Row
    made l = record { labels = l; time = r.time; value = r.value }

rows_kept : (first more : List RawRow) (rows : List AgainRow) → All (HasPlace first) rows → map (row_again (sets_of (first ++ more))) rows ≡ map (row_again (sets_of first)) rows
rows_kept first more [] within = refl
rows_kept first more (r ∷ rows) within =
    ap (λ (x : Row). x ∷ map (row_again (sets_of (first ++ more))) rows) (row_kept first more r (All-head (HasPlace first) r rows within))
    ∙ ap (λ (rs : List Row). row_again (sets_of first) r ∷ rs) (rows_kept first more rows (All-tail (HasPlace first) r rows within))

-- one row more is read and pushed, with the first rows that there are then
pub row_pushed : {floats : Bool} (text line left after : List ℕ) (first firsts more : List RawRow) (rows all : List AgainRow) (row : AgainRow) → AreReadUpTo floats text (map (row_again (sets_of first)) rows) left → left ≡ (line ++ 10 ∷ []) ++ after → IsRowLine floats line (row_again (sets_of firsts) row)
    → All (HasPlace first) rows → firsts ≡ first ++ more → all ≡ rows ++ row ∷ [] → AreReadUpTo floats text (map (row_again (sets_of firsts)) all) after
row_pushed {floats} text line left after first firsts more rows all row so_far cut is within grown pushed =
    let kept : map (row_again (sets_of firsts)) rows ≡ map (row_again (sets_of first)) rows = ap (λ (fs : List RawRow). map (row_again (sets_of fs)) rows) grown ∙ rows_kept first more rows within in
    let whole : map (row_again (sets_of firsts)) all ≡ map (row_again (sets_of first)) rows ++ row_again (sets_of firsts) row ∷ [] =
    ap (λ (rs : List AgainRow). map (row_again (sets_of firsts)) rs) pushed ∙ map_push (λ (r : AgainRow). row_again (sets_of firsts) r) rows row
    ∙ ap (λ (rs : List Row). rs ++ row_again (sets_of firsts) row ∷ []) kept in
    subst (λ (rs : List Row). AreReadUpTo floats text rs after) (sym whole) (one_read text line left after (map (row_again (sets_of first)) rows) (row_again (sets_of firsts) row) so_far cut is)

-- each row has its place where first rows are added
pub places_more : (first firsts more : List RawRow) (rows all : List AgainRow) (row : AgainRow) → All (HasPlace first) rows → firsts ≡ first ++ more → all ≡ rows ++ row ∷ [] → row.place < length firsts → All (HasPlace firsts) all
places_more first firsts more rows all row within grown pushed here =
    let long : length firsts ≡ length first + length more = ap length grown ∙ length-append first more in
    subst (All (HasPlace firsts)) (sym pushed) (All-push (HasPlace firsts) rows row (λ k d lt. omega (arith, within k d lt, long)) here)

-- ---- the whole text

-- a text without the newline at its end, or all of it where it has none
pub newline_stripped : (text : List ℕ) (all lines : Bor (List ℕ)) (found : Option (Bor (List ℕ))) → all.now ≡ text → MatchOption found ((front : List ℕ) → text ≢ front ++ 10 ∷ []) (λ x. text ≡ x.now ++ 10 ∷ []) → lines ≡ unwrap_or found all
    → (text ≡ lines.now ++ 10 ∷ []) ⊎ (text ≡ lines.now)
newline_stripped text all lines None same found is = inr (sym same ∙ ap (λ (b : Bor (List ℕ)). b.now) (sym is))
newline_stripped text all lines (Some x) same found is = inl (found ∙ ap (λ (b : Bor (List ℕ)). b.now ++ 10 ∷ []) (sym is))

-- a text and its lines, with the newline that may be missing
either_whole : (text lines whole : List ℕ) → (text ≡ lines ++ 10 ∷ []) ⊎ (text ≡ lines) → lines ++ 10 ∷ [] ≡ whole → (text ≡ whole) ⊎ (text ++ 10 ∷ [] ≡ whole)
either_whole text lines whole (inl is) e = inl (is ∙ e)
either_whole text lines whole (inr is) e = inr (ap (λ (t : List ℕ). t ++ 10 ∷ []) is ∙ e)

-- the rows that were read are those of the text
pub text_read : {floats : Bool} (text lines before left : List ℕ) (rows : List Row) → (text ≡ lines ++ 10 ∷ []) ⊎ (text ≡ lines) → before ≡ lines ++ 10 ∷ [] → AreReadUpTo floats before rows left → left ≡ [] → AreRowsOf floats text rows
text_read text lines before left rows stripped begin so_far none = record {
  lines = so_far.lines;
  whole = either_whole text lines (lines_text so_far.lines) stripped (sym begin ∙ so_far.whole ∙ ap (λ (t : List ℕ). lines_text so_far.lines ++ t) none ∙ append-nil (lines_text so_far.lines));
  each = so_far.each;
}

-- where the first of two cannot have ended, the second has
pub second_ended : {A B : Type 0} → A ⊎ B → (A → ⊥) → B
second_ended (inl a) not_first = absurd (not_first a)
second_ended (inr b) not_first = b

-- the rows of the text that was read at a path, once they are prepared
pub rows_at : {floats : Bool} (found : List ℕ → Found → Type 0) (path text : List ℕ) (read rows : List Row) → found path (Bytes text) → AreRowsOf floats text read → rows ≡ read → AreRowsAt floats found path rows
rows_at {floats} found path text read rows there of is = (text, there, subst (AreRowsOf floats text) (sym is) of)
