use Rattle.std.proofs.Common.{rules, ◌≡◌, ℕ, ◌+◌, ◌-◌, ◌≤◌, List, ◌++◌, length, take, sym, ap, ◌∙◌, subst, length-take-le}
use Rattle.std.proofs.KnownBytes.{Consumes-trans}
use Rattle.std.proofs.Math.Seq.{take-append-add}
use Rattle.std.proofs.lemmas.List.{take-append-le}
use Rattle.std.specs.Io.KnownBytes.{Consumes}
use borrow.Rule.Slice.PartMut.{put_mid, post_of}
use Rattle.store.proofs.whole.fill_next.Goals as goal

-- the first bytes, after some were put behind those that were there
filled_on : (a k n : ℕ) (xs ys : List ℕ) → a ≤ length xs → n ≤ length ys → take (a + n) (put_mid a k xs ys) ≡ take a xs ++ take n ys
filled_on a k n xs ys within fits =
    let front : length (take a xs) ≡ a = length-take-le a xs within in
    ap (λ (m : ℕ). take (m + n) (put_mid a k xs ys)) (sym front) ∙ take-append-add (take a xs) (ys ++ post_of a k xs) n ∙ ap (λ (l : List ℕ). take a xs ++ l) (take-append-le n ys (post_of a k xs) fits)

pub loop-filled-preserved-in-Ok : goal.loop-filled-preserved-in-Ok
loop-filled-preserved-in-Ok g c =
    let (long, within, lost) = c.loop-filled.invariant in
    let from = c.loop-filled.filled in
    let joined = filled_on from (length c.loop-filled.buf - from) c.in-Ok.count c.loop-filled.buf c.read.new.buf within c.in-Ok.ensures.bound.0 in
    (search rules, search rules, subst (Consumes _ _) (sym joined) (Consumes-trans _ _ _ _ _ lost c.in-Ok.ensures.bytes.0))
