-- What stands for a label set in the head.
use Rattle.std.proofs.Common.{◌≡◌, ℕ, ◌+◌, ◌<◌, List, [], ◌∷◌, ◌++◌, Option, Some, None, ap, sym, subst, ◌∙◌, refl, arith, below_more, length, get_or}
use Rattle.std.specs.Prelude.{map, slice_get}
use Rattle.std.specs.Option.{option_and_then}
use Rattle.std.proofs.Math.Seq.{get_or-append_seam}
use Rattle.std.proofs.lemmas.List.{append-nil, get_or_append_left}
use Rattle.std.proofs.lemmas.Option.{get_or_from_slice_get, slice_get_read}
use Rattle.wal_record.specs.Labels.{Labels, same_labels}
use Rattle.head_column.specs.Histories.{latest}
use Rattle.head_column.specs.Times.{greatest}
use Rattle.head_series.specs.Rows.{AreDistinct}
use Rattle.head_series.specs.Texts.{place}
use Rattle.head_series.specs.Table.{IsLeast, slot_at}
use Rattle.head_core.specs.Content.{Content}
use Rattle.head_core.specs.Heads.{history_at}
use Rattle.head_live.specs.declared.judging.Standing.{Standing}
use Rattle.head_live.specs.Verdicts.{samples_at, samples_in, times_of}
use Rattle.head_live.specs.Batch.{owner_in}
use Rattle.head_live.specs.Judged.{IsStart, no_standing, standing_at}
use Rattle.head_live.proofs.SetLemmas.{at_place, nowhere, place_at}

least_as : (P Q : ℕ → Type 0) → ((r : ℕ) → P r → Q r) → ((r : ℕ) → Q r → P r) → (o : Option ℕ) → IsLeast P o → IsLeast Q o
least_as P Q to back None h = λ r q. h r (back r q)
least_as P Q to back (Some n) h = (to n h.0, λ r q. h.1 r (back r q))

module _ (c : Content) (l : Labels) where
  owner_of_slot : (r slot : ℕ) → place (same_labels l) c.table.series ≡ Some slot → slot_at c.table r ≡ Some slot → owner_in c r ≡ Some l
  owner_of_slot r slot p h = ap (option_and_then (slice_get c.table.series)) h ∙ at_place l c.table.series slot p

  slot_of_owner : (r : ℕ) (o : Option ℕ) → AreDistinct same_labels c.table.series → slot_at c.table r ≡ o → owner_in c r ≡ Some l → place (same_labels l) c.table.series ≡ o
  slot_of_owner r None d e h = (let k : None ≡ Some l = sym (ap (option_and_then (slice_get c.table.series)) e) ∙ h in cc)
  slot_of_owner r (Some s) d e h = place_at l c.table.series s d (sym (ap (option_and_then (slice_get c.table.series)) e) ∙ h)

  times_before : (o : Option ℕ) → place (same_labels l) c.table.series ≡ o → greatest (map (λ s. s.time) (samples_at c o)) ≡ greatest (times_of c [] l)
  times_before o p = ap (λ q. greatest (map (λ s. s.time) (samples_at c q))) (sym p) ∙ ap greatest (sym (append-nil (map (λ s. s.time) (samples_in c l))))

  pub start_found : (slot : ℕ) (s : Standing) → AreDistinct same_labels c.table.series → place (same_labels l) c.table.series ≡ Some slot → IsLeast (λ r. slot_at c.table r ≡ Some slot) s.reference
      → s.last ≡ latest (history_at c slot).samples → IsStart c l s
  start_found slot s d p least last = record {
    reference = least_as (λ r. slot_at c.table r ≡ Some slot) (λ r. owner_in c r ≡ Some l) (λ r h. owner_of_slot r slot p h) (λ r h. sym (slot_of_owner r (slot_at c.table r) d refl h) ∙ p) s.reference least;
    last = last ∙ times_before (Some slot) p;
  }

  pub start_none : AreDistinct same_labels c.table.series → place (same_labels l) c.table.series ≡ None → IsStart c l (record { reference = None; last = None })
  start_none d p = record {
    reference = λ r h. absurd (none r (slot_at c.table r) refl h);
    last = times_before None p;
  } where
    none : (r : ℕ) (o : Option ℕ) → slot_at c.table r ≡ o → owner_in c r ≡ Some l → ⊥
    none r None e h = (let k : None ≡ Some l = sym (ap (option_and_then (slice_get c.table.series)) e) ∙ h in cc)
    none r (Some s) e h = nowhere l c.table.series s p (sym (ap (option_and_then (slice_get c.table.series)) e) ∙ h)

-- with one label set more
pub starts_push : (c : Content) (sets : List Labels) (ss : List Standing) (k : ℕ) (l : Labels) (s : Standing) → k < length sets → l ≡ get_or sets k l → length ss ≡ k → IsStart c l s
    → ((i : ℕ) → i < k → IsStart c (get_or sets i []) (standing_at ss i)) → (i : ℕ) → i < k + 1 → IsStart c (get_or sets i []) (standing_at (ss ++ s ∷ []) i)
starts_push c sets ss k l s within is long start each = below_more Holds k below here where
  Holds : ℕ → Type 0
  Holds i = IsStart c (get_or sets i []) (standing_at (ss ++ s ∷ []) i)

  below : (i : ℕ) → i < k → Holds i
  below i h = (let b : i < length ss = omega arith in subst (λ t. IsStart c (get_or sets i []) t) (sym (get_or_append_left ss (s ∷ []) no_standing i b)) (each i h))

  here : Holds k
  here =
      let named : get_or sets k [] ≡ l = get_or_from_slice_get sets k l [] (slice_get_read sets (length sets) k l refl within is) in
      let last : standing_at (ss ++ s ∷ []) k ≡ s = ap (standing_at (ss ++ s ∷ [])) (sym long) ∙ get_or-append_seam ss s [] no_standing in
      subst (λ m. IsStart c m (standing_at (ss ++ s ∷ []) k)) (sym named) (subst (λ t. IsStart c l t) (sym last) start)
