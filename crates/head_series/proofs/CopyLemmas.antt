-- What is copied, and compared.
use Rattle.std.proofs.Common.{◌≡◌, ℕ, zero, suc, ◌<◌, ◌≤◌, Bool, true, false, List, [], ◌∷◌, Some, ap, sym, subst, ◌∙◌, refl, length, take, drop, eqb-true, eq-eqb}
use Rattle.std.specs.Prelude.{◌==◌, map, nat_eq, slice_get, if◌then◌else◌}
use Rattle.std.specs.Cmp.Lexicographic.{slice_cmp}
use Rattle.std.specs.Map.{lookup}
use Rattle.std.specs.Ordering.{nat_cmp}
use Rattle.std.specs.declared.cmp.Ordering.TheVariants.{Less, Greater}
use Rattle.std.proofs.Math.Seq.{drop-cons}
use Rattle.std.proofs.lemmas.List.{drop_all}
use Rattle.wal_record.specs.declared.labels.Label.{Label}
use Rattle.wal_record.specs.Labels.{IsLabelSet, IsNext, compare_labels}
use Rattle.hash_seed.specs.declared.seed.HashSeed.{HashSeed}
use Rattle.head_series.specs.Rows.{IsLast, labels_hash, labels_in, or_zero}
use Rattle.head_series.specs.Sound.{IsSound}
use Rattle.head_series.specs.Texts.{Text, TextTable}

-- a table of the same fields
pub IsSound-alike : (seed : HashSeed) (t u : TextTable) (most : ℕ) (nss mss : List (List (ℕ × ℕ))) (befores cefores : List ℕ) (last_by_hash masts : List (ℕ × ℕ)) (many same : ℕ) → IsSound seed t most nss befores last_by_hash many
    → u.texts ≡ t.texts → u.most ≡ t.most → mss ≡ nss → cefores ≡ befores → ((h : ℕ) → lookup (nat_eq h) masts ≡ lookup (nat_eq h) last_by_hash) → same ≡ many → IsSound seed u most mss cefores masts same
IsSound-alike seed t u most nss mss befores cefores last_by_hash masts many same s tu tm ns bs ls hs =
    subst (λ z. IsSound seed (table z u.most) most mss cefores masts same) (sym tu)
    (subst (λ z. IsSound seed (table t.texts z) most mss cefores masts same) (sym tm)
    (subst (λ z. IsSound seed (table t.texts t.most) most z cefores masts same) (sym ns)
    (subst (λ z. IsSound seed (table t.texts t.most) most nss z masts same) (sym bs)
    (subst (λ z. IsSound seed (table t.texts t.most) most nss befores masts z) (sym hs)
    (record {
      few = s.few;
      limit = s.limit;
      within = s.within;
      distinct = s.distinct;
      ordered = s.ordered;
      befored = s.befored;
      counted = s.counted;
      chained = record {
        ends = λ h. subst (IsLast (hashes t nss) (length (hashes t nss)) h) (sym (ap or_zero (ls h))) (s.chained.ends h);
        before = s.chained.before;
      };
    }))))) where
      table : List Text → ℕ → TextTable
      table ts most = record { texts = ts; most = most; room = u.room }

      hashes : TextTable → List (List (ℕ × ℕ)) → List ℕ
      hashes t nss = map (labels_hash seed) (map (labels_in t.texts) nss)

-- a label of a label set, and the labels before it
pub name_at : (ls : List Label) (i : ℕ) (l : Label) → IsLabelSet ls → slice_get ls i ≡ Some l → 0 < length l.name
name_at [] i l d h = cc
name_at (x ∷ []) zero l d h = let k : x ≡ l = cc in subst (λ (z : Label). 0 < length z.name) k d
name_at (x ∷ []) (suc i) l d h = cc
name_at (x ∷ y ∷ ms) zero l (a, b, c) h = let k : x ≡ l = cc in subst (λ (z : Label). 0 < length z.name) k a
name_at (x ∷ y ∷ ms) (suc i) l (a, b, c) h = name_at (y ∷ ms) i l c h

pub next_at : (ls : List Label) (i : ℕ) (l : Label) → IsLabelSet ls → slice_get ls i ≡ Some l → IsNext (take i ls) l.name
next_at [] i l d h = cc
next_at (x ∷ xs) zero l d h = tt
next_at (x ∷ []) (suc i) l d h = cc
next_at (x ∷ y ∷ ms) (suc zero) l (a, b, c) h = let k : y ≡ l = cc in subst (λ (z : Label). slice_cmp nat_cmp x.name z.name ≡ Less) k b
next_at (x ∷ y ∷ ms) (suc (suc i)) l (a, b, c) h = next_at (y ∷ ms) (suc i) l c h

-- one of two label sets is at its end
pub greater_end : (ts : List Text) (ls ms : List (ℕ × ℕ)) (i : ℕ) → i < length ls → length ms ≤ i → Greater ≡ compare_labels (labels_in ts (drop i ls)) (labels_in ts (drop i ms))
greater_end ts ls ms i a b =
    ap (λ z. compare_labels (labels_in ts z) (labels_in ts [])) (sym (drop-cons ls i (0, 0) a)) ∙ ap (λ z. compare_labels (labels_in ts (drop i ls)) (labels_in ts z)) (sym (drop_all i ms b))

pub less_end : (ts : List Text) (ls ms : List (ℕ × ℕ)) (i : ℕ) → length ls ≤ i → i < length ms → Less ≡ compare_labels (labels_in ts (drop i ls)) (labels_in ts (drop i ms))
less_end ts ls ms i a b =
    ap (λ z. compare_labels (labels_in ts []) (labels_in ts z)) (sym (drop-cons ms i (0, 0) b)) ∙ ap (λ z. compare_labels (labels_in ts z) (labels_in ts (drop i ms))) (sym (drop_all i ls a))
