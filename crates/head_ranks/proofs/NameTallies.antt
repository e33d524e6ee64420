-- The tallies of names with one label more.
use Rattle.std.proofs.Common.{◌≡◌, ℕ, ◌+◌, ◌<◌, ◌≤◌, Bool, true, false, cond, Bor, List, [], ◌∷◌, ◌++◌, length, map, refl, sym, ap, ◌∙◌, arith}
use Rattle.std.specs.Prelude.{◌||◌, count_by, slice_set, slice_index_or, All}
use Rattle.std.specs.Cmp.Lexicographic.{nat_list_eq_equiv}
use Rattle.std.specs.List.{list_any}
use Rattle.std.proofs.lemmas.List.{map-append}
use Rattle.std.proofs.lemmas.List.Elements.{All-cons, All-nil}
use Rattle.std.proofs.lemmas.List.Sums.{sum_by-cons, sum_by_push}
use Rattle.indexmap.specs.IndexSet.{insert_key}
use Rattle.hw_bytes.specs.Lists.{distinct}
use Rattle.hw_bytes.proofs.Lists.{list_any-distinct}
use Rattle.wal_record.specs.Labels.{Text, same_text}
use Rattle.wal_record.proofs.SameText.{same_text_exact}
use Rattle.head_ranks.specs.declared.counts.LabelCount.{LabelCount}
use Rattle.head_ranks.specs.declared.counts.NameCount.{NameCount}
use Rattle.head_ranks.specs.declared.naming.Namer.{Namer}
use Rattle.head_ranks.specs.Counts.{AreNameCounts, name_of}
use Rattle.head_ranks.specs.Counting.{AreNamed, name_said, name_tally}
use Rattle.head_ranks.proofs.Tables.{at_in, counts_new, counts_old, seen_on}

either : (a b : Bool) → (a || b) ≡ false → (a ≡ false) × (b ≡ false)
either true b h = absurd cc
either false b h = (refl, h)

-- a name that no label has
none_of : (n : Text) (ls : List LabelCount) → list_any (same_text n) (map name_of ls) ≡ false → count_by (λ l. same_text n (name_of l)) ls ≡ 0
none_of n [] h = refl
none_of n (l ∷ ls) h =
    let parts = either (same_text n (name_of l)) (list_any (same_text n) (map name_of ls)) h in
    let none : cond (same_text n (name_of l)) 1 0 ≡ 0 = ap (λ (b : Bool). cond {A = ℕ} b 1 0) parts.0 in
    let rest = none_of n ls parts.1 in
    sum_by-cons (λ (m : LabelCount). cond (same_text n (name_of m)) 1 0) l ls ∙ omega (arith, none, rest)

module _ (ls : List LabelCount) (l : LabelCount) where
  tally_push : (n : Text) (b : Bool) → same_text n (name_of l) ≡ b → name_tally (ls ++ l ∷ []) n ≡ (n, count_by (λ m. same_text n (name_of m)) ls + cond b 1 0)
  tally_push n b e =
      ap (λ (k : ℕ). (n, k))
      (sum_by_push (λ (m : LabelCount). cond (same_text n (name_of m)) 1 0) ls l ∙ ap (λ (c : Bool). count_by (λ (m : LabelCount). same_text n (name_of m)) ls + cond c 1 0) e)

  alike : (n : Text) → same_text n (name_of l) ≡ false → name_tally ls n ≡ name_tally (ls ++ l ∷ []) n
  alike n e =
      ap (λ (k : ℕ). (n, k)) (let same : count_by (λ m. same_text n (name_of m)) ls ≡ count_by (λ m. same_text n (name_of m)) ls + 0 = omega arith in same)
      ∙ sym (tally_push n false e)

  step_old : (c old : NameCount) → c.name.now ≡ old.name.now → c.values ≡ old.values + 1 → name_said old ≡ name_tally ls (name_of l) → name_said c ≡ name_tally (ls ++ l ∷ []) (name_of l)
  step_old c old kept values was =
      let of : c.name.now ≡ name_of l = kept ∙ ap (λ (t : Text × ℕ). t.0) was in
      let values_was : old.values ≡ count_by (λ (m : LabelCount). same_text (name_of l) (name_of m)) ls = ap (λ (t : Text × ℕ). t.1) was in
      ap (λ (n : Text). (n, c.values)) of
      ∙ ap (λ (k : ℕ). (name_of l, k)) (let e : c.values ≡ count_by (λ (m : LabelCount). same_text (name_of l) (name_of m)) ls + 1 = omega (arith, values, values_was) in e)
      ∙ sym (tally_push (name_of l) true (nat_list_eq_equiv.refl (name_of l)))

  step_new : (c : NameCount) → c.name.now ≡ name_of l → c.values ≡ 1 → list_any (same_text (name_of l)) (distinct same_text (map name_of ls)) ≡ false → name_said c ≡ name_tally (ls ++ l ∷ []) (name_of l)
  step_new c of values new =
      let none = none_of (name_of l) ls (sym (list_any-distinct same_text same_text_exact (name_of l) (map name_of ls)) ∙ new) in
      ap (λ (n : Text). (n, c.values)) of
      ∙ ap (λ (k : ℕ). (name_of l, k)) (let e : c.values ≡ count_by (λ (m : LabelCount). same_text (name_of l) (name_of m)) ls + 1 = omega (arith, values, none) in e)
      ∙ sym (tally_push (name_of l) true (nat_list_eq_equiv.refl (name_of l)))

  abbrev lab : Bor Text → Text
  lab k = k.now

  names_on : map name_of (ls ++ l ∷ []) ≡ map name_of ls ++ name_of l ∷ []
  names_on = map-append name_of ls (l ∷ [])

  module _ (c d : Namer) (at : ℕ) (new : NameCount) (is : AreNamed ls c)
      (keys : d.seen.keys ≡ insert_key (λ a b. same_text (lab a) (lab b)) c.seen.keys l.name) (place : at ≡ at_in same_text nat_list_eq_equiv same_text_exact lab (name_of l) c.seen.keys) where
    seen_next : map lab d.seen.keys ≡ distinct same_text (map name_of (ls ++ l ∷ []))
    seen_next =
        seen_on same_text nat_list_eq_equiv same_text_exact lab name_said (name_tally ls) (name_tally (ls ++ l ∷ [])) (map name_of ls) l.name c.seen.keys c.counts.items alike is.seen is.counts d.seen.keys keys
        ∙ ap (distinct same_text) (sym names_on)

    pub name_old : (old : NameCount) → new.name.now ≡ old.name.now → at < length c.counts.items → d.counts.items ≡ slice_set c.counts.items at new → old ≡ slice_index_or c.counts.items at old → new.values ≡ old.values + 1 → AreNamed (ls ++ l ∷ []) d
    name_old old kept within set was values = record {
      seen = seen_next;
      counts =
          ap (map name_said) set
          ∙ counts_old same_text nat_list_eq_equiv same_text_exact lab name_said (name_tally ls) (name_tally (ls ++ l ∷ [])) (map name_of ls) l.name c.seen.keys c.counts.items alike is.seen is.counts at place within new old was (step_old new old kept values)
          ∙ ap (λ (ns : List Text). map (name_tally (ls ++ l ∷ [])) (distinct same_text ns)) (sym names_on);
    }

    pub name_new : new.name.now ≡ name_of l → length c.counts.items ≤ at → d.counts.items ≡ c.counts.items ++ new ∷ [] → new.values ≡ 1 → AreNamed (ls ++ l ∷ []) d
    name_new of beyond push values = record {
      seen = seen_next;
      counts =
          ap (map name_said) push
          ∙ counts_new same_text nat_list_eq_equiv same_text_exact lab name_said (name_tally ls) (name_tally (ls ++ l ∷ [])) (map name_of ls) l.name c.seen.keys c.counts.items alike is.seen is.counts at place beyond new (step_new new of values)
          ∙ ap (λ (ns : List Text). map (name_tally (ls ++ l ∷ [])) (distinct same_text ns)) (sym names_on);
    }

-- what counts say, one by one
names_of : (ls : List LabelCount) (names : List NameCount) (ds : List Text) → map name_said names ≡ map (name_tally ls) ds
    → (map (λ (n : NameCount). n.name.now) names ≡ ds) × All (λ n. n.values ≡ count_by (λ l. same_text n.name.now (name_of l)) ls) names
names_of ls [] [] h = (refl, All-nil (λ (n : NameCount). n.values ≡ count_by (λ l. same_text n.name.now (name_of l)) ls))
names_of ls [] (d ∷ ds) h = absurd cc
names_of ls (n ∷ names) [] h = absurd cc
names_of ls (n ∷ names) (d ∷ ds) h =
    let first : name_said n ≡ name_tally ls d = cc in
    let rest : map name_said names ≡ map (name_tally ls) ds = cc in
    let name : n.name.now ≡ d = ap (λ (t : Text × ℕ). t.0) first in
    let deep = names_of ls names ds rest in (
      ap (λ (t : Text). t ∷ map (λ (m : NameCount). m.name.now) names) name ∙ ap (λ (ts : List Text). d ∷ ts) deep.0,
      All-cons (λ (m : NameCount). m.values ≡ count_by (λ l. same_text m.name.now (name_of l)) ls) n names (ap (λ (t : Text × ℕ). t.1) first ∙ ap (λ (t : Text). count_by (λ l. same_text t (name_of l)) ls) (sym name)) deep.1,
    )

pub named : (ls : List LabelCount) (n : Namer) → AreNamed ls n → AreNameCounts ls n.counts.items
named ls n is = (let each = names_of ls n.counts.items (distinct same_text (map name_of ls)) is.counts in record { once = each.0; values = each.1 })
