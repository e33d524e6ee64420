-- Runs that are apart, and their tombstones.
use Rattle.std.proofs.Common.{◌≡◌, ℕ, zero, suc, ◌+◌, ◌<◌, ◌≤◌, ◌^◌, List, [], ◌∷◌, ◌++◌, length, take, drop, get_or, refl, sym, ap, subst, ◌∙◌, append_assoc, add-one, drop-cons, arith}
use Rattle.std.specs.List.{All, AllByRecursion}
use Rattle.std.proofs.lemmas.List.{append-nil, length-append, length-drop, length-take, take_more}
use Rattle.std.proofs.lemmas.List.Elements.{All-append, All-cons, All-head, All-nil, All-tail}
use Rattle.head_column.specs.declared.items.Run.{Run}
use Rattle.head_column.specs.Runs.{AreApart, BeginPast, IsRun}
use Rattle.index_text.specs.Rows.{IsChain}
use Rattle.block_files.specs.declared.tombstones.Tombstone.{Tombstone}
use Rattle.block_files.specs.Tombstones.{IsFit, tombstones_text}
use Rattle.block_files.proofs.RowLaws.{all_first, all_second, whole}
use Rattle.hw_bytes.specs.Sums.{Text}
use Rattle.block_read.specs.Blocks.{FitsRun, tombstones_of}
use Rattle.block_read.specs.Reading.{BeginsOther, HaveRuns, entries_of}

-- the first i runs have a time, and each is apart from the next
abbrev pub ApartTo : ℕ → List Run → Type 0
ApartTo zero rs = Unit {0}
ApartTo (suc i) [] = Unit {0}
ApartTo (suc i) (r ∷ rs) = IsRun r × BeginPast r.max_time rs × ApartTo i rs

pub apart_all : (rs : List Run) (i : ℕ) → length rs ≤ i → ApartTo i rs → AreApart rs
apart_all [] i le h = tt
apart_all (r ∷ rs) zero le h = absurd (omega (arith, le))
apart_all (r ∷ rs) (suc i) le h = (h.0, h.1, apart_all rs i (omega (arith, le)) h.2)

pub apart_more : (rs : List Run) (i : ℕ) (d : Run) → i < length rs → ApartTo i rs → IsRun (get_or rs i d) → BeginPast (get_or rs i d).max_time (drop (suc i) rs) → ApartTo (suc i) rs
apart_more [] i d lt h run next = tt
apart_more (r ∷ rs) zero d lt h run next = (run, next, tt)
apart_more (r ∷ rs) (suc i) d lt h run next = (h.0, h.1, apart_more rs i d (omega (arith, lt)) h.2 run next)

pub run_at : (rs : List Run) (i : ℕ) (d : Run) → i < length rs → AreApart rs → IsRun (get_or rs i d)
run_at [] i d lt h = absurd (omega (arith, lt))
run_at (r ∷ rs) zero d lt h = h.0
run_at (r ∷ rs) (suc i) d lt h = run_at rs i d (omega (arith, lt)) h.2

pub next_at : (rs : List Run) (i : ℕ) (d : Run) → i < length rs → AreApart rs → BeginPast (get_or rs i d).max_time (drop (suc i) rs)
next_at [] i d lt h = absurd (omega (arith, lt))
next_at (r ∷ rs) zero d lt h = h.1
next_at (r ∷ rs) (suc i) d lt h = next_at rs i d (omega (arith, lt)) h.2

-- ---- tombstones, id by id

of-cons : (id : ℕ) (ids : List ℕ) (h : List Run) (hs : List (List Run)) → tombstones_of (id ∷ ids) (h ∷ hs) ≡ entries_of id h ++ tombstones_of ids hs
unfolding tombstones_of
of-cons id ids h hs = refl

of-none : (ids : List ℕ) → tombstones_of ids [] ≡ []
unfolding tombstones_of
of-none [] = refl
of-none (id ∷ ids) = refl

of-no_ids : (hs : List (List Run)) → tombstones_of [] hs ≡ []
unfolding tombstones_of
of-no_ids hs = refl

of-push : (ids : List ℕ) (hs : List (List Run)) (id : ℕ) (h : List Run) → length hs ≡ length ids → tombstones_of (ids ++ id ∷ []) (hs ++ h ∷ []) ≡ tombstones_of ids hs ++ entries_of id h
of-push [] [] id h n = of-cons id [] h [] ∙ ap (λ (t : List Tombstone). entries_of id h ++ t) (of-no_ids []) ∙ append-nil (entries_of id h) ∙ ap (λ (t : List Tombstone). t ++ entries_of id h) (sym (of-no_ids []))
of-push [] (x ∷ hs) id h n = absurd (omega (arith, n))
of-push (i ∷ ids) [] id h n = absurd (omega (arith, n))
of-push (i ∷ ids) (x ∷ hs) id h n =
    of-cons i (ids ++ id ∷ []) x (hs ++ h ∷ []) ∙ ap (λ (t : List Tombstone). entries_of i x ++ t) (of-push ids hs id h (omega (arith, n))) ∙ sym (append_assoc (entries_of i x) (tombstones_of ids hs) (entries_of id h))
    ∙ ap (λ (t : List Tombstone). t ++ entries_of id h) (sym (of-cons i ids x hs))

-- the tombstones of later ids begin with another one
chain_drop : (id j : ℕ) (js : List ℕ) → IsChain (λ a b. a < b) (id ∷ j ∷ js) → IsChain (λ a b. a < b) (id ∷ js)
chain_drop id j [] h = tt
chain_drop id j (k ∷ js) h = (omega (arith, h.0, h.1.0), h.1.1)

other_later : (id : ℕ) (ids : List ℕ) (hs : List (List Run)) → IsChain (λ a b. a < b) (id ∷ ids) → BeginsOther id (tombstones_of ids hs)
other_later id [] hs h = subst (BeginsOther id) (sym (of-no_ids hs)) tt
other_later id (j ∷ ids) [] h = subst (BeginsOther id) (sym (of-none (j ∷ ids))) tt
other_later id (j ∷ ids) ([] ∷ hs) h = subst (BeginsOther id) (sym (of-cons j ids [] hs)) (other_later id ids hs (chain_drop id j ids h))
other_later id (j ∷ ids) ((r ∷ rs) ∷ hs) h = subst (BeginsOther id) (sym (of-cons j ids (r ∷ rs) hs)) (λ same. omega (arith, h.0, same))

-- the runs at the front are all of this id
same_entry : (id : ℕ) (a b : Run) → (let t : Run → Tombstone = λ r. record { series = id; run = r } in t a ≡ t b) → a ≡ b
same_entry id a b e = ap (λ (t : Tombstone). t.run) e

head_of : {X : Type 0} (x y : X) (xs ys : List X) → x ∷ xs ≡ y ∷ ys → (x ≡ y) × (xs ≡ ys)
head_of x y xs ys e = (cc, cc)

pub one_front : (id : ℕ) (runs all : List Run) (rest others : List Tombstone) → entries_of id runs ++ rest ≡ entries_of id all ++ others → BeginsOther id rest → BeginsOther id others → (runs ≡ all) × (rest ≡ others)
one_front id [] [] rest others e p q = (refl, e)
one_front id [] (a ∷ all) [] others e p q = absurd cc
one_front id [] (a ∷ all) (t ∷ rest) others e p q = (let same = head_of t (record { series = id; run = a }) rest (entries_of id all ++ others) e in absurd (p (ap (λ (x : Tombstone). x.series) same.0)))
one_front id (r ∷ runs) [] rest [] e p q = absurd cc
one_front id (r ∷ runs) [] rest (t ∷ others) e p q = (let same = head_of (record { series = id; run = r }) t (entries_of id runs ++ rest) others e in absurd (q (ap (λ (x : Tombstone). x.series) (sym same.0))))
one_front id (r ∷ runs) (a ∷ all) rest others e p q =
    let same = head_of (record { series = id; run = r }) (record { series = id; run = a }) (entries_of id runs ++ rest) (entries_of id all ++ others) e in
    let more = one_front id runs all rest others same.1 p q in
    (ap (λ (x : Run). x ∷ runs) (ap (λ (t : Tombstone). t.run) same.0) ∙ ap (λ (xs : List Run). a ∷ xs) more.0, more.1)

pub next_later : (rs later : List Run) (i : ℕ) (d : Run) → i < length rs → later ≡ drop (i + 1) rs → AreApart rs → BeginPast (get_or rs i d).max_time later
next_later rs later i d lt e h = subst (BeginPast (get_or rs i d).max_time) (sym (rw add-one at e)) (next_at rs i d lt h)

pub apart_step : (rs later : List Run) (i : ℕ) (d : Run) → i < length rs → later ≡ drop (i + 1) rs → ApartTo i rs → IsRun (get_or rs i d) → BeginPast (get_or rs i d).max_time later → ApartTo (i + 1) rs
apart_step rs later i d lt e h run next = rw add-one (apart_more rs i d lt h run (subst (BeginPast (get_or rs i d).max_time) (rw add-one at e) next))

-- ---- the numbers fit

fit_back : (id : ℕ) (runs : List Run) → All IsFit (entries_of id runs) → All FitsRun runs
fit_back id [] h = All-nil FitsRun
fit_back id (r ∷ runs) h =
    let f = All-head IsFit (record { series = id; run = r }) (entries_of id runs) h in
    All-cons FitsRun r runs (record { min_time = f.min_time; max_time = f.max_time }) (fit_back id runs (All-tail IsFit (record { series = id; run = r }) (entries_of id runs) h))

fit_there : (id : ℕ) (runs : List Run) → id < 2 ^ 64 → All FitsRun runs → All IsFit (entries_of id runs)
fit_there id [] small h = All-nil IsFit
fit_there id (r ∷ runs) small h =
    let f = All-head FitsRun r runs h in
    All-cons IsFit (record { series = id; run = r }) (entries_of id runs) (record { series = small; min_time = f.min_time; max_time = f.max_time }) (fit_there id runs small (All-tail FitsRun r runs h))

pub fit_hidden : (ids : List ℕ) (hs : List (List Run)) → length hs ≡ length ids → All IsFit (tombstones_of ids hs) → AllByRecursion (All FitsRun) hs
fit_hidden ids [] n h = tt
fit_hidden [] (x ∷ hs) n h = absurd (omega (arith, n))
fit_hidden (i ∷ ids) (x ∷ hs) n h =
    let both : All IsFit (entries_of i x ++ tombstones_of ids hs) = subst (All IsFit) (of-cons i ids x hs) h in
    (fit_back i x (all_first IsFit (entries_of i x) (tombstones_of ids hs) both), fit_hidden ids hs (omega (arith, n)) (all_second IsFit (entries_of i x) (tombstones_of ids hs) both))

pub fit_tombstones : (ids : List ℕ) (hs : List (List Run)) → ((k : ℕ) → get_or ids k 0 < 2 ^ 32) → AllByRecursion (All FitsRun) hs → All IsFit (tombstones_of ids hs)
fit_tombstones [] hs small h = subst (All IsFit) (sym (of-no_ids hs)) (All-nil IsFit)
fit_tombstones (i ∷ ids) [] small h = subst (All IsFit) (sym (of-none (i ∷ ids))) (All-nil IsFit)
fit_tombstones (i ∷ ids) (x ∷ hs) small h =
    subst (All IsFit) (sym (of-cons i ids x hs)) (All-append IsFit (entries_of i x) (tombstones_of ids hs) (fit_there i x (let s = small 0 in omega (arith, s)) h.0) (fit_tombstones ids hs (λ k. small (suc k)) h.1))

-- ---- the tombstones dealt so far

pub record Dealt (ids : List ℕ) (ts : List Tombstone) (hidden : List (List Run)) (rest : List Tombstone) (i : ℕ) : Type 0 where
  pub count : length hidden ≡ i
  pub is : ts ≡ tombstones_of (take i ids) hidden ++ rest
  pub apart : AllByRecursion AreApart hidden

apart_push : (hs : List (List Run)) (h : List Run) → AllByRecursion AreApart hs → AreApart h → AllByRecursion AreApart (hs ++ h ∷ [])
apart_push [] h p q = (q, tt)
apart_push (x ∷ hs) h p q = (p.0, apart_push hs h p.1 q)

pub dealt_none : (ids : List ℕ) (ts rest : List Tombstone) (hidden : List (List Run)) → hidden ≡ [] → rest ≡ ts → Dealt ids ts hidden rest 0
dealt_none ids ts rest hidden e r = subst (λ (hs : List (List Run)). Dealt ids ts hs rest 0) (sym e) (record { count = refl; is = sym r ∙ ap (λ (t : List Tombstone). t ++ rest) (sym (of-no_ids [])); apart = tt })

pub dealt_more : (ids : List ℕ) (ts : List Tombstone) (hidden more : List (List Run)) (rest others : List Tombstone) (i : ℕ) (runs pushed : List Run) → i < length ids → Dealt ids ts hidden rest i → rest ≡ entries_of (get_or ids i 0) runs ++ others → AreApart runs
    → pushed ≡ runs → more ≡ hidden ++ pushed ∷ [] → Dealt ids ts more others (i + 1)
dealt_more ids ts hidden more rest others i runs pushed lt h e apart p push =
    let all : more ≡ hidden ++ runs ∷ [] = push ∙ ap (λ (x : List Run). hidden ++ x ∷ []) p in
    let n : length hidden ≡ length (take i ids) = omega (arith, h.count, length-take i ids) in
    subst (λ (hs : List (List Run)). Dealt ids ts hs others (i + 1)) (sym all) (record {
      count = omega (arith, h.count, length-append hidden (runs ∷ []));
      is = h.is ∙ ap (λ (t : List Tombstone). tombstones_of (take i ids) hidden ++ t) e ∙ sym (append_assoc (tombstones_of (take i ids) hidden) (entries_of (get_or ids i 0) runs) others)
          ∙ ap (λ (t : List Tombstone). t ++ others) (sym (of-push (take i ids) hidden (get_or ids i 0) runs n)) ∙ ap (λ (is : List ℕ). tombstones_of is (hidden ++ runs ∷ []) ++ others) (sym (take_more ids i 0 lt));
      apart = apart_push hidden runs h.apart apart;
    })

pub dealt_all : (bytes : Text) (ids : List ℕ) (ts : List Tombstone) (hidden : List (List Run)) (rest : List Tombstone) (i : ℕ) → length ids ≡ i → length rest ≡ 0 → Dealt ids ts hidden rest i → All IsFit ts → bytes ≡ tombstones_text ts → HaveRuns bytes ids hidden
dealt_all bytes ids ts hidden [] i n none h fit e =
    let same : ts ≡ tombstones_of ids hidden = h.is ∙ append-nil (tombstones_of (take i ids) hidden) ∙ ap (λ (is : List ℕ). tombstones_of is hidden) (whole ids i (omega (arith, n))) in
    record {
      one_each = omega (arith, h.count, n);
      apart = h.apart;
      fit = fit_hidden ids hidden (omega (arith, h.count, n)) (subst (All IsFit) same fit);
      text = e ∙ ap tombstones_text same;
    }
dealt_all bytes ids ts hidden (t ∷ rest) i n none h fit e = absurd (omega (arith, none))

-- ---- those of any runs that have this text

pub record Leads (ids : List ℕ) (all hidden : List (List Run)) (rest : List Tombstone) (i : ℕ) : Type 0 where
  pub first : hidden ≡ take i all
  pub left : rest ≡ tombstones_of (drop i ids) (drop i all)

chain_at : (ids : List ℕ) (i : ℕ) → i < length ids → IsChain (λ a b. a < b) ids → IsChain (λ a b. a < b) (get_or ids i 0 ∷ drop (suc i) ids)
chain_at [] i lt h = absurd (omega (arith, lt))
chain_at (x ∷ ids) zero lt h = h
chain_at (x ∷ []) (suc i) lt h = absurd (omega (arith, lt))
chain_at (x ∷ y ∷ ids) (suc i) lt h = chain_at (y ∷ ids) i (omega (arith, lt)) h.1

apart_at : (all : List (List Run)) (i : ℕ) → i < length all → AllByRecursion AreApart all → AreApart (get_or all i [])
apart_at [] i lt h = absurd (omega (arith, lt))
apart_at (x ∷ all) zero lt h = h.0
apart_at (x ∷ all) (suc i) lt h = apart_at all i (omega (arith, lt)) h.1

pub record Ahead (ids : List ℕ) (all : List (List Run)) (runs : List Run) (others : List Tombstone) (i : ℕ) : Type 0 where
  pub same : runs ≡ get_or all i []
  pub apart : AreApart (get_or all i [])
  pub left : others ≡ tombstones_of (drop (i + 1) ids) (drop (i + 1) all)

pub ahead : (bytes : Text) (ids : List ℕ) (all hidden : List (List Run)) (rest others : List Tombstone) (i : ℕ) (runs : List Run) → i < length ids → IsChain (λ a b. a < b) ids → HaveRuns bytes ids all → Leads ids all hidden rest i
    → rest ≡ entries_of (get_or ids i 0) runs ++ others → BeginsOther (get_or ids i 0) others → Ahead ids all runs others i
ahead bytes ids all hidden rest others i runs lt chain have h e stops =
    let long : i < length all = omega (arith, lt, have.one_each) in
    let next : rest ≡ entries_of (get_or ids i 0) (get_or all i []) ++ tombstones_of (drop (suc i) ids) (drop (suc i) all) =
    h.left ∙ ap (λ (is : List ℕ). tombstones_of is (drop i all)) (drop-cons ids i 0 lt) ∙ ap (tombstones_of (get_or ids i 0 ∷ drop (suc i) ids)) (drop-cons all i [] long) ∙ of-cons (get_or ids i 0) (drop (suc i) ids) (get_or all i []) (drop (suc i) all) in
    let one = one_front (get_or ids i 0) runs (get_or all i []) others (tombstones_of (drop (suc i) ids) (drop (suc i) all)) (sym e ∙ next) stops (other_later (get_or ids i 0) (drop (suc i) ids) (drop (suc i) all) (chain_at ids i lt chain)) in
    record { same = one.0; apart = apart_at all i long have.apart; left = rw add-one one.1 }

pub leads_more : (bytes : Text) (ids : List ℕ) (all hidden more : List (List Run)) (rest others : List Tombstone) (i : ℕ) (runs pushed : List Run) → i < length ids → HaveRuns bytes ids all → Leads ids all hidden rest i → Ahead ids all runs others i → pushed ≡ runs
    → more ≡ hidden ++ pushed ∷ [] → Leads ids all more others (i + 1)
leads_more bytes ids all hidden more rest others i runs pushed lt have h a p push = record {
  first = push ∙ ap (λ (x : List Run). hidden ++ x ∷ []) (p ∙ a.same) ∙ ap (λ (t : List (List Run)). t ++ get_or all i [] ∷ []) h.first ∙ sym (take_more all i [] (omega (arith, lt, have.one_each)));
  left = a.left;
}

pub leads_all : (bytes : Text) (ids : List ℕ) (all hidden : List (List Run)) (rest : List Tombstone) (i : ℕ) → length ids ≤ i → HaveRuns bytes ids all → Leads ids all hidden rest i → (hidden ≡ all) × (rest ≡ [])
leads_all bytes ids all hidden rest i le have h = (
  h.first ∙ whole all i (omega (arith, le, have.one_each)),
  h.left ∙ ap (λ (is : List ℕ). tombstones_of is (drop i all)) (none (drop i ids) (omega (arith, le, length-drop i ids))) ∙ of-no_ids (drop i all),
)
  where
    none : (ys : List ℕ) → length ys ≡ 0 → ys ≡ []
    none [] e = refl
    none (y ∷ ys) e = absurd (omega (arith, e))
