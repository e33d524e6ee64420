-- The records of a window, page by page, shared out to workers and put together again.
use Rattle.std.proofs.Common.{arith, ◌≡◌, ℕ, ◌+◌, ℤ, suc, Option, List, [], ◌∷◌, ◌++◌, append_assoc, length, length-append, map, refl, sym, ap, subst, ◌∙◌}
use Rattle.std.specs.List.{AllByRecursion, flat_map}
use Rattle.std.proofs.lemmas.Grind.{flat_map-append}
use Rattle.std.proofs.lemmas.List.{map-append}
use Rattle.hw_bytes.proofs.Lists.{flat_map-push}
use Rattle.wal_record.specs.declared.record.WalRecord.{WalRecord}
use Rattle.wal_log.specs.declared.reading.Placed.{Placed}
use Rattle.wal_log.specs.Log.{contents}
use Rattle.head_column.specs.declared.items.Item.{Item}
use Rattle.crew.specs.Jobs.{AreDone}
use Rattle.head_series.specs.Table.{Table, slot_at}
use Rattle.head_resolver.specs.declared.counts.Counts.{Counts}
use Rattle.head_resolver.specs.Ahead.{AreSpreadAt}
use Rattle.head_resolver.specs.Changes.{slot_before, Change}
use Rattle.head_resolver.specs.Resolved.{ResolverValue}
use Rattle.head_resolver.specs.Steps.{no_counts}
use Rattle.replay_rounds.specs.Records.{records_of}
use Rattle.replay_rounds.specs.Shares.{AreMadeBy, ArePlaced, HasSpread, IsFreshJob, slots_of}
use Rattle.replay_rounds.specs.Windows.{AreMadeOf, IsMadeOf}
use Rattle.replay_rounds.specs.declared.spreading.Spreading.{Spreading}
use Rattle.replay_rounds.specs.declared.spreading.SpreadJob.{SpreadJob}

pub contents_both : (front back : List Placed) → contents (front ++ back) ≡ contents front ++ contents back
contents_both front back = map-append (λ (p : Placed). p.content) front back

-- the records of one page more
pub records_push : (pages : List (List Placed)) (records : List Placed) → records_of (pages ++ records ∷ []) ≡ records_of pages ++ records
records_push pages records = flat_map-push (λ (rs : List Placed). rs) pages records

-- of no records nothing is spread
abbrev pub NothingSpread : Type 0
NothingSpread = (m : ℤ) (slots : ℕ → ℕ → Option ℕ) (n : ℕ) → AreSpreadAt m slots n [] [] no_counts

-- what a fresh job's records made, from the place of the job on
pub job_made : NothingSpread → (resolver : ResolverValue) (changes : List Change) (workers n : ℕ) (old new : SpreadJob) → old.place ≡ n → IsFreshJob resolver changes workers old → HasSpread old new
    → IsMadeOf resolver.min_valid (slots_of resolver changes) workers n (records_of old.pages.items) new.made
job_made none resolver changes workers n old new at fresh spread =
    let items : old.made.spread.items ≡ [] = ap (λ s. s.items) fresh.2.0 in
    let slots : ℕ → ℕ → Option ℕ = slots_of old.resolver.now old.changes.now in
    let nothing : AreSpreadAt old.resolver.now.min_valid slots n [] old.made.spread.items old.made.counts =
    subst (λ (is : List (ℕ × Item)). AreSpreadAt old.resolver.now.min_valid slots n [] is old.made.counts) (sym items)
    (subst (λ (c : Counts). AreSpreadAt old.resolver.now.min_valid slots n [] [] c) (sym fresh.2.1) (none old.resolver.now.min_valid slots n)) in
    let first : old.place ≡ n + 0 = omega (arith, at) in (
      subst (λ (r : ResolverValue). AreSpreadAt r.min_valid (slots_of r changes) n (contents (records_of old.pages.items)) new.made.spread.items new.made.counts) fresh.0
          (subst (λ (cs : List Change). AreSpreadAt old.resolver.now.min_valid (slots_of old.resolver.now cs) n (contents (records_of old.pages.items)) new.made.spread.items new.made.counts) fresh.1 (spread.0 n [] nothing first)),
      spread.1 ∙ ap (λ s. s.workers) fresh.2.0,
    )

-- what the jobs' records made, in order
pub all_made_of : NothingSpread → (resolver : ResolverValue) (changes : List Change) (workers n : ℕ) (before after : List SpreadJob) → ArePlaced n before → AllByRecursion (IsFreshJob resolver changes workers) before → AreDone HasSpread before after
    → AreMadeOf resolver.min_valid (slots_of resolver changes) workers n (records_of (flat_map (λ job. job.pages.items) before)) (map (λ job. job.made) after)
all_made_of none resolver changes workers n [] [] placed h k = refl
all_made_of none resolver changes workers n [] (a ∷ after) placed h k = let e : length (a ∷ after) ≡ 0 = k.long in absurd cc
all_made_of none resolver changes workers n (b ∷ before) [] placed h k = let e : 0 ≡ length (b ∷ before) = k.long in absurd cc
all_made_of none resolver changes workers n (b ∷ before) (a ∷ after) placed h k =
    let long : length (a ∷ after) ≡ length (b ∷ before) = k.long in
    let pages : List SpreadJob → List (List Placed) = flat_map (λ job. job.pages.items) in
    let split : records_of (pages (b ∷ before)) ≡ records_of b.pages.items ++ records_of (pages before) =
    flat_map-append (λ (rs : List Placed). rs) b.pages.items (pages before) in (
      records_of b.pages.items,
      records_of (pages before),
      split,
      job_made none resolver changes workers n b a placed.0 h.0 (k.each 0 b a refl refl),
      all_made_of none resolver changes workers (n + length (records_of b.pages.items)) before after placed.1 h.1 (record { long = cc; each = λ i x y there here. k.each (suc i) x y there here }),
    )

-- what jobs made of the pages that were shared out among them, in order, from the place 0 on
pub made_of_shares : NothingSpread → (resolver : ResolverValue) (changes : List Change) (workers given : ℕ) (jobs : List SpreadJob) (pages : List (List Placed)) (made : List Spreading) → given ≡ workers → flat_map (λ job. job.pages.items) jobs ≡ pages
    → ArePlaced 0 jobs → AllByRecursion (IsFreshJob resolver changes given) jobs → AreMadeBy jobs made → AreMadeOf resolver.min_valid (slots_of resolver changes) workers 0 (records_of pages) made
made_of_shares none resolver changes workers given jobs pages made same all placed fresh (after, done, is) =
    subst (λ (w : ℕ). AreMadeOf resolver.min_valid (slots_of resolver changes) w 0 (records_of pages) made) same
    (subst (λ (ps : List (List Placed)). AreMadeOf resolver.min_valid (slots_of resolver changes) given 0 (records_of ps) made) all
    (subst (λ (ms : List Spreading). AreMadeOf resolver.min_valid (slots_of resolver changes) given 0 (records_of (flat_map (λ job. job.pages.items) jobs)) ms) (sym is)
    (all_made_of none resolver changes given 0 jobs after placed fresh done)))

-- one job more is placed, after the records of all before it
pub placed_push : (n : ℕ) (jobs : List SpreadJob) (job : SpreadJob) → ArePlaced n jobs → job.place ≡ n + length (records_of (flat_map (λ j. j.pages.items) jobs)) → ArePlaced n (jobs ++ job ∷ [])
placed_push n [] job placed at = let first : job.place ≡ n = omega (arith, at) in (first, tt)
placed_push n (j ∷ jobs) job placed at =
    let pages : List SpreadJob → List (List Placed) = flat_map (λ i. i.pages.items) in
    let split : records_of (pages (j ∷ jobs)) ≡ records_of j.pages.items ++ records_of (pages jobs) =
    flat_map-append (λ (rs : List Placed). rs) j.pages.items (pages jobs) in
    let long : length (records_of (pages (j ∷ jobs))) ≡ length (records_of j.pages.items) + length (records_of (pages jobs)) =
    ap (λ (rs : List Placed). length rs) split ∙ length-append (records_of j.pages.items) (records_of (pages jobs)) in
    let behind : job.place ≡ (n + length (records_of j.pages.items)) + length (records_of (pages jobs)) = omega (arith, at, long) in
    (placed.0, placed_push (n + length (records_of j.pages.items)) jobs job placed.1 behind)

-- how many records the jobs have where there is one more
pub records_push_job : (jobs : List SpreadJob) (job : SpreadJob) → length (records_of (flat_map (λ j. j.pages.items) (jobs ++ job ∷ []))) ≡ length (records_of (flat_map (λ j. j.pages.items) jobs)) + length (records_of job.pages.items)
records_push_job jobs job =
    let pages : List SpreadJob → List (List Placed) = flat_map (λ j. j.pages.items) in
    ap (λ (ps : List (List Placed)). length (records_of ps)) (flat_map-push (λ (j : SpreadJob). j.pages.items) jobs job)
    ∙ ap (λ (rs : List Placed). length rs) (flat_map-append (λ (rs : List Placed). rs) (pages jobs) job.pages.items)
    ∙ length-append (records_of (pages jobs)) (records_of job.pages.items)

-- what the records of one page more say, after others
pub contents_pushed : (rs : List WalRecord) (pages : List (List Placed)) (records : List Placed) → (rs ++ contents (records_of pages)) ++ contents records ≡ rs ++ contents (records_of (pages ++ records ∷ []))
contents_pushed rs pages records =
    append_assoc rs (contents (records_of pages)) (contents records)
    ∙ ap (λ (ss : List WalRecord). rs ++ ss) (sym (contents_both (records_of pages) records) ∙ ap contents (sym (records_push pages records)))

-- what all records say: those of some pages, of the next one, and of the pages after it
pub contents_split : (rs : List WalRecord) (pages : List (List Placed)) (records : List Placed) (later : List (List Placed))
    → rs ++ contents (records_of (pages ++ records ∷ later)) ≡ ((rs ++ contents (records_of pages)) ++ contents records) ++ contents (records_of later)
contents_split rs pages records later =
    ap (λ (ps : List (List Placed)). rs ++ contents (records_of ps)) (sym (append_assoc pages (records ∷ []) later))
    ∙ ap (λ (ps : List Placed). rs ++ contents ps) (flat_map-append (λ (r : List Placed). r) (pages ++ records ∷ []) later)
    ∙ ap (λ (ss : List WalRecord). rs ++ ss) (contents_both (records_of (pages ++ records ∷ [])) (records_of later))
    ∙ sym (append_assoc rs (contents (records_of (pages ++ records ∷ []))) (contents (records_of later)))
    ∙ ap (λ (ss : List WalRecord). ss ++ contents (records_of later)) (sym (contents_pushed rs pages records))

-- what is made of records, for the same table and least valid time and as many workers
pub made_at : (v w : ResolverValue) (changes : List Change) (workers others n : ℕ) (records : List Placed) (all : List Spreading) → w.table ≡ v.table → w.min_valid ≡ v.min_valid → others ≡ workers
    → AreMadeOf v.min_valid (slots_of v changes) workers n records all → AreMadeOf w.min_valid (slots_of w changes) others n records all
made_at v w changes workers others n records all table time same made =
    subst (λ (k : ℕ). AreMadeOf w.min_valid (slots_of w changes) k n records all) (sym same)
    (subst (λ (t : Table). AreMadeOf w.min_valid (slot_before changes (slot_at t)) workers n records all) (sym table)
    (subst (λ (m : ℤ). AreMadeOf m (slots_of v changes) workers n records all) (sym time) made))

-- what nothing is made of
pub made_whole : (m : ℤ) (slots : ℕ → ℕ → Option ℕ) (workers n : ℕ) (records : List Placed) (all : List Spreading) → all ≡ [] → AreMadeOf m slots workers n records all → records ≡ []
made_whole m slots workers n records all none made = subst (AreMadeOf m slots workers n records) none made
