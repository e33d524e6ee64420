-- A document has no floats, so its text is known.
use Rattle.std.proofs.Common.{◌≡◌, ℕ, ℤ, pos, negsuc, Bool, true, false, List, [], ◌∷◌, ◌++◌, Option, Some, None, Ordering, Less, Equal, Greater, codes, map, refl}
use Rattle.std.specs.Prelude.{◌||◌}
use Rattle.std.specs.Cmp.Lexicographic.{slice_cmp}
use Rattle.std.specs.List.{AllByRecursion}
use Rattle.std.specs.Ordering.{match_ordering, nat_cmp}
use Rattle.serde_json.specs.Data.{Data, Members, member, no_members, number, put, string}
use Rattle.serde_json.specs.Find.{of_integer}
use Rattle.serde_json.specs.View.{items_of}
use Rattle.serde_json.specs.Written.{has_float, items_have_float, members_have_float}
use Rattle.wal_unpack.specs.declared.fault.UnpackDamage.{UnpackDamage}
use Rattle.wal_survey.specs.declared.counts.KindCount.{KindCount}
use Rattle.wal_survey.specs.declared.counts.SkippedCount.{SkippedCount}
use Rattle.wal_survey.specs.declared.records.Readable.{Readable}
use Rattle.wal_survey.specs.declared.records.Survey.{Survey}
use Rattle.inspect_files.specs.declared.files.FileSurvey.{FileSurvey}
use Rattle.inspect_files.specs.declared.sums.Sums.{Sums as LogSums}
use Rattle.store.specs.declared.store.Unread.{Unread}
use Rattle.inspect_command.specs.Documents.{Member, array_of, count_data, count_members, damage_data, damage_members, document_members, fault_number, file_data, file_members, name_members, natural, object_of, or_null, readable_data, readable_members, record_members, size_members, skipped_data, sums_members, survey_members, time_members, type_members, unread_data, unread_members, with_members}

left : (a b : Bool) → (a || b) ≡ false → a ≡ false
left true b e = absurd cc
left false b e = refl

right : (a b : Bool) → (a || b) ≡ false → b ≡ false
right true b e = absurd cc
right false b e = e

neither : (a b : Bool) → a ≡ false → b ≡ false → (a || b) ≡ false
neither a b e f = rw (e, f) refl

-- ---- members

put_exact : (k : List ℕ) (d : Data) (ms : Members) → has_float d ≡ false → members_have_float ms ≡ false → members_have_float (put k d ms) ≡ false
put_exact k d no_members e f = neither (has_float d) false e refl
put_exact k d (member l old ms) e f =
    by (slice_cmp nat_cmp k l) (put_exact k d ms e (right (has_float old) (members_have_float ms) f))
  where
    by : (o : Ordering) → members_have_float (put k d ms) ≡ false → members_have_float (match_ordering o (member k d (member l old ms)) (member l d ms) (member l old (put k d ms))) ≡ false
    by Less rest = neither (has_float d) (members_have_float (member l old ms)) e f
    by Equal rest = neither (has_float d) (members_have_float ms) e (right (has_float old) (members_have_float ms) f)
    by Greater rest = neither (has_float old) (members_have_float (put k d ms)) (left (has_float old) (members_have_float ms) f) rest

abbrev pub AreExact : List Member → Type 0
AreExact list = AllByRecursion (λ m. has_float m.1 ≡ false) list

with_exact : (list : List Member) (old : Members) → AreExact list → members_have_float old ≡ false → members_have_float (with_members list old) ≡ false
with_exact [] old each e = e
with_exact (m ∷ list) old each e = with_exact list (put m.0 m.1 old) each.1 (put_exact m.0 m.1 old each.0 e)

object_exact : (list : List Member) → AreExact list → has_float (object_of list) ≡ false
object_exact list each = with_exact list no_members each refl

append_exact : (a b : List Member) → AreExact a → AreExact b → AreExact (a ++ b)
append_exact [] b h k = k
append_exact (m ∷ a) b h k = (h.0, append_exact a b h.1 k)

-- ---- values

array_exact : {A : Type 0} (h : A → Data) → ((x : A) → has_float (h x) ≡ false) → (xs : List A) → has_float (array_of h xs) ≡ false
array_exact h each [] = refl
array_exact h each (x ∷ xs) = neither (has_float (h x)) (items_have_float (items_of (map h xs))) (each x) (array_exact h each xs)

null_exact : {A : Type 0} (h : A → Data) → ((x : A) → has_float (h x) ≡ false) → (o : Option A) → has_float (or_null h o) ≡ false
null_exact h each None = refl
null_exact h each (Some x) = each x

integer_exact : (z : ℤ) → has_float (number (of_integer z)) ≡ false
integer_exact (pos n) = refl
integer_exact (negsuc n) = refl

-- ---- the figures

count_exact : (c : KindCount) → has_float (count_data c) ≡ false
count_exact c = object_exact (record_members c) (refl, (refl, tt))

counts_exact : (series samples deletions : KindCount) → AreExact (count_members series samples deletions)
counts_exact series samples deletions = (count_exact series, (count_exact samples, (count_exact deletions, tt)))

sizes_exact : (bytes pages : ℕ) → AreExact (size_members bytes pages)
sizes_exact bytes pages = (refl, (refl, tt))

times_exact : (ends : Option (ℤ × ℤ)) → AreExact (time_members ends)
times_exact ends = (null_exact (λ (e : ℤ × ℤ). number (of_integer e.0)) (λ e. integer_exact e.0) ends, (null_exact (λ (e : ℤ × ℤ). number (of_integer e.1)) (λ e. integer_exact e.1) ends, tt))

skipped_exact : (c : SkippedCount) → has_float (skipped_data c) ≡ false
skipped_exact c = object_exact (type_members c) (null_exact natural (λ n. refl) c.kind, (refl, tt))

damage_exact : (d : UnpackDamage) → has_float (damage_data d) ≡ false
damage_exact d = object_exact (damage_members d) (refl, (null_exact natural (λ n. refl) (fault_number d.fault), (refl, tt)))

readable_exact : (r : Readable) → has_float (readable_data r) ≡ false
readable_exact r = object_exact (readable_members r) (refl, (refl, (refl, (refl, tt))))

unread_exact : (u : Unread) → has_float (unread_data u) ≡ false
unread_exact u = object_exact (unread_members u) (refl, (refl, tt))

survey_exact : (s : Survey) → AreExact (survey_members s)
survey_exact s =
    let damage : List Member = (codes "damage", or_null damage_data s.damage) ∷ (codes "readable", readable_data s.readable) ∷ [] in
    let last : AreExact damage = (null_exact damage_data damage_exact s.damage, (readable_exact s.readable, tt)) in
    let times : AreExact (time_members s.times ++ damage) = append_exact (time_members s.times) damage (times_exact s.times) last in
    let skipped : AreExact ((codes "skipped", array_of skipped_data s.skipped.items) ∷ (time_members s.times ++ damage)) = (array_exact skipped_data skipped_exact s.skipped.items, times) in
    append_exact (count_members s.series s.samples s.stones) ((codes "skipped", array_of skipped_data s.skipped.items) ∷ (time_members s.times ++ damage)) (counts_exact s.series s.samples s.stones) skipped

file_exact : (f : FileSurvey) → has_float (file_data f) ≡ false
file_exact f =
    let unread : List Member = (codes "unread", array_of unread_data f.unread.items) ∷ [] in
    let last : AreExact unread = (array_exact unread_data unread_exact f.unread.items, tt) in
    let survey : AreExact (survey_members f.survey ++ unread) = append_exact (survey_members f.survey) unread (survey_exact f.survey) last in
    let size : AreExact (size_members f.bytes f.pages ++ (survey_members f.survey ++ unread)) = append_exact (size_members f.bytes f.pages) (survey_members f.survey ++ unread) (sizes_exact f.bytes f.pages) survey in
    let name : AreExact (name_members f.in_checkpoint f.number) = (refl, (refl, tt)) in
    object_exact (file_members f) (append_exact (name_members f.in_checkpoint f.number) (size_members f.bytes f.pages ++ (survey_members f.survey ++ unread)) name size)

sums_exact : (s : LogSums) → has_float (object_of (sums_members s)) ≡ false
sums_exact s =
    let skipped : List Member = (codes "skipped", natural s.skipped) ∷ time_members s.times in
    let last : AreExact skipped = (refl, times_exact s.times) in
    let counts : AreExact (count_members s.series s.samples s.stones ++ skipped) = append_exact (count_members s.series s.samples s.stones) skipped (counts_exact s.series s.samples s.stones) last in
    let size : AreExact (size_members s.bytes s.pages ++ (count_members s.series s.samples s.stones ++ skipped)) =
    append_exact (size_members s.bytes s.pages) (count_members s.series s.samples s.stones ++ skipped) (sizes_exact s.bytes s.pages) counts in
    object_exact (sums_members s) (refl, size)

pub document_exact : (files : List FileSurvey) (sums : LogSums) (notes : List (List ℕ)) → has_float (object_of (document_members files sums notes)) ≡ false
document_exact files sums notes = object_exact (document_members files sums notes) (array_exact file_data file_exact files, (sums_exact sums, (array_exact string (λ n. refl) notes, tt)))
