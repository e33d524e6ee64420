-- The records of a page, in three parts.
use Rattle.std.proofs.Common.{◌≡◌, ◌∙◌, ◌+◌, List, [], ◌∷◌, ◌++◌, append_assoc, length, length-append, map, refl, sym, ap, arith}
use Rattle.std.proofs.lemmas.Grind.{flat_map-append}
use Rattle.wal_record.specs.declared.record.SampleEntry.{SampleEntry}
use Rattle.wal_record.specs.declared.record.WalRecord.{WalRecord}
use Rattle.wal_record.specs.Entries.{entries_in, entries_of, sample}
use Rattle.wal_log.specs.declared.reading.Placed.{Placed}
use Rattle.wal_log.specs.Log.{contents}
use Rattle.wal_scan.specs.Samples.{AreSamples}
use Rattle.head_series.specs.Bindings.{Binding}
use Rattle.head_resolver.specs.Owners.{binding, bindings}
use Rattle.replay_rounds.proofs.Windows.{contents_both}

none_bound : (samples : List SampleEntry) → bindings (map sample samples) ≡ []
none_bound [] = refl
none_bound (s ∷ more) = none_bound more

-- samples bind nothing
pub samples_bind_nothing : (rs : List WalRecord) → AreSamples rs → bindings (entries_of rs) ≡ []
samples_bind_nothing [] h = refl
samples_bind_nothing (r ∷ rs) h =
    flat_map-append binding (entries_in r) (entries_of rs)
    ∙ ap (λ (bs : List Binding). bs ++ bindings (entries_of rs)) (ap (λ (s : WalRecord). bindings (entries_in s)) h.0.1 ∙ none_bound h.0.0)
    ∙ samples_bind_nothing rs h.1

-- the contents of three parts, after others
pub parts_behind : (back : List WalRecord) (page before samples behind : List Placed) → page ≡ before ++ (samples ++ behind)
    → ((back ++ contents before) ++ contents samples) ++ contents behind ≡ back ++ contents page
parts_behind back page before samples behind are =
    append_assoc (back ++ contents before) (contents samples) (contents behind)
    ∙ append_assoc back (contents before) (contents samples ++ contents behind)
    ∙ ap (λ (rs : List WalRecord). back ++ (contents before ++ rs)) (sym (contents_both samples behind))
    ∙ ap (λ (rs : List WalRecord). back ++ rs) (sym (contents_both before (samples ++ behind)))
    ∙ ap (λ (ps : List Placed). back ++ contents ps) (sym are)

-- the same, from the second part on
pub rest_behind : (back : List WalRecord) (page before samples behind : List Placed) → page ≡ before ++ (samples ++ behind)
    → (back ++ contents before) ++ (contents samples ++ contents behind) ≡ back ++ contents page
rest_behind back page before samples behind are = sym (append_assoc (back ++ contents before) (contents samples) (contents behind)) ∙ parts_behind back page before samples behind are

-- the number of records of three parts
pub parts_count : (page before samples behind : List Placed) → page ≡ before ++ (samples ++ behind) → length page ≡ length before + (length samples + length behind)
parts_count page before samples behind are =
    let all : length page ≡ length before + length (samples ++ behind) = ap (λ (ps : List Placed). length ps) are ∙ length-append before (samples ++ behind) in
    omega (arith, all, length-append samples behind)
