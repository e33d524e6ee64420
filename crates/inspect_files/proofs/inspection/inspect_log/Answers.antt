use Rattle.std.proofs.Common.{rules, ◌≡◌, [], ℤ, map, subst, w64}
use Rattle.wal_log.specs.declared.plan.Named.{Named}
use Rattle.std.specs.Prelude.{string_bytes}
use Rattle.std.proofs.lemmas.Int.{to_z-of_z}
use Rattle.std.specs.Option.{option_map}
use Rattle.std.specs.List.{count_by, list_any}
use Rattle.wal_log.specs.Plan.{named as name_of}
use Rattle.wal_survey.specs.Unbound.{AreReferencesOf}
use Rattle.store.specs.Views.{view_of}
use Rattle.log_directory.specs.Listings.{IsListing}
use Rattle.inspect_files.specs.Inspections.{is_passed_over, is_wal}
use Rattle.inspect_files.proofs.Surveyed.{inspected}
use Rattle.inspect_files.proofs.inspection.inspect_log.Goals as goal

pub returns : goal.returns
returns g c =
    let listing = c.in_ok-listing.listing in
    let checkpoint : c.map-checkpoint.result ≡ option_map (λ (n : Named). n.number) listing.checkpoint = search rules in
    inspected (view_of (g.S.Store.holds c.args.store.now)) c.args.dir.now c.args.min_valid c.in_ok-names.names.items listing _ c.new-references.result c.in_ok-files.references c.in_ok-names.ensures
    (subst (λ names. IsListing (map string_bytes names) (option_map name_of listing.checkpoint) (map name_of listing.segments.items)) c.deref.ensures.value c.in_ok-listing.ensures)
    checkpoint
    c.in_ok-files.ensures
    (subst (λ (m : ℤ). AreReferencesOf m [] c.new-references.result) (to_z-of_z w64 c.args.min_valid c.ranges.min_valid) c.new-references.ensures)
    c.unbound.ensures
    (subst (λ names. c.passed_over.result ≡ count_by (λ name. is_passed_over c.map-checkpoint.result (string_bytes name)) names) c.deref-2.ensures.value c.passed_over.ensures)
    (subst (λ names. c.has_wal.result ≡ list_any (λ name. is_wal (string_bytes name)) names) c.deref-3.ensures.value c.has_wal.ensures)
    c.is_wbl.ensures
