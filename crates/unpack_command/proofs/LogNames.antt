-- A name alone in a directory, which has no log.
use Rattle.std.specs.Prelude.{◌≡◌, ℕ, List, [], ◌∷◌, Option, None, Some, filter, length, refl}
use Rattle.std.specs.List.{cons_option}
use Rattle.std.specs.Option.{option_map}
use Rattle.std.proofs.Common.{ap, arith, sym, ◌∙◌}
use Rattle.std.proofs.lemmas.List.Sorted.{length_permutation}
use Rattle.wal_log.specs.Names.{checkpoint_number, number_of}
use Rattle.wal_log.specs.Plan.{IsDirPlan, NumberedName, is_past, segments_past}
use Rattle.unpack_command.specs.Folders.{IsNoLogName}

module _ (name : List ℕ) where
  abbrev numbered : Option ℕ → List NumberedName
  numbered number = cons_option (option_map (λ n. record { number = n; name = name }) number) []

  none_of : (number : Option ℕ) → length (numbered number) ≡ 0 → number ≡ None
  none_of None is = refl
  none_of (Some n) is = absurd (omega (arith, is))

  none_past : (number : Option ℕ) → length (filter (λ (s : NumberedName). is_past None s.number) (numbered number)) ≡ 0 → number ≡ None
  none_past None is = refl
  none_past (Some n) is = absurd (omega (arith, is))

  -- a directory with this name alone has no checkpoint and no segment
  pub no_log_name : (plan : List NumberedName) → length plan ≡ 0 → IsDirPlan (name ∷ []) None plan → IsNoLogName name
  no_log_name plan none planned = record {
    no_segment = none_past (number_of name) (sym (length_permutation (segments_past None (name ∷ [])) plan planned.past.all) ∙ none);
    no_checkpoint = none_of (checkpoint_number name) (ap length planned.newest);
  }
