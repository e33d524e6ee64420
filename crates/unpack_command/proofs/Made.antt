-- The calls of files in a folder.
use Rattle.std.specs.Prelude.{◌≡◌, ℕ, List, [], ◌∷◌, ◌++◌, refl}
use Rattle.std.proofs.Common.{ap, append_assoc, subst, sym, ◌∙◌}
use Rattle.std.proofs.lemmas.List.{map-append}
use Rattle.std.specs.Path.{path_join}
use Rattle.wal_log.specs.declared.input.Segment.{Segment}
use Rattle.store.specs.Calls.{Call}
use Rattle.new_files.specs.Files.{file_calls}
use Rattle.new_files.specs.Folders.{FileAt, files_calls}
use Rattle.new_files.specs.Orders.{DidAll, DidFirst}
use Rattle.new_files.specs.Targets.{zero_filled}
use Rattle.new_files.proofs.Orders.{all_both, first_behind, first_of_all, first_of_more}
use Rattle.unpack_command.specs.Folders.{files_in}

pub calls_then : (xs ys : List FileAt) → files_calls (xs ++ ys) ≡ files_calls xs ++ files_calls ys
calls_then [] ys = refl
calls_then (x ∷ xs) ys = ap (λ (more : List Call). file_calls x.path x.bytes ++ more) (calls_then xs ys) ∙ sym (append_assoc (file_calls x.path x.bytes) (files_calls xs) (files_calls ys))

file_in : List ℕ → Segment → FileAt
file_in folder s = record { path = path_join folder (zero_filled 8 s.number); bytes = s.bytes }

pub files_then : (folder : List ℕ) (xs ys : List Segment) → files_calls (files_in folder (xs ++ ys)) ≡ files_calls (files_in folder xs) ++ files_calls (files_in folder ys)
files_then folder xs ys =
    ap files_calls (map-append (λ (s : Segment). record { path = path_join folder (zero_filled 8 s.number); bytes = s.bytes }) xs ys) ∙ calls_then (files_in folder xs) (files_in folder ys)

module _ {S : Type 0} (did : S → List Call → S → Type 0) where
  pub done_all_first : (old new : S) (calls : List Call) → DidAll did old calls new → DidFirst did old calls new
  done_all_first old new calls all = record { made = all.made; done = all.done; are_first = first_of_all all.made calls all.are_all }

  -- nothing was done
  module _ (nothing : (s : S) → did s [] s) where
    pub none_done : (s : S) → DidAll did s [] s
    none_done s = record { made = []; done = nothing s; are_all = refl }

    pub none_begun : (s : S) (calls : List Call) → DidFirst did s calls s
    none_begun s calls = first_of_more did s s [] calls (record { made = []; done = nothing s; are_first = refl })

  module _ (both : (old middle new : S) (first second : List Call) → did old first middle → did middle second new → did old (first ++ second) new) (folder : List ℕ) (old middle new : S) (xs ys : List Segment) (so_far : DidAll did old (files_calls (files_in folder xs)) middle) where
    -- more files were written after these
    pub files_more : DidAll did middle (files_calls (files_in folder ys)) new → DidAll did old (files_calls (files_in folder (xs ++ ys))) new
    files_more more = subst (λ (calls : List Call). DidAll did old calls new) (sym (files_then folder xs ys)) (all_both did both old middle new (files_calls (files_in folder xs)) (files_calls (files_in folder ys)) so_far more)

    -- more files were begun after these
    pub files_begun : DidFirst did middle (files_calls (files_in folder ys)) new → DidFirst did old (files_calls (files_in folder (xs ++ ys))) new
    files_begun more = subst (λ (calls : List Call). DidFirst did old calls new) (sym (files_then folder xs ys)) (first_behind did both old middle new (files_calls (files_in folder xs)) (files_calls (files_in folder ys)) so_far more)
