use Rattle.std.proofs.Common.{rules, ◌≡◌, ◌∙◌, ◌++◌, ◌∷◌, [], ℕ, List, ap, false, string_bytes, subst}
use Rattle.serde_json.specs.View.{view}
use Rattle.serde_json.specs.Written.{compact_text, has_float}
use Rattle.inspect_files.specs.declared.files.FileSurvey.{FileSurvey}
use Rattle.inspect_files.specs.Sums.{AreSumsOf}
use Rattle.inspect_command.specs.Documents.{document_members, newline, object_of}
use Rattle.inspect_command.proofs.Floats.{document_exact}
use Rattle.inspect_command.proofs.json.inspection_document.Goals as goal

pub returns : goal.returns
returns c =
    let made = c.in_ok-document.ensures in
    let sums = c.in_ok-sums.sums in
    let exact : has_float (view c.in_ok-document.document) ≡ false = ap has_float made.2 ∙ document_exact c.as_slice-files.result.now sums made.0 in
    let ended : string_bytes c.push.new.self ≡ string_bytes c.in_ok-text.text ++ newline ∷ [] = search rules in
    record {
      sums = sums;
      are_sums = subst (λ (files : List FileSurvey). AreSumsOf files sums) c.as_slice-files.ensures.value c.in_ok-sums.ensures;
      notes = made.0;
      a_note_each = made.1;
      text_is =
          ended
          ∙ ap (λ (t : List ℕ). t ++ newline ∷ []) (c.in_ok-text.ensures.text exact ∙ ap compact_text made.2)
          ∙ ap (λ (files : List FileSurvey). compact_text (object_of (document_members files sums made.0)) ++ newline ∷ []) c.as_slice-files.ensures.value;
    }
