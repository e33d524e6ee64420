use Rattle.std.proofs.Common.{◌∙◌, ap, codes}
use Rattle.std.proofs.lemmas.Result.{on_ok_weaker}
use Rattle.serde_json.specs.Data.{Data, Members, put, string}
use Rattle.serde_json.specs.View.{members_view}
use Rattle.inspect_command.specs.Documents.{array_of, object_of, sums_members}
use Rattle.inspect_command.proofs.json.put_all.Goals as goal

-- the files, their sums and the notes, one after another
pub returns : goal.returns
returns c =
    let notes = c.in_ok-notes_value.ensures in
    let files = c.in_ok-put.ensures.ok ∙ ap (λ (d : Data). put (codes "files") d (members_view c.args.members.now.entries)) c.in_ok-files_value.ensures in
    let sums = c.in_ok-put-2.ensures.ok ∙ ap (λ (d : Data). put (codes "all") d (members_view c.put.new.map.entries)) c.in_ok-sums_value.ensures ∙ ap (λ (ms : Members). put (codes "all") (object_of (sums_members c.args.sums.now)) ms) files in
    on_ok_weaker c.put-3.result
    (λ made.
    (notes.0, notes.1, made ∙ ap (λ (d : Data). put (codes "notes") d (members_view c.put-2.new.map.entries)) notes.2 ∙ ap (λ (ms : Members). put (codes "notes") (array_of string notes.0) ms) sums))
    c.put-3.ensures.ok
