use Rattle.std.proofs.Common.{rules, ◌≡◌, ◌∙◌, ap}
use Rattle.serde_json.specs.Data.{no_members, object}
use Rattle.serde_json.specs.View.{members_view, view}
use Rattle.inspect_command.specs.Documents.{document_members, with_members}
use Rattle.inspect_command.proofs.json.document_value.Goals as goal

pub returns : goal.returns
returns c =
    let made = c.in_ok-put_all.ensures in
    let built : view c.from.result ≡ object (members_view c.put_all.new.members.entries) = search rules in
    let none : members_view c.new-members.result.entries ≡ no_members = search rules in
    (made.0, made.1, built ∙ ap object (made.2 ∙ ap (with_members (document_members c.args.files.now c.args.sums.now made.0)) none))
