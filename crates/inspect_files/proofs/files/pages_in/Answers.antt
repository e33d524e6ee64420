use Rattle.std.proofs.Common.{sym, ◌∙◌}
use Rattle.wal_page.proofs.Cuts.{length-pages}
use Rattle.inspect_files.proofs.files.pages_in.Goals as goal

pub returns : goal.returns
returns c = c.div_ceil.ensures ∙ sym (length-pages c.args.bytes.now)
