use Rattle.new_files.proofs.Orders.{told}
use Rattle.new_files.proofs.file.write_pieces_synced.Goals as goal

pub returns-clause-calls : goal.returns-clause-calls
returns-clause-calls g c = told _ _ c.write_file_of.result c.written.result c.written.ensures.ok c.written.ensures.err c.write_file_of.ensures
