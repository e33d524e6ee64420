use Rattle.std.proofs.Common.{[], ◌∷◌}
use Rattle.std.proofs.lemmas.Result.{err_from_is_err_and}
use Rattle.store.specs.Calls.{Create, Write, SyncFile}
use Rattle.new_files.proofs.Orders.{called_ok, called_err, first_of_more, went_well, went_wrong, came_last, handed_on}
use Rattle.new_files.proofs.file.write_file_of.Goals as goal

pub returns-in_err-writer : goal.returns-in_err-writer
returns-in_err-writer g c =
    let p = err_from_is_err_and c.from_residual.result c.from_residual.ensures.1 in
    let did = g.S.Store.did in
    let path = c.args.path.now in
    handed_on did _ _ _ _ _ p.1 (first_of_more did _ _ (Create path ∷ []) (Write path (g.P.Pieces.text c.args.pieces.now) ∷ SyncFile path ∷ []) (called_err did _ _ (Create path) c.in_err-writer.ensures.call))

pub returns-in_err-write_pieces : goal.returns-in_err-write_pieces
returns-in_err-write_pieces g c =
    let p = err_from_is_err_and c.from_residual-in_err-write_pieces.result c.from_residual-in_err-write_pieces.ensures.1 in
    let did = g.S.Store.did in
    let both = g.met.S.Store.did_both in
    let path = c.args.path.now in
    let created = called_ok did _ _ (Create path) c.in_ok-writer.ensures.call in
    handed_on did _ _ _ _ _ p.1 (went_wrong did both _ _ _ (Create path ∷ []) (SyncFile path ∷ []) (Write path (g.P.Pieces.text c.args.pieces.now)) created (c.in_err-write_pieces.ensures.call path c.in_ok-writer.ensures.writer))

pub returns : goal.returns
returns g c =
    let did = g.S.Store.did in
    let both = g.met.S.Store.did_both in
    let path = c.args.path.now in
    let writer = c.in_ok-writer.ensures.writer in
    let created = called_ok did _ _ (Create path) c.in_ok-writer.ensures.call in
    let put = went_well did both _ _ _ _ (Write path (g.P.Pieces.text c.args.pieces.now)) created (c.in_ok-write_pieces.ensures.call path writer) in
    came_last did both _ _ _ _ (SyncFile path) c.sync_file.result put (c.sync_file.ensures.call path (c.write_pieces.ensures.writer path writer))
