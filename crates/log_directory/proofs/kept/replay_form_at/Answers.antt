use Rattle.log_directory.proofs.FormsRead.{as_asked}
use Rattle.log_directory.proofs.kept.replay_form_at.Goals as goal

-- the log as far as it was read is replayed
pub returns-in_ok-own-in-Ok-clause-content : goal.returns-in_ok-own-in-Ok-clause-content
returns-in_ok-own-in-Ok-clause-content g c =
    let dir = c.args.dir.now in
    let first = c.in_ok-log.log in
    let opened = c.in_ok-log.ensures in
    let damage = c.in-Ok.replayed.damage in
    let (given, gave, all) = c.in-Ok.ensures.content in
    let read = as_asked g.S.Store.holds g.S.PartStore.has_read dir first c.args.form c.args.store.now given _ damage c.in_ok-own-in-Ok.own opened.form opened.store opened.opened (λ here. c.in_ok-own-in-Ok.ensures dir first given damage here gave c.in-Ok.ensures.ended) in
    (read.log, read.read, all read.log read.left read.pages read.all)
