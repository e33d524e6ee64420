use Rattle.log_directory.proofs.kept.replay_at_in.Goals as goal

-- the log as far as it was read
pub returns-clause-content : goal.returns-clause-content
returns-clause-content g c =
    let replayed = c.in_ok-replayed.replayed in
    let own = c.in_ok-replayed.own in
    let (log, read, is) = c.in_ok-replayed.ensures.content in
    record { whole = is.whole; replayed = record { log = log; own = own; damage = replayed.damage; read = read; replayed = is.replayed; is = c.flaw_of.ensures }; seen = is.seen }
