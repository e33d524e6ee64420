use Rattle.std.proofs.Common.{sym, subst, arith}
use Rattle.head_postings.specs.Room.{Counted, IsCountOf}
use Rattle.head_postings.proofs.RoomLemmas.{count_push}
use Rattle.head_postings.proofs.batch.PostingsBatch.add.Goals as goal

pub returns : goal.returns
returns c sets h =
    let b : Counted = record { many = c.self.inside.many; names = c.self.inside.names.slots } in
    let d : Counted = record { many = c.in-Some.many; names = c.add.new.self.slots } in
    count_push sets c.args.labels.now c.new.result b d (subst (IsCountOf sets) (sym c.self.view_is) h) (omega (arith, c.in-Some.ensures)) c.in_ok-add.ensures.ok
