use Rattle.std.proofs.Common.{inl}
use Rattle.store.proofs.Zipped.{parts_read, zipped_weaker}
use Rattle.store.proofs.several.+reading.Goals as goal

pub read_among-returns-then-readers-lt2 : goal.read_among-returns-then-readers-lt2
read_among-returns-then-readers-lt2 g t c = zipped_weaker _ _ (λ path file gave. inl gave) _ _ c.read_in_turn.ensures

pub read_among-returns : goal.read_among-returns
read_among-returns g t c =
    parts_read (g.H.ReadFile.gave c.args.here.now) (g.T.ReadFile.gave c.args.there.now) _ c.args.paths.now _ _ _ _ c.split_at.ensures.front c.split_at.ensures.back c.read_both.ensures.front c.read_both.ensures.back
