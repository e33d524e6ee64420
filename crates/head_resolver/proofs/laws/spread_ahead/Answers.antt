use Rattle.std.proofs.Common.{refl}
use Rattle.head_resolver.proofs.BindingAhead.{ahead_done, ahead_none, ahead_quiet}
use Rattle.head_resolver.proofs.SpreadAhead.{ahead_places}
use Rattle.head_resolver.proofs.laws.spread_ahead.Goals as goal

pub returns : goal.returns
returns c = record {
  start = ahead_none;
  quiet = ahead_quiet;
  places = ahead_places;
  done = ahead_done;
  none = λ m slots n. record { items_are = refl; counts_are = refl };
}
