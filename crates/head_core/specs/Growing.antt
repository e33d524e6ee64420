-- Series that were added.
use Rattle.std.specs.Prelude.{◌≡◌, List, ◌++◌}
use Rattle.head_series.specs.Table.{Labels}

-- The later series are the earlier ones and perhaps more: no slot changes its series.
abbrev pub HaveGrown : List Labels → List Labels → Type 0
HaveGrown earlier later = (more : List Labels) × (later ≡ earlier ++ more)
