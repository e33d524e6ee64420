use Rattle.store.specs.Views.{view_of}
use Rattle.headline.proofs.Still.{whole_reading}
use Rattle.headline.proofs.directories.damage_ends_reading.Goals as goal

pub returns-clause-reading : goal.returns-clause-reading
returns-clause-reading g c = λ still first whole placed damage. whole_reading (view_of (g.S.Store.holds c.args._store.now)) still c.one_plan.ensures.segments c.one_plan.ensures.dir c.args._dir.now first whole placed damage

pub returns-clause-replayed : goal.returns-clause-replayed
returns-clause-replayed g c = λ still first whole m damage content up is all.
    record {
      placed = is.placed;
      reading = whole_reading (view_of (g.S.Store.holds c.args._store.now)) still c.one_plan.ensures.segments c.one_plan.ensures.dir c.args._dir.now first whole is.placed damage up is.reading all;
      content = is.content;
      min_valid = is.min_valid;
      limits = is.limits;
    }
