use Rattle.headline.proofs.Unlimited.{all_taken}
use Rattle.headline.proofs.laws.no_limit.Goals as goal

pub returns : goal.returns
returns c = all_taken c.valid_records.ensures.fit c.valid_records.ensures.least
