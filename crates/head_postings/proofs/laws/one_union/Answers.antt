use Rattle.head_postings.proofs.Ascending.{union_is}
use Rattle.head_postings.proofs.laws.one_union.Goals as goal

pub returns : goal.returns
returns c = union_is
