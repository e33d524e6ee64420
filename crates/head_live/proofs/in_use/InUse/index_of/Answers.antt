use Rattle.std.proofs.Common.{◌≡◌, ◌<◌, ap, get_or, length, set, sym, ◌∙◌, arith}
use Rattle.std.specs.Prelude.{slice_get}
use Rattle.std.proofs.lemmas.Grind.{get_or_default_zero}
use Rattle.head_live.proofs.InUseLemmas.{got_last, indexed_more}
use Rattle.head_live.proofs.in_use.InUse.index_of.Goals as goal

pub invariant_of-self : goal.invariant_of-self
invariant_of-self c =
    let indices = c.self.inside.indices.items in
    let numbers = c.self.inside.numbers.items in
    let n = c.args.number in
    let within : n < length indices = omega (arith, c.requires.place, ap (λ v. v.places) c.self.view_is) in
    let long : c.len-index.result ≡ length numbers = omega (arith, c.len-index.ensures, c.self.inside.numbers.ok.0) in
    let at : c.index-index.result.now ≡ get_or indices n 0 = c.index-index.ensures ∙ get_or_default_zero indices n c.index-index.result.now within in
    indexed_more indices numbers _ c.push_reserved.new.self.items n c.self.invariant within
    (λ e. let no = c.if-is_at.ensures.1 (ap (λ v. slice_get v.numbers c.index-index.result.now) (sym c.self.view_is) ∙ ap (slice_get numbers) at ∙ e) in cc)
    (ap (set indices n) long) c.push_reserved.ensures.items

pub returns-clause-index : goal.returns-clause-index
returns-clause-index c =
    let numbers = c.self.inside.numbers.items in
    let long : c.len-index.result ≡ length numbers = omega (arith, c.len-index.ensures, c.self.inside.numbers.ok.0) in
    ap (λ xs. slice_get xs c.len-index.result) c.push_reserved.ensures.items ∙ ap (slice_get _) long ∙ got_last numbers c.args.number
