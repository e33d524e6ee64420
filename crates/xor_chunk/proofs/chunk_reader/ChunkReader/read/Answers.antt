use Rattle.std.proofs.Common.{◌<◌, ◌-◌, ◌∷◌, ◌∙◌, ap, sym, subst}
use Rattle.std.proofs.lemmas.Result.{err_from_is_err_and}
use Rattle.xor_chunk.specs.Private.{rest_of}
use Rattle.xor_chunk.specs.declared.sample.Sample.{Sample}
use Rattle.xor_chunk.specs.Reading.{ReaderValue, found_map}
use Rattle.xor_chunk.specs.declared.before.Last.{Last}
use Rattle.xor_chunk.specs.declared.before.Last.TheVariants.{Later}
use Rattle.xor_chunk.proofs.Readers.{first_to_bad, first_to_second, later_bad, later_found, nothing_to_bad, nothing_to_first}
use Rattle.xor_chunk.proofs.chunk_reader.ChunkReader.read.Goals as goal

pub returns-in_err-first-in-Nothing-clause-fault : goal.returns-in_err-first-in-Nothing-clause-fault
returns-in_err-first-in-Nothing-clause-fault c =
    let s = c.self.inside in
    let left = subst (λ (v : ReaderValue). 0 < v.left) (sym c.self.view_is) c.requires in
    let here = sym (ap (λ (v : ReaderValue). v.rest) c.self.view_is) ∙ ap (λ (l : Last). rest_of s.left l s.bytes.now s.bits) c.in-Nothing.is in
    let p = err_from_is_err_and c.from_residual.result c.from_residual.ensures.1 in
    rw (p.1, p.2) (here ∙ nothing_to_bad s.left s.bytes.now s.bits _ left c.in_err-first-in-Nothing.ensures.fault)

pub returns-in_err-second-in-First-clause-fault : goal.returns-in_err-second-in-First-clause-fault
returns-in_err-second-in-First-clause-fault c =
    let s = c.self.inside in
    let left = subst (λ (v : ReaderValue). 0 < v.left) (sym c.self.view_is) c.requires in
    let here = sym (ap (λ (v : ReaderValue). v.rest) c.self.view_is) ∙ ap (λ (l : Last). rest_of s.left l s.bytes.now s.bits) c.in-First.is in
    let p = err_from_is_err_and c.from_residual-in_err-second-in-First.result c.from_residual-in_err-second-in-First.ensures.1 in
    rw (p.1, p.2) (here ∙ first_to_bad s.left c.in-First.first s.bytes.now s.bits _ left c.in_err-second-in-First.ensures.fault)

pub returns-in_err-next-in-Later-clause-fault : goal.returns-in_err-next-in-Later-clause-fault
returns-in_err-next-in-Later-clause-fault c =
    let s = c.self.inside in
    let left = subst (λ (v : ReaderValue). 0 < v.left) (sym c.self.view_is) c.requires in
    let here = sym (ap (λ (v : ReaderValue). v.rest) c.self.view_is) ∙ ap (λ (l : Last). rest_of s.left l s.bytes.now s.bits) c.in-Later.is in
    let p = err_from_is_err_and c.from_residual-in_err-next-in-Later.result c.from_residual-in_err-next-in-Later.ensures.1 in
    rw (p.1, p.2) (here ∙ later_bad s.left c.in-Later.before s.bytes.now s.bits _ left c.in_err-next-in-Later.ensures.exact)

pub returns-in_ok-first-in-Nothing-clause-some : goal.returns-in_ok-first-in-Nothing-clause-some
returns-in_ok-first-in-Nothing-clause-some c =
    let s = c.self.inside in
    let left = subst (λ (v : ReaderValue). 0 < v.left) (sym c.self.view_is) c.requires in
    let here = sym (ap (λ (v : ReaderValue). v.rest) c.self.view_is) ∙ ap (λ (l : Last). rest_of s.left l s.bytes.now s.bits) c.in-Nothing.is in
    here ∙ nothing_to_first s.left c.in_ok-first-in-Nothing.first s.bytes.now c.in_ok-first-in-Nothing.rest.now s.bits s.bits left c.in_ok-first-in-Nothing.ensures.found

pub returns-in_ok-second-in-First-clause-some : goal.returns-in_ok-second-in-First-clause-some
returns-in_ok-second-in-First-clause-some c =
    let s = c.self.inside in
    let left = subst (λ (v : ReaderValue). 0 < v.left) (sym c.self.view_is) c.requires in
    let here = sym (ap (λ (v : ReaderValue). v.rest) c.self.view_is) ∙ ap (λ (l : Last). rest_of s.left l s.bytes.now s.bits) c.in-First.is in
    here ∙ first_to_second s.left c.in-First.first c.in_ok-second-in-First.second s.bytes.now s.bytes.now s.bits c.read_second.new.bits left c.in_ok-second-in-First.ensures.found
    ∙ ap (λ (x : Sample). found_map (λ more. x ∷ more) (rest_of (s.left - 1) (Later c.in_ok-second-in-First.second) s.bytes.now c.read_second.new.bits)) (sym c.sample.ensures)

pub returns-in_ok-next-in-Later-clause-some : goal.returns-in_ok-next-in-Later-clause-some
returns-in_ok-next-in-Later-clause-some c =
    let s = c.self.inside in
    let left = subst (λ (v : ReaderValue). 0 < v.left) (sym c.self.view_is) c.requires in
    let here = sym (ap (λ (v : ReaderValue). v.rest) c.self.view_is) ∙ ap (λ (l : Last). rest_of s.left l s.bytes.now s.bits) c.in-Later.is in
    here ∙ later_found s.left c.in-Later.before c.in_ok-next-in-Later.next s.bytes.now s.bytes.now s.bits c.read_later.new.bits left c.in_ok-next-in-Later.ensures.exact
    ∙ ap (λ (x : Sample). found_map (λ more. x ∷ more) (rest_of (s.left - 1) (Later c.in_ok-next-in-Later.next) s.bytes.now c.read_later.new.bits)) (sym c.sample-in-Later.ensures)
