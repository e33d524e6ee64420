use Rattle.std.specs.Prelude.{slice_get}
use Rattle.std.proofs.Common.{ap, sym, ◌∙◌, ◌≡◌, take, take_all, rules}
use Rattle.std.specs.List.{flat_map, fold}
use Rattle.hw_bytes.proofs.Places.{take_more}
use Rattle.wal_record.specs.Hashes.{label_input}
use Rattle.wal_record.specs.Labels.{label}
use Rattle.head_live.proofs.KeyLemmas.{written_more}
use Rattle.head_live.proofs.set_key.SetKeyHash.hash.Goals as goal

pub loop-i-preserved : goal.loop-i-preserved
loop-i-preserved g c =
    let l = label c.pair.result.0.now c.pair.result.1.now in
    let ls = c.args.self.now.labels.value in
    written_more g.H.Hasher.write _ _ _ _ (take c.loop-i.i ls) _ l c.loop-i.invariant (take_more ls c.loop-i.i l (ap (λ xs. slice_get xs c.loop-i.i) (sym c.deref-in-loop-i.ensures) ∙ c.pair.ensures)) c.write.ensures c.write-in-loop-i.ensures

pub returns : goal.returns
returns g c =
    let all : take c.loop-i.i c.args.self.now.labels.value ≡ c.args.self.now.labels.value = search (rules, take_all) in
    c.loop-i.invariant ∙ ap (λ ls. fold g.H.Hasher.write c.args.state.now (flat_map label_input ls)) all
