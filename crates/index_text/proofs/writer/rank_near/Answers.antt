use Rattle.std.proofs.Common.{rules, ◌≡◌, ◌<◌, ℕ, [], List, length, get_or, ap, sym, ◌∙◌, arith}
use Rattle.std.specs.Borrow.{Bor}
use Rattle.std.proofs.lemmas.List.{get_or-map, length-map}
use Rattle.index_text.specs.Gives.{nows}
use Rattle.index_text.specs.Sets.{text_cmp}
use Rattle.index_text.proofs.Orders.{strict, text_total}
use Rattle.index_text.proofs.Ranks.{rank-at}
use Rattle.index_text.proofs.writer.rank_near.Goals as goal

pub returns-in-Some : goal.returns-in-Some
returns-in-Some c =
    let place : ℕ = c.args.place in
    let within : c.args.place < length c.args.table.now = search rules in
    let same : c.in-Some.there.now.now ≡ c.args.text.now = search rules in
    let there : get_or c.args.table.now c.args.place c.in-Some.there.now ≡ c.in-Some.there.now = search rules in
    let long : length (nows c.args.table.now) ≡ length c.args.table.now = length-map c.args.table.now (λ (t : Bor (List ℕ)). t.now) in
    let at : get_or (nows c.args.table.now) c.args.place [] ≡ c.args.text.now =
    (get_or-map (λ (t : Bor (List ℕ)). t.now) c.args.table.now c.args.place c.in-Some.there.now [] within ∙ ap (λ (t : Bor (List ℕ)). t.now) there ∙ same) in
    sym (rank-at text_cmp (strict text_total) c.args.text.now [] (nows c.args.table.now) c.args.place c.requires (omega (arith, within, long)) at)
