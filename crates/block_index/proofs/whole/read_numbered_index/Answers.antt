use Rattle.std.proofs.Common.{rules, ◌≡◌, ◌<◌, ◌^◌, length, map, Ok, ap, sym, ◌∙◌}
use Rattle.hw_bytes.specs.Spellings.{IsBytes}
use Rattle.index_text.specs.Gives.{nows}
use Rattle.index_text.specs.Reading.{stored_in}
use Rattle.index_text.specs.Stored.{stored}
use Rattle.block_index.proofs.Last.{IfErr-then, IfOk-then, answers_early, answers_last, refuses_early, refuses_last, only_last}
use Rattle.block_index.proofs.whole.read_numbered_index.Goals as goal

pub returns-in_err-symbols-clause-refuses : goal.returns-in_err-symbols-clause-refuses
returns-in_err-symbols-clause-refuses c rows is =
    let small : IsBytes c.args.bytes.now = search rules in
    let short : length c.args.bytes.now < 2 ^ 64 = search rules in
    let memory = refuses_early c.args.bytes.now c.in_err-symbols.field-0.0 small short c.in_err-symbols.ensures.gives rows is in
    search (rules, memory)

pub returns-in_err-symbols-clause-fault : goal.returns-in_err-symbols-clause-fault
returns-in_err-symbols-clause-fault c =
    let answer = answers_early c.args.bytes.now c.in_err-symbols.field-0.0 c.in_err-symbols.ensures.gives in
    search (rules, answer)

pub returns-clause-fault : goal.returns-clause-fault
returns-clause-fault c =
    let series : map stored c.as_slice-2.result.now ≡ map stored c.in_ok-symbols.series.items = ap (map stored) c.as_slice-2.ensures.value in
    let table : nows c.as_slice.result.now ≡ nows c.in_ok-symbols.symbols.items = ap nows c.as_slice.ensures.value in
    let read : stored_in c.args.bytes.now ≡ Ok (nows c.as_slice.result.now, map stored c.as_slice-2.result.now) = c.in_ok-symbols.ensures.gives ∙ ap (λ t. Ok (t, map stored c.in_ok-symbols.series.items)) (sym table) ∙ ap (λ x. Ok (nows c.as_slice.result.now, x)) (sym series) in
    IfErr-then c.canonical.result _ _ c.canonical.ensures.bad (λ e h. answers_last c.args.bytes.now (nows c.as_slice.result.now) (map stored c.as_slice-2.result.now) read e h)

pub returns-clause-refuses : goal.returns-clause-refuses
returns-clause-refuses c rows is =
    let series : map stored c.as_slice-2.result.now ≡ map stored c.in_ok-symbols.series.items = ap (map stored) c.as_slice-2.ensures.value in
    let table : nows c.as_slice.result.now ≡ nows c.in_ok-symbols.symbols.items = ap nows c.as_slice.ensures.value in
    let read : stored_in c.args.bytes.now ≡ Ok (nows c.as_slice.result.now, map stored c.as_slice-2.result.now) = c.in_ok-symbols.ensures.gives ∙ ap (λ t. Ok (t, map stored c.in_ok-symbols.series.items)) (sym table) ∙ ap (λ x. Ok (nows c.as_slice.result.now, x)) (sym series) in
    let small : IsBytes c.args.bytes.now = search rules in
    let short : length c.args.bytes.now < 2 ^ 64 = search rules in
    IfErr-then c.canonical.result _ _ c.canonical.ensures.bad (λ e h. refuses_last c.args.bytes.now (nows c.as_slice.result.now) (map stored c.as_slice-2.result.now) small short read rows is e h)

pub returns-clause-only : goal.returns-clause-only
returns-clause-only c rows is =
    let small : IsBytes c.args.bytes.now = search rules in
    let short : length c.args.bytes.now < 2 ^ 64 = search rules in
    IfOk-then c.canonical.result _ _ c.canonical.ensures.found (λ read found. only_last c.args.bytes.now small short rows read.rows is found)
