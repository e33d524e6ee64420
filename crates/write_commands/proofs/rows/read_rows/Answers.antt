use Rattle.std.proofs.Common.{[], ◌∷◌, refl, arith, rules, tests}
use Rattle.std.proofs.lemmas.Bool.Decides.{Decides-eqb}
use Rattle.std.proofs.lemmas.Slice.Eq.{strip_suffix_is}
use Rattle.std.specs.Iterator.Adapters.{zip_second}
use Rattle.write_commands.proofs.LineLaws.{line_joined, lines_begin, newline_stripped, none_left, places_more, row_pushed, second_ended, text_read}
use Rattle.write_commands.proofs.rows.read_rows.Goals as goal

-- one row more was read
pub loop-line-preserved : goal.loop-line-preserved
loop-line-preserved c =
    let step = c.in-Some.ensures.steps in
    let cut = line_joined _ (zip_second c.loop-line.line-iterator) (zip_second c.next.new.self) c.in-Some.bytes step.1 (λ x b f called. search (rules, tests)) in
    let before = c.loop-line.invariant in
    let more = c.in_ok-row.ensures.more refl in
    let pushed = c.in_ok-push-in-Some-2.ensures.items in
    record {
      read = row_pushed _ c.in-Some.bytes.now _ _ c.loop-line.first.items c.read_row.new.first.items more.0 c.loop-line.rows.items c.push.new.self.items c.in-Some-2.row before.read cut (rw c.in-Some-2.is at c.in_ok-row.ensures.row) before.within more.1 pushed;
      spelled = (rw c.in-Some-2.is at c.in_ok-row.ensures.spelled) refl;
      within = places_more c.loop-line.first.items c.read_row.new.first.items more.0 c.loop-line.rows.items c.push.new.self.items c.in-Some-2.row before.within more.1 pushed (rw c.in-Some-2.is at c.in_ok-row.ensures.within);
      number = omega (arith, step.0.0, step.0.1, before.number, c.in_ok-push-in-Some-2.ensures.len);
    }

-- no line is left
pub returns : goal.returns
returns c =
    let begin = lines_begin _ _ _ _ c.unwrap_or-lines.result.now c.into_iter-line-iterator.ensures.into_iter_gives c.zip-line-items.ensures.first c.zip-line-items.ensures.second c.split.ensures.rest c.split.ensures.done in
    let ended = second_ended c.in-None.ensures.steps (λ first. omega (arith, first.1.0, c.loop-line.invariant.number, c.loop-line.rows.ok.1, c.loop-line.rows.small)) in
    let stripped = newline_stripped c.args.bytes.now c.args.bytes c.unwrap_or-lines.result c.strip_suffix.result refl (strip_suffix_is Decides-eqb c.args.bytes.now (10 ∷ []) c.strip_suffix.result c.strip_suffix.ensures.cases) c.unwrap_or-lines.ensures in
    record { rows = text_read c.args.bytes.now c.unwrap_or-lines.result.now _ _ _ stripped begin.0 c.loop-line.invariant.read (none_left c.loop-line.line-iterator ended.1.0) }
