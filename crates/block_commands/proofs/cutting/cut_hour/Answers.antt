use Rattle.std.proofs.Common.{inr, rules, subst}
use Rattle.std.proofs.lemmas.Int.{to_z-of_z}
use Rattle.block_cut.specs.Logs.{IsBlockOfLog}
use Rattle.block_commands.proofs.cutting.cut_hour.Goals as goal

pub returns : goal.returns
returns g c =
    let (log, source, replayed) = c.in_ok-head.ensures.content in
    let block = c.in_ok-block.block in
    let request = c.args.request in
    let made = c.in_ok-block.ensures c.times_for.result log request.options.min_valid c.times_for.ensures replayed in
    let is : IsBlockOfLog request.encoding log request.options.min_valid request.hour c.in-Ok.ulid block = search (rules, to_z-of_z, made) in
    record {
      crash = inr (
        log,
        c.in_ok-head.field-0.flaw,
        block,
        source,
        c.in_ok-head.ensures.unhurt,
        subst (λ ulid. IsBlockOfLog request.encoding log request.options.min_valid request.hour ulid block) c.in-Ok.ensures.some is,
        c.put_block.ensures.crash,
      );
    }
