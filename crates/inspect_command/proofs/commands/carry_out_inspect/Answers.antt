use Rattle.inspect_command.proofs.commands.carry_out_inspect.Goals as goal

pub returns-in-Ok-clause-status : goal.returns-in-Ok-clause-status
returns-in-Ok-clause-status g c = λ none. c.in-Ok.ensures.status

pub returns-in-Ok-clause-document : goal.returns-in-Ok-clause-document
returns-in-Ok-clause-document g c = λ json none. c.in-Ok.ensures.document json
