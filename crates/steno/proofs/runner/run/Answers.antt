use Rattle.std.proofs.Common.{map, string_bytes}
use Rattle.steno.specs.Messages.{line_of}
use Rattle.steno.proofs.Planning.{run_ends}
use Rattle.steno.proofs.runner.run.Goals as goal

pub returns-clause-complete : goal.returns-clause-complete
returns-clause-complete g c = λ p plan quiet.
    run_ends (map string_bytes c.args.words.now) p _ _ _ _ c.obey-report.result.report.status (line_of c.obey-report.result.report) plan c.obey-report.ensures.ends c.obey-report.ensures.fault.causes quiet
