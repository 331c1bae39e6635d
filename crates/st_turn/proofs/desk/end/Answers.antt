use Rattle.std.proofs.Common.{◌≡◌, set, Bool, List, ◌∙◌, ap₂}
use Rattle.st_turn.specs.declared.book.Line.{Line}
use Rattle.st_turn.specs.Parts.{line_of}
use Rattle.st_turn.specs.Steps.{has_risen}
use Rattle.st_turn.specs.Calls.{line_after}
use Rattle.st_turn.proofs.Taken.{moves_by}
use Rattle.st_turn.proofs.desk.end.Goals as goal

pub give-requires-clause-turn : goal.give-requires-clause-turn
give-requires-clause-turn g c =
    let t = c.requires.turn in
    let x = t.0 in
    let n = c.args.number in
    let w = c.args.home.0 in
    let p = c.args.place.now.me.0.pass in
    let risen : c.rose-has_risen.result ≡ has_risen (g.S.Turned.facts x.spool).faults (g.S.Turned.facts w).faults =
    c.rose-has_risen.ensures ∙ ap₂ has_risen t.5 c.fault_count.ensures in
    let lines : c.count.new.lines.items ≡ set x.lines n (line_after (line_of x.lines n) (has_risen (g.S.Turned.facts x.spool).faults (g.S.Turned.facts w).faults) c.args.stopped) =
    c.count.ensures ∙ ap₂ (λ (ls : List Line) (b : Bool). set ls n (line_after (line_of ls n) b c.args.stopped)) t.4 risen in
    let both = moves_by g.S.Turned.facts g.S.Turned.keeps x w p t.1 c.args.stopped n c.count.new.lines.items t.3 t.6 c.requires.number lines in
    (x, _, t.2, both.0, both.1)

pub returns-clause-turn : goal.returns-clause-turn
returns-clause-turn g c x taken = (c.give.ensures.moves x taken).1
