use Rattle.std.proofs.Common.{◌≡◌, set, ap, ap₂, ◌∙◌, ℕ}
use Rattle.st_turn.specs.declared.book.Line.{Line}
use Rattle.st_turn.specs.Parts.{line_of}
use Rattle.st_turn.specs.Calls.{line_after}
use Rattle.st_turn.proofs.Taken.{line_read}
use Rattle.st_turn.proofs.desk.count.Goals as goal

pub returns : goal.returns
returns c =
    let items = c.args.lines.now.items in
    let line = c.index-line.result.now in
    let read : line ≡ line_of items c.args.number = c.index-line.ensures ∙ line_read items c.args.number line c.requires in
    ap (λ (l : Line). set items c.args.number l)
    (ap₂ (λ (a b : ℕ). let l : Line = record { failed = a; stops = b } in l) c.one_more-failed.ensures c.one_more-stops.ensures ∙ ap (λ (l : Line). line_after l c.args.rose c.args.stopped) read)
