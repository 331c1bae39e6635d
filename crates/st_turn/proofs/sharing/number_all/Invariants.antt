use Rattle.std.proofs.Common.{◌≡◌, ◌≤◌, vec_len, vec_capacity}
use Rattle.st_turn.specs.Parts.{Each}
use Rattle.st_turn.specs.Passes.{AreStarted, HasNoLoans}
use Rattle.st_turn.proofs.sharing.number_all.Given as goal

abbrev pub invariant-loop-number : goal.invariant-loop-number
invariant-loop-number g l =
    (vec_len l.given ≡ l.number) × (l.passes ≤ vec_capacity l.given)
    × AreStarted l.desk.table_id l.desk.key.value.spool (g.S.Turned.facts l.desk.key.value.spool) l.passes l.number l.given.items
    × Each HasNoLoans l.given.items
