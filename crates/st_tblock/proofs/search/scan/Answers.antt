use Rattle.std.proofs.Common.{sym, arith}
use Rattle.st_tblock.specs.Cursor.{entry_of}
use Rattle.st_tblock.proofs.Passing.{pass_on, answers_here, answers_over, answers_none}
use Rattle.st_tblock.proofs.search.scan.Goals as goal

pub returns-in-Equal : goal.returns-in-Equal
returns-in-Equal c =
    answers_here 4294967295 c.args.text.now c.args.key.now c.entries.rest.now c.entries.matched (entry_of c.in-Some.parts, c.in-Some.more.now) c.against-order.result (omega arith) c.entries.invariant.passes (sym c.in-Some.ensures.value) c.against-order.ensures.compares c.in-Equal.is

pub returns-in-Greater : goal.returns-in-Greater
returns-in-Greater c =
    answers_over 4294967295 c.args.text.now c.args.key.now c.entries.rest.now c.entries.matched (entry_of c.in-Some.parts, c.in-Some.more.now) c.against-order.result (omega arith) c.entries.invariant.passes (sym c.in-Some.ensures.value) c.against-order.ensures.compares c.in-Greater.is

pub returns-in_default : goal.returns-in_default
returns-in_default c =
    answers_none 4294967295 c.args.text.now c.args.key.now c.entries.rest.now c.entries.matched (omega arith) c.entries.invariant.passes (sym c.in_default.ensures.value)

pub entries-preserved : goal.entries-preserved
entries-preserved c =
    record {
      within = c.against-order.ensures.within;
      passes = pass_on 4294967295 c.args.text.now c.args.key.now c.entries.rest.now c.entries.matched (entry_of c.in-Some.parts, c.in-Some.more.now) c.against-order.result (omega arith) c.entries.invariant.passes (sym c.in-Some.ensures.value) c.against-order.ensures.compares c.in-Less.is;
    }
