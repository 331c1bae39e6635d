use Rattle.std.proofs.Common.{◌≡◌, Option, None, Ok, Err, refl, sym, subst, arith, ◌≤◌, ◌<◌}
use Rattle.st_block.specs.ScanView.{ScanView}
use Rattle.st_block.specs.Scan.{PositionedRecord, HasGiven}
use Rattle.st_block.specs.declared.errors.BlockErr.TheVariants as block_err
use Rattle.st_block.proofs.Counted.{reads_none, passes_done, reads_given, reads_failed}
use Rattle.st_block.proofs.Giving.{passes_gives, ended_gives, loads_stands, loads_gives, loads_some, follows_on}
use Rattle.st_block.proofs.scan.state.ScanState.next_in.Goals as goal

pub returns-then-self-ne0-clause-gives : goal.returns-then-self-ne0-clause-gives
returns-then-self-ne0-clause-gives g c = λ bytes given known stands.
    let none = subst (λ (p : ScanView). p.stopped ≡ None) c.self.view_is c.in_default.is in
    let inside : 1 ≤ c.self.inside.left = let l = c.if-self-ne0.true in omega arith in
    let left = subst (λ (p : ScanView). 1 ≤ p.left) c.self.view_is inside in
    passes_gives c.args.self.now c.give.new.self bytes given c.give.result none stands left c.give.ensures.passes

pub returns-then-self-clause-gives : goal.returns-then-self-clause-gives
returns-then-self-clause-gives g c = λ bytes given known stands.
    let inside = subst (λ (p : ScanView). HasGiven p bytes given) (sym c.self.view_is) stands in
    (ended_gives _ bytes given c.in_default.is inside c.if-self-ne0.false c.if-self.true, stands)

pub returns-in-Ok-clause-gives : goal.returns-in-Ok-clause-gives
returns-in-Ok-clause-gives g c = λ bytes given known stands.
    let none = subst (λ (p : ScanView). p.stopped ≡ None) c.self.view_is c.in_default.is in
    let left = subst (λ (p : ScanView). p.left ≡ 0) c.self.view_is c.if-self-ne0.false in
    let inside : c.self.inside.done < c.self.inside.blocks =
    let d = c.self.invariant.done in let n = c.if-self.false in omega arith in
    let more = subst (λ (p : ScanView). p.done < p.blocks) c.self.view_is inside in
    let loads = c.in-Ok.ensures.loads in
    let some = loads_some c.args.self.now c.load.new.self _ none loads in
    let in_next_block = loads_stands c.args.self.now c.load.new.self _ bytes given known none stands left more loads in
    passes_gives c.load.new.self c.give-in-Ok.new.self bytes given c.give-in-Ok.result some.0 in_next_block some.1 c.give-in-Ok.ensures.passes

pub returns-in-Ok-clause-follows : goal.returns-in-Ok-clause-follows
returns-in-Ok-clause-follows g c =
    follows_on c.args.self.now c.load.new.self c.give-in-Ok.new.self c.give-in-Ok.result c.in-Ok.ensures.on c.give-in-Ok.ensures.follows

pub returns-in-Err-clause-gives : goal.returns-in-Err-clause-gives
returns-in-Err-clause-gives g c = λ bytes given known stands.
    let none = subst (λ (p : ScanView). p.stopped ≡ None) c.self.view_is c.in_default.is in
    let left = subst (λ (p : ScanView). p.left ≡ 0) c.self.view_is c.if-self-ne0.false in
    let inside : c.self.inside.done < c.self.inside.blocks =
    let d = c.self.invariant.done in let n = c.if-self.false in omega arith in
    let more = subst (λ (p : ScanView). p.done < p.blocks) c.self.view_is inside in
    loads_gives c.args.self.now c.load.new.self _ bytes given c.in-Err.error known none stands left more c.in-Err.ensures.loads

pub returns-in-Some-clause-reads : goal.returns-in-Some-clause-reads
returns-in-Some-clause-reads g c =
    reads_none {T = Option PositionedRecord} c.args.self.now c.args.self.now (Err (block_err.Damaged c.in-Some.damage)) _ _ tt

pub returns-then-self-ne0-clause-reads : goal.returns-then-self-ne0-clause-reads
returns-then-self-ne0-clause-reads g c =
    reads_none c.args.self.now c.give.new.self c.give.result _ _ (passes_done c.args.self.now c.give.new.self c.give.result c.give.ensures.passes)

pub returns-then-self-clause-reads : goal.returns-then-self-clause-reads
returns-then-self-clause-reads g c =
    reads_none {T = Option PositionedRecord} c.args.self.now c.args.self.now (Ok None) _ _ refl

pub returns-in-Ok-clause-reads : goal.returns-in-Ok-clause-reads
returns-in-Ok-clause-reads g c =
    let left = subst (λ (p : ScanView). p.left ≡ 0) c.self.view_is c.if-self-ne0.false in
    let inside : c.self.inside.done < c.self.inside.blocks =
    let d = c.self.invariant.done in let n = c.if-self.false in omega arith in
    let more = subst (λ (p : ScanView). p.done < p.blocks) c.self.view_is inside in
    let loads = c.in-Ok.ensures in
    reads_given c.args.self.now c.load.new.self c.give-in-Ok.new.self _ c.give-in-Ok.result _ _ _ _ left more loads.loads c.give-in-Ok.ensures.passes loads.asked.0 loads.asked.1

pub returns-in-Err-clause-reads : goal.returns-in-Err-clause-reads
returns-in-Err-clause-reads g c =
    let left = subst (λ (p : ScanView). p.left ≡ 0) c.self.view_is c.if-self-ne0.false in
    let inside : c.self.inside.done < c.self.inside.blocks =
    let d = c.self.invariant.done in let n = c.if-self.false in omega arith in
    let more = subst (λ (p : ScanView). p.done < p.blocks) c.self.view_is inside in
    let loads = c.in-Err.ensures in
    reads_failed {T = Option PositionedRecord} c.args.self.now c.load.new.self c.in-Err.error _ _ _ _ left more loads.asked.0 loads.asked.1
