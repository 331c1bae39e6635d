use Rattle.std.proofs.Common.{◌++◌, Ok, Bool, refl, sym, ap, ◌∙◌, subst, arith}
use Rattle.st_spool.specs.Aging.{AgesTo}
use Rattle.st_spool.specs.States.{SpoolState, SpoolView}
use Rattle.st_load.specs.Publishing.{AgesAll}
use Rattle.st_load.proofs.Ageing.{aged_none, aged_all, aged_at, fails_at, pairs_counted, over_limit}
use Rattle.st_load.proofs.publishing.age_all.Goals as goal

pub pairs-init : goal.pairs-init
pairs-init g c = record {
  aged = λ earlier h f stands. aged_none (g.D.Shelf.log c.args.spool.now.shelf) c.args.spool.now.state earlier h f stands c.requires;
  runs = c.requires;
  state = (refl, refl);
  last = refl;
  later = omega arith;
  id = refl;
  loans = refl;
}

pub pairs-preserved : goal.pairs-preserved
pairs-preserved g c =
    let may = over_limit c.pairs.spool.state (Ok c.in-Ok-true.field-0) c.pairs.invariant.runs (c.in-Ok-true.ensures.small c.pairs.invariant.runs) (ap Ok c.in-Ok-true.field-0-test) in
    let is = subst (λ (b : Bool). AgesTo c.pairs.spool.state c.age.new.self.state (g.D.Shelf.faults c.age.new.self.shelf) (Ok b)) c.in-Ok-true.field-0-test (c.in-Ok-true.ensures.state may) in
    record {
      aged = λ earlier h f stands.
          let a = c.pairs.invariant.aged earlier h f stands in
          aged_at (g.D.Shelf.log c.args.spool.now.shelf) (g.D.Shelf.log c.pairs.spool.shelf) (g.D.Shelf.log c.age.new.self.shelf) c.pairs.spool.state c.age.new.self.state earlier h f c.in-Ok-true.field-0 a may.1
          (ap (λ (s : SpoolState). s.limit) is) c.in-Ok-true.field-0-test
          (λ e after set. c.in-Ok-true.ensures.aged earlier (h ++ a.events) f e after may a.stands set);
      runs = ap (λ (s : SpoolState). s.halted) is ∙ c.pairs.invariant.runs;
      state = (ap (λ (s : SpoolState). s.limit) is ∙ c.pairs.invariant.state.0, c.age.ensures.rest.3 ∙ c.pairs.invariant.state.1);
      last = ap (λ (s : SpoolState). s.last) is ∙ c.pairs.invariant.last;
      later = omega (arith, c.in-Ok-true.ensures.cause.0, c.pairs.invariant.later);
      id = c.age.ensures.rest.0 ∙ c.pairs.invariant.id;
      loans = c.age.ensures.rest.1 ∙ c.pairs.invariant.loans;
    }

pub returns-in-Ok-false-clause-ages : goal.returns-in-Ok-false-clause-ages
returns-in-Ok-false-clause-ages g c = λ earlier h f stands.
    let a = c.pairs.invariant.aged earlier h f stands in
    let few = (c.in-Ok-false.ensures.small c.pairs.invariant.runs).0 (ap Ok c.in-Ok-false.field-0-test) in
    let same = c.in-Ok-false.ensures.same (ap Ok c.in-Ok-false.field-0-test) in
    let count = pairs_counted (g.D.Shelf.log c.pairs.spool.shelf) c.pairs.spool.state earlier (h ++ a.events) f a.stands in
    subst (λ (v : SpoolView g.row.D.Denot). AgesAll (g.D.Shelf.log c.args.spool.now.shelf) (g.D.Shelf.log v.shelf) v.state earlier h f) (sym same)
    (aged_all (g.D.Shelf.log c.args.spool.now.shelf) (g.D.Shelf.log c.pairs.spool.shelf) c.pairs.spool.state earlier h f a (omega (arith, few, count)))

pub returns-in-Err-clause-ages : goal.returns-in-Err-clause-ages
returns-in-Err-clause-ages g c = λ earlier h f stands.
    let a = c.pairs.invariant.aged earlier h f stands in
    fails_at (g.D.Shelf.log c.args.spool.now.shelf) (g.D.Shelf.log c.pairs.spool.shelf) (g.D.Shelf.log c.age.new.self.shelf) c.pairs.spool c.age.new.self (g.D.Shelf.faults c.age.new.self.shelf) earlier h f c.in-Err.field-0 a
    c.pairs.invariant.runs c.in-Err.ensures.refused c.in-Err.ensures.state (λ may e after set. c.in-Err.ensures.aged earlier (h ++ a.events) f e after may a.stands set)
