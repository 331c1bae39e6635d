use Rattle.std.proofs.Common.{◌≡◌, ℕ, Some, refl, sym, ap, ◌∙◌, subst, arith}
use Rattle.std.specs.Prelude.{count_by, nat_eq}
use Rattle.st_base.specs.MemoryViews.{SinkView}
use Rattle.st_load.specs.declared.ends.LoadEnd.TheVariants as load
use Rattle.st_drill.specs.declared.ends.DrillEnd.TheVariants as end
use Rattle.st_drill.specs.declared.numbers.TheConstants.{LINE_FEED}
use Rattle.st_drill.specs.Packets.{input}
use Rattle.st_drill.proofs.Summed.{nothing_loaded, all_loaded, not_loaded}
use Rattle.st_drill.proofs.Unloaded.{can_end, disk_by, says_by}
use Rattle.st_drill.proofs.drilling.load_packets.Goals as goal

pub returns-in-Err-clause-job : goal.returns-in-Err-clause-job
returns-in-Err-clause-job g c log earlier h f known stands = record {
  loaded = load.NoMemory;
  packed = nothing_loaded c.args.packets c.args.spool.now.state.limit c.requires.packets
      (g.D.Shelf.log c.args.spool.now.shelf) c.args.spool.now.state earlier h f
      (g.C.Clock.to_come c.args.clock.now) c.requires.running stands;
  ends = refl;
}

pub unloaded-requires : goal.unloaded-requires
unloaded-requires g c =
    let ran = c.load_into-loaded in
    can_end c.args.packets c.requires.packets ran.result
    (ran.ensures.input (input c.args.packets) (ap Some c.new-source.ensures))
    (λ e. let rose = ran.ensures.faults.1.rose e in omega (arith, rose))

pub returns-in-None-clause-job : goal.returns-in-None-clause-job
returns-in-None-clause-job g c log earlier h f known stands =
    let ran = c.load_into-loaded in
    all_loaded c.args.packets c.args.spool.now.state.limit c.new-source.result
    c.in-Ok.lines.written ran.new.out.written c.new-source.ensures
    (ap (λ (s : SinkView). s.written) c.in-Ok.ensures)
    (g.D.Shelf.log c.args.spool.now.shelf) (g.D.Shelf.log ran.new.spool.shelf)
    c.args.spool.now.state ran.new.spool.state earlier h
    (g.C.Clock.to_come c.args.clock.now) (g.C.Clock.to_come ran.new.clock) ran.result
    (ran.ensures.job log earlier h f known stands) ran.ensures.state.1
    c.lines_in.result c.in-None.ensures
    (c.lines_in.ensures ∙ ap (count_by (nat_eq LINE_FEED)) c.bytes.ensures)

pub returns-clause-job : goal.returns-clause-job
returns-clause-job g c log earlier h f known stands =
    let ran = c.load_into-loaded in
    not_loaded c.args.packets c.args.spool.now.state.limit c.new-source.result
    c.in-Ok.lines.written ran.new.out.written c.new-source.ensures
    (ap (λ (s : SinkView). s.written) c.in-Ok.ensures)
    (g.D.Shelf.log c.args.spool.now.shelf) (g.D.Shelf.log ran.new.spool.shelf)
    c.args.spool.now.state ran.new.spool.state earlier h
    (g.C.Clock.to_come c.args.clock.now) (g.C.Clock.to_come ran.new.clock) ran.result
    (ran.ensures.job log earlier h f known stands) ran.ensures.state.1
    c.in-Some.end c.in-Some.ensures

pub returns-clause-says : goal.returns-clause-says
returns-clause-says g c =
    says_by c.load_into-loaded.result c.in-Some.end c.in-Some.ensures
    c.load_into-loaded.ensures.says

pub returns-clause-disk : goal.returns-clause-disk
returns-clause-disk g c = record {
  later = c.load_into-loaded.ensures.faults.0.later;
  rose = λ is.
      let same : c.in-Some.end ≡ end.DiskFault = cc in
      c.load_into-loaded.ensures.faults.0.rose
      (disk_by c.load_into-loaded.result c.in-Some.end c.in-Some.ensures same);
}

pub load_into-loaded-requires-clause-layout : goal.load_into-loaded-requires-clause-layout
load_into-loaded-requires-clause-layout g c = (
  record { power = 16; is = refl; least = omega arith; most = omega arith },
  omega arith,
  omega arith,
)
