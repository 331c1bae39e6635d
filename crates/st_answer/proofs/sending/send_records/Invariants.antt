use Rattle.std.proofs.Common.{◌≡◌, ◌≤◌, ◌+◌, ℕ, List, map, take}
use Rattle.std.specs.Prelude.{All}
use Rattle.std.specs.List.{sum_by}
use Rattle.st_base.specs.Outlets.{SentAll}
use Rattle.st_disk.specs.Pairs.{Entry}
use Rattle.st_query.specs.declared.nodes.Node.{Node}
use Rattle.st_answer.specs.declared.picked.Picked.{Picked}
use Rattle.st_answer.specs.Packets.{IsWholePair}
use Rattle.st_answer.specs.Picks.{picked_records}
use Rattle.st_answer.specs.Sending.{ArePickedOf, body_pieces}
use Rattle.st_answer.proofs.sending.send_records.Given as goal

abbrev pub invariant-records : goal.invariant-records
invariant-records g l = record {
  sends : (q : Node) (now : ℕ) (set : List Entry) → ArePickedOf q now set (map g.F.Reader.content l.fn.files) l.picked → All IsWholePair set
      → SentAll g.O.Outlet.after (g.O.Outlet.state l.fn.outlet) (g.O.Outlet.state l.outlet) (body_pieces l.unit (take l.pick-index (picked_records set l.picked)));
  faults : g.O.Outlet.faults l.outlet ≡ g.O.Outlet.faults l.fn.outlet;
  content : map g.F.Reader.content l.files ≡ map g.F.Reader.content l.fn.files;
  same : map g.F.Reader.beside l.files ≡ map g.F.Reader.beside l.fn.files;
  rest : g.O.Outlet.beside l.outlet ≡ g.O.Outlet.beside l.fn.outlet;
  reads : sum_by g.F.Reader.reads l.files ≤ sum_by g.F.Reader.reads l.fn.files + l.pick-index;
  asked : sum_by g.F.Reader.asked l.files ≤ sum_by g.F.Reader.asked l.fn.files + sum_by (λ (p : Picked). p.len) (take l.pick-index l.picked);
}
