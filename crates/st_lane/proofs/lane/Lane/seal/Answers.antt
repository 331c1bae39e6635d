use Rattle.std.proofs.Common.{◌≡◌, ℕ, List, ◌≤◌, sym, subst}
use Rattle.std.specs.Io.KnownBytes.{Appends}
use Rattle.st_lane.specs.Lane.{LaneView, Represents}
use Rattle.st_lane.specs.Sealing.{AreWhole}
use Rattle.st_lane.proofs.Wholes.{whole_pair}
use Rattle.st_lane.proofs.lane.Lane.seal.Goals as goal

pub returns-in-Ok-seal_both-clause-pair : goal.returns-in-Ok-seal_both-clause-pair
returns-in-Ok-seal_both-clause-pair g c rs h =
    let L : Type 0 = LaneView g.row.T.Denot in
    let old : L = record { block = c.self.inside.block; index = c.self.inside.index; filling = c.self.inside.filling; broken = c.self.inside.broken } in
    let was : Represents g.T.Sink.written old rs = subst (λ (x : L). Represents g.T.Sink.written x rs) (sym c.self.view_is) h in
    let some : 1 ≤ old.filling.records = subst (λ (x : L). 1 ≤ x.filling.records) (sym c.self.view_is) c.requires.some in
    let table : c.bytes.result.now ≡ c.in-Ok.table.written = c.bytes.ensures in
    subst (λ (x : L). AreWhole x.filling.size rs (g.T.Draft.sealed_bytes c.in-Ok-seal_both.pair.block) (g.T.Draft.sealed_bytes c.in-Ok-seal_both.pair.index)) c.self.view_is
    (whole_pair g.T.Sink.written old rs (g.T.Sink.written c.put_pair.new.block) (g.T.Sink.written c.put_pair.new.index) _ _ c.in-Ok.table.written was some
    (c.in_default.ensures.block rs was.fills)
    (subst (λ (l : List ℕ). Appends (g.T.Sink.written old.index) (g.T.Sink.written c.put_pair.new.index) l) table c.in_default.ensures.index)
    c.in-Ok.ensures
    c.in-Ok-seal_both.ensures.bytes.0 c.in-Ok-seal_both.ensures.bytes.1)
