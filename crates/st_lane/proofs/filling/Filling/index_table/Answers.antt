use Rattle.std.proofs.Common.{◌≡◌, [], ◌++◌, sym, ap, ◌∙◌, subst}
use Rattle.st_base.specs.MemoryViews.{SinkView}
use Rattle.st_index.specs.Maker.{HasRecords}
use Rattle.st_index.specs.Write.{IsIndexOf, index_text}
use Rattle.st_lane.specs.Filling.{FillingView}
use Rattle.st_lane.proofs.filling.Filling.index_table.Goals as goal

pub returns-in-Ok : goal.returns-in-Ok
returns-in-Ok c given h =
    let was : HasRecords c.self.inside.maker given = subst (λ (x : FillingView). HasRecords x.maker given) (sym c.self.view_is) h in
    let made : IsIndexOf given (index_text c.self.inside.maker) = c.in-Ok.ensures.index given was in
    let empty : c.in_ok-table.table.written ≡ [] = ap (λ (x : SinkView). x.written) c.in_ok-table.ensures in
    let text : c.write.new.sink.written ≡ index_text c.self.inside.maker = c.in-Ok.ensures.bytes ∙ ap (λ l. l ++ index_text c.self.inside.maker) empty in
    subst (IsIndexOf given) (sym text) made
