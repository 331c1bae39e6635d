use Rattle.std.proofs.Common.{◌+◌, ◌∙◌, ap, refl}
use Rattle.st_table.specs.TableFile.{footer_at}
use Rattle.st_table.specs.Cursor.{CursorView}
use Rattle.st_table.proofs.Stepping.{next_same, refuses_same}
use Rattle.st_table.proofs.cursor.Cursor.fill.Goals as goal

pub returns-in-Ok-clause-fills : goal.returns-in-Ok-clause-fills
returns-in-Ok-clause-fills g c = λ bytes index known d.
    let next = ap (λ (q : CursorView). q.next) c.self.view_is in
    let low = ap (λ (q : CursorView). q.low) c.self.view_is in
    let high = ap (λ (q : CursorView). q.high) c.self.view_is in (
      next_same (footer_at bytes) bytes index c.self.inside.next c.args.self.now.next c.bytes-low.result.now c.args.self.now.low c.bytes-high.result.now c.args.self.now.high c.in-Ok.rows.items next (c.bytes-low.ensures ∙ low) (c.bytes-high.ensures ∙ high) (c.in-Ok.ensures.rows bytes index known d),
      low,
      high,
      ap (λ n. n + 1) next,
    )

pub returns-in-Err-clause-fills : goal.returns-in-Err-clause-fills
returns-in-Err-clause-fills g c = λ bytes index known d.
    (refuses_same (footer_at bytes) bytes index c.self.inside.next c.args.self.now.next c.in-Err.error (ap (λ (q : CursorView). q.next) c.self.view_is) (c.in-Err.ensures.rows bytes index known d), refl)
