use Rattle.std.proofs.Common.{◌≡◌, ◌&&◌, ◌||◌, ◌≤◌, ℕ, List}
use Rattle.st_base.specs.PlacedReads.{IsSameFile}
use Rattle.st_tblock.specs.Block.{RowView}
use Rattle.st_query.specs.declared.nodes.Node.{size-Node}
use Rattle.st_query.specs.Trees.{tree}
use Rattle.st_rows.specs.Positions.{has}
use Rattle.st_eval.specs.Selection.{IsEntered, IsOver}
use Rattle.st_eval.specs.Selecting.{selects}
use Rattle.st_eval.proofs.evaluate.+evaluation.Given as goal

abbrev pub invariant-gather-parts : goal.invariant-gather-parts
invariant-gather-parts g l =
    (size-Node l.rest ≤ size-Node l.fn.node)
    × (l.table.kept.entries ≡ l.fn.table.kept.entries)
    × (l.table.file.ghost_name ≡ l.fn.table.file.ghost_name)
    × (g.R.Reader.faults l.table.file.now ≡ g.R.Reader.faults l.fn.table.file.now)
    × IsSameFile (g.R.Reader.content l.fn.table.file.now) (g.R.Reader.content l.table.file.now) (g.R.Reader.extent l.fn.table.file.now) (g.R.Reader.extent l.table.file.now) (g.R.Reader.beside l.fn.table.file.now) (g.R.Reader.beside l.table.file.now)
    × ((bytes : List ℕ) (index : List RowView)
    → IsEntered (g.R.Reader.content l.fn.table.file.now) l.fn.table.kept.entries.items l.fn.table.kept.checked.items bytes index
    → IsEntered (g.R.Reader.content l.table.file.now) l.table.kept.entries.items l.table.kept.checked.items bytes index)
    × ((rows : List RowView) → IsOver (g.R.Reader.content l.fn.table.file.now) l.fn.table.kept.entries.items l.fn.table.kept.checked.items rows
    → (p : ℕ) → (has l.all.items p || selects rows (tree l.rest) l.now p) ≡ (has l.fn.all.items p || selects rows (tree l.fn.node) l.now p))

abbrev pub invariant-gather_common-parts : goal.invariant-gather_common-parts
invariant-gather_common-parts g l =
    (size-Node l.rest ≤ size-Node l.fn.node)
    × (l.table.kept.entries ≡ l.fn.table.kept.entries)
    × (l.table.file.ghost_name ≡ l.fn.table.file.ghost_name)
    × (g.R.Reader.faults l.table.file.now ≡ g.R.Reader.faults l.fn.table.file.now)
    × IsSameFile (g.R.Reader.content l.fn.table.file.now) (g.R.Reader.content l.table.file.now) (g.R.Reader.extent l.fn.table.file.now) (g.R.Reader.extent l.table.file.now) (g.R.Reader.beside l.fn.table.file.now) (g.R.Reader.beside l.table.file.now)
    × ((bytes : List ℕ) (index : List RowView)
    → IsEntered (g.R.Reader.content l.fn.table.file.now) l.fn.table.kept.entries.items l.fn.table.kept.checked.items bytes index
    → IsEntered (g.R.Reader.content l.table.file.now) l.table.kept.entries.items l.table.kept.checked.items bytes index)
    × ((rows : List RowView) → IsOver (g.R.Reader.content l.fn.table.file.now) l.fn.table.kept.entries.items l.fn.table.kept.checked.items rows
    → (p : ℕ) → (has l.all.items p || (has l.keep p && selects rows (tree l.rest) l.now p)) ≡ (has l.fn.all.items p || (has l.fn.keep p && selects rows (tree l.fn.node) l.now p)))

abbrev pub decreases-gather_common-parts : goal.decreases-gather_common-parts
decreases-gather_common-parts g l = size-Node l.rest
