use Rattle.std.proofs.Common.{◌++◌, sym, subst}
use Rattle.st_table.specs.TableFile.{IsTable}
use Rattle.st_table.specs.TableBuilderView.{TableBuilderView, finishing}
use Rattle.st_table.specs.Builder.{Builds}
use Rattle.st_table.specs.contracts.builder.TableBuilder.{the_view}
use Rattle.st_table.proofs.Texts.{on_ok}
use Rattle.st_table.proofs.Ending.{builds_at}
use Rattle.st_table.proofs.builder.TableBuilder.finish.Goals as goal

pub returns-clause-table : goal.returns-clause-table
returns-clause-table g c =
    let k : TableBuilderView = the_view c.self.inside in
    on_ok c.put_rest.result
    (λ ends bytes rows b.
    subst (λ (q : TableBuilderView). IsTable (bytes ++ finishing q) rows) c.self.view_is
    (ends bytes rows (builds_at k bytes rows (subst (λ (q : TableBuilderView). Builds q bytes rows) (sym c.self.view_is) b))))
    c.put_rest.ensures.table
