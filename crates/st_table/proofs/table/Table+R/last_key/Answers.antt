use Rattle.std.proofs.Common.{sym, subst}
use Rattle.st_table.specs.Index.{Decodes}
use Rattle.st_table.proofs.Coming.{table_last}
use Rattle.st_table.proofs.table.Table+R.last_key.Goals as goal

pub returns-clause-table : goal.returns-clause-table
returns-clause-table g c = λ bytes rows n t.
    table_last bytes rows c.args.self.now.kept.entries.items c.last_of.result.now t n
    (c.last_of.ensures n.index (subst (Decodes n.index) (sym c.as_slice.ensures.value) n.decoded))
