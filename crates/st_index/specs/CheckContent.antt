-- What `content` remembers of what is wrong with the rows of an index that were read so far.
use Rattle.std.specs.Prelude.{◌≡◌, List, is_some, option_map}
use Rattle.st_base.specs.Damages.{damage_view}
use Rattle.st_tblock.specs.Block.{RowView}
use Rattle.st_index.specs.CheckRows.{summary_in, summary_wrong, values_wrong}
use Rattle.st_index.specs.declared.checker.content.Content.{Content}

-- it remembers what is wrong with these rows: whether the summary row was among them, the first
-- check of it that fails, and the first check of the others' positions that fails
pub record Remembers (c : Content) (rows : List RowView) : Type 0 where
  pub has : c.has_summary ≡ is_some (summary_in rows)
  pub summary : option_map damage_view c.summary ≡ summary_wrong (summary_in rows)
  pub values : option_map damage_view c.values ≡ values_wrong rows
