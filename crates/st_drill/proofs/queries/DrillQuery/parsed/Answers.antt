use Rattle.std.proofs.Common.{◌∙◌}
use Rattle.st_drill.proofs.Spelled.{reads_tree, reads_memory}
use Rattle.st_drill.proofs.queries.DrillQuery.parsed.Goals as goal

pub returns : goal.returns
returns c =
    let text = c.as_bytes.ensures.value ∙ c.text.ensures in
    record {
      tree = reads_tree _ c.args.self c.parse.result text c.parse.ensures.spells;
      memory = reads_memory _ c.args.self c.parse.result text c.parse.ensures.refuses;
    }
