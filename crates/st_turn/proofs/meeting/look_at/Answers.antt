use Rattle.std.proofs.Common.{rules, ◌∙◌, ap}
use Rattle.st_turn.specs.Passes.{PassView}
use Rattle.st_turn.proofs.Stepping.{may_look}
use Rattle.st_turn.proofs.meeting.look_at.Goals as goal

pub load-requires : goal.load-requires
load-requires g c =
    let place = c.pass.inside.place in (
      ap (λ (v : PassView g.row.S.Denot). v.table) c.pass.view_is ∙ c.requires.0,
      search rules,
      may_look g.S.Turned.facts g.S.Turned.keeps c.args.desk.now.key.value c.args.desk.now.table_id.slots place.id place.me c.pass.invariant.0,
    )
