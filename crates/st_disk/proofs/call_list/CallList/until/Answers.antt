use Rattle.std.proofs.Common.{◌≡◌, ◌∙◌, ap, List, length, take, min, rules}
use Rattle.st_disk.specs.declared.changes.Call.{Call}
use Rattle.st_disk.specs.Disks.{after}
use Rattle.st_disk.proofs.Idle.{until_written}
use Rattle.st_disk.proofs.call_list.CallList.until.Goals as goal

pub returns : goal.returns
returns c k s =
    let a = c.self.inside in
    let until : c.split_at.result.0.now ≡ take (min (length a.written.items) c.args.moment) a.written.items = search rules in
    ap (λ (cs : List Call). after k s cs) until ∙ until_written k s a.written.items a.idle c.args.moment ∙ ap (λ (cs : List Call). after k s (take c.args.moment cs)) c.self.view_is
