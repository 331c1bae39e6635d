use Rattle.std.proofs.Common.{◌∙◌, ap, sym}
use Rattle.st_disk.specs.Folders.{folder_of}
use Rattle.st_disk.proofs.Keeping.{update_done_ok}
use Rattle.st_disk.proofs.crashes.make.Goals as goal

pub returns-in-Ok : goal.returns-in-Ok
returns-in-Ok c =
    update_done_ok c.push_update.result c.args.updates.now.items c.push_update.new.updates.items c.in-Ok.update c.args.change.now c.push_update.ensures (λ f e. c.in-Ok.ensures f (e ∙ ap folder_of (sym c.deref.ensures.value)))
