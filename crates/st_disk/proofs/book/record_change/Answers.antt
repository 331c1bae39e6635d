use Rattle.std.proofs.Common.{rules, ◌∙◌, ap, sym}
use Rattle.st_disk.specs.Folders.{folder_of}
use Rattle.st_disk.proofs.Keeping.{update_done}
use Rattle.st_disk.proofs.book.record_change.Goals as goal

pub returns-in-Ok-push-clause-updates : goal.returns-in-Ok-push-clause-updates
returns-in-Ok-push-clause-updates c =
    update_done c.args.updates.now.items c.push_update.new.updates.items c.in-Ok.update c.args.change (search rules) (λ f e. c.in-Ok.ensures f (e ∙ ap folder_of (sym c.deref.ensures.value)))
