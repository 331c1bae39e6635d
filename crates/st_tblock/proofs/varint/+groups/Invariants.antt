use Rattle.st_tblock.proofs.varint.+groups.Given as goal

abbrev pub decreases-groups : goal.decreases-groups
decreases-groups l = l.room
