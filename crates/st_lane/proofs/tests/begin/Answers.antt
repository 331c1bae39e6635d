use Rattle.std.proofs.Common.{◌≡◌, ℕ, Option, Some, None, refl, sym, ap, ◌∙◌, arith}
use Rattle.st_disk.specs.declared.naming.Kind.{Kind}
use Rattle.st_disk.specs.declared.naming.Kind.TheVariants as kind
use Rattle.st_disk.specs.declared.changes.Change.TheVariants as change
use Rattle.st_disk.specs.declared.changes.Call.TheVariants as call
use Rattle.st_disk.specs.Names.{published}
use Rattle.st_disk.specs.Folders.{Folder, apply}
use Rattle.st_disk.specs.Disks.{Log, reads, and_then}
use Rattle.st_disk.proofs.Images.{reads_did}
use Rattle.st_lane.proofs.tests.begin.Goals as goal

pub new-requires-clause-size : goal.new-requires-clause-size
new-requires-clause-size c = record { power = 12; is = refl; least = omega arith; most = omega arith }

-- a draft that is made has no name under which files are settled
elsewhere : (f : Folder) (j k : Kind) (d s : ℕ) → apply (change.Make j d) f (published k s) ≡ f (published k s)
elsewhere f j kind.Block d s = refl
elsewhere f j kind.Index d s = refl

one_log : (a b : Log) → ◌≡◌ {A = Option Log} (Some a) (Some b) → a ≡ b
one_log a b e = cc

still_free : (j k : Kind) (d s : ℕ) (old new : Log) → ◌≡◌ {A = Option Log} (Some new) (Some (and_then old (call.Did (change.Make j d)))) → reads old (published k s) ≡ None → reads new (published k s) ≡ None
still_free j k d s old new e free =
    ap (λ (l : Log). reads l (published k s)) (one_log new (and_then old (call.Did (change.Make j d))) e)
    ∙ (ap (λ (f : Folder). f (published k s)) (reads_did old (change.Make j d)) ∙ (elsewhere (reads old) j k d s ∙ free))

pub returns-in-Ok-new-clause-free : goal.returns-in-Ok-new-clause-free
returns-in-Ok-new-clause-free c k s some free log e =
    let first = still_free kind.Block k c.in-Ok.block.number s c.args.shelf.now.book c.create.new.self.book c.in-Ok.ensures.log (free c.args.shelf.now.book refl) in
    let second = still_free kind.Index k c.in-Ok-create.index.number s c.create.new.self.book c.create-2.new.self.book c.in-Ok-create.ensures.log first in
    ap (λ (l : Log). reads l (published k s)) (sym (one_log c.create-2.new.self.book log e)) ∙ second
