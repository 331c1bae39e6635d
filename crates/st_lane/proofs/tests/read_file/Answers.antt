use Rattle.std.proofs.Common.{◌≡◌, ℕ, Option, Some, None, [], refl, sym, ap, ◌∙◌}
use Rattle.st_disk.specs.declared.naming.Kind.{Kind}
use Rattle.st_disk.specs.declared.naming.Kind.TheVariants as kind
use Rattle.st_disk.specs.declared.naming.Name.{Name}
use Rattle.st_disk.specs.Names.{published}
use Rattle.st_disk.specs.Disks as disks
use Rattle.st_disk.specs.Folders as folders
use Rattle.st_disk.specs.Disks.{Log, reads, log_of}
use Rattle.st_lane.proofs.tests.read_file.Goals as goal

-- nothing is read of a shelf without calls
nothing : (k : Kind) (s : ℕ) → reads (log_of [] [] []) (published k s) ≡ None
unfolding disks.reads disks.side folders.folder_of
nothing kind.Block s = refl
nothing kind.Index s = refl

one_log : (a b : Log) → ◌≡◌ {A = Option Log} (Some a) (Some b) → a ≡ b
one_log a b e = cc

pub settle-requires-clause-free : goal.settle-requires-clause-free
settle-requires-clause-free c log e =
    let start : c.empty-shelf.result.book ≡ log_of [] [] [] = one_log c.empty-shelf.result.book (log_of [] [] []) c.empty-shelf.ensures.log in
    let free = c.in_ok-lane.ensures.free c.args.kind 1 refl (λ l same. ap (λ (x : Log). reads x (published c.args.kind 1)) (sym (one_log c.empty-shelf.result.book l same) ∙ start) ∙ nothing c.args.kind 1) in
    ap (λ (n : Name). reads log n) c.published_name-name.ensures ∙ free log e
