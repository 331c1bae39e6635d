-- What one call more does to the events of a log.
use Rattle.std.proofs.Common.{◌≡◌, List, [], ◌∷◌, ◌++◌, refl, sym, ◌∙◌, ap, append_assoc}
use Rattle.std.proofs.lemmas.List.{append-nil}
use Rattle.st_disk.specs.declared.naming.Kind.TheVariants as kind
use Rattle.st_disk.specs.declared.changes.Call.{Call}
use Rattle.st_disk.specs.declared.changes.Call.TheVariants.{Did, Flush, Other}
use Rattle.st_disk.specs.Folders.{Folder, join, change_kind, folder_of}
use Rattle.st_disk.specs.Disks.{Log, Side, step, after, side, flushed_side, read_of, reads, and_then}
use Rattle.st_disk.specs.Events.{Event, call_events, read_after, events_from, events}
use Rattle.st_disk.proofs.Joins.{apply_join}
use Rattle.st_disk.proofs.Images.{read_did}

-- what is read after these calls
abbrev read_all : Folder → List Call → Folder
read_all f [] = f
read_all f (c ∷ cs) = read_all (read_after f c) cs

reads_step : (x y : Side) (c : Call) → join (read_of (step kind.Block x c)) (read_of (step kind.Index y c)) ≡ read_after (join (read_of x) (read_of y)) c
reads_step x y (Did c) = read_did (change_kind c) c x y (apply_join c)
reads_step x y (Flush kind.Block) = refl
reads_step x y (Flush kind.Index) = refl
reads_step x y Other = refl

reads_after : (x y : Side) (cs : List Call) → join (read_of (after kind.Block x cs)) (read_of (after kind.Index y cs)) ≡ read_all (join (read_of x) (read_of y)) cs
reads_after x y [] = refl
reads_after x y (c ∷ cs) = reads_after (step kind.Block x c) (step kind.Index y c) cs ∙ ap (λ (f : Folder). read_all f cs) (reads_step x y c)

events_snoc : (f : Folder) (cs : List Call) (c : Call) → events_from f (cs ++ c ∷ []) ≡ events_from f cs ++ call_events (read_all f cs) c
events_snoc f [] c = append-nil (call_events f c)
events_snoc f (b ∷ bs) c =
    ap (λ (es : List Event). call_events f b ++ es) (events_snoc (read_after f b) bs c) ∙ sym (append_assoc (call_events f b) (events_from (read_after f b) bs) (call_events (read_all (read_after f b) bs) c))

reads_all : (log : Log) → reads log ≡ read_all (join (folder_of log.start_blocks) (folder_of log.start_indexes)) log.calls
unfolding reads side
reads_all log = reads_after (flushed_side (folder_of log.start_blocks)) (flushed_side (folder_of log.start_indexes)) log.calls

-- one call more does to the pairs what it does to those that are read
pub events_then : (log : Log) (call : Call) → events (and_then log call) ≡ events log ++ call_events (reads log) call
unfolding events
events_then log call =
    let start = join (folder_of log.start_blocks) (folder_of log.start_indexes) in
    events_snoc start log.calls call ∙ ap (λ (f : Folder). events_from start log.calls ++ call_events f call) (sym (reads_all log))
