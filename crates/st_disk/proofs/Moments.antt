-- Moments since a time, as calls go on.
use Rattle.std.proofs.Common.{◌≡◌, ◌≤◌, ◌+◌, ◌⊎◌, ℕ, List, [], ◌∷◌, ◌++◌, length, take, sym, subst, inl, inr, ⊎_elim, arith, length-append}
use Rattle.std.proofs.lemmas.List.{take_all, take-append-le}
use Rattle.st_disk.specs.declared.changes.Call.{Call}
use Rattle.st_disk.specs.Folders.{Folder}
use Rattle.st_disk.specs.Disks.{log_of, Log, Leaves, and_then, moment, Since}

with_calls : (log : Log) (calls : List Call) (f : Folder) → log.calls ≡ calls → Leaves log f → Leaves (log_of log.start_blocks log.start_indexes calls) f
with_calls log calls f same h = subst (λ (cs : List Call). Leaves (log_of log.start_blocks log.start_indexes cs) f) same h

-- now is one of the moments since
pub since_now : (log : Log) (t : ℕ) (f : Folder) → t ≤ moment log → Leaves log f → Since log t f
since_now log t f le h = (moment log, le, omega arith, with_calls log (take (length log.calls) log.calls) f (sym (take_all (length log.calls) log.calls (omega arith))) h)

-- a call more is one moment more
pub since_then : (log : Log) (call : Call) (t : ℕ) (f : Folder) → Since (and_then log call) t f → Since log t f ⊎ Leaves (and_then log call) f
since_then log call t f s =
    let longer : length (log.calls ++ call ∷ []) ≡ length log.calls + 1 = length-append log.calls (call ∷ []) in
    let cases : (s.0 ≤ length log.calls) ⊎ (length (log.calls ++ call ∷ []) ≤ s.0) = grind arith in
    ⊎_elim
    (λ (le : s.0 ≤ length log.calls). inl (s.0, s.1, le, subst (λ (cs : List Call). Leaves (log_of log.start_blocks log.start_indexes cs) f) (take-append-le s.0 log.calls (call ∷ []) le) s.3))
    (λ (ge : length (log.calls ++ call ∷ []) ≤ s.0). inr (subst (λ (cs : List Call). Leaves (log_of log.start_blocks log.start_indexes cs) f) (take_all s.0 (log.calls ++ call ∷ []) ge) s.3))
    cases

-- what might have been left before may be left since
pub since_still : (log : Log) (call : Call) (t : ℕ) (f : Folder) → Since log t f → Since (and_then log call) t f
since_still log call t f s =
    let longer : length (log.calls ++ call ∷ []) ≡ length log.calls + 1 = length-append log.calls (call ∷ []) in
    let le : s.0 ≤ length log.calls = s.2 in
    (s.0, s.1, omega arith, subst (λ (cs : List Call). Leaves (log_of log.start_blocks log.start_indexes cs) f) (sym (take-append-le s.0 log.calls (call ∷ []) le)) s.3)
