-- One history, as calls go on.
use Rattle.std.proofs.Common.{◌≡◌, ◌+◌, ℕ, zero, suc, List, [], ◌∷◌, ◌++◌, take, drop, Option, None, Some, refl, sym, ◌∙◌, ap, arith}
use Rattle.std.specs.Prelude.{option_map}
use Rattle.st_disk.specs.Disks.{Log, reads}
use Rattle.st_disk.specs.Events.{Event, Found, Publish, Remove, events}
use Rattle.st_disk.specs.LoggedCalls.{KnownBefore}
use Rattle.st_disk.specs.Pairs.{Files}
use Rattle.st_spool.specs.States.{SpoolState}
use Rattle.st_spool.specs.Recalling.{history, event_count, earlier_count, log_before, entries_in}
use Rattle.st_spool.specs.Standing.{StandsFor}
use Rattle.st_spool.specs.Histories.{TakesAll, OneHistory, HistoryStays, FailedStays, PublishedGoesOn, RemovedGoesOn}

take_again : (n : ℕ) (xs : List Event) → take n (take n xs) ≡ take n xs
take_again zero [] = refl
take_again zero (x ∷ xs) = refl
take_again (suc n) [] = refl
take_again (suc n) (x ∷ xs) = ap (λ (ys : List Event). x ∷ ys) (take_again n xs)

pub takes_all : TakesAll
takes_all st log =
    let more : event_count st + 1 ≡ suc (event_count st) = omega arith in
    ap (λ (n : ℕ). take n (history st log)) more
    ∙ ap (λ (xs : List Event). Found (entries_in (reads (log_before (earlier_count st log) log)) (take st.found st.stamps)) ∷ xs) (take_again (event_count st) (drop (earlier_count st log) (events log)))

nothing_known : (log : Log) → ◌≡◌ {A = Option Log} None (Some log) → ⊥
nothing_known log e = cc

module _ (W : List ℕ → List ℕ → Type 0) where
  pub one_history : OneHistory W
  one_history known log st earlier h f stands is = (stands.disk log is).recalls

  -- both logs are known, or none is
  both_known : (old new : Option Log) (st next : SpoolState) (earlier h after : List Event) (f g : Files) (change : List Event → List Event) → after ≡ change h → StandsFor W old st earlier h f → KnownBefore old new → StandsFor W new next earlier after g
      → ((log : Log) → old ≡ Some log → (m : Log) × (new ≡ Some m)) → option_map (history next) new ≡ option_map change (option_map (history st) old)
  both_known None None st next earlier h after f g change is stands before now goes = refl
  both_known None (Some m) st next earlier h after f g change is stands before now goes = absurd (nothing_known (before m refl).0 (before m refl).1)
  both_known (Some log) None st next earlier h after f g change is stands before now goes = absurd (nothing_known (goes log refl).0 (goes log refl).1)
  both_known (Some log) (Some m) st next earlier h after f g change is stands before now goes =
      ap (λ (past : List Event). Some past) ((now.disk m refl).recalls ∙ is ∙ ap change (sym (stands.disk log refl).recalls))

  same_twice : (o : Option (List Event)) → option_map (λ (past : List Event). past) o ≡ o
  same_twice None = refl
  same_twice (Some x) = refl

  pub history_stays : HistoryStays W
  history_stays old new st next earlier h f g stands keeps =
      both_known old new st next earlier h h f g (λ past. past) refl stands keeps.known keeps.stands (λ log is. let run = keeps.images log is in (run.log, run.is)) ∙ same_twice (option_map (history st) old)

  pub failed_stays : FailedStays W
  failed_stays old new st next earlier h f g stands fails =
      both_known old new st next earlier h h f g (λ past. past) refl stands fails.known fails.stands (λ log is. let run = fails.images log is in (run.log, run.is)) ∙ same_twice (option_map (history st) old)

  pub published_goes_on : PublishedGoesOn W
  published_goes_on old new st next earlier h e f g stands publishes =
      both_known old new st next earlier h (h ++ Publish e ∷ []) f g (λ past. past ++ Publish e ∷ []) refl stands publishes.known publishes.stands (λ log is. let run = publishes.images log is in (run.log, run.is))

  pub removed_goes_on : RemovedGoesOn W
  removed_goes_on old new st next earlier h e f g stands removes =
      both_known old new st next earlier h (h ++ Remove e.stamp ∷ []) f g (λ past. past ++ Remove e.stamp ∷ []) refl stands removes.known removes.stands (λ log is. let run = removes.images log is in (run.log, run.is))
