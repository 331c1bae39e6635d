-- Jobs and passes side by side, of which threads take one each.
use Rattle.std.specs.Prelude.{◌≡◌, ◌<◌, ℕ, List, length}
use Rattle.std.specs.List.{slice_index_or}

-- there is a pass for each job, and each may begin
pub record Ready {P Q : Type 0} (can : Q → Type 0) (jobs : List P) (passes : List Q) : Type 0 where
  pub len : length jobs ≡ length passes
  pub can_each : (i : ℕ) (e : Q) → i < length passes → can (slice_index_or passes i e)

-- there are as many as before, and each pass is what a run of the work may make of it
pub record Done {P Q : Type 0} (did : Q → Q → Type 0) (js ks : List P) (ps qs : List Q)
    : Type 0 where
  pub jobs : length ks ≡ length js
  pub passes : length qs ≡ length ps
  pub did_each : (i : ℕ) (e : Q) → i < length ps
      → did (slice_index_or ps i e) (slice_index_or qs i e)
