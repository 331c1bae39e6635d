-- What the calls of `lookups` and of `evaluate` gather: positions, in any order.
use Rattle.std.specs.Prelude.{◌≡◌, ℕ, ◌||◌, List, Bool, None, All, Result, Ok, Err}
use Rattle.st_walk.specs.declared.text.Key.{Key}
use Rattle.st_walk.specs.KeyText.{key_text}
use Rattle.st_tblock.specs.Block.{RowView}
use Rattle.st_table.specs.RowOrder.{in_range}
use Rattle.st_rows.specs.Positions.{has}
use Rattle.st_rows.specs.Values.{positions_wrong}
use Rattle.st_eval.specs.Refusals.{NoDamage}
use Rattle.st_eval.specs.declared.errors.EvalErr.{EvalErr}

-- nothing is wrong with the values of the rows between two keys
abbrev pub SoundBetween : List ℕ → List ℕ → List RowView → Type 0
SoundBetween low high rows = All (λ row. positions_wrong row.1 ≡ None) (in_range low high rows)

-- nothing is wrong with the values of the rows of keys
abbrev pub HasSoundValues : List RowView → Type 0
HasSoundValues rows = (low high : Key) → SoundBetween (key_text low) (key_text high) rows

-- positions gained those of a test
abbrev pub Gains : (ℕ → Bool) → List ℕ → List ℕ → Type 0
Gains test old new = (p : ℕ) → has new p ≡ (has old p || test p)

-- positions gained those of a test, or an error came, which is no damage where values are sound
abbrev pub Appends : {T : Type 0} → (ℕ → Bool) → Type 0 → List ℕ → List ℕ → Result T EvalErr
    → Type 0
Appends test Sound old new (Ok x) = Gains test old new
Appends test Sound old new (Err e) = Sound → NoDamage e

-- positions were found by a test, or an error came, which is no damage where values are sound
abbrev pub Finds : (ℕ → Bool) → Type 0 → Result (List ℕ) EvalErr → Type 0
Finds test Sound (Ok ps) = (p : ℕ) → has ps p ≡ test p
Finds test Sound (Err e) = Sound → NoDamage e
