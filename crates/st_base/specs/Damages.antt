-- A check that fails: its place, what it found there, and what it wants there.
use Rattle.std.specs.Prelude.{ℕ}
use Rattle.st_base.specs.declared.damages.Damage.{Damage}

-- the numbers of a `Damage`
pub record DamageView : Type 0 where
  pub place : ℕ
  pub found : ℕ
  pub want : ℕ

-- what a `Damage` says
abbrev pub damage_view : Damage → DamageView
damage_view d = record { place = d.place; found = d.found; want = d.want }

-- a yes-or-no check that fails at this place
abbrev pub unmet : ℕ → DamageView
unmet place = record { place = place; found = 0; want = 1 }
