-- Laws of the walk, which the functions of `laws` ensure.
use Rattle.std.specs.Prelude.{ℕ, ◌<◌, List, All}
use Rattle.st_walk.specs.declared.text.Key.{Key}
use Rattle.st_walk.specs.KeyText.{Fits}
use Rattle.st_walk.specs.Walk.{FrameHas}

-- each key of a frame of bytes fits the type of its kind
abbrev pub KeysFit : Type 0
KeysFit = (frame : List ℕ) (k : Key) → All (λ b. b < 256) frame → FrameHas frame k → Fits k
