-- Picks in the answer's order, as far as the limits go.
use Rattle.std.specs.Prelude.{◌≡◌, ℕ, ◌+◌, ◌-◌, ◌^◌, min, Bool, List, length, take, map, sum_by}
use Rattle.std.specs.Ordering.{is_lt}
use Rattle.std.specs.List.Sorted.{IsPermutation, IsSorted}
use Rattle.st_base.specs.Records.{Rec}
use Rattle.st_base.specs.declared.limits.Limits.{Limits}
use Rattle.st_pcap.specs.declared.numbers.TheConstants.{FILE_HEAD_SIZE, RECORD_HEAD_SIZE}
use Rattle.st_answer.specs.declared.picked.Picked.{Picked}
use Rattle.st_answer.specs.declared.errors.Told.{Told}
use Rattle.st_answer.specs.contracts.picked.PickedOrd.TheImpl as derived
use Rattle.st_answer.specs.Limited.{Limited}

-- the records have the captured lengths of the picks
abbrev pub HaveLengths : List Picked → List Rec → Type 0
HaveLengths ps rs = map (λ (p : Picked). p.len) ps ≡ map (λ (r : Rec). length r.body) rs

-- this many of the picks, from the first on, are the longest prefix within the limits
abbrev pub AreWithin : Limits → List Picked → ℕ → Type 0
AreWithin limits ps count = (rs : List Rec) → HaveLengths ps rs → Limited limits rs (take count rs)

-- a pick comes before another: by second, nanosecond, stamp and position
unfoldable pub comes_before : Picked → Picked → Bool
comes_before p q = is_lt (derived.ghosts.cmp p q)

-- the picks are in order: by second, nanosecond, stamp and position
abbrev pub AreInOrder : List Picked → Type 0
AreInOrder ps = IsSorted derived.ghosts.cmp ps

-- the picks were sorted into the answer's order, and cut to the longest prefix within the limits
pub record IsOrdered (limits : Limits) (ps out : List Picked) : Type 0 where
  pub sorted : List Picked
  pub same : IsPermutation ps sorted
  pub order : AreInOrder sorted
  pub count : ℕ
  pub cut : out ≡ take count sorted
  pub limited : AreWithin limits sorted count

-- what is told of these picks: their number, and that of the bytes of the file head and their
-- records, up to the greatest u64
pub record TellsPicks (ps : List Picked) (told : Told) : Type 0 where
  pub packets : told.packets ≡ length ps
  pub bytes : told.bytes
      ≡ min (FILE_HEAD_SIZE + sum_by (λ (p : Picked). RECORD_HEAD_SIZE + p.len) ps) (2 ^ 64 - 1)
