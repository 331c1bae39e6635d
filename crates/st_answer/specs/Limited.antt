-- An answer within limits: the longest prefix of it that has at most this many packets and at most
-- this many captured bytes. So it stops at the first packet that passes a limit, and skips none.
use Rattle.std.specs.Prelude.{◌≡◌, ◌≤◌, ℕ, List, length, take, sum_by}
use Rattle.st_base.specs.Records.{Rec}
use Rattle.st_base.specs.declared.limits.Limits.{Limits}

-- the captured bytes of these records, their heads not counted
abbrev pub captured : List Rec → ℕ
captured rs = sum_by (λ (r : Rec). length r.body) rs

-- there are no more records, and no more captured bytes, than the limits allow
pub record IsWithin (limits : Limits) (rs : List Rec) : Type 0 where
  pub count : length rs ≤ limits.packets
  pub size : captured rs ≤ limits.bytes

-- the cut list is the longest prefix of the list that is within the limits
pub record Limited (limits : Limits) (rs cut : List Rec) : Type 0 where
  pub count : ℕ
  pub prefix : cut ≡ take count rs
  pub within : IsWithin limits cut
  pub longest : (n : ℕ) → IsWithin limits (take n rs) → length (take n rs) ≤ length cut
