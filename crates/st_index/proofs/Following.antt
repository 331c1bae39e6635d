-- Where a maker's packets end, in a scan of their block file.
use Rattle.std.proofs.Common.{◌≡◌, ℕ, ◌+◌, ◌≤◌, length, max, ap, arith}
use Rattle.st_base.specs.Records.{Rec}
use Rattle.st_block.specs.BlockText.{room}

-- a packet ends where the scan is after it, or before
pub ends_within : (end position reached : ℕ) (r s : Rec) → end ≡ position + (48 + length r.body) → r ≡ s → position + room s ≡ reached → end ≤ max 48 reached
ends_within end position reached r s e same f =
    let l : length r.body ≡ length s.body = ap (λ (x : Rec). length x.body) same in
    omega arith
