-- Laws of the packets of a drill, which the functions of `laws` ensure.
use Rattle.std.specs.Prelude.{◌≡◌, ◌≤◌, ◌<◌, ℕ, length, All, slice_index_or}
use Rattle.st_base.specs.Records.{Rec, InRange}
use Rattle.st_pcap.specs.Input.{Input, Whole}
use Rattle.st_drill.specs.declared.numbers.TheConstants.{FRAME_SIZE}
use Rattle.st_plan.specs.declared.limits.TheConstants.{MAX_PACKETS}
use Rattle.st_drill.specs.Packets.{packet, packets, input}

-- the input of a drill is a whole input of its packets
abbrev pub IsWholeInput : Type 0
IsWholeInput = (n : ℕ) → n ≤ MAX_PACKETS → Input (input n) (packets n) Whole

-- a drill has as many packets as were asked for
abbrev pub HasCount : Type 0
HasCount = (n : ℕ) → length (packets n) ≡ n

-- the packets of a drill come in the order of their numbers, from 0 on
abbrev pub AreNumbered : Type 0
AreNumbered = (n k : ℕ) (d : Rec) → k < n → slice_index_or (packets n) k d ≡ packet k

-- each packet of a drill has a time that a record can have, and 64 bytes
abbrev pub AreFrames : Type 0
AreFrames =
    (n : ℕ) → n ≤ MAX_PACKETS
    → All InRange (packets n) × All (λ (r : Rec). length r.body ≡ FRAME_SIZE) (packets n)
