-- What is still to be read of a drill's input.
use Rattle.std.specs.Prelude.{ℕ, ◌+◌, ◌≤◌, List, ◌++◌, drop}
use Rattle.std.specs.List.{flat_map}
use Rattle.st_pcap.specs.declared.forms.Unit.TheVariants.{Nano}
use Rattle.st_pcap.specs.Text.{record_text}
use Rattle.st_drill.specs.declared.source.Maker.{Maker}
use Rattle.st_drill.specs.declared.numbers.TheConstants.{RECORD_SIZE}
use Rattle.st_plan.specs.declared.limits.TheConstants.{MAX_PACKETS}
use Rattle.st_drill.specs.Packets.{packets_from}

-- the records of this many packets, from this number on
abbrev pub records_from : ℕ → ℕ → List ℕ
records_from k n = flat_map (record_text Nano) (packets_from k n)

-- what is still to be read: the rest of the bytes at hand, and the records of the packets that
-- aren't made yet
abbrev pub to_come : Maker → List ℕ
to_come m = drop m.at m.bytes ++ records_from m.next m.left

-- no more bytes than there are at hand were read, and each packet's number is below the most that a
-- drill makes
pub record IsSoundMaker (m : Maker) : Type 0 where
  pub at : m.at ≤ RECORD_SIZE
  pub numbers : m.next + m.left ≤ MAX_PACKETS
