-- The answer to a query over a file set: the packets that match, each once, by time, and those of
-- one time by stamp and position.
use Rattle.std.specs.Prelude.{◌≡◌, ◌<◌, ◌⊎◌, ◌↔◌, ℕ, List, Contains}
use Rattle.st_base.specs.Ascending.{IsAscending}
use Rattle.st_disk.specs.Pairs.{Entry}
use Rattle.st_query.specs.declared.nodes.Node.{Node}
use Rattle.st_query.specs.Meaning.{Matches}
use Rattle.st_answer.specs.Packets.{Packet, IsPacketIn}

-- a comes before b: by second, then nanosecond, then stamp, then position
abbrev pub Precedes : Packet → Packet → Type 0
Precedes a b =
    (a.packet.sec < b.packet.sec)
    ⊎ ((a.packet.sec ≡ b.packet.sec) × ((a.packet.nsec < b.packet.nsec)
    ⊎ ((a.packet.nsec ≡ b.packet.nsec) × ((a.stamp < b.stamp)
    ⊎ ((a.stamp ≡ b.stamp) × (a.position < b.position))))))

-- the list is in ascending order, and its members are exactly the packets of the set that match
pub record IsAnswer (q : Node) (now : ℕ) (set : List Entry) (ps : List Packet) : Type 0 where
  pub ascending : IsAscending Precedes ps
  pub members : (p : Packet) → Contains ps p ↔ (IsPacketIn set p × Matches q now p.packet)
