-- Picks: the packets whose heads were read. The bodies are those in the block files.
use Rattle.std.specs.Prelude.{◌≡◌, ℕ, ◌+◌, ◌*◌, ◌<◌, ◌≤◌, List, [], length, take, drop, map, All, Contains, slice_index_or, sum_by, cond, nat_eq, ◌&&◌}
use Rattle.st_base.specs.Records.{Rec}
use Rattle.st_disk.specs.Pairs.{Entry}
use Rattle.st_query.specs.declared.nodes.Node.{Node}
use Rattle.st_query.specs.Meaning.{Matches}
use Rattle.st_block.specs.declared.format.TheConstants.{RECORD_HEAD, MAX_NSEC}
use Rattle.st_block.specs.Scan.{PositionedRecord}
use Rattle.st_rows.specs.Whole.{IsWhole}
use Rattle.st_answer.specs.declared.picked.Picked.{Picked}
use Rattle.st_answer.specs.Packets.{Packet, IsWholePair, IsPacketIn}

-- the pick of this record, by the number of its pair in the set, the pair's stamp and its position
abbrev pub pick_of : ℕ → ℕ → ℕ → Rec → Picked
pick_of place stamp position r =
    record {
      sec = r.sec;
      nsec = r.nsec;
      stamp = stamp;
      position = position;
      len = length r.body;
      orig = r.orig;
      place = place;
    }

-- the picks of these records at their positions, which are all of one pair
abbrev pub picks_of : ℕ → ℕ → List PositionedRecord → List Picked
picks_of place stamp xs = map (λ (x : PositionedRecord). pick_of place stamp x.0 x.1) xs

-- the block files of a set
abbrev pub blocks_of : List Entry → List (List ℕ)
blocks_of set = map (λ (e : Entry). e.block) set

-- the record of a pick, from the bytes of its block file
abbrev pub record_in : List ℕ → Picked → Rec
record_in block p =
    record {
      sec = p.sec;
      nsec = p.nsec;
      orig = p.orig;
      body = take p.len (drop (p.position + RECORD_HEAD) block);
    }

-- the packet of a pick of a set
abbrev pub packet_in : List Entry → Picked → Packet
packet_in set p =
    record {
      stamp = p.stamp;
      position = p.position;
      packet = record_in (slice_index_or (blocks_of set) p.place []) p;
    }

-- the records of picks of a set
abbrev pub picked_records : List Entry → List Picked → List Rec
picked_records set ps = map (λ p. (packet_in set p).packet) ps

-- the pick is that of a packet of this pair that matches
pub record IsPickOf (q : Node) (now : ℕ) (e : Entry) (p : Picked) : Type 0 where
  pub given : List PositionedRecord
  pub whole : IsWhole e.block e.index given
  pub there : Contains given (p.position, record_in e.block p)
  pub len : p.len ≡ length (record_in e.block p).body
  pub matches : Matches q now (record_in e.block p)

-- the pick has the stamp of the pair, and is that of a packet that matches if the pair is whole
pub record IsFoundIn (q : Node) (now : ℕ) (e : Entry) (p : Picked) : Type 0 where
  pub stamp : p.stamp ≡ e.stamp
  pub pick : IsWholePair e → IsPickOf q now e p

-- the pick has the stamp of the pair with its number in the set, and is that of a packet of the
-- pair that matches if the pair is whole
abbrev pub IsFound : Node → ℕ → List Entry → Picked → Type 0
IsFound q now set p =
    (d : Entry) → p.place < length set → IsFoundIn q now (slice_index_or set p.place d) p

-- the pick's pair is one of this many, and its nanoseconds are less than a second
pub record IsPlaced (n : ℕ) (p : Picked) : Type 0 where
  pub place : p.place < n
  pub nsec : p.nsec ≤ MAX_NSEC

-- 1 if the pick is at this position of the pair with this stamp
abbrev pub is_at : ℕ → ℕ → Picked → ℕ
is_at stamp position p = cond (nat_eq p.stamp stamp && nat_eq p.position position) 1 0

-- no two picks are of one position of one pair
abbrev pub AreDistinct : List Picked → Type 0
AreDistinct ps = (stamp position : ℕ) → sum_by (is_at stamp position) ps ≤ 1

-- each packet of the entries that matches is picked
abbrev pub HasAllOf : Node → ℕ → List Entry → List Entry → List Picked → Type 0
HasAllOf q now set entries ps =
    (x : Packet) → IsPacketIn entries x → Matches q now x.packet
    → Contains (map (packet_in set) ps) x

-- these are picks of packets of the set that match, no two of one packet, and at least as many as
-- the reads, which asked for no more bytes than the heads have
pub record AreReadFor (q : Node) (now : ℕ) (set : List Entry) (reads asked : ℕ)
    (ps : List Picked) : Type 0 where
  pub found : All (λ p. (p.place < length set) × IsFound q now set p) ps
  pub distinct : AreDistinct ps
  pub reads_most : reads ≤ length ps
  pub asked_most : asked ≤ RECORD_HEAD * length ps
