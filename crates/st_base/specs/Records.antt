-- A packet as a pcap file records it: the libpcap savefile format, "Packet Record".
use Rattle.std.specs.Prelude.{ℕ, ◌<◌, ◌^◌, List, length}

-- a captured packet: when it was captured, in seconds since 1970 and nanoseconds, its original
-- length in bytes, and the bytes that were captured
pub record Rec : Type 0 where
  pub sec : ℕ
  pub nsec : ℕ
  pub orig : ℕ
  pub body : List ℕ

-- each number fits its field, and the nanoseconds are less than a second
pub record InRange (r : Rec) : Type 0 where
  pub sec : r.sec < 2 ^ 32
  pub nsec : r.nsec < 1000000000
  pub orig : r.orig < 2 ^ 32
  pub body : length r.body < 2 ^ 32

-- the time of a record, ordered by its first part and then by its second
abbrev pub time : Rec → ℕ × ℕ
time r = (r.sec, r.nsec)
