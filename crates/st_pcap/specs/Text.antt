-- The pcap text that is written: little-endian, version 2.4, over Ethernet. The libpcap savefile
-- format, "File Header" and "Packet Record".
use Rattle.std.specs.Prelude.{ℕ, List, [], ◌∷◌, ◌++◌, length}
use Rattle.std.specs.List.{flat_map}
use Rattle.byteorder.specs.Endian.{little_bytes}
use Rattle.st_base.specs.Records.{Rec}
use Rattle.st_pcap.specs.declared.forms.Order.TheVariants.{Little}
use Rattle.st_pcap.specs.declared.forms.Unit as unit
use Rattle.st_pcap.specs.declared.numbers.TheConstants.{NUMBER_SIZE, SHORT_SIZE, OLDER_SIZE, MAJOR, MINOR, ETHERNET, MAX_BODY}
use Rattle.st_pcap.specs.Forms.{magic, fraction_of, nanoseconds}

-- the 24 bytes of the file head: magic, version, two numbers that are zero, the longest body, and
-- Ethernet
unfoldable pub file_head : unit.Unit → List ℕ
file_head u =
    little_bytes NUMBER_SIZE (magic Little u)
    ++ (little_bytes SHORT_SIZE MAJOR
    ++ (little_bytes SHORT_SIZE MINOR
    ++ (little_bytes OLDER_SIZE 0
    ++ (little_bytes NUMBER_SIZE MAX_BODY ++ little_bytes NUMBER_SIZE ETHERNET))))

-- the 16 bytes before a record's body: seconds, fraction, captured and original length
unfoldable pub record_head : unit.Unit → Rec → List ℕ
record_head u r =
    little_bytes NUMBER_SIZE r.sec
    ++ (little_bytes NUMBER_SIZE (fraction_of u r.nsec)
    ++ (little_bytes NUMBER_SIZE (length r.body) ++ little_bytes NUMBER_SIZE r.orig))

-- a record's head and body
abbrev pub record_text : unit.Unit → Rec → List ℕ
record_text u r = record_head u r ++ r.body

-- the file head, and then each record
abbrev pub PcapText : List Rec → unit.Unit → List ℕ
PcapText rs u = file_head u ++ flat_map (record_text u) rs

-- the body as a piece, where it isn't empty
abbrev pub body_piece : List ℕ → List (List ℕ)
body_piece [] = []
body_piece (x ∷ xs) = (x ∷ xs) ∷ []

-- the pieces in which a record is written
abbrev pub record_pieces : unit.Unit → Rec → List (List ℕ)
record_pieces u r = record_head u r ∷ body_piece r.body

-- the same text by the pieces in which it is written
abbrev pub Pieces : List Rec → unit.Unit → List (List ℕ)
Pieces rs u = file_head u ∷ flat_map (record_pieces u) rs

-- the record with its time cut to the unit
abbrev pub cut_to : unit.Unit → Rec → Rec
cut_to u r = record r { nsec = nanoseconds u (fraction_of u r.nsec) }
