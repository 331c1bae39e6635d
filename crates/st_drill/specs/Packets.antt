-- The packets of a drill, each made from its number, counted from 0.
use Rattle.std.specs.Prelude.{ℕ, zero, suc, ◌+◌, ◌*◌, ◌/◌, ◌%◌, nat_eq, if◌then◌else◌, List, [], ◌∷◌, ◌++◌, replicate}
use Rattle.byteorder.specs.Endian.{big_bytes}
use Rattle.st_base.specs.Records.{Rec}
use Rattle.st_pcap.specs.declared.forms.Unit.TheVariants.{Nano}
use Rattle.st_pcap.specs.Text.{PcapText}
use Rattle.st_drill.specs.declared.numbers.TheConstants.{FIRST_SECOND, SECOND_PACKETS, NANOS_APART, FRAME_SIZE, ETHER_HEAD, IP_HEAD, SUM_SIZE, SOURCE_NET, SOURCES, DESTINATION_NET, DESTINATIONS, ADDRESS_SIZE, FIRST_PORT, PORTS, PORT_SIZE, DNS_PORT, DNS_EVERY, HTTPS_PORT, ZEROS, TCP, UDP}

-- the protocol: UDP if the number is even, TCP if it is odd
abbrev pub protocol : ℕ → ℕ
protocol k = if nat_eq (k % 2) 0 then UDP else TCP

-- the source address: 10.0.a.b, where a and b are the two low bytes of the number
abbrev pub source : ℕ → ℕ
source k = SOURCE_NET + k % SOURCES

-- the destination address: 192.168.0.0 to 192.168.0.6, in turn
abbrev pub destination : ℕ → ℕ
destination k = DESTINATION_NET + k % DESTINATIONS

-- the source port: 1024 to 6023, in turn
abbrev pub source_port : ℕ → ℕ
source_port k = FIRST_PORT + k % PORTS

-- the destination port: DNS of every tenth packet, HTTPS of the others
abbrev pub destination_port : ℕ → ℕ
destination_port k = if nat_eq (k % DNS_EVERY) 0 then DNS_PORT else HTTPS_PORT

-- the bytes of the packet: its headers of Ethernet and IPv4, its ports, and zeros
unfoldable pub frame : ℕ → List ℕ
frame k =
    ETHER_HEAD
    ++ (IP_HEAD
    ++ (protocol k ∷ (replicate SUM_SIZE 0
    ++ (big_bytes ADDRESS_SIZE (source k)
    ++ (big_bytes ADDRESS_SIZE (destination k)
    ++ (big_bytes PORT_SIZE (source_port k)
    ++ (big_bytes PORT_SIZE (destination_port k)
    ++ replicate ZEROS 0)))))))

-- the packet as it was captured, whole: one every ten milliseconds
abbrev pub packet : ℕ → Rec
packet k =
    record {
      sec = FIRST_SECOND + k / SECOND_PACKETS;
      nsec = k % SECOND_PACKETS * NANOS_APART;
      orig = FRAME_SIZE;
      body = frame k;
    }

-- this many packets, from this number on
abbrev pub packets_from : ℕ → ℕ → List Rec
packets_from k zero = []
packets_from k (suc n) = packet k ∷ packets_from (k + 1) n

-- the packets of a drill that makes this many
abbrev pub packets : ℕ → List Rec
packets n = packets_from 0 n

-- the input that a drill loads: its packets as a pcap in nanoseconds
abbrev pub input : ℕ → List ℕ
input n = PcapText (packets n) Nano
