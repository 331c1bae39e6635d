-- Packets whose texts lie in one buffer.
use Rattle.std.specs.Prelude.{◌≡◌, ◌≤◌, ◌+◌, ◌-◌, ◌++◌, [], ◌∷◌, ℕ, Bool, List, length, take, drop, map, Result, MatchResult}
use Rattle.std.specs.List.{All}
use Rattle.std.specs.Ordering.{is_lt, ordering_then, nat_cmp}
use Rattle.st_base.specs.Records.{Rec}
use Rattle.st_pcap.specs.declared.forms.Unit as unit
use Rattle.st_pcap.specs.declared.numbers.TheConstants.{RECORD_HEAD_SIZE}
use Rattle.st_pcap.specs.Text.{record_text}
use Rattle.steno.specs.declared.packets.Packet.{Packet}

-- the bytes of a buffer from one offset up to another
abbrev pub stretch : List ℕ → ℕ → ℕ → List ℕ
stretch text from to = take (to - from) (drop from text)

-- the offset in the buffer at which a packet's text ends
abbrev pub end_of : Packet → ℕ
end_of p = p.start + RECORD_HEAD_SIZE + p.len

-- the packet's text in this buffer
abbrev pub text_of : List ℕ → Packet → List ℕ
text_of text p = stretch text p.start (end_of p)

-- the record that a packet represents, by this buffer
abbrev pub record_of : List ℕ → Packet → Rec
record_of text p = record {
  sec = p.sec;
  nsec = p.nsec;
  orig = p.orig;
  body = stretch text (p.start + RECORD_HEAD_SIZE) (end_of p);
}

-- the packet's text lies in the buffer, and is that of its record in this unit
pub record Lies (u : unit.Unit) (text : List ℕ) (p : Packet) : Type 0 where
  pub within : end_of p ≤ length text
  pub is : text_of text p ≡ record_text u (record_of text p)

-- the texts of all these packets lie in the buffer, as those of their records in this unit
abbrev pub AllLie : unit.Unit → List ℕ → List Packet → Type 0
AllLie u text ps = All (Lies u text) ps

-- the texts of all these packets end in the buffer
abbrev pub AllWithin : List ℕ → List Packet → Type 0
AllWithin text ps = All (λ (p : Packet). end_of p ≤ length text) ps

-- the first packet was captured at an earlier time than the second
abbrev pub is_earlier : Packet → Packet → Bool
is_earlier a b = is_lt (ordering_then (nat_cmp a.sec b.sec) (nat_cmp a.nsec b.nsec))

-- After an Ok the packets are those that there were, with this record at the end, and all texts are
-- in the buffer if all were before; after an error nothing changed.
abbrev pub Appends :
    {E : Type 0} → unit.Unit → Rec → List ℕ → List Packet → List ℕ → List Packet
    → Result (Unit {0}) E → Type 0
Appends u r text ps text' ps' result =
    MatchResult result
    (λ _. AllLie u text ps
    → AllLie u text' ps' × (map (record_of text') ps' ≡ map (record_of text) ps ++ r ∷ []))
    (λ _. (text' ≡ text) × (ps' ≡ ps))
