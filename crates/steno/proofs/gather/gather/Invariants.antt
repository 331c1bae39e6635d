use Rattle.std.proofs.Common.{◌≡◌, ◌-◌, ◌^◌, ℕ, List, Some, drop}
use Rattle.st_base.specs.Records.{Rec}
use Rattle.st_pcap.specs.declared.errors.PcapErr.{PcapErr}
use Rattle.st_pcap.specs.declared.reader.Phase.TheVariants.{Stopped}
use Rattle.st_pcap.specs.Reading.{HasRead}
use Rattle.st_query.specs.Meaning.{Matches}
use Rattle.steno.specs.Gathering.{Selects}
use Rattle.steno.proofs.gather.gather.Given as goal

abbrev pub invariant-records : goal.invariant-records
invariant-records g l = record {
  kept : (bytes : List ℕ) → g.I.Source.left l.fn.input ≡ Some bytes
      → (rest : List ℕ) × (rs : List Rec) × (g.I.Source.left l.input ≡ Some rest) × HasRead l.reader bytes rs rest
      × (rest ≡ drop l.reader.taken bytes) × Selects (Matches l.fn.query l.now) rs l.packets.records;
  unit : l.packets.unit ≡ l.fn.unit;
  going : (e : PcapErr) → l.reader.phase ≡ Stopped e → ⊥;
  still : g.I.Source.faults l.input ≡ g.I.Source.faults l.fn.input;
  rest : g.I.Source.beside l.input ≡ g.I.Source.beside l.fn.input;
}

abbrev pub decreases-records : goal.decreases-records
decreases-records g l = 2 ^ 41 - l.reader.taken
