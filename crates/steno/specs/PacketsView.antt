-- What contracts see of the packets of an answer.
use Rattle.std.specs.Prelude.{List}
use Rattle.st_base.specs.Records.{Rec}
use Rattle.st_pcap.specs.declared.forms.Unit as unit

-- the unit in which the packets' times are written, and the packets in their order
pub record PacketsView : Type 0 where
  pub unit : unit.Unit
  pub records : List Rec
