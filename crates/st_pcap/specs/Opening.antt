-- What the opening of a reader ensures.
use Rattle.std.specs.Prelude.{Option, ◌≡◌, ℕ, ◌+◌, ◌≤◌, ◌⊎◌, List, Some, Result, Ok, Err}
use Rattle.st_base.specs.Records.{Rec}
use Rattle.st_pcap.specs.declared.errors.PcapErr.{PcapErr}
use Rattle.st_pcap.specs.declared.errors.PcapErr.TheVariants.{TooMuch}
use Rattle.st_pcap.specs.declared.forms.Form.{Form}
use Rattle.st_pcap.specs.declared.reader.Phase.TheVariants.{Fresh, Open, Stopped}
use Rattle.st_pcap.specs.declared.numbers.TheConstants.{FILE_HEAD_SIZE, RECORD_HEAD_SIZE, MAX_BODY, MAX_INPUT}
use Rattle.st_pcap.specs.Input.{Input, Refused}
use Rattle.st_pcap.specs.Reading.{PcapReaderView, IsOutside, HasRead}
use Rattle.st_pcap.specs.Taking.{Took, TakesHead}

-- the reader has read what it had read, and the file head; or the bytes are refused
abbrev pub Opens :
    List ℕ → List Rec → PcapReaderView → Option (List ℕ) → Result Form PcapErr → Type 0
Opens bytes rs new left (Ok form) = (rest : List ℕ) × (left ≡ Some rest) × HasRead new bytes rs rest
Opens bytes rs new left (Err e) = IsOutside e ⊎ Input bytes rs (Refused e)

-- the reader is open in the form that was answered, or has stopped with the cause
abbrev pub KeepsOpening : PcapReaderView → Result Form PcapErr → Type 0
KeepsOpening new (Ok form) = new.phase ≡ Open form
KeepsOpening new (Err e) = new.phase ≡ Stopped e

-- What was read is left alone, with the source: the form of an open reader, the cause of one that
-- has stopped. One that opens is no further than the file head.
pub record OpensOnce {S : Type 0} (before now : S) (old new : PcapReaderView)
    (result : Result Form PcapErr) : Type 0 where
  pub known : (form : Form) → old.phase ≡ Open form
      → (result ≡ Ok form) × (new ≡ old) × (now ≡ before)
  pub again : (e : PcapErr) → old.phase ≡ Stopped e
      → (result ≡ Err e) × (new ≡ old) × (now ≡ before)
  pub fresh : old.phase ≡ Fresh → new.taken ≤ FILE_HEAD_SIZE
  pub much_only : (n : ℕ) → result ≡ Err (TooMuch n) → old.phase ≡ Stopped (TooMuch n)

-- how much the opening took, where no record is given
pub record CountsHead (left still : Option (List ℕ)) (old new : PcapReaderView)
    (result : Result Form PcapErr) : Type 0 where
  pub taken : Took left still old.taken new.taken
  pub takes : TakesHead old.phase old.taken new.taken result
  pub number : new.number ≡ old.number
  pub later : old.taken ≤ new.taken
  pub bound : new.taken ≤ MAX_INPUT + RECORD_HEAD_SIZE + MAX_BODY
