-- What the checks of a head say of the fields that they read.
use Rattle.std.specs.Prelude.{Option, ◌≡◌, ℕ, ◌+◌, ◌<◌, ◌≤◌, ◌⊎◌, List, ◌++◌, length, take, None, Some, Result, Ok, Err, MatchResult}
use Rattle.st_base.specs.Records.{Rec}
use Rattle.st_pcap.specs.declared.errors.PcapErr.{PcapErr}
use Rattle.st_pcap.specs.declared.errors.PcapErr.TheVariants.{ReadFault, TooMuch}
use Rattle.st_pcap.specs.declared.head_fields.HeadFields.{HeadFields}
use Rattle.st_pcap.specs.declared.forms.Form.{Form}
use Rattle.st_pcap.specs.declared.numbers.TheConstants.{FILE_HEAD_SIZE, RECORD_HEAD_SIZE, SEC_AT, FRACTION_AT, CAPTURED_AT, ORIG_AT, NANOS, MAX_BODY, MAX_INPUT}
use Rattle.st_pcap.specs.Forms.{number_at, fractions, nanoseconds}
use Rattle.st_pcap.specs.Heads.{IsFileHead, IsRecordHead, refusal_of_file, refusal_of_size}
use Rattle.st_pcap.specs.Input.{Whole, Refused, end_at}
use Rattle.st_pcap.specs.Reading.{IsOutside}
use Rattle.st_pcap.specs.Taking.{Took, RefusesRecord}

-- the 16 bytes have these fields, and they are in range
pub record HasFields (form : Form) (head : List ℕ) (e : HeadFields) : Type 0 where
  pub sec : number_at form.order SEC_AT head ≡ e.sec
  pub fraction : number_at form.order FRACTION_AT head < fractions form.unit
  pub nsec : nanoseconds form.unit (number_at form.order FRACTION_AT head) ≡ e.nsec
  pub below : e.nsec < NANOS
  pub captured : number_at form.order CAPTURED_AT head ≡ e.captured
  pub short : e.captured ≤ MAX_BODY
  pub orig : number_at form.order ORIG_AT head ≡ e.orig

-- the bytes begin with a file head of the form, and what follows it is to come; or they
-- begin with none
abbrev pub GivesForm : List ℕ → Option (List ℕ) → Result Form PcapErr → Type 0
GivesForm bytes left (Ok form) =
    (head : List ℕ) × (text : List ℕ) × (bytes ≡ head ++ text) × (left ≡ Some text)
    × IsFileHead form.order form.unit head
GivesForm bytes left (Err e) =
    (e ≡ ReadFault) ⊎ (refusal_of_file (take FILE_HEAD_SIZE bytes) ≡ Some e)

-- the bytes begin with the body of the record whose head has these fields; or they are too few
abbrev pub GivesBody : HeadFields → ℕ → List ℕ → Option (List ℕ) → Result Rec PcapErr → Type 0
GivesBody fields number rest left (Ok r) =
    (more : List ℕ) × (rest ≡ r.body ++ more) × (left ≡ Some more)
    × (length r.body ≡ fields.captured)
    × (r.sec ≡ fields.sec) × (r.nsec ≡ fields.nsec) × (r.orig ≡ fields.orig)
GivesBody fields number rest left (Err e) =
    IsOutside e ⊎ (refusal_of_size number (RECORD_HEAD_SIZE + length rest)
    (RECORD_HEAD_SIZE + fields.captured) ≡ Some e)

-- the bytes begin with a record; or what the order of checks finds there
abbrev pub GivesRecord :
    Form → ℕ → ℕ → List ℕ → Option (List ℕ) → Result (Option Rec) PcapErr → Type 0
GivesRecord form before number rest left (Ok None) =
    (end_at form.order form.unit before number rest ≡ Some Whole) × (left ≡ Some rest)
GivesRecord form before number rest left (Ok (Some r)) =
    (head : List ℕ) × (more : List ℕ) × (before < MAX_INPUT)
    × IsRecordHead form.order form.unit head r
    × (rest ≡ head ++ (r.body ++ more)) × (left ≡ Some more)
GivesRecord form before number rest left (Err e) =
    IsOutside e ⊎ (end_at form.order form.unit before number rest ≡ Some (Refused e))

-- How much the body of a record takes, after its head: all of it, or what its refusal says; never
-- less than before, and no more than the last record that may begin.
pub record CountsBody (left still : Option (List ℕ)) (before now : ℕ)
    (result : Result Rec PcapErr) : Type 0 where
  pub taken : Took left still before now
  pub takes : (begin : ℕ) → before ≡ begin + RECORD_HEAD_SIZE
      → MatchResult result (λ r. now ≡ before + length r.body) (RefusesRecord begin now)
  pub grows : before ≤ now
  pub bound : now ≤ MAX_INPUT + RECORD_HEAD_SIZE + MAX_BODY

-- the cause isn't that too much comes before the record
abbrev pub IsNoLimit : PcapErr → Type 0
IsNoLimit e = (n : ℕ) → e ≡ TooMuch n → ⊥

-- Where the most that is read of an input was taken, nothing is read and that is the answer; and
-- it is the answer only there.
pub record EndsAtLimit {S : Type 0} (before now : S) (taken still : ℕ)
    (result : Result (Option Rec) PcapErr) : Type 0 where
  pub much : MAX_INPUT ≤ taken → (result ≡ Err (TooMuch taken)) × (still ≡ taken) × (now ≡ before)
  pub much_only : (n : ℕ) → result ≡ Err (TooMuch n) → (n ≡ taken) × (MAX_INPUT ≤ taken)
