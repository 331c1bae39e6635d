-- What a reader of pcap files has read, and what its calls ensure.
use Rattle.std.specs.Prelude.{Option, ◌≡◌, ℕ, ◌+◌, ◌*◌, ◌<◌, ◌≤◌, ◌⊎◌, List, [], ◌∷◌, ◌++◌, length, None, Some, Result, Ok, Err, IfOk, IfErr, OnOk, OnSome}
use Rattle.st_base.specs.Faults.{Rose}
use Rattle.st_base.specs.Records.{Rec}
use Rattle.st_pcap.specs.declared.errors.PcapErr.{PcapErr}
use Rattle.st_pcap.specs.declared.errors.PcapErr.TheVariants.{ReadFault, NoMemory, TooMuch}
use Rattle.st_pcap.specs.declared.forms.Form.{Form}
use Rattle.st_pcap.specs.declared.reader.Phase.{Phase}
use Rattle.st_pcap.specs.declared.reader.Phase.TheVariants.{Fresh, Open, Stopped}
use Rattle.st_pcap.specs.declared.numbers.TheConstants.{FILE_HEAD_SIZE, RECORD_HEAD_SIZE, MAX_BODY, MAX_INPUT}
use Rattle.st_pcap.specs.Heads.{IsFileHead}
use Rattle.st_pcap.specs.Taking.{Took, Takes}
use Rattle.st_pcap.specs.Input.{Records, AllBegin, Whole, Refused, Input}

-- what a reader has come to, the bytes that it took and the records that it gave
pub record PcapReaderView : Type 0 where
  pub phase : Phase
  pub taken : ℕ
  pub number : ℕ

-- a reader that took nothing yet
abbrev pub fresh : PcapReaderView
fresh = record { phase = Fresh; taken = 0; number = 0 }

-- a reader takes no more than the last record that may begin, and 16 bytes at least for each that
-- it gave
pub record IsInBounds (p : PcapReaderView) : Type 0 where
  pub taken : p.taken ≤ MAX_INPUT + RECORD_HEAD_SIZE + MAX_BODY
  pub number : RECORD_HEAD_SIZE * p.number ≤ p.taken
  pub fresh : p.phase ≡ Fresh → p.taken ≡ 0

-- causes that the bytes have no part in
abbrev pub IsOutside : PcapErr → Type 0
IsOutside e = (e ≡ ReadFault) ⊎ (e ≡ NoMemory)

-- the reader reads on
abbrev pub IsGoing : Phase → Type 0
IsGoing Fresh = ⊥
IsGoing (Open form) = Unit {0}
IsGoing (Stopped e) = ⊥

-- Of these bytes a reader in this phase, which took `taken` and gave `number` records, gave these
-- records, and the rest is to come.
abbrev pub HasReadIn : Phase → ℕ → ℕ → List ℕ → List Rec → List ℕ → Type 0
HasReadIn Fresh taken number bytes rs rest = (rs ≡ []) × (bytes ≡ rest) × (taken ≡ 0) × (number ≡ 0)
HasReadIn (Open form) taken number bytes rs rest =
    (head : List ℕ) × (text : List ℕ) × (bytes ≡ head ++ text)
    × IsFileHead form.order form.unit head
    × Records form.order form.unit text rs rest × AllBegin FILE_HEAD_SIZE rs × (number ≡ length rs)
    × (taken + length rest ≡ length bytes)
HasReadIn (Stopped e) taken number bytes rs rest = IsOutside e ⊎ Input bytes rs (Refused e)

-- of these bytes the reader gave these records, and the rest is to come
abbrev pub HasRead : PcapReaderView → List ℕ → List Rec → List ℕ → Type 0
HasRead p bytes rs rest = HasReadIn p.phase p.taken p.number bytes rs rest

-- What a call of a reader gives that gave these records of the bytes: the next record, the whole
-- end, or the refusal of the bytes, unless reading failed or memory was out. `left` is what is to
-- come.
abbrev pub Gives :
    List ℕ → List Rec → PcapReaderView → Option (List ℕ) → Result (Option Rec) PcapErr → Type 0
Gives bytes rs new left (Ok None) =
    Input bytes rs Whole × ((rest : List ℕ) × (left ≡ Some rest) × HasRead new bytes rs rest)
Gives bytes rs new left (Ok (Some r)) =
    (rest : List ℕ) × (left ≡ Some rest) × HasRead new bytes (rs ++ r ∷ []) rest
Gives bytes rs new left (Err e) = IsOutside e ⊎ Input bytes rs (Refused e)

-- the count never falls, a read fault comes only if it rose, and no other result changes it
pub record HasFaultCause {T : Type 0} (before now : ℕ) (result : Result T PcapErr) : Type 0 where
  pub later : before ≤ now
  pub still : (result ≡ Err ReadFault → ⊥) → now ≡ before
  pub fault : result ≡ Err ReadFault → Rose before now

-- a reader in this phase says that too, but where it had stopped at a read fault it answers that
-- again without a rise
pub record HasReadCause {T : Type 0} (before now : ℕ) (phase : Phase)
    (result : Result T PcapErr) : Type 0 where
  pub later : before ≤ now
  pub still : (result ≡ Err ReadFault → ⊥) → now ≡ before
  pub fault : result ≡ Err ReadFault → Rose before now ⊎ (phase ≡ Stopped ReadFault)

-- How much a call took: what its result says, and where the source's bytes are known, as many of
-- the first of them; never less than before, the size of a head at least for a record, and no more
-- than the last record that may begin.
pub record Counts (left still : Option (List ℕ)) (before now : ℕ)
    (result : Result (Option Rec) PcapErr) : Type 0 where
  pub taken : Took left still before now
  pub later : before ≤ now
  pub grows : IfOk result (λ o. OnSome o (before + RECORD_HEAD_SIZE ≤ now))
  pub bound : now ≤ MAX_INPUT + RECORD_HEAD_SIZE + MAX_BODY

-- An open reader that took the most that is read of an input answers `TooMuch`, takes nothing and
-- leaves its source as it was. That is the answer only there, or if the reader had stopped at it.
pub record KeepsLimit {S : Type 0} (before now : S) (old new : PcapReaderView)
    (result : Result (Option Rec) PcapErr) : Type 0 where
  pub much : (form : Form) → old.phase ≡ Open form → MAX_INPUT ≤ old.taken
      → (result ≡ Err (TooMuch old.taken)) × (new.taken ≡ old.taken) × (now ≡ before)
  pub much_only : (n : ℕ) → result ≡ Err (TooMuch n)
      → ((n ≡ old.taken) × (MAX_INPUT ≤ old.taken)) ⊎ (old.phase ≡ Stopped (TooMuch n))

-- What a call ensures that reads the next record into memory with this room: of the reader before
-- and after, and of a source with these members before and after.
pub record ReadsNext {S B : Type 0} (left : S → Option (List ℕ)) (faults : S → ℕ) (beside : S → B)
    (before now : S) (old new : PcapReaderView) (room : ℕ)
    (result : Result (Option Rec) PcapErr) : Type 0 where
  -- what it answers, where the source's bytes are known, and what it has come to then
  pub gives : (bytes rest : List ℕ) (rs : List Rec) → left before ≡ Some rest
      → HasRead old bytes rs rest → Gives bytes rs new (left now) result
  pub goes : OnOk result (IsGoing new.phase)
  pub stops : IfErr result (λ e. new.phase ≡ Stopped e)
  pub again : (e : PcapErr) → old.phase ≡ Stopped e
      → (result ≡ Err e) × (new ≡ old) × (now ≡ before)
  -- how much it took, by which a caller's loop ends, and that nothing is read after the limit
  pub count : Counts (left before) (left now) old.taken new.taken result
  pub takes : Takes old.phase old.taken new.taken result
  pub limit : KeepsLimit before now old new result
  -- when memory may be out, what the source's faults say, and what else of the source stays
  pub memory : result ≡ Err NoMemory → (room < MAX_BODY) ⊎ (old.phase ≡ Stopped NoMemory)
  pub cause : HasReadCause (faults before) (faults now) old.phase result
  pub rest : beside now ≡ beside before
