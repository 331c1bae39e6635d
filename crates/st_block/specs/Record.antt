-- What reading one record at its position gives.
use Rattle.std.specs.Prelude.{◌≡◌, ℕ, ◌+◌, ◌-◌, ◌≤◌, ◌⊎◌, min, Option, None, Some, Result, Ok, Err, List, length, take, drop, nat_lt, if◌then◌else◌}
use Rattle.std.specs.Option.{option_or}
use Rattle.std.specs.List.{slice_get}
use Rattle.byteorder.specs.Endian.{little_number}
use Rattle.st_base.specs.Records.{Rec, InRange}
use Rattle.st_base.specs.PlacedReads.{HasPart}
use Rattle.st_base.specs.Damages.{DamageView, damage_view}
use Rattle.st_block.specs.Fields.{not_same, above}
use Rattle.st_block.specs.BlockText.{HasBytes, HasFile, BlockText}
use Rattle.st_block.specs.Position.{PositionOf}
use Rattle.st_block.specs.declared.format.TheConstants.{MAX_NSEC, RECORD_HEAD, SEC_AT, NSEC_AT, LEN_AT, ORIG_AT, RECORD_STATUS_AT, BODY_AT, BODY_AGAIN_AT, RECORD_STATUS}
use Rattle.st_block.specs.declared.record.Head.{Head}
use Rattle.st_block.specs.declared.errors.HeadErr.{HeadErr}
use Rattle.st_block.specs.declared.errors.HeadErr.TheVariants as head_err
use Rattle.st_block.specs.declared.errors.BlockErr.{BlockErr}
use Rattle.st_block.specs.declared.errors.BlockErr.TheVariants as block_err

-- the damage at this position, unless a head there lies in a file of this size
abbrev pub head_outside : ℕ → ℕ → Option DamageView
head_outside size position =
    if nat_lt size (position + RECORD_HEAD)
    then Some (record { place = position; found = size; want = position + RECORD_HEAD })
    else None

-- the damage at the captured length of that head, unless the body lies in the file, too
abbrev pub body_outside : ℕ → ℕ → ℕ → Option DamageView
body_outside size position len = above (position + LEN_AT) len (size - position - RECORD_HEAD)

-- the first damage, unless both lie in the file
abbrev pub record_outside : ℕ → ℕ → ℕ → Option DamageView
record_outside size position len =
    option_or (head_outside size position) (body_outside size position len)

-- the first damage in the bytes of a head: its status, the two offsets of its body, its
-- nanoseconds, and then its captured length
abbrev pub head_wrong : ℕ → ℕ → List ℕ → Option DamageView
head_wrong size position head =
    option_or (not_same (position + RECORD_STATUS_AT)
    (little_number 4 (drop RECORD_STATUS_AT head)) RECORD_STATUS)
    (option_or (not_same (position + BODY_AT) (little_number 2 (drop BODY_AT head)) RECORD_HEAD)
    (option_or (not_same (position + BODY_AGAIN_AT)
    (little_number 2 (drop BODY_AGAIN_AT head)) RECORD_HEAD)
    (option_or (above (position + NSEC_AT) (little_number 4 (drop NSEC_AT head)) MAX_NSEC)
    (body_outside size position (little_number 4 (drop LEN_AT head))))))

-- the head has these numbers
pub record IsHead (bytes : List ℕ) (h : Head) : Type 0 where
  pub sec : little_number 4 (drop SEC_AT bytes) ≡ h.sec
  pub nsec : little_number 4 (drop NSEC_AT bytes) ≡ h.nsec
  pub len : little_number 4 (drop LEN_AT bytes) ≡ h.len
  pub orig : little_number 4 (drop ORIG_AT bytes) ≡ h.orig

-- these are the 48 bytes at the position of a file, which lie in it
abbrev pub IsHeadAt : Option (List ℕ) → ℕ → ℕ → List ℕ → Type 0
IsHeadAt content size position head =
    (position + RECORD_HEAD ≤ size) × (length head ≡ RECORD_HEAD) × HasPart content position head

-- the head there, or the first damage; a fault comes only if the head lies in the file
abbrev pub GivesHead : Option (List ℕ) → ℕ → ℕ → Result Head HeadErr → Type 0
GivesHead content size position (Ok h) =
    (head : List ℕ) × IsHeadAt content size position head
    × (head_wrong size position head ≡ None) × IsHead head h
GivesHead content size position (Err (head_err.Damaged d)) =
    (head_outside size position ≡ Some (damage_view d))
    ⊎ ((head : List ℕ) × IsHeadAt content size position head
    × (head_wrong size position head ≡ Some (damage_view d)))
GivesHead content size position (Err head_err.ReadFault) = position + RECORD_HEAD ≤ size

-- the body there, or the first damage; a fault comes only if the body lies in the file and has a
-- byte, and `NoMemory` only if it lies there
abbrev pub GivesBody : Option (List ℕ) → ℕ → ℕ → ℕ → Result (List ℕ) BlockErr → Type 0
GivesBody content size position len (Ok body) =
    (position + RECORD_HEAD + len ≤ size) × (length body ≡ len)
    × HasPart content (position + RECORD_HEAD) body
GivesBody content size position len (Err (block_err.Damaged d)) =
    record_outside size position len ≡ Some (damage_view d)
GivesBody content size position len (Err block_err.ReadFault) =
    (position + RECORD_HEAD + len ≤ size) × (1 ≤ len)
GivesBody content size position len (Err block_err.NoMemory) = position + RECORD_HEAD + len ≤ size

-- how many reads a head takes: one, if it lies in the file
abbrev pub head_reads : ℕ → ℕ → ℕ
head_reads size position = if nat_lt size (position + RECORD_HEAD) then 0 else 1

-- how many reads a body of this length took: one, if it has a byte and the call came to read it
abbrev pub body_reads : ℕ → Result (List ℕ) BlockErr → ℕ
body_reads len (Ok body) = min len 1
body_reads len (Err (block_err.Damaged d)) = 0
body_reads len (Err block_err.ReadFault) = 1
body_reads len (Err block_err.NoMemory) = 0

-- this record is at this position of a file with this content
pub record IsRecordAt (content : Option (List ℕ)) (position : ℕ) (r : Rec) : Type 0 where
  pub size : ℕ
  pub records : List Rec
  pub whole : HasFile size records
  pub known : content ≡ Some (BlockText size records)
  pub number : ℕ
  pub item : slice_get records number ≡ Some r
  pub at : position ≡ PositionOf size records number

-- the head is that of the record, and nothing is damaged
abbrev pub GivesHeadOf : Rec → Result Head HeadErr → Type 0
GivesHeadOf r (Ok h) =
    (h.sec ≡ r.sec) × (h.nsec ≡ r.nsec) × (h.len ≡ length r.body) × (h.orig ≡ r.orig)
GivesHeadOf r (Err (head_err.Damaged d)) = ⊥
GivesHeadOf r (Err head_err.ReadFault) = Unit {0}

-- the body is that of the record, and nothing is damaged
abbrev pub GivesBodyOf : Rec → Result (List ℕ) BlockErr → Type 0
GivesBodyOf r (Ok body) = body ≡ r.body
GivesBodyOf r (Err (block_err.Damaged d)) = ⊥
GivesBodyOf r (Err block_err.ReadFault) = Unit {0}
GivesBodyOf r (Err block_err.NoMemory) = Unit {0}

-- the head of a record, without its body
abbrev pub head_of : Rec → Head
head_of r = record { sec = r.sec; nsec = r.nsec; len = length r.body; orig = r.orig }

-- the head and the body of a record, which is in range and of bytes, lie at this position of some
-- bytes
pub record HasRecordAt (bytes : List ℕ) (position : ℕ) (r : Rec) : Type 0 where
  pub inside : position + RECORD_HEAD + length r.body ≤ length bytes
  pub range : InRange r
  pub of_bytes : HasBytes r
  pub head : IsHead (take RECORD_HEAD (drop position bytes)) (head_of r)
  pub body : take (length r.body) (drop (position + RECORD_HEAD) bytes) ≡ r.body
