-- The two heads of a pcap file, and what each is refused for. The libpcap savefile format, "File
-- Header" and "Packet Record".
use Rattle.std.specs.Prelude.{Option, ◌≡◌, ℕ, ◌+◌, ◌<◌, ◌≤◌, ◌%◌, ◌==◌, nat_lt, nat_le, ◌&&◌, if◌then◌else◌, List, length, take, None, Some}
use Rattle.std.specs.Option.{option_or}
use Rattle.byteorder.specs.Endian.{little_number}
use Rattle.st_base.specs.Records.{Rec}
use Rattle.st_pcap.specs.declared.errors.PcapErr.{PcapErr}
use Rattle.st_pcap.specs.declared.errors.PcapErr.TheVariants.{ReadFault, NoMemory, TooMuch, NotPcap, Version, LinkType, BadFraction, TooLong, Truncated}
use Rattle.st_pcap.specs.declared.forms.Order.{Order}
use Rattle.st_pcap.specs.declared.forms.Order.TheVariants.{Little, Big}
use Rattle.st_pcap.specs.declared.forms.Unit as unit
use Rattle.st_pcap.specs.declared.forms.Unit.TheVariants.{Micro, Nano}
use Rattle.st_pcap.specs.declared.numbers.TheConstants.{NUMBER_SIZE, FILE_HEAD_SIZE, MAJOR_AT, MINOR_AT, LINK_AT, MAJOR, MINOR, LINK_LIMIT, ETHERNET, RECORD_HEAD_SIZE, SEC_AT, FRACTION_AT, CAPTURED_AT, ORIG_AT, MAX_BODY}
use Rattle.st_pcap.specs.Forms.{short_at, number_at, magic, fractions, nanoseconds}

-- these bytes are the head of a file of this form: of version 2.4, over Ethernet
pub record IsFileHead (order : Order) (u : unit.Unit) (head : List ℕ) : Type 0 where
  pub size : length head ≡ FILE_HEAD_SIZE
  pub magic : little_number NUMBER_SIZE head ≡ magic order u
  pub major : short_at order MAJOR_AT head ≡ MAJOR
  pub minor : short_at order MINOR_AT head ≡ MINOR
  pub link : number_at order LINK_AT head % LINK_LIMIT ≡ ETHERNET

-- these bytes are the head of the record
pub record IsRecordHead (order : Order) (u : unit.Unit) (head : List ℕ) (r : Rec) : Type 0 where
  pub size : length head ≡ RECORD_HEAD_SIZE
  pub sec : number_at order SEC_AT head ≡ r.sec
  pub fraction : number_at order FRACTION_AT head < fractions u
  pub nsec : nanoseconds u (number_at order FRACTION_AT head) ≡ r.nsec
  pub captured : number_at order CAPTURED_AT head ≡ length r.body
  pub short : length r.body ≤ MAX_BODY
  pub orig : number_at order ORIG_AT head ≡ r.orig

-- the link type is refused unless it is Ethernet
abbrev pub refusal_of_link : ℕ → Option PcapErr
refusal_of_link link = if link == ETHERNET then None else Some (LinkType link)

-- the version is refused unless it is 2.4; only then the link type is looked at
abbrev pub refusal_of_version : Order → List ℕ → Option PcapErr
refusal_of_version order head =
    if (short_at order MAJOR_AT head == MAJOR) && (short_at order MINOR_AT head == MINOR)
    then refusal_of_link (number_at order LINK_AT head % LINK_LIMIT)
    else Some (Version (short_at order MAJOR_AT head) (short_at order MINOR_AT head))

-- a head of fewer than 24 bytes is refused; only then the version is looked at
abbrev pub refusal_of_rest : Order → List ℕ → Option PcapErr
refusal_of_rest order head =
    if nat_lt (length head) FILE_HEAD_SIZE then Some (Truncated 0 (length head) FILE_HEAD_SIZE)
    else refusal_of_version order head

-- the first four bytes are refused unless they are the magic of a form; only then the rest is
-- looked at, in its order
abbrev pub refusal_of_magic : ℕ → List ℕ → Option PcapErr
refusal_of_magic found head =
    if found == magic Little Micro then refusal_of_rest Little head
    else if found == magic Big Micro then refusal_of_rest Big head
    else if found == magic Little Nano then refusal_of_rest Little head
    else if found == magic Big Nano then refusal_of_rest Big head
    else Some (NotPcap found)

-- Why the first 24 bytes of an input, or as many as it has, are no file head; None where they are
-- one. Fewer than four bytes are refused; only then the magic is looked at.
abbrev pub refusal_of_file : List ℕ → Option PcapErr
refusal_of_file head =
    if nat_lt (length head) NUMBER_SIZE then Some (Truncated 0 (length head) FILE_HEAD_SIZE)
    else refusal_of_magic (little_number NUMBER_SIZE head) head

-- the captured length is refused if it is above the longest body
abbrev pub refusal_of_captured : ℕ → ℕ → Option PcapErr
refusal_of_captured number captured =
    if nat_lt MAX_BODY captured then Some (TooLong number captured) else None

-- the fraction is refused if it is a second or more; only then the captured length is looked at
abbrev pub refusal_of_fields : Order → unit.Unit → ℕ → List ℕ → Option PcapErr
refusal_of_fields order u number head =
    if nat_le (fractions u) (number_at order FRACTION_AT head)
    then Some (BadFraction number (number_at order FRACTION_AT head))
    else refusal_of_captured number (number_at order CAPTURED_AT head)

-- a record of `want` bytes is cut where only `have` are there
abbrev pub refusal_of_size : ℕ → ℕ → ℕ → Option PcapErr
refusal_of_size number have want =
    if nat_lt have want then Some (Truncated number have want) else None

-- Why the bytes where record `number` would begin are no record; None where they begin
-- with one. First a head that is cut is refused, then what its fields say, then a body that is cut.
abbrev pub refusal_of_record : Order → unit.Unit → ℕ → List ℕ → Option PcapErr
refusal_of_record order u number rest =
    option_or (refusal_of_size number (length rest) RECORD_HEAD_SIZE)
    (option_or (refusal_of_fields order u number (take RECORD_HEAD_SIZE rest))
    (refusal_of_size number (length rest)
    (RECORD_HEAD_SIZE + number_at order CAPTURED_AT (take RECORD_HEAD_SIZE rest))))

-- the causes that a file head is refused for, which name no record
abbrev pub IsOfFileHead : PcapErr → Type 0
IsOfFileHead (NotPcap found) = Unit {0}
IsOfFileHead (Version major minor) = Unit {0}
IsOfFileHead (LinkType found) = Unit {0}
IsOfFileHead (Truncated number have want) = number ≡ 0
IsOfFileHead ReadFault = ⊥
IsOfFileHead (BadFraction number found) = ⊥
IsOfFileHead (TooLong number len) = ⊥
IsOfFileHead (TooMuch taken) = ⊥
IsOfFileHead NoMemory = ⊥
