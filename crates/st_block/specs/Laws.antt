-- Laws of block files, which the functions of `laws` ensure.
use Rattle.std.specs.Prelude.{◌≡◌, ℕ, ◌*◌, ◌^◌, ◌<◌, List, ◌++◌, length, All, Some, None}
use Rattle.std.specs.List.{slice_get}
use Rattle.st_base.specs.Records.{Rec, InRange}
use Rattle.st_block.specs.BlockText.{blocks, BlockText, HasFile}
use Rattle.st_block.specs.Position.{PositionOf}
use Rattle.st_block.specs.Builder.{BlockBuilderView, HoldsRecords}
use Rattle.st_block.specs.Record.{IsRecordAt, HasRecordAt}
use Rattle.st_block.specs.Checks.{file_wrong}
use Rattle.st_block.specs.Scan.{PositionedRecord, IsFile}

-- a file has as many bytes as its blocks have
abbrev pub FileLength : Type 0
FileLength =
    (size : ℕ) (rs : List Rec) → HasFile size rs
    → length (BlockText size rs) ≡ size * length (blocks size rs)

-- positions strictly rise
abbrev pub PositionsRise : Type 0
PositionsRise =
    (size i j : ℕ) (rs : List Rec) → HasFile size rs → i < j → j < length rs
    → PositionOf size rs i < PositionOf size rs j

-- a position fits four bytes
abbrev pub PositionsFit : Type 0
PositionsFit =
    (size i : ℕ) (rs : List Rec) → HasFile size rs → i < length rs → PositionOf size rs i < 2 ^ 32

-- a record's position stays where more records follow
abbrev pub PositionsStay : Type 0
PositionsStay =
    (size i : ℕ) (rs more : List Rec) → i < length rs
    → PositionOf size (rs ++ more) i ≡ PositionOf size rs i

-- the bytes of a file are those of one block size and one list of records only
abbrev pub OneFile : Type 0
OneFile =
    (size other : ℕ) (rs qs : List Rec) → HasFile size rs → HasFile other qs
    → BlockText size rs ≡ BlockText other qs → (size ≡ other) × (rs ≡ qs)

-- no check fails of a file that is the text of records
abbrev pub FileUnhurt : Type 0
FileUnhurt =
    (bytes : List ℕ) (given : List PositionedRecord) → IsFile bytes given
    → file_wrong bytes ≡ None

-- the bytes of a file are the text of one list of records only, at one list of positions
abbrev pub OneGiven : Type 0
OneGiven =
    (bytes : List ℕ) (xs ys : List PositionedRecord) → IsFile bytes xs → IsFile bytes ys → xs ≡ ys

-- a scan that gives all records of a file gives each at its position
abbrev pub GivenRecords : Type 0
GivenRecords =
    (bytes : List ℕ) (given : List PositionedRecord) (i : ℕ) (x : PositionedRecord)
    → IsFile bytes given → slice_get given i ≡ Some x → IsRecordAt (Some bytes) x.0 x.1

-- the head and the body of a record lie at its position of its file
abbrev pub RecordBytes : Type 0
RecordBytes =
    (bytes : List ℕ) (position : ℕ) (r : Rec) → IsRecordAt (Some bytes) position r
    → HasRecordAt bytes position r

-- a builder holds one list of records in range only
abbrev pub OneBlock : Type 0
OneBlock =
    (view : BlockBuilderView) (rs qs : List Rec) → HoldsRecords view rs → HoldsRecords view qs
    → All InRange rs → All InRange qs → rs ≡ qs
