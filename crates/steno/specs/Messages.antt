-- The lines that say why a run is not done. Each ends with a line feed.
use Rattle.std.specs.Prelude.{ℕ, ◌/◌, ◌%◌, false, List, [], ◌∷◌, ◌++◌, codes, Option, Some, None, String, string_bytes}
use Rattle.std.specs.Global.{Global}
use Rattle.std.specs.Fmt.{decimal, digit_glyph}
use Rattle.st_base.specs.declared.damages.Damage.{Damage}
use Rattle.st_pcap.specs.declared.errors.PcapErr.{PcapErr}
use Rattle.st_pcap.specs.declared.errors.PcapErr.TheVariants as pcap
use Rattle.st_query.specs.declared.errors.QueryErr.{QueryErr}
use Rattle.st_query.specs.declared.errors.QueryErr.TheVariants as query
use Rattle.steno.specs.declared.report.Report.{Report}
use Rattle.steno.specs.declared.status.Status.{Status}
use Rattle.steno.specs.declared.status.Status.TheVariants.{Done, Usage, BadInput, BadQuery, ReadFault, WriteFault, DiskFault, Damaged, NoMemory, StampsSpent}

-- a line feed
abbrev pub end_line : List ℕ
end_line = 10 ∷ []

-- two hexadecimal digits in lower case
abbrev pub hex_byte : ℕ → List ℕ
hex_byte n = digit_glyph false (n / 16) ∷ (digit_glyph false (n % 16) ∷ [])

-- eight hexadecimal digits in lower case, the highest first
abbrev pub hex_word : ℕ → List ℕ
hex_word n =
    hex_byte (n / 16777216 % 256)
    ++ (hex_byte (n / 65536 % 256) ++ (hex_byte (n / 256 % 256) ++ hex_byte (n % 256)))

-- the line that a status always has; empty if it has none, or one for each cause
abbrev pub status_line : Status → List ℕ
status_line Done = []
status_line Usage = codes "steno: usage: steno COMMAND [ARGUMENTS] [OPTIONS]\n"
status_line BadInput = []
status_line BadQuery = []
status_line ReadFault = codes "steno: reading the input failed\n"
status_line WriteFault = codes "steno: writing the output failed\n"
status_line DiskFault = codes "steno: the spool failed\n"
status_line Damaged = []
status_line NoMemory = codes "steno: out of memory\n"
status_line StampsSpent = []

-- the line of a query that is refused: the kind of refusal and its place in the text
abbrev pub place_line : List ℕ → ℕ → List ℕ
place_line kind place =
    codes "steno: query: " ++ (kind ++ (codes " at " ++ (decimal place ++ end_line)))

-- the line that says why a query is refused
abbrev pub query_line : QueryErr → List ℕ
query_line (query.Syntax place) = place_line (codes "syntax") place
query_line (query.Number place) = place_line (codes "number") place
query_line (query.Address place) = place_line (codes "address") place
query_line (query.Time place) = place_line (codes "time") place
query_line (query.Deep place) = place_line (codes "depth") place
query_line (query.Long len) =
    codes "steno: query: " ++ (decimal len ++ codes " bytes are over 4096\n")
query_line query.NoMemory = status_line NoMemory

-- the line of a record that is refused: its number, and what is wrong with it
abbrev pub record_line : ℕ → List ℕ → List ℕ
record_line number what = codes "steno: record " ++ (decimal number ++ (codes ": " ++ what))

-- the line that says why an input is refused
abbrev pub input_line : PcapErr → List ℕ
input_line pcap.ReadFault = status_line ReadFault
input_line (pcap.NotPcap found) =
    codes "steno: input is not a pcap file, it begins with 0x" ++ (hex_word found ++ end_line)
input_line (pcap.Version major minor) =
    codes "steno: pcap version "
    ++ (decimal major ++ (codes "." ++ (decimal minor ++ codes " is not read\n")))
input_line (pcap.LinkType found) =
    codes "steno: link type " ++ (decimal found ++ codes " is not read\n")
input_line (pcap.BadFraction number found) =
    record_line number (codes "fraction " ++ (decimal found ++ codes " is out of range\n"))
input_line (pcap.TooLong number len) =
    record_line number (codes "captured length " ++ (decimal len ++ codes " is over 262144\n"))
input_line (pcap.Truncated number have want) =
    record_line number (decimal have ++ (codes " of " ++ (decimal want ++ codes " bytes\n")))
input_line (pcap.TooMuch taken) =
    codes "steno: input stopped after " ++ (decimal taken ++ codes " bytes\n")
input_line pcap.NoMemory = status_line NoMemory

-- the line of a record, by its number and captured length, that no block of this size takes
abbrev pub unfit_line : ℕ → ℕ → ℕ → List ℕ
unfit_line number len size =
    record_line number
    (codes "captured length "
    ++ (decimal len ++ (codes " does not fit a block of " ++ (decimal size ++ end_line))))

-- the line of a pair that is damaged: its stamp, and the place of the check that fails, what was
-- found and what was wanted
abbrev pub damaged_line : ℕ → Damage → List ℕ
damaged_line stamp d =
    codes "steno: pair "
    ++ (decimal stamp ++ (codes " is damaged at " ++ (decimal d.place ++ (codes ": "
    ++ (decimal d.found ++ (codes " for " ++ (decimal d.want ++ end_line)))))))

-- the line that says that no stamp is left after this one
abbrev pub spent_line : ℕ → List ℕ
spent_line last = codes "steno: no stamp follows " ++ (decimal last ++ end_line)

-- this text if there is one, and else the line that the status always has
abbrev pub made_line : Status → Option (String Global) → List ℕ
made_line status (Some text) = string_bytes text
made_line status None = status_line status

-- the line of a report
abbrev pub line_of : Report → List ℕ
line_of e = made_line e.status e.line
