-- The summary of packets that a maker keeps, as contracts see it.
use Rattle.std.specs.Prelude.{◌≡◌, ◌⊎◌, ℕ, List, [], Option, Some, None}
use Rattle.st_block.specs.Scan.{PositionedRecord}
use Rattle.st_rows.specs.Rows.{SummaryView, IsSummary, Moment, IsUpTo}
use Rattle.st_index.specs.declared.summary.Summary.{Summary}

-- what the summary row says by it
abbrev pub summary_view : Summary → SummaryView
summary_view s = record { packets = s.packets; first = s.first; last = s.last }

-- how many packets it counts, none where there is none
abbrev pub packets_in : Option Summary → ℕ
packets_in None = 0
packets_in (Some s) = s.packets

-- it is the summary of these packets, and there is none where there are no packets
abbrev pub SummaryOf : List PositionedRecord → Option Summary → Type 0
SummaryOf given None = given ≡ []
SummaryOf given (Some s) = IsSummary given (summary_view s)

-- this one of two moments isn't after the other
abbrev pub IsEarlier : Moment → Moment → Moment → Type 0
IsEarlier t u one = ((one ≡ t) × IsUpTo t u) ⊎ ((one ≡ u) × IsUpTo u t)

-- this one of two moments isn't before the other
abbrev pub IsLater : Moment → Moment → Moment → Type 0
IsLater t u one = ((one ≡ t) × IsUpTo u t) ⊎ ((one ≡ u) × IsUpTo t u)
