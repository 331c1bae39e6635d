-- What `summary_row` reads in the value of the summary row.
use Rattle.std.specs.Prelude.{ℕ, ◌+◌, List, drop}
use Rattle.byteorder.specs.Endian.{big_number}
use Rattle.st_rows.specs.Rows.{SummaryView}
use Rattle.st_rows.specs.declared.format.TheConstants.{POSITION_SIZE}
use Rattle.st_eval.specs.declared.summary_row.TheConstants.{PACKETS_AT, FIRST_AT, LAST_AT}

-- the number at this offset
abbrev pub number_at : ℕ → List ℕ → ℕ
number_at at value = big_number POSITION_SIZE (drop at value)

-- the summary that a value says
abbrev pub summary_at : List ℕ → SummaryView
summary_at value =
    record {
      packets = number_at PACKETS_AT value;
      first = (number_at FIRST_AT value, number_at (FIRST_AT + POSITION_SIZE) value);
      last = (number_at LAST_AT value, number_at (LAST_AT + POSITION_SIZE) value);
    }
