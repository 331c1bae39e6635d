-- The lines of pairs, as text. Each ends with a line feed.
use Rattle.std.specs.Prelude.{ℕ, ◌/◌, ◌%◌, List, ◌++◌, codes}
use Rattle.std.specs.Fmt.{decimal}
use Rattle.st_rows.specs.Rows.{Moment, SummaryView}
use Rattle.st_index.specs.declared.checker.Part.{Part}
use Rattle.st_index.specs.declared.checker.Part.TheVariants.{Block, Index, Rows}
use Rattle.st_index.specs.declared.checker.Verdict.{Verdict}
use Rattle.st_index.specs.declared.checker.Verdict.TheVariants.{Whole, Differs}

-- the decimal digit of n at this power of ten
abbrev pub digit_text : ℕ → ℕ → List ℕ
digit_text unit n = decimal (n / unit % 10)

-- the last nine decimal digits of n, the highest first
abbrev pub nine_digits : ℕ → List ℕ
nine_digits n =
    digit_text 100000000 n ++ (digit_text 10000000 n ++ (digit_text 1000000 n
    ++ (digit_text 100000 n ++ (digit_text 10000 n ++ (digit_text 1000 n
    ++ (digit_text 100 n ++ (digit_text 10 n ++ digit_text 1 n)))))))

-- a time: its seconds, a point, and its nanoseconds in nine digits
abbrev pub time_text : Moment → List ℕ
time_text t = decimal t.0 ++ (codes "." ++ nine_digits t.1)

-- the line of a pair with this summary: its stamp, the number of its packets, the least and the
-- greatest time
abbrev pub summary_line : ℕ → SummaryView → List ℕ
summary_line stamp s =
    decimal stamp ++ (codes " " ++ (decimal s.packets ++ (codes " " ++ (time_text s.first
    ++ (codes " " ++ (time_text s.last ++ codes "\n"))))))

-- the name of a part of a pair
abbrev pub part_text : Part → List ℕ
part_text Block = codes "block"
part_text Index = codes "index"
part_text Rows = codes "rows"

-- the line of a pair with this verdict: its stamp, and that it is whole, with the number of its
-- packets; or the check that fails: the part that it is of, its place, what was found and wanted
abbrev pub verdict_line : ℕ → Verdict → List ℕ
verdict_line stamp (Whole packets) =
    decimal stamp ++ (codes " whole " ++ (decimal packets ++ codes "\n"))
verdict_line stamp (Differs part d) =
    decimal stamp ++ (codes " damaged " ++ (part_text part ++ (codes " " ++ (decimal d.place
    ++ (codes " " ++ (decimal d.found ++ (codes " " ++ (decimal d.want ++ codes "\n"))))))))
