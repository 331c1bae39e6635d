-- What a drill writes once all is done.
use Rattle.std.specs.Prelude.{ℕ, List, ◌++◌, codes}
use Rattle.std.specs.Fmt.{decimal}
use Rattle.st_query.specs.PrintedForm.{printed}
use Rattle.st_answer.specs.declared.errors.Told.{Told}
use Rattle.st_drill.specs.declared.summary.Answers.{Answers}
use Rattle.st_drill.specs.declared.queries.DrillQuery.{DrillQuery}
use Rattle.st_drill.specs.declared.queries.DrillQuery.TheVariants.{Dns, NearTcp, Early, Late}
use Rattle.st_drill.specs.Queries.{query_tree}

-- the numbers of one query's answer
abbrev pub told_of : Answers → DrillQuery → Told
told_of a Dns = a.dns
told_of a NearTcp = a.near_tcp
told_of a Early = a.early
told_of a Late = a.late

-- the line of a query: its printed form, the number of packets, and the number of bytes that these
-- are as a pcap
unfoldable pub query_line : DrillQuery → Told → List ℕ
query_line q told =
    printed (query_tree q) ++ (codes ": " ++ (decimal told.packets ++ (codes " packets "
    ++ (decimal told.bytes ++ codes " bytes"))))

-- two lines: how many packets were made, and how many pairs were published
unfoldable pub head_lines : ℕ → ℕ → List ℕ
head_lines packets pairs =
    codes "drill " ++ (decimal packets ++ (codes "\npairs " ++ (decimal pairs ++ codes "\n")))

-- the summary: how many packets were made, how many pairs were published, and a line for each
-- query; each line ends with a line feed
abbrev pub summary_text : ℕ → ℕ → Answers → List ℕ
summary_text packets pairs a =
    head_lines packets pairs
    ++ (query_line Dns a.dns ++ (codes "\n" ++ (query_line NearTcp a.near_tcp ++ (codes "\n"
    ++ (query_line Early a.early ++ (codes "\n" ++ (query_line Late a.late
    ++ codes "\n")))))))
