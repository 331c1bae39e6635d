use Rattle.st_drill.specs.declared.queries.DrillQuery.TheVariants.{Dns, NearTcp, Early, Late}
use Rattle.st_drill.proofs.Spelled.{text_printed}
use Rattle.st_drill.proofs.queries.DrillQuery.text.Goals as goal

pub returns-in-Dns : goal.returns-in-Dns
returns-in-Dns c = rw c.in-Dns.is (text_printed Dns)

pub returns-in-NearTcp : goal.returns-in-NearTcp
returns-in-NearTcp c = rw c.in-NearTcp.is (text_printed NearTcp)

pub returns-in-Early : goal.returns-in-Early
returns-in-Early c = rw c.in-Early.is (text_printed Early)

pub returns-in-Late : goal.returns-in-Late
returns-in-Late c = rw c.in-Late.is (text_printed Late)
