-- The four queries that a drill asks.
use Rattle.std.specs.Prelude.{pos}
use Rattle.st_query.specs.declared.addrs.Addr.TheVariants.{V4}
use Rattle.st_query.specs.declared.nodes.When.TheVariants.{At}
use Rattle.st_query.specs.declared.nodes.Primitive.TheVariants as prim
use Rattle.st_query.specs.Trees.{Tree, both, one}
use Rattle.st_drill.specs.declared.numbers.TheConstants.{DNS_PORT, TCP, SOURCE_NET, NEAR_BITS, MIDDLE_SECOND}
use Rattle.st_drill.specs.declared.queries.DrillQuery.{DrillQuery}
use Rattle.st_drill.specs.declared.queries.DrillQuery.TheVariants.{Dns, NearTcp, Early, Late}

-- the query, as a tree
abbrev pub query_tree : DrillQuery → Tree
query_tree Dns = one (prim.Port DNS_PORT)
query_tree NearTcp = both (one (prim.Proto TCP)) (one (prim.Net (V4 SOURCE_NET) NEAR_BITS))
query_tree Early = one (prim.Before (At (pos MIDDLE_SECOND)))
query_tree Late = one (prim.After (At (pos MIDDLE_SECOND)))
