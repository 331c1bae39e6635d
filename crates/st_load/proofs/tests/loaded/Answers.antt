use Rattle.std.proofs.Common.{refl, arith}
use Rattle.st_load.proofs.tests.loaded.Goals as goal

pub load-end-requires-clause-layout : goal.load-end-requires-clause-layout
load-end-requires-clause-layout c = (record { power = 12; is = refl; least = omega arith; most = omega arith }, omega arith, omega arith)
