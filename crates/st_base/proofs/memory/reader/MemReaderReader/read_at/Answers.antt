use Rattle.std.proofs.Common.{rules, refl}
use Rattle.st_base.proofs.memory.reader.MemReaderReader.read_at.Goals as goal

pub returns-then-is_listed-clause-exact : goal.returns-then-is_listed-clause-exact
returns-then-is_listed-clause-exact c = let listed = c.if-is_listed.ensures.0 refl in (search rules, search rules)
