use Rattle.std.proofs.Common.{◌≡◌, ◌≤◌}
use Rattle.pair_files.proofs.making.fill.Given as goal

abbrev pub invariant-packets : goal.invariant-packets
invariant-packets g l = (1 ≤ l.block.count) × (l.block.size ≡ l.fn.block.size)
