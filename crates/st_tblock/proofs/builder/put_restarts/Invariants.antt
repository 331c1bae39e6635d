use Rattle.std.proofs.Common.{◌≡◌, ◌≤◌, ◌++◌, length, take, drop}
use Rattle.st_tblock.specs.Builder.{restarts_text}
use Rattle.st_tblock.proofs.builder.put_restarts.Given as goal

abbrev pub invariant-restarts : goal.invariant-restarts
invariant-restarts l = record {
  longer : length l.fn.text.items ≤ length l.text.items;
  kept : take (length l.fn.text.items) l.text.items ≡ l.fn.text.items;
  text : l.text.items ++ restarts_text (drop l.restart-index l.restarts) ≡ l.fn.text.items ++ restarts_text l.restarts;
}
