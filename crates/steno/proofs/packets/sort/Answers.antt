use Rattle.std.proofs.Common.{rules}
use Rattle.std.proofs.lemmas.List.Sorted.{answers_always}
use Rattle.steno.specs.declared.packets.Packet.{Packet}
use Rattle.steno.proofs.packets.sort.Goals as goal

pub returns-in-Ok-clause-sorted : goal.returns-in-Ok-clause-sorted
returns-in-Ok-clause-sorted c = c.in-Ok.ensures.sorted (λ (p : Packet). (p.sec, p.nsec)) (answers_always _ _ _ (λ f a r g k. search rules))

pub returns-in-Ok-clause-stable : goal.returns-in-Ok-clause-stable
returns-in-Ok-clause-stable c = c.in-Ok.ensures.stable (λ (p : Packet). (p.sec, p.nsec)) (answers_always _ _ _ (λ f a r g k. search rules))
