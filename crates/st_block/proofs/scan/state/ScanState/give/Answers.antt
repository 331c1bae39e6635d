use Rattle.std.proofs.Common.{ℕ, List, drop, ◌+◌, ◌-◌, ◌*◌, ◌/◌, ◌≤◌, ap, sym, subst, ◌∙◌}
use Rattle.st_block.specs.Checks.{captured_length, record_at}
use Rattle.st_block.specs.ScanView.{ScanView, reached_offset}
use Rattle.st_block.proofs.Sound.{sound_passed, follows}
use Rattle.st_block.proofs.scan.state.ScanState.give.Goals as goal

pub invariant_of-self : goal.invariant_of-self
invariant_of-self c =
    let bytes = c.split_at.ensures.back ∙ ap (λ (l : List ℕ). drop c.self.inside.at l) c.bytes_in.ensures in
    let room = c.room_of-room.ensures ∙ ap (λ (n : ℕ). 48 + (n + 15) / 16 * 16) (c.captured_at.ensures ∙ ap captured_length bytes) in
    let left = subst (λ (p : ScanView). 1 ≤ p.left) (sym c.self.view_is) c.requires in
    sound_passed _ c.room_of-room.result c.self.invariant left room

pub returns-in-Ok-clause-follows : goal.returns-in-Ok-clause-follows
returns-in-Ok-clause-follows c =
    let bytes = c.split_at.ensures.back ∙ ap (λ (l : List ℕ). drop c.self.inside.at l) c.bytes_in.ensures in
    let room = c.room_of-room.ensures ∙ ap (λ (n : ℕ). 48 + (n + 15) / 16 * 16) (c.captured_at.ensures ∙ ap captured_length bytes) in
    let left = subst (λ (p : ScanView). 1 ≤ p.left) (sym c.self.view_is) c.requires in
    let packet = c.in-Ok.ensures ∙ ap record_at bytes in
    let there = follows _ c.in-Ok.packet c.room_of-room.result c.self.invariant left packet room in
    (subst (λ (p : ScanView). reached_offset p ≤ c.self.inside.size * (c.self.inside.done - 1) + c.self.inside.at) c.self.view_is there.0, there.1, there.2, there.3)
