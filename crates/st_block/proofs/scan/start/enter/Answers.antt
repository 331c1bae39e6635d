use Rattle.std.proofs.Common.{ℕ, length, take, sym, ap, ◌∙◌, arith, ◌≡◌}
use Rattle.st_block.proofs.Starting.{enters, enters_short}
use Rattle.st_block.proofs.scan.start.enter.Goals as goal

pub returns-then-extent-clause-enters : goal.returns-then-extent-clause-enters
returns-then-extent-clause-enters g c = λ bytes known.
    let len = g.met.R.Reader.sized c.args.file.now bytes known ∙ sym c.size-extent.ensures in
    enters_short bytes c.size-extent.result len c.if-extent.true

pub returns-in-Ok-clause-enters : goal.returns-in-Ok-clause-enters
returns-in-Ok-clause-enters g c = λ bytes known.
    let len = g.met.R.Reader.sized c.args.file.now bytes known ∙ sym c.size-extent.ensures in
    let part = c.in-Ok.ensures.bytes bytes known in
    let eight : length c.read_whole.new.out ≡ 8 = omega arith in
    enters bytes c.read_whole.new.out c.size-extent.result c.start.result (part ∙ ap (λ (n : ℕ). take n bytes) eight) len c.start.ensures.starts
