use Rattle.std.proofs.Common.{◌≡◌, ℕ, ◌*◌, drop, refl, sym, ap, ◌∙◌, subst, arith}
use Rattle.byteorder.specs.Endian.{little_number}
use Rattle.st_tblock.specs.Block.{numbers_in}
use Rattle.st_tblock.specs.Search.{IsAmong}
use Rattle.st_tblock.proofs.Restarting.{number_among}
use Rattle.st_tblock.proofs.restarts.restart_at.Goals as goal

pub returns : goal.returns
returns c =
    let read : c.read_u32.result ≡ little_number 4 (drop (4 * c.args.number) c.args.restarts.now) =
    c.read_u32.ensures ∙ ap (little_number 4) c.split_at.ensures.back in
    subst (λ (n : ℕ). IsAmong n (numbers_in c.args.restarts.now)) (sym read) (number_among c.args.number (4 * c.args.number) c.args.restarts.now refl (omega arith))
