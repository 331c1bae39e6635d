use Rattle.std.proofs.Common.{◌≡◌, sym, ◌∙◌, rules}
use Rattle.st_block.specs.Checks.{is_block_size}
use Rattle.st_block.proofs.Starting.{sized}
use Rattle.st_block.proofs.Unhurt.{is_size}
use Rattle.st_block.proofs.sizes.is_block_size.Goals as goal

pub returns-clause-exact : goal.returns-clause-exact
returns-clause-exact c =
    let test : c.contains.result ≡ is_block_size c.args.size = search rules in
    (λ h. sized c.args.size (sym test ∙ h), λ h. test ∙ is_size c.args.size h)
