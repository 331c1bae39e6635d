use Rattle.std.proofs.Common.{◌≡◌, ◌∙◌, option_map}
use Rattle.std.proofs.lemmas.Result.{IfOk-weaker}
use Rattle.st_tblock.specs.Lookup.{lookup}
use Rattle.st_table.proofs.rows.value_found.Goals as goal

pub returns-clause-value : goal.returns-clause-value
returns-clause-value c = λ rows good.
    IfOk-weaker c.copied.result (λ o. o ≡ option_map (λ v. v.now) c.find.result) (λ o. o ≡ lookup c.args.wanted.now rows)
    (λ o e. e ∙ c.find.ensures rows good) c.copied.ensures.ok
