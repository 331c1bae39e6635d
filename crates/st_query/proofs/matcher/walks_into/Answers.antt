use Rattle.std.proofs.Common.{refl, rules, tests}
use Rattle.std.proofs.lemmas.Iterator.{cases_from_any}
use Rattle.std.proofs.lemmas.Iterator.Consumers.{YieldsList-from_first}
use Rattle.st_walk.specs.Listing.{keys_left}
use Rattle.st_walk.specs.declared.text.Key.{Key}
use Rattle.st_query.specs.Words.{network}
use Rattle.st_query.specs.Matcher.{KeyIsIn}
use Rattle.st_query.proofs.Matching.{found_by}
use Rattle.st_query.proofs.matcher.walks_into.Goals as goal

pub returns : goal.returns
returns c =
    let net = network c.args.net c.args.bits in
    let n = c.args.bits in
    found_by c.args.frame.now (λ (k : Key). KeyIsIn net n k) c.any.result (keys_left c.keys.result) c.keys.ensures.each
    (cases_from_any _ _ _ (λ (k : Key). KeyIsIn net n k) (λ (k : Key). KeyIsIn net n k → ⊥) c.any.ensures.ran
    (YieldsList-from_first (λ (k : Key). k) keys_left (keys_left c.keys.result) refl) (λ x q k. search (rules, tests)) (λ x q k. search (rules, tests)))
