use Rattle.std.proofs.Common.{◌≢◌, ap, sym, ◌∙◌, map, string_bytes}
use Rattle.std.proofs.lemmas.Result.{IfOk-weaker}
use Rattle.clap.specs.Words.{App, fault_of, matches_of, takes, is_simple, is_simple_and_free}
use Rattle.clap.specs.declared.error.kind.ErrorKind.TheVariants.{OutOfMemory}
use Rattle.st_plan.specs.Found.{IsNoLine}
use Rattle.st_plan.proofs.Finish.{found, line_taken, none_found}
use Rattle.st_plan.proofs.Texts.{all_text}
use Rattle.st_plan.proofs.command.matches_of.Goals as goal

pub returns-in-Ok-try_get_matches_from : goal.returns-in-Ok-try_get_matches_from
returns-in-Ok-try_get_matches_from c =
    let app = c.in-Ok.ensures in
    let words = map string_bytes c.args.words.now in
    let matches = c.in-Ok-try_get_matches_from.ensures.matches (ap is_simple app) in
    let kinds = c.in-Ok-try_get_matches_from.ensures.kinds (ap is_simple_and_free app) in
    found words _ (all_text c.args.words.now) (ap (λ (a : App). fault_of a words) (sym app) ∙ kinds) (matches.0 ∙ ap (λ (a : App). matches_of a words) app)

pub returns-in-Err-try_get_matches_from : goal.returns-in-Err-try_get_matches_from
returns-in-Err-try_get_matches_from c =
    let app = c.in-Ok.ensures in
    let words = map string_bytes c.args.words.now in
    let passes = c.in-Err-try_get_matches_from.ensures.passes in
    let no_line : c.kind.result ≢ OutOfMemory → IsNoLine words =
    λ other o gs line. other (c.kind.ensures ∙ passes (ap (λ (a : App). takes a words) app ∙ line_taken words o gs line)) in
    IfOk-weaker c.refused.result _ _ (λ r h. none_found r _ _ h.0 (no_line h.1)) c.refused.ensures
