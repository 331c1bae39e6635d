use Rattle.std.proofs.Common.{MatchOption, map, string_bytes, subst, take}
use Rattle.clap.specs.Words.{found_of}
use Rattle.st_plan.specs.Found.{IsTaken, IsNoLine}
use Rattle.st_plan.proofs.Standing.{count_taken, count_none, front_words}
use Rattle.st_plan.proofs.places.has_operands.Goals as goal

pub returns-in-Ok-Some : goal.returns-in-Ok-Some
returns-in-Ok-Some c =
    let front = map string_bytes (take c.args.len c.args.words.now) in
    let taken = subst (λ found. MatchOption found (IsNoLine front) (λ m. IsTaken front (found_of m))) c.in-Ok-Some.field-0-is c.in-Ok-Some.ensures in
    count_taken (take c.args.len (map string_bytes c.args.words.now)) front (found_of c.in-Ok-Some.matches) c.operand_count.result c.args.count
    (front_words c.args.len c.args.words.now) taken c.operand_count.ensures

pub returns-in-Ok-None : goal.returns-in-Ok-None
returns-in-Ok-None c =
    let front = map string_bytes (take c.args.len c.args.words.now) in
    let none = subst (λ found. MatchOption found (IsNoLine front) (λ m. IsTaken front (found_of m))) c.in-Ok-None.field-0-is c.in-Ok-None.ensures in
    count_none (take c.args.len (map string_bytes c.args.words.now)) front c.args.count (front_words c.args.len c.args.words.now) none
