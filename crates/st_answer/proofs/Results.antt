-- Results of calls.
use Rattle.std.proofs.Common.{Result, Ok, Err}
use Rattle.std.specs.Prelude.{OnOk}
use Rattle.st_answer.specs.declared.errors.AnswerErr.{AnswerErr}
use Rattle.st_answer.specs.Heads.{Unhurt}

-- what holds anyway holds after an Ok
pub on_ok : {T E : Type 0} (r : Result T E) (P : Type 0) → P → OnOk r P
on_ok (Ok t) P h = h
on_ok (Err e) P h = tt

-- what follows of the value
pub unhurt_map : {T : Type 0} (P Q : T → Type 0) (r : Result T AnswerErr) → ((t : T) → P t → Q t) → Unhurt P r → Unhurt Q r
unhurt_map P Q (Ok t) f h = f t h
unhurt_map P Q (Err e) f h = h
