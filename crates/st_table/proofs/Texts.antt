-- Laws of putting one text after another, and of what a call's Ok gives.
use Rattle.std.proofs.Common.{Option, List, ℕ, ◌++◌, length, Result, Ok, Err, sym, subst, arith}
use Rattle.std.specs.Prelude.{OnOk}
use Rattle.std.proofs.lemmas.List.{take_all}
use Rattle.std.specs.Io.KnownBytes.{Appends}
use Rattle.std.proofs.KnownBytes.{Appends-trans}
use Rattle.st_base.specs.Pieces.{Puts, AppendsPrefix}
use Rattle.st_base.proofs.Putting.{prefix-then}

-- one text was put, and then another as the result says
pub puts_then : {T E : Type 0} (a b c : Option (List ℕ)) (xs ys : List ℕ) (result : Result T E) → Appends a b xs → Puts b c ys result → Puts a c (xs ++ ys) result
puts_then a b c xs ys (Ok x) first next = Appends-trans a b c xs ys first next
puts_then a b c xs ys (Err e) first next = prefix-then a b c xs ys first next

-- a text is a prefix of itself
pub whole_front : (a b : Option (List ℕ)) (xs : List ℕ) → Appends a b xs → AppendsPrefix a b xs
whole_front a b xs put = (length xs, subst (Appends a b) (sym (take_all (length xs) xs (omega arith))) put)

-- what follows from what an Ok gives
pub on_ok : {T E : Type 0} {P Q : Type 0} (result : Result T E) → (P → Q) → OnOk result P → OnOk result Q
on_ok (Ok x) f p = f p
on_ok (Err e) f p = tt

-- what follows from two things that an Ok gives
pub on_ok_both : {T E : Type 0} {P Q R : Type 0} (result : Result T E) → (P → Q → R) → OnOk result P → OnOk result Q → OnOk result R
on_ok_both (Ok x) f p q = f p q
on_ok_both (Err e) f p q = tt

-- what follows from three things that an Ok gives
pub on_ok_three : {T E : Type 0} {P Q R S : Type 0} (result : Result T E) → (P → Q → R → S) → OnOk result P → OnOk result Q → OnOk result R → OnOk result S
on_ok_three (Ok x) f p q r = f p q r
on_ok_three (Err e) f p q r = tt
