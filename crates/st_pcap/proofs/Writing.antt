-- Laws of putting one text after another, and of how long the text of a record is.
use Rattle.std.proofs.Common.{Option, List, ℕ, ◌≡◌, ◌+◌, ◌++◌, length, Result, Ok, Err, refl, ap, ◌∙◌, length-append}
use Rattle.std.specs.Io.KnownBytes.{Appends}
use Rattle.std.proofs.KnownBytes.{Appends-trans}
use Rattle.st_base.specs.Records.{Rec}
use Rattle.st_base.specs.Pieces.{Puts}
use Rattle.st_base.proofs.Putting.{prefix-then}
use Rattle.st_pcap.specs.declared.forms.Unit as unit
use Rattle.st_pcap.specs.declared.numbers.TheConstants.{RECORD_HEAD_SIZE}
use Rattle.st_pcap.specs.Text.{record_head, record_text}

-- one text was put, and then another as the result says
pub puts_then : {T E : Type 0} (a b c : Option (List ℕ)) (xs ys : List ℕ) (result : Result T E) → Appends a b xs → Puts b c ys result → Puts a c (xs ++ ys) result
puts_then a b c xs ys (Ok x) first next = Appends-trans a b c xs ys first next
puts_then a b c xs ys (Err e) first next = prefix-then a b c xs ys first next

-- the head before a body has always the same size
pub length-record_head : (u : unit.Unit) (r : Rec) → length (record_head u r) ≡ RECORD_HEAD_SIZE
unfolding record_head
length-record_head u r = refl

-- a record's text is longer than its body by that size
pub length-record_text : (u : unit.Unit) (r : Rec) → length (record_text u r) ≡ RECORD_HEAD_SIZE + length r.body
length-record_text u r = length-append (record_head u r) r.body ∙ ap (λ n. n + length r.body) (length-record_head u r)
