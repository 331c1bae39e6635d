-- Laws of how many bytes are taken.
use Rattle.std.proofs.Common.{Option, ◌≡◌, ℕ, ◌+◌, ◌-◌, ◌≤◌, List, length, take, drop, None, Some, Result, Ok, Err, refl, sym, ap, ◌∙◌, subst, inl, inr, arith, length-append, length-take-le}
use Rattle.std.proofs.lemmas.List.{drop_at, drop-drop}
use Rattle.std.specs.Io.KnownBytes.{Consumes}
use Rattle.st_base.specs.Records.{Rec}
use Rattle.st_pcap.specs.declared.errors.PcapErr.{PcapErr}
use Rattle.st_pcap.specs.declared.errors.PcapErr.TheVariants.{ReadFault, NotPcap, Version, LinkType, BadFraction, TooLong, Truncated, TooMuch, NoMemory}
use Rattle.st_pcap.specs.declared.forms.Form.{Form}
use Rattle.st_pcap.specs.declared.reader.Phase.{Phase}
use Rattle.st_pcap.specs.declared.reader.Phase.TheVariants.{Fresh, Open, Stopped}
use Rattle.st_pcap.specs.Taking.{Took, RefusesHead, RefusesRecord, TakesRecord, Takes, TakesHead}

-- as many bytes of a buffer came as the count rose by
pub took : (before now : Option (List ℕ)) (old new n : ℕ) (out : List ℕ) → n ≤ length out → new ≡ old + n → Consumes before now (take n out) → Took before now old new
took None now old new n out within rose came = tt
took (Some xs) None old new n out within rose came = absurd came
took (Some xs) (Some ys) old new n out within rose came =
    let size = length-take-le n out within in
    let long = ap length came ∙ length-append (take n out) ys in
    let by : n ≡ new - old = omega arith in
    (omega arith, sym (ap (drop (new - old)) came ∙ drop_at (take n out) ys (new - old) (size ∙ by)))

-- nothing was taken
pub took-none : (a : Option (List ℕ)) (n : ℕ) → Took a a n n
took-none None n = tt
took-none (Some xs) n = (refl, let none : n - n ≡ 0 = omega arith in sym (ap (λ k. drop k xs) none))

-- what two takes take together
pub took-then : (a b c : Option (List ℕ)) (x y z : ℕ) → x ≤ y → y ≤ z → Took a b x y → Took b c y z → Took a c x z
took-then None b c x y z up on first next = tt
took-then (Some xs) None c x y z up on first next = absurd first
took-then (Some xs) (Some ys) None x y z up on first next = absurd next
took-then (Some xs) (Some ys) (Some zs) x y z up on (size, first) (more, next) =
    let by : (y - x) + (z - y) ≡ z - x = omega arith in
    (omega arith, next ∙ ap (drop (z - y)) first ∙ drop-drop (z - y) (y - x) xs ∙ ap (λ k. drop k xs) by)

-- a head that is refused takes as much wherever it begins
pub head_moved : (before now n : ℕ) (e : PcapErr) → now ≡ before + n → RefusesHead 0 n e → RefusesHead before now e
head_moved before now n ReadFault rose h = omega arith
head_moved before now n (NotPcap found) rose h = omega arith
head_moved before now n (Version major minor) rose h = omega arith
head_moved before now n (LinkType found) rose h = omega arith
head_moved before now n (Truncated number have want) rose (none, came) = (none, omega arith)
head_moved before now n (BadFraction number found) rose h = absurd h
head_moved before now n (TooLong number len) rose h = absurd h
head_moved before now n (TooMuch taken) rose h = absurd h
head_moved before now n NoMemory rose h = absurd h

-- a record that is refused does too
pub record_moved : (begin now n : ℕ) (e : PcapErr) → now ≡ begin + n → RefusesRecord 0 n e → RefusesRecord begin now e
record_moved begin now n ReadFault rose h = omega arith
record_moved begin now n (BadFraction number found) rose h = omega arith
record_moved begin now n (TooLong number len) rose h = omega arith
record_moved begin now n NoMemory rose h = omega arith
record_moved begin now n (Truncated number have want) rose (counted, came) = (counted, omega arith)
record_moved begin now n (TooMuch taken) rose h = omega arith
record_moved begin now n (NotPcap found) rose h = absurd h
record_moved begin now n (Version major minor) rose h = absurd h
record_moved begin now n (LinkType found) rose h = absurd h

-- an opening, and then a record or what is there in its place
pub takes_on : (phase : Phase) (before mid now : ℕ) (form : Form) (result : Result (Option Rec) PcapErr) → TakesHead phase before mid (Ok form) → TakesRecord mid now result → Takes phase before now result
takes_on Fresh before mid now form (Ok o) head next = subst (λ n. TakesRecord n now (Ok o)) head next
takes_on Fresh before mid now form (Err e) head next = inr (subst (λ n. RefusesRecord n now e) head next)
takes_on (Open known) before mid now form result head next = subst (λ n. TakesRecord n now result) head next
takes_on (Stopped e) before mid now form result head next = absurd head

-- an opening that refuses, and nothing more
pub takes_no_more : (phase : Phase) (before now : ℕ) (e : PcapErr) → TakesHead phase before now (Err e) → Takes phase before now (Err e)
takes_no_more Fresh before now e head = inl head
takes_no_more (Open form) before now e head = absurd head
takes_no_more (Stopped cause) before now e head = head
