-- What a reader leaves of an input: nothing where it came to its whole end, and where the input is
-- refused what follows the bytes that this takes.
use Rattle.std.proofs.Common.{◌≡◌, ◌⊎◌, ℕ, ◌+◌, ◌-◌, ◌≤◌, List, [], ◌∷◌, length, drop, Option, Some, None, Err, true, false, refl, ap, subst, ◌∙◌, inl, inr, arith, length-append, nat_le, nat_eq}
use Rattle.std.proofs.lemmas.Bool.Decides.{nat_tests}
use Rattle.std.proofs.lemmas.List.{drop-drop}
use Rattle.std.specs.Option.{option_map}
use Rattle.std.specs.Prelude.{if◌then◌else◌}
use Rattle.st_base.specs.Records.{Rec}
use Rattle.st_pcap.specs.declared.errors.PcapErr.{PcapErr}
use Rattle.st_pcap.specs.declared.errors.PcapErr.TheVariants.{TooMuch}
use Rattle.st_pcap.specs.declared.forms.Order.{Order}
use Rattle.st_pcap.specs.declared.forms.Unit as unit
use Rattle.st_pcap.specs.declared.numbers.TheConstants.{MAX_INPUT, FILE_HEAD_SIZE, RECORD_HEAD_SIZE}
use Rattle.st_pcap.specs.declared.reader.Phase.{Phase}
use Rattle.st_pcap.specs.declared.reader.Phase.TheVariants.{Fresh, Open, Stopped}
use Rattle.st_pcap.specs.Heads.{refusal_of_record}
use Rattle.st_pcap.specs.Input.{Input, Whole, Refused, end_at}
use Rattle.st_pcap.specs.Reading.{HasReadIn, IsGoing}
use Rattle.st_pcap.specs.Taking.{Took, Takes, RefusesHead, RefusesRecord}
use Rattle.st_pcap.proofs.Spellings as spellings
use Rattle.st_pcap.proofs.Spellings.{length-Records}
use Rattle.steno.specs.Gathering.{size_of}

no_refusal : (o : Option PcapErr) → option_map Refused o ≡ Some Whole → ⊥
no_refusal None e = let bad : None ≡ Some Whole = e in cc
no_refusal (Some cause) e = let bad : Some (Refused cause) ≡ Some Whole = e in cc

-- where the end is whole nothing is left
whole_is_empty : (order : Order) (u : unit.Unit) (before number : ℕ) (rest : List ℕ) → end_at order u before number rest ≡ Some Whole → length rest ≡ 0
whole_is_empty order u before number rest e =
    let other = option_map Refused (refusal_of_record order u number rest) in
    elim (nat_le MAX_INPUT before) as (λ b. (if b then Some (Refused (TooMuch before)) else (if nat_eq (length rest) 0 then Some Whole else other)) ≡ Some Whole → length rest ≡ 0) [
      | true ↦ λ f. let bad : Some (Refused (TooMuch before)) ≡ Some Whole = f in absurd cc
      | false ↦ λ f.
          elim (nat_eq (length rest) 0) as (λ c. nat_eq (length rest) 0 ≡ c → (if c then Some Whole else other) ≡ Some Whole → length rest ≡ 0) [
            | true ↦ λ h k. grind (arith, nat_tests, h)
            | false ↦ λ h k. absurd (no_refusal (refusal_of_record order u number rest) k)
          ] refl f
    ] e

none_left : (rest : List ℕ) → length rest ≡ 0 → rest ≡ []
none_left [] e = refl
none_left (x ∷ xs) e = absurd (omega (arith, e))

pub at_end : (phase : Phase) (taken number : ℕ) (bytes : List ℕ) (rs : List Rec) (rest : List ℕ)
    → IsGoing phase → HasReadIn phase taken number bytes rs rest → Input bytes rs Whole → rest ≡ []
at_end Fresh taken number bytes rs rest going stands input = absurd going
at_end (Stopped e) taken number bytes rs rest going stands input = absurd going
at_end (Open form) taken number bytes rs rest going stands (inl (e, refusal, none, end)) = let bad : Whole ≡ Refused e = end in absurd (cc)
at_end (Open form) taken number bytes rs rest going (head, text, whole, starts, records, begins, count, left) (inr (other, file, begin, ends)) =
    let mine = length-Records form.order form.unit text rs rest records in
    let yours = length-Records file.order file.unit file.text rs other file.records in
    let empty = whole_is_empty file.order file.unit (length bytes - length other) (length rs + 1) other ends in
    none_left rest (omega (arith, mine, yours, empty, ap length whole, length-append head text, starts.size, ap length file.whole, length-append file.head file.text, file.starts.size))

-- what is left after more was taken
dropped : (xs ys bytes : List ℕ) (before now : ℕ) → before ≤ now → xs ≡ drop before bytes → ys ≡ drop (now - before) xs → ys ≡ drop now bytes
dropped xs ys bytes before now later is gone =
    gone ∙ (ap (drop (now - before)) is ∙ (drop-drop (now - before) before bytes ∙ ap (λ n. drop n bytes) (omega arith)))

pub took_rest : (old new : Option (List ℕ)) (rest bytes : List ℕ) (before now : ℕ) → old ≡ Some rest → rest ≡ drop before bytes → before ≤ now → Took old new before now
    → new ≡ Some (drop now bytes)
took_rest None new rest bytes before now known is later took = let bad : None ≡ Some rest = known in cc
took_rest (Some xs) None rest bytes before now known is later took = absurd took
took_rest (Some xs) (Some ys) rest bytes before now known is later (counts, gone) =
    let same : xs ≡ rest = cc in ap Some (dropped xs ys bytes before now later (same ∙ is) gone)

pub some_same : (a b : List ℕ) → Some a ≡ Some b → a ≡ b
some_same a b e = cc

same_size : (rs : List Rec) → spellings.size_of rs ≡ size_of rs
same_size [] = refl
same_size (r ∷ rs) = ap (λ n. RECORD_HEAD_SIZE + length r.body + n) (same_size rs)

-- a refusal takes no more than it says, counted from the record that is refused
pub stops_at : (phase : Phase) (taken number now : ℕ) (bytes : List ℕ) (rs : List Rec) (rest : List ℕ) (e : PcapErr) → ((x : PcapErr) → phase ≡ Stopped x → ⊥)
    → HasReadIn phase taken number bytes rs rest → Takes phase taken now (Err e) → RefusesHead 0 now e ⊎ RefusesRecord (FILE_HEAD_SIZE + size_of rs) now e
stops_at Fresh taken number now bytes rs rest e going (none, same, zero, count) takes =
    let begin : taken + FILE_HEAD_SIZE ≡ FILE_HEAD_SIZE + size_of rs = omega (arith, zero, ap size_of none) in
    elim takes [
      | inl h ↦ inl (subst (λ n. RefusesHead n now e) zero h)
      | inr h ↦ inr (subst (λ n. RefusesRecord n now e) begin h)
    ]
stops_at (Open form) taken number now bytes rs rest e going (head, text, whole, starts, records, begins, count, left) takes =
    let long = length-Records form.order form.unit text rs rest records in
    let begin : taken ≡ FILE_HEAD_SIZE + size_of rs = omega (arith, long, same_size rs, left, ap length whole, length-append head text, starts.size) in
    inr (subst (λ n. RefusesRecord n now e) begin takes)
stops_at (Stopped x) taken number now bytes rs rest e going stands takes = absurd (going x refl)
