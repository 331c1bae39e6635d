-- Which causes are those of a file head.
use Rattle.std.proofs.Common.{Option, ◌≡◌, ℕ, ◌+◌, ◌-◌, ◌↔◌, List, length, take, None, Some, refl, sym, ap, ◌∙◌, subst, inl, inr, arith}
use Rattle.std.specs.Prelude.{Bool, true, false, ◌&&◌, ◌%◌, if◌then◌else◌, nat_le, nat_lt, nat_eq}
use Rattle.std.specs.Option.{option_map, option_or}
use Rattle.st_base.specs.Records.{Rec}
use Rattle.st_pcap.specs.declared.errors.PcapErr.{PcapErr}
use Rattle.st_pcap.specs.declared.errors.PcapErr.TheVariants.{NotPcap, Version, LinkType, BadFraction, TooLong, Truncated, TooMuch}
use Rattle.st_pcap.specs.declared.forms.Order.{Order}
use Rattle.st_pcap.specs.declared.forms.Order.TheVariants.{Little, Big}
use Rattle.st_pcap.specs.declared.forms.Unit as unit
use Rattle.st_pcap.specs.declared.forms.Unit.TheVariants.{Micro, Nano}
use Rattle.byteorder.specs.Endian.{little_number}
use Rattle.st_pcap.specs.declared.numbers.TheConstants.{NUMBER_SIZE, FILE_HEAD_SIZE, MAJOR_AT, MINOR_AT, LINK_AT, MAJOR, MINOR, LINK_LIMIT, ETHERNET, RECORD_HEAD_SIZE, FRACTION_AT, CAPTURED_AT, MAX_BODY, MAX_INPUT}
use Rattle.st_pcap.specs.Forms.{short_at, number_at, fractions, magic}
use Rattle.st_pcap.specs.Heads.{IsOfFileHead, refusal_of_captured, refusal_of_fields, refusal_of_file, refusal_of_link, refusal_of_magic, refusal_of_record, refusal_of_rest, refusal_of_size, refusal_of_version}
use Rattle.st_pcap.specs.Input.{End, Whole, Refused, Input, end_at}
use Rattle.st_pcap.proofs.Uniqueness.{pcap_accepted}

-- a refusal, where there is one, is of the file head, or is not
abbrev IsOfHead : Option PcapErr → Type 0
IsOfHead None = Unit {0}
IsOfHead (Some e) = IsOfFileHead e

abbrev IsNotOfHead : Option PcapErr → Type 0
IsNotOfHead None = Unit {0}
IsNotOfHead (Some e) = IsOfFileHead e → ⊥

abbrev EndsApart : Option End → Type 0
EndsApart None = Unit {0}
EndsApart (Some Whole) = Unit {0}
EndsApart (Some (Refused e)) = IsOfFileHead e → ⊥

-- a fact of both branches is a fact of the choice
chosen : {X : Type 0} (P : X → Type 0) (b : Bool) (x y : X) → P x → P y → P (if b then x else y)
chosen P true x y p q = p
chosen P false x y p q = q

link_of_head : (link : ℕ) → IsOfHead (refusal_of_link link)
link_of_head link = chosen IsOfHead (nat_eq link ETHERNET) None (Some (LinkType link)) tt tt

rest_of_head : (order : Order) (head : List ℕ) → IsOfHead (refusal_of_rest order head)
rest_of_head order head =
    chosen IsOfHead (nat_lt (length head) FILE_HEAD_SIZE) (Some (Truncated 0 (length head) FILE_HEAD_SIZE)) (refusal_of_version order head) refl
    (chosen IsOfHead (nat_eq (short_at order MAJOR_AT head) MAJOR && nat_eq (short_at order MINOR_AT head) MINOR) (refusal_of_link (number_at order LINK_AT head % LINK_LIMIT)) (Some (Version (short_at order MAJOR_AT head) (short_at order MINOR_AT head)))
    (link_of_head (number_at order LINK_AT head % LINK_LIMIT)) tt)

-- the tails of the chains of tests
abbrev others_last : ℕ → List ℕ → Option PcapErr
others_last found head = if nat_eq found (magic Big Nano) then refusal_of_rest Big head else Some (NotPcap found)

abbrev others_nano : ℕ → List ℕ → Option PcapErr
others_nano found head = if nat_eq found (magic Little Nano) then refusal_of_rest Little head else others_last found head

abbrev others_big : ℕ → List ℕ → Option PcapErr
others_big found head = if nat_eq found (magic Big Micro) then refusal_of_rest Big head else others_nano found head

abbrev end_below : Order → unit.Unit → ℕ → List ℕ → Option End
end_below order u number rest =
    if nat_eq (length rest) 0 then Some Whole else option_map Refused (refusal_of_record order u (number + 1) rest)

magic_of_head : (found : ℕ) (head : List ℕ) → IsOfHead (refusal_of_magic found head)
magic_of_head found head =
    chosen IsOfHead (nat_eq found (magic Little Micro)) (refusal_of_rest Little head) (others_big found head) (rest_of_head Little head)
    (chosen IsOfHead (nat_eq found (magic Big Micro)) (refusal_of_rest Big head) (others_nano found head) (rest_of_head Big head)
    (chosen IsOfHead (nat_eq found (magic Little Nano)) (refusal_of_rest Little head) (others_last found head) (rest_of_head Little head)
    (chosen IsOfHead (nat_eq found (magic Big Nano)) (refusal_of_rest Big head) (Some (NotPcap found)) (rest_of_head Big head) tt)))

file_of_head : (head : List ℕ) → IsOfHead (refusal_of_file head)
file_of_head head =
    chosen IsOfHead (nat_lt (length head) NUMBER_SIZE) (Some (Truncated 0 (length head) FILE_HEAD_SIZE)) (refusal_of_magic (little_number NUMBER_SIZE head) head) refl (magic_of_head (little_number NUMBER_SIZE head) head)

first_apart : (a b : Option PcapErr) → IsNotOfHead a → IsNotOfHead b → IsNotOfHead (option_or a b)
first_apart None b p q = q
first_apart (Some e) b p q = p

size_apart : (number have want : ℕ) → IsNotOfHead (refusal_of_size (number + 1) have want)
size_apart number have want = chosen IsNotOfHead (nat_lt have want) (Some (Truncated (number + 1) have want)) None (λ e. omega arith) tt

captured_apart : (number captured : ℕ) → IsNotOfHead (refusal_of_captured number captured)
captured_apart number captured = chosen IsNotOfHead (nat_lt MAX_BODY captured) (Some (TooLong number captured)) None (λ h. h) tt

fields_apart : (order : Order) (u : unit.Unit) (number : ℕ) (head : List ℕ) → IsNotOfHead (refusal_of_fields order u number head)
fields_apart order u number head =
    chosen IsNotOfHead (nat_le (fractions u) (number_at order FRACTION_AT head)) (Some (BadFraction number (number_at order FRACTION_AT head))) (refusal_of_captured number (number_at order CAPTURED_AT head)) (λ h. h)
    (captured_apart number (number_at order CAPTURED_AT head))

record_apart : (order : Order) (u : unit.Unit) (number : ℕ) (rest : List ℕ) → IsNotOfHead (refusal_of_record order u (number + 1) rest)
record_apart order u number rest =
    first_apart (refusal_of_size (number + 1) (length rest) RECORD_HEAD_SIZE) (option_or (refusal_of_fields order u (number + 1) (take RECORD_HEAD_SIZE rest)) (refusal_of_size (number + 1) (length rest) (RECORD_HEAD_SIZE + number_at order CAPTURED_AT (take RECORD_HEAD_SIZE rest))))
    (size_apart number (length rest) RECORD_HEAD_SIZE)
    (first_apart (refusal_of_fields order u (number + 1) (take RECORD_HEAD_SIZE rest)) (refusal_of_size (number + 1) (length rest) (RECORD_HEAD_SIZE + number_at order CAPTURED_AT (take RECORD_HEAD_SIZE rest))) (fields_apart order u (number + 1) (take RECORD_HEAD_SIZE rest))
    (size_apart number (length rest) (RECORD_HEAD_SIZE + number_at order CAPTURED_AT (take RECORD_HEAD_SIZE rest))))

refused_apart : (o : Option PcapErr) → IsNotOfHead o → EndsApart (option_map Refused o)
refused_apart None p = tt
refused_apart (Some e) p = p

ends_apart : (order : Order) (u : unit.Unit) (before number : ℕ) (rest : List ℕ) → EndsApart (end_at order u before (number + 1) rest)
ends_apart order u before number rest =
    chosen EndsApart (nat_le MAX_INPUT before) (Some (Refused (TooMuch before))) (end_below order u number rest) (λ h. h)
    (chosen EndsApart (nat_eq (length rest) 0) (Some Whole) (option_map Refused (refusal_of_record order u (number + 1) rest)) tt (refused_apart (refusal_of_record order u (number + 1) rest) (record_apart order u number rest)))

pub heads_are_apart : (bytes : List ℕ) (rs : List Rec) (e : PcapErr) → Input bytes rs (Refused e) → IsOfFileHead e ↔ (refusal_of_file (take FILE_HEAD_SIZE bytes) ≡ Some e)
heads_are_apart bytes rs e (inl (f, refused, none, is)) =
    let same : e ≡ f = cc in
    (λ h. refused ∙ ap Some (sym same), λ r. subst IsOfHead r (file_of_head (take FILE_HEAD_SIZE bytes)))
heads_are_apart bytes rs e (inr (rest, file, begin, ends)) =
    let apart = subst EndsApart ends (ends_apart file.order file.unit (length bytes - length rest) (length rs) rest) in
    let yes = pcap_accepted bytes rs rest file in
    (λ h. absurd (apart h), λ r. absurd cc)
