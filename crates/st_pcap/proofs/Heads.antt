-- Laws of the checks of the two heads, over what stands in front of the bytes.
use Rattle.std.proofs.Common.{Option, ◌≡◌, ℕ, ◌+◌, ◌<◌, ◌≤◌, ◌⊎◌, List, [], ◌++◌, length, take, None, Some, Result, Ok, Err, MatchResult, refl, sym, ap, ◌∙◌, subst, inl, inr, arith, append-nil, length-append}
use Rattle.std.proofs.lemmas.Bool.{cases_lt}
use Rattle.std.proofs.lemmas.Bool.Decides.{nat_tests}
use Rattle.std.proofs.lemmas.List.{take_at, take_all}
use Rattle.std.specs.Io.KnownBytes.{Consumes, IsAtEnd}
use Rattle.std.specs.Option.{option_map, option_or}
use Rattle.st_base.specs.Records.{Rec}
use Rattle.st_pcap.specs.declared.errors.PcapErr.{PcapErr}
use Rattle.st_pcap.specs.declared.forms.Form.{Form}
use Rattle.st_pcap.specs.declared.forms.Order.{Order}
use Rattle.st_pcap.specs.declared.forms.Unit as unit
use Rattle.st_pcap.specs.declared.head_fields.HeadFields.{HeadFields}
use Rattle.st_pcap.specs.declared.numbers.TheConstants.{FILE_HEAD_SIZE, RECORD_HEAD_SIZE, CAPTURED_AT, MAX_INPUT, MAX_BODY}
use Rattle.st_pcap.specs.Forms.{number_at}
use Rattle.st_pcap.specs.Heads.{IsFileHead, refusal_of_file, refusal_of_fields, refusal_of_size}
use Rattle.st_pcap.specs.Input.{Refused, end_at}
use Rattle.st_pcap.specs.Checks.{HasFields, GivesForm, GivesBody, GivesRecord}
use Rattle.st_pcap.specs.Reading.{IsOutside}

-- a front of at most n bytes, with nothing behind it where it is shorter, is all of the first n
pub front_is : (n : ℕ) (bytes front rest : List ℕ) → bytes ≡ front ++ rest → length front ≤ n → (length front < n → rest ≡ []) → take n bytes ≡ front
front_is n bytes front rest whole bound end =
    elim (cases_lt (length front) n) [
      | inl short ↦ ap (take n) (whole ∙ ap (λ l. front ++ l) (end short) ∙ append-nil front) ∙ take_all n front bound
      | inr long ↦ let size : length front ≡ n = omega arith in ap (take n) whole ∙ take_at front rest n size
    ]

-- what the checks of the first bytes say is what they say of the input
pub form_given : (before now : Option (List ℕ)) (bytes front : List ℕ) (result : Result Form PcapErr) → before ≡ Some bytes → length front ≤ FILE_HEAD_SIZE → Consumes before now front
    → (length front < FILE_HEAD_SIZE → IsAtEnd now) → MatchResult result (λ form. IsFileHead form.order form.unit front) (λ e. refusal_of_file front ≡ Some e)
    → GivesForm bytes now result
form_given before None bytes front result told bound came end checked = absurd (subst (λ o. Consumes o None front) told came)
form_given before (Some rest) bytes front (Ok form) told bound came end checked =
    (front, rest, subst (λ o. Consumes o (Some rest) front) told came, refl, checked)
form_given before (Some rest) bytes front (Err e) told bound came end checked =
    inr (ap refusal_of_file (front_is 24 bytes front rest (subst (λ o. Consumes o (Some rest) front) told came) bound end) ∙ checked)

-- where 16 bytes stand below the limit, their fields decide, and then how many bytes follow
pub end_at-fields : (order : Order) (u : unit.Unit) (before number : ℕ) (rest : List ℕ) → before < MAX_INPUT → RECORD_HEAD_SIZE ≤ length rest
    → end_at order u before number rest ≡ option_map Refused (option_or (refusal_of_fields order u number (take RECORD_HEAD_SIZE rest)) (refusal_of_size number (length rest) (RECORD_HEAD_SIZE + number_at order CAPTURED_AT (take RECORD_HEAD_SIZE rest))))
end_at-fields order u before number rest below some = grind (arith, nat_tests)

-- fields in range are not refused
pub refusal_of_fields-none : (form : Form) (number : ℕ) (head : List ℕ) (fields : HeadFields) → HasFields form head fields → refusal_of_fields form.order form.unit number head ≡ None
refusal_of_fields-none form number head fields is = grind (arith, nat_tests)

-- what a source that tells its bytes has left behind those that came
pub left_behind : (before now : Option (List ℕ)) (bytes front : List ℕ) → before ≡ Some bytes → Consumes before now front → (rest : List ℕ) × (now ≡ Some rest) × (bytes ≡ front ++ rest)
left_behind before None bytes front told came = absurd (subst (λ o. Consumes o None front) told came)
left_behind before (Some rest) bytes front told came = (rest, refl, subst (λ o. Consumes o (Some rest) front) told came)

-- the head of a record is refused
pub fields_refused : (form : Form) (before number : ℕ) (rest head more : List ℕ) (e : PcapErr) → before < MAX_INPUT → length head ≡ RECORD_HEAD_SIZE → rest ≡ head ++ more
    → refusal_of_fields form.order form.unit number head ≡ Some e → end_at form.order form.unit before number rest ≡ Some (Refused e)
fields_refused form before number rest head more e below size whole refused =
    let front : take RECORD_HEAD_SIZE rest ≡ head = ap (take RECORD_HEAD_SIZE) whole ∙ take_at head more 16 size in
    let long = ap length whole ∙ length-append head more in
    end_at-fields form.order form.unit before number rest below (omega arith)
    ∙ ap (λ o. option_map Refused (option_or o (refusal_of_size number (length rest) (RECORD_HEAD_SIZE + number_at form.order CAPTURED_AT (take RECORD_HEAD_SIZE rest))))) (ap (refusal_of_fields form.order form.unit number) front ∙ refused)

-- the head of a record is none that is refused, and fewer bytes follow than its body has
pub body_refused : (form : Form) (before number : ℕ) (rest head more : List ℕ) (fields : HeadFields) (e : PcapErr) → before < MAX_INPUT → length head ≡ RECORD_HEAD_SIZE → rest ≡ head ++ more
    → HasFields form head fields → refusal_of_size number (RECORD_HEAD_SIZE + length more) (RECORD_HEAD_SIZE + fields.captured) ≡ Some e → end_at form.order form.unit before number rest ≡ Some (Refused e)
body_refused form before number rest head more fields e below size whole is refused =
    let front : take RECORD_HEAD_SIZE rest ≡ head = ap (take RECORD_HEAD_SIZE) whole ∙ take_at head more 16 size in
    let long = ap length whole ∙ length-append head more in
    let total : length rest ≡ RECORD_HEAD_SIZE + length more = omega arith in
    end_at-fields form.order form.unit before number rest below (omega arith)
    ∙ ap (λ l. option_map Refused (option_or (refusal_of_fields form.order form.unit number l) (refusal_of_size number (length rest) (RECORD_HEAD_SIZE + number_at form.order CAPTURED_AT l)))) front
    ∙ ap (λ o. option_map Refused (option_or o (refusal_of_size number (length rest) (RECORD_HEAD_SIZE + number_at form.order CAPTURED_AT head)))) (refusal_of_fields-none form number head fields is)
    ∙ ap (λ n. option_map Refused (refusal_of_size number n (RECORD_HEAD_SIZE + number_at form.order CAPTURED_AT head))) total ∙ ap (λ n. option_map Refused (refusal_of_size number (RECORD_HEAD_SIZE + length more) (RECORD_HEAD_SIZE + n))) is.captured
    ∙ ap (option_map Refused) refused

-- the body of a record is refused, or the outside failed
pub body_given : (form : Form) (before number : ℕ) (rest head more : List ℕ) (fields : HeadFields) (left : Option (List ℕ)) (e : PcapErr) → before < MAX_INPUT → length head ≡ RECORD_HEAD_SIZE → rest ≡ head ++ more
    → HasFields form head fields → GivesBody fields number more left (Err e) → IsOutside e ⊎ (end_at form.order form.unit before number rest ≡ Some (Refused e))
body_given form before number rest head more fields left e below size whole is (inl outside) = inl outside
body_given form before number rest head more fields left e below size whole is (inr refused) = inr (body_refused form before number rest head more fields e below size whole is refused)

-- the head of a record is none that is refused, and its body follows
pub record_given : (form : Form) (before number : ℕ) (rest head more : List ℕ) (fields : HeadFields) (left : Option (List ℕ)) (r : Rec) → before < MAX_INPUT → length head ≡ RECORD_HEAD_SIZE → rest ≡ head ++ more
    → HasFields form head fields → GivesBody fields number more left (Ok r) → GivesRecord form before number rest left (Ok (Some r))
record_given form before number rest head more fields left r below size whole is (after, split, told, captured, sec, nsec, orig) = (
  head,
  after,
  below,
  record {
    size = size;
    sec = is.sec ∙ sym sec;
    fraction = is.fraction;
    nsec = is.nsec ∙ sym nsec;
    captured = is.captured ∙ sym captured;
    short = subst (λ n. n ≤ MAX_BODY) (sym captured) is.short;
    orig = is.orig ∙ sym orig;
  },
  whole ∙ ap (λ l. head ++ l) split,
  told,
)
