-- All bytes have a reading.
use Rattle.std.specs.Prelude.{if◌then◌else◌, nat_le, nat_eq}
use Rattle.std.proofs.Common.{Option, ◌≡◌, ℕ, ◌+◌, ◌-◌, ◌<◌, ◌≤◌, ◌%◌, List, [], ◌∷◌, ◌++◌, length, take, drop, None, Some, refl, sym, ap, ◌∙◌, subst, inl, inr, arith, length-append, length-take-le, length-drop, take-append-drop, le_refl, zero, suc}
use Rattle.std.proofs.lemmas.Bool.{cases_eq}
use Rattle.std.proofs.lemmas.Bool.Decides.{nat_tests}
use Rattle.std.proofs.lemmas.List.{length-take}
use Rattle.std.specs.Option.{option_map, option_or}
use Rattle.byteorder.specs.Endian.{little_number}
use Rattle.st_base.specs.Records.{Rec}
use Rattle.st_pcap.specs.declared.errors.PcapErr.{PcapErr}
use Rattle.st_pcap.specs.declared.errors.PcapErr.TheVariants.{TooMuch}
use Rattle.st_pcap.specs.declared.forms.Order.{Order}
use Rattle.st_pcap.specs.declared.forms.Order.TheVariants.{Little, Big}
use Rattle.st_pcap.specs.declared.forms.Unit as unit
use Rattle.st_pcap.specs.declared.forms.Unit.TheVariants.{Micro, Nano}
use Rattle.st_pcap.specs.declared.numbers.TheConstants.{NUMBER_SIZE, FILE_HEAD_SIZE, MAJOR_AT, MINOR_AT, LINK_AT, MAJOR, MINOR, LINK_LIMIT, ETHERNET, RECORD_HEAD_SIZE, SEC_AT, FRACTION_AT, CAPTURED_AT, ORIG_AT, MAX_BODY, MAX_INPUT}
use Rattle.st_pcap.specs.Forms.{short_at, number_at, magic, fractions, nanoseconds}
use Rattle.st_pcap.specs.Heads.{IsFileHead, IsRecordHead, refusal_of_file, refusal_of_magic, refusal_of_rest, refusal_of_record, refusal_of_fields, refusal_of_size}
use Rattle.st_pcap.specs.Input.{Records, AllBegin, End, Whole, Refused, Input, end_at}
use Rattle.st_pcap.proofs.Spellings.{size_of, length-Records}

-- what no end says of the bytes: a record begins there
record CanBegin (order : Order) (u : unit.Unit) (before : ℕ) (rest : List ℕ) : Type 0 where
  below : before < MAX_INPUT
  long : RECORD_HEAD_SIZE ≤ length rest
  fraction : number_at order FRACTION_AT (take RECORD_HEAD_SIZE rest) < fractions u
  short : number_at order CAPTURED_AT (take RECORD_HEAD_SIZE rest) ≤ MAX_BODY
  whole : RECORD_HEAD_SIZE + number_at order CAPTURED_AT (take RECORD_HEAD_SIZE rest) ≤ length rest

unmapped : (o : Option PcapErr) → option_map Refused o ≡ None → o ≡ None
unmapped None e = refl
unmapped (Some x) e = cc

first_none : (a b : Option PcapErr) → option_or a b ≡ None → a ≡ None
first_none None b e = refl
first_none (Some x) b e = e

second_none : (a b : Option PcapErr) → option_or a b ≡ None → b ≡ None
second_none None b e = e
second_none (Some x) b e = cc

size_enough : (number have want : ℕ) → refusal_of_size number have want ≡ None → want ≤ have
size_enough number have want e = grind (arith, nat_tests)

fraction_fits : (order : Order) (u : unit.Unit) (number : ℕ) (head : List ℕ) → refusal_of_fields order u number head ≡ None → number_at order FRACTION_AT head < fractions u
fraction_fits order u number head e = grind (arith, nat_tests)

captured_fits : (order : Order) (u : unit.Unit) (number : ℕ) (head : List ℕ) → refusal_of_fields order u number head ≡ None → number_at order CAPTURED_AT head ≤ MAX_BODY
captured_fits order u number head e = grind (arith, nat_tests)

-- both tests of an end are passed by
passed : (before n : ℕ) (a b : End) (o : Option End) → (if nat_le MAX_INPUT before then Some a else if nat_eq n 0 then Some b else o) ≡ None → before < MAX_INPUT
passed before n a b o e = grind (arith, nat_tests)

passed_to : (before n : ℕ) (a b : End) (o : Option End) → (if nat_le MAX_INPUT before then Some a else if nat_eq n 0 then Some b else o) ≡ None → o ≡ None
passed_to before n a b o e = grind (arith, nat_tests)

begins : (order : Order) (u : unit.Unit) (before number : ℕ) (rest : List ℕ) → end_at order u before number rest ≡ None → CanBegin order u before rest
begins order u before number rest e =
    let head = take RECORD_HEAD_SIZE rest in
    let none = unmapped (refusal_of_record order u number rest) (passed_to before (length rest) (Refused (TooMuch before)) Whole (option_map Refused (refusal_of_record order u number rest)) e) in
    let long = first_none (refusal_of_size number (length rest) RECORD_HEAD_SIZE) (option_or (refusal_of_fields order u number head) (refusal_of_size number (length rest) (RECORD_HEAD_SIZE + number_at order CAPTURED_AT head))) none in
    let later = second_none (refusal_of_size number (length rest) RECORD_HEAD_SIZE) (option_or (refusal_of_fields order u number head) (refusal_of_size number (length rest) (RECORD_HEAD_SIZE + number_at order CAPTURED_AT head))) none in
    let fields = first_none (refusal_of_fields order u number head) (refusal_of_size number (length rest) (RECORD_HEAD_SIZE + number_at order CAPTURED_AT head)) later in
    let body = second_none (refusal_of_fields order u number head) (refusal_of_size number (length rest) (RECORD_HEAD_SIZE + number_at order CAPTURED_AT head)) later in
    record {
      below = passed before (length rest) (Refused (TooMuch before)) Whole (option_map Refused (refusal_of_record order u number rest)) e;
      long = size_enough number (length rest) RECORD_HEAD_SIZE long;
      fraction = fraction_fits order u number head fields;
      short = captured_fits order u number head fields;
      whole = size_enough number (length rest) (RECORD_HEAD_SIZE + number_at order CAPTURED_AT head) body;
    }

-- the record that begins there
record_at : Order → unit.Unit → List ℕ → Rec
record_at order u rest =
    let head = take RECORD_HEAD_SIZE rest in
    record { sec = number_at order SEC_AT head; nsec = nanoseconds u (number_at order FRACTION_AT head); orig = number_at order ORIG_AT head; body = take (number_at order CAPTURED_AT head) (drop RECORD_HEAD_SIZE rest) }

-- what stands behind it
behind : Order → List ℕ → List ℕ
behind order rest = drop (number_at order CAPTURED_AT (take RECORD_HEAD_SIZE rest)) (drop RECORD_HEAD_SIZE rest)

is_head : (order : Order) (u : unit.Unit) (before : ℕ) (rest : List ℕ) → CanBegin order u before rest → IsRecordHead order u (take RECORD_HEAD_SIZE rest) (record_at order u rest)
unfolding record_at
is_head order u before rest can =
    let captured = number_at order CAPTURED_AT (take RECORD_HEAD_SIZE rest) in
    let long = can.long in
    let whole = can.whole in
    let room = length-drop RECORD_HEAD_SIZE rest in
    let size = length-take-le captured (drop RECORD_HEAD_SIZE rest) (omega arith) in
    record {
      size = length-take-le 16 rest can.long;
      sec = refl;
      fraction = can.fraction;
      nsec = refl;
      captured = sym size;
      short = subst (λ n. n ≤ MAX_BODY) (sym size) can.short;
      orig = refl;
    }

is_whole : (order : Order) (u : unit.Unit) (rest : List ℕ) → rest ≡ take RECORD_HEAD_SIZE rest ++ ((record_at order u rest).body ++ behind order rest)
unfolding record_at behind
is_whole order u rest =
    sym (take-append-drop RECORD_HEAD_SIZE rest) ∙ ap (λ l. take RECORD_HEAD_SIZE rest ++ l) (sym (take-append-drop (number_at order CAPTURED_AT (take RECORD_HEAD_SIZE rest)) (drop RECORD_HEAD_SIZE rest)))

length-behind : (order : Order) (rest : List ℕ) (fuel : ℕ) → RECORD_HEAD_SIZE ≤ length rest → length rest ≤ suc fuel → length (behind order rest) ≤ fuel
unfolding behind
length-behind order rest fuel long bound =
    let a = length-drop RECORD_HEAD_SIZE rest in
    let b = length-drop (number_at order CAPTURED_AT (take RECORD_HEAD_SIZE rest)) (drop RECORD_HEAD_SIZE rest) in
    omega arith

-- records as far as they go, and then an end
abbrev ReadsOn : Order → unit.Unit → ℕ → ℕ → List ℕ → Type 0
ReadsOn order u before number bytes =
    (rs : List Rec) × (rest : List ℕ) × (end : End) × Records order u bytes rs rest × AllBegin before rs × (end_at order u (before + size_of rs) (number + length rs) rest ≡ Some end)

ends_here : (order : Order) (u : unit.Unit) (before number : ℕ) (bytes : List ℕ) (end : End) → end_at order u before number bytes ≡ Some end → ReadsOn order u before number bytes
ends_here order u before number bytes end e =
    let a : before + 0 ≡ before = omega arith in
    let b : number + 0 ≡ number = omega arith in
    ([], bytes, end, refl, tt, ap (λ n. end_at order u n (number + 0) bytes) a ∙ ap (λ n. end_at order u before n bytes) b ∙ e)

goes_on : (order : Order) (u : unit.Unit) (before number : ℕ) (bytes : List ℕ) → CanBegin order u before bytes
    → ReadsOn order u (before + (RECORD_HEAD_SIZE + length (record_at order u bytes).body)) (number + 1) (behind order bytes) → ReadsOn order u before number bytes
goes_on order u before number bytes can (rs, rest, end, records, begin, ends) =
    let r = record_at order u bytes in
    let a : before + size_of (r ∷ rs) ≡ before + (RECORD_HEAD_SIZE + length r.body) + size_of rs = omega arith in
    let b : number + length (r ∷ rs) ≡ number + 1 + length rs = omega arith in (
      r ∷ rs,
      rest,
      end,
      (take RECORD_HEAD_SIZE bytes, behind order bytes, is_head order u before bytes can, is_whole order u bytes, records),
      (can.below, begin),
      ap (λ n. end_at order u n (number + length (r ∷ rs)) rest) a ∙ ap (λ n. end_at order u (before + (RECORD_HEAD_SIZE + length r.body) + size_of rs) n rest) b ∙ ends,
    )

-- by what is found there, where all shorter bytes read on
reads_step : (order : Order) (u : unit.Unit) (before number : ℕ) (bytes : List ℕ) (found : Option End) → end_at order u before number bytes ≡ found
    → (CanBegin order u before bytes → ReadsOn order u (before + (RECORD_HEAD_SIZE + length (record_at order u bytes).body)) (number + 1) (behind order bytes)) → ReadsOn order u before number bytes
reads_step order u before number bytes (Some end) e shorter = ends_here order u before number bytes end e
reads_step order u before number bytes None e shorter = let can = begins order u before number bytes e in goes_on order u before number bytes can (shorter can)

-- by how many bytes there are at most
reads_on : (fuel : ℕ) (order : Order) (u : unit.Unit) (before number : ℕ) (bytes : List ℕ) → length bytes ≤ fuel → ReadsOn order u before number bytes
reads_on zero order u before number bytes bound = reads_step order u before number bytes (end_at order u before number bytes) refl (λ can. let long = can.long in absurd (omega arith))
reads_on (suc fuel) order u before number bytes bound =
    reads_step order u before number bytes (end_at order u before number bytes) refl
    (λ can. reads_on fuel order u (before + (RECORD_HEAD_SIZE + length (record_at order u bytes).body)) (number + 1) (behind order bytes) (length-behind order bytes fuel can.long bound))

-- a head that is not refused has a form
abbrev HasForm : List ℕ → Type 0
HasForm head = (order : Order) × (u : unit.Unit) × IsFileHead order u head

version_read : (order : Order) (head : List ℕ) → refusal_of_rest order head ≡ None → (FILE_HEAD_SIZE ≤ length head) × (short_at order MAJOR_AT head ≡ MAJOR) × (short_at order MINOR_AT head ≡ MINOR) × (number_at order LINK_AT head % LINK_LIMIT ≡ ETHERNET)
version_read order head e = (grind (arith, nat_tests), grind (arith, nat_tests), grind (arith, nat_tests), grind (arith, nat_tests))

with_magic : (order : Order) (u : unit.Unit) (head : List ℕ) → length head ≤ FILE_HEAD_SIZE → little_number NUMBER_SIZE head ≡ magic order u → refusal_of_rest order head ≡ None → HasForm head
with_magic order u head bound is e =
    let (long, major, minor, link) = version_read order head e in
    (order, u, record { size = omega arith; magic = is; major = major; minor = minor; link = link })

by_magic : (head : List ℕ) → length head ≤ FILE_HEAD_SIZE → refusal_of_magic (little_number NUMBER_SIZE head) head ≡ None → HasForm head
by_magic head bound e =
    elim (cases_eq (little_number NUMBER_SIZE head) (magic Little Micro)) [
      | inl is ↦ with_magic Little Micro head bound is (grind (arith, nat_tests))
      | inr a ↦ elim (cases_eq (little_number NUMBER_SIZE head) (magic Big Micro)) [
        | inl is ↦ with_magic Big Micro head bound is (grind (arith, nat_tests))
        | inr b ↦ elim (cases_eq (little_number NUMBER_SIZE head) (magic Little Nano)) [
          | inl is ↦ with_magic Little Nano head bound is (grind (arith, nat_tests))
          | inr d ↦ elim (cases_eq (little_number NUMBER_SIZE head) (magic Big Nano)) [
            | inl is ↦ with_magic Big Nano head bound is (grind (arith, nat_tests))
            | inr f ↦ absurd (grind (arith, nat_tests))
          ]
        ]
      ]
    ]

has_form : (head : List ℕ) → length head ≤ FILE_HEAD_SIZE → refusal_of_file head ≡ None → HasForm head
has_form head bound e = by_magic head bound (grind (arith, nat_tests))

-- behind a file head the records read on
behind_head : (bytes : List ℕ) → HasForm (take FILE_HEAD_SIZE bytes) → (rs : List Rec) × (end : End) × Input bytes rs end
behind_head bytes (order, u, is) =
    let text = drop FILE_HEAD_SIZE bytes in
    let (rs, rest, end, records, begin, ends) = reads_on (length text) order u 24 1 text (le_refl (length text)) in
    let whole = sym (take-append-drop FILE_HEAD_SIZE bytes) in
    let size = is.size in
    let long = ap length whole ∙ length-append (take FILE_HEAD_SIZE bytes) text in
    let total = length-Records order u text rs rest records in
    let before : length bytes - length rest ≡ FILE_HEAD_SIZE + size_of rs = omega arith in
    let number : length rs + 1 ≡ 1 + length rs = omega arith in (
      rs,
      end,
      inr (
        rest,
        record { order = order; unit = u; head = take FILE_HEAD_SIZE bytes; text = text; whole = whole; starts = is; records = records },
        begin,
        ap (λ n. end_at order u n (length rs + 1) rest) before ∙ ap (λ n. end_at order u (FILE_HEAD_SIZE + size_of rs) n rest) number ∙ ends,
      ),
    )

by_refusal : (bytes : List ℕ) (found : Option PcapErr) → refusal_of_file (take FILE_HEAD_SIZE bytes) ≡ found → (rs : List Rec) × (end : End) × Input bytes rs end
by_refusal bytes (Some e) is = ([], Refused e, inl (e, is, refl, refl))
by_refusal bytes None is = behind_head bytes (has_form (take FILE_HEAD_SIZE bytes) (let size = length-take FILE_HEAD_SIZE bytes in omega arith) is)

pub some_input : (bytes : List ℕ) → (rs : List Rec) × (end : End) × Input bytes rs end
some_input bytes = by_refusal bytes (refusal_of_file (take FILE_HEAD_SIZE bytes)) refl
