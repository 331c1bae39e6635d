-- A written text reads back as its records.
use Rattle.std.proofs.Common.{◌≡◌, ℕ, ◌+◌, ◌-◌, ◌^◌, ◌<◌, List, [], ◌∷◌, ◌++◌, length, map, Some, refl, sym, ap, ◌∙◌, subst, inr, arith, length-append, append_assoc, append-nil}
use Rattle.std.specs.Prelude.{All}
use Rattle.std.specs.List.{flat_map}
use Rattle.std.proofs.lemmas.Bool.Decides.{nat_tests}
use Rattle.std.proofs.lemmas.List.{drop_at}
use Rattle.std.proofs.lemmas.List.Elements.{All-head, All-tail}
use Rattle.byteorder.specs.Endian.{little_bytes, little_number}
use Rattle.byteorder.specs.Numbers.{length-bytes_low_first, little_number-reads_back}
use Rattle.st_base.specs.Records.{Rec, InRange}
use Rattle.st_pcap.specs.declared.forms.Order.TheVariants.{Little}
use Rattle.st_pcap.specs.declared.forms.Unit as unit
use Rattle.st_pcap.specs.declared.forms.Unit.TheVariants.{Micro, Nano}
use Rattle.st_pcap.specs.declared.numbers.TheConstants.{RECORD_HEAD_SIZE, FRACTION_AT, CAPTURED_AT, ORIG_AT, NANOS, MAX_INPUT}
use Rattle.st_pcap.specs.Forms.{number_at, fractions, fraction_of, nanoseconds}
use Rattle.st_pcap.specs.Heads.{IsFileHead, IsRecordHead}
use Rattle.st_pcap.specs.Input.{Records, AllBegin, IsPcap, Whole, Input, end_at}
use Rattle.st_pcap.specs.Text.{PcapText, file_head, record_head, record_text, cut_to}
use Rattle.st_pcap.specs.Laws.{IsShort}
use Rattle.st_pcap.proofs.Spellings.{size_of, length-Records}

-- the file head that is written is one
head_written : (u : unit.Unit) → IsFileHead Little u (file_head u)
unfolding file_head
head_written Micro = record { size = refl; magic = refl; major = refl; minor = refl; link = refl }
head_written Nano = record { size = refl; magic = refl; major = refl; minor = refl; link = refl }

four : (x : ℕ) → length (little_bytes 4 x) ≡ 4
four x = length-bytes_low_first 0 4 x

-- a number of four bytes is read where it was written, behind so many bytes
read_back : (front rest : List ℕ) (at x : ℕ) → length front ≡ at → x < 2 ^ 32 → number_at Little at (front ++ (little_bytes 4 x ++ rest)) ≡ x
read_back front rest at x size fits =
    ap (little_number 4) (drop_at front (little_bytes 4 x ++ rest) at size) ∙ little_number-reads_back 4 x rest fits

fraction_below : (u : unit.Unit) (nanos : ℕ) → nanos < NANOS → fraction_of u nanos < fractions u
fraction_below Micro nanos h = omega arith
fraction_below Nano nanos h = h

fractions_fit : (u : unit.Unit) (n : ℕ) → n < fractions u → n < 2 ^ 32
fractions_fit Micro n h = omega arith
fractions_fit Nano n h = omega arith

-- the 16 bytes before a body, by what stands before each number
second : (a b c d : List ℕ) → a ++ (b ++ (c ++ d)) ≡ (a ++ b) ++ (c ++ d)
second a b c d = sym (append_assoc a b (c ++ d))

third : (a b c d : List ℕ) → a ++ (b ++ (c ++ d)) ≡ ((a ++ b) ++ c) ++ (d ++ [])
third a b c d = second a b c d ∙ sym (append_assoc (a ++ b) c d) ∙ ap (λ l. ((a ++ b) ++ c) ++ l) (sym (append-nil d))

record_written : (u : unit.Unit) (r : Rec) → InRange r → IsShort r → IsRecordHead Little u (record_head u r) (cut_to u r)
unfolding record_head
record_written u r range short =
    let a = little_bytes 4 r.sec in
    let b = little_bytes 4 (fraction_of u r.nsec) in
    let c = little_bytes 4 (length r.body) in
    let d = little_bytes 4 r.orig in
    let ab = length-append a b in
    let abc = length-append (a ++ b) c in
    let all = length-append a (b ++ (c ++ d)) in
    let most = length-append b (c ++ d) in
    let half = length-append c d in
    let size_a : length a ≡ 4 = four r.sec in
    let size_b : length b ≡ 4 = four (fraction_of u r.nsec) in
    let size_c : length c ≡ 4 = four (length r.body) in
    let size_d : length d ≡ 4 = four r.orig in
    let below = fraction_below u r.nsec range.nsec in
    let fraction : number_at Little FRACTION_AT (a ++ (b ++ (c ++ d))) ≡ fraction_of u r.nsec = read_back a (c ++ d) 4 (fraction_of u r.nsec) size_a (fractions_fit u (fraction_of u r.nsec) below) in
    record {
      size = omega arith;
      sec = read_back [] (b ++ (c ++ d)) 0 r.sec refl range.sec;
      fraction = subst (λ n. n < fractions u) (sym fraction) below;
      nsec = ap (nanoseconds u) fraction;
      captured = ap (number_at Little CAPTURED_AT) (second a b c d) ∙ read_back (a ++ b) d 8 (length r.body) (omega arith) range.body;
      short = short;
      orig = ap (number_at Little ORIG_AT) (third a b c d) ∙ read_back ((a ++ b) ++ c) [] 12 r.orig (omega arith) range.orig;
    }

records_written : (u : unit.Unit) (rs : List Rec) → All InRange rs → All IsShort rs → Records Little u (flat_map (record_text u) rs) (map (cut_to u) rs) []
records_written u [] ranges shorts = refl
records_written u (r ∷ rs) ranges shorts = (
  record_head u r,
  flat_map (record_text u) rs,
  record_written u r (All-head InRange r rs ranges) (All-head IsShort r rs shorts),
  append_assoc (record_head u r) r.body (flat_map (record_text u) rs),
  records_written u rs (All-tail InRange r rs ranges) (All-tail IsShort r rs shorts),
)

pub text_is_pcap : (u : unit.Unit) (rs : List Rec) → All InRange rs → All IsShort rs → IsPcap (PcapText rs u) (map (cut_to u) rs) []
text_is_pcap u rs ranges shorts =
    record { order = Little; unit = u; head = file_head u; text = flat_map (record_text u) rs; whole = refl; starts = head_written u; records = records_written u rs ranges shorts }

all_begin : (before : ℕ) (rs : List Rec) → before + size_of rs < MAX_INPUT → AllBegin before rs
all_begin before [] below = tt
all_begin before (r ∷ rs) below = (omega arith, all_begin (before + (RECORD_HEAD_SIZE + length r.body)) rs (omega arith))

ends_whole : (u : unit.Unit) (before number : ℕ) → before < MAX_INPUT → end_at Little u before number [] ≡ Some Whole
ends_whole u before number below = grind (arith, nat_tests)

pub text_is_input : (u : unit.Unit) (rs : List Rec) → All InRange rs → All IsShort rs → length (PcapText rs u) < MAX_INPUT → Input (PcapText rs u) (map (cut_to u) rs) Whole
text_is_input u rs ranges shorts below =
    let file = text_is_pcap u rs ranges shorts in
    let size = (head_written u).size in
    let total = length-append (file_head u) (flat_map (record_text u) rs) in
    let records = length-Records Little u (flat_map (record_text u) rs) (map (cut_to u) rs) [] (records_written u rs ranges shorts) in
    inr ([], file, all_begin 24 (map (cut_to u) rs) (omega arith), ends_whole u (length (PcapText rs u) - 0) (length (map (cut_to u) rs) + 1) (omega arith))
