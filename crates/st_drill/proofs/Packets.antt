-- The packets of a drill are records, and their pcap is a whole input.
use Rattle.std.proofs.Common.{◌≡◌, ℕ, zero, suc, ◌+◌, ◌*◌, ◌<◌, ◌≤◌, List, [], ◌∷◌, length, map, refl, sym, ap, ◌∙◌, subst, arith, length-append}
use Rattle.std.specs.Prelude.{slice_index_or}
use Rattle.std.specs.List.{flat_map}
use Rattle.std.proofs.lemmas.List.Elements.{All-from_recursion}
use Rattle.std.specs.List.{AllByRecursion}
use Rattle.st_base.specs.Records.{Rec, InRange}
use Rattle.st_pcap.specs.declared.forms.Unit.TheVariants.{Nano}
use Rattle.st_pcap.specs.Input.{Input, Whole}
use Rattle.st_pcap.specs.Laws.{IsShort}
use Rattle.st_pcap.specs.Text.{file_head, record_text, cut_to}
use Rattle.st_pcap.proofs.RoundTrip.{text_is_input}
use Rattle.st_pcap.proofs.Writing.{length-record_text}
use Rattle.st_drill.specs.declared.numbers.TheConstants.{FRAME_SIZE}
use Rattle.st_plan.specs.declared.limits.TheConstants.{MAX_PACKETS}
use Rattle.st_drill.specs.Packets.{frame, packet, packets_from, packets, input}
use Rattle.st_drill.specs.Laws.{IsWholeInput, HasCount, AreNumbered, AreFrames}

-- a packet has 64 bytes
pub length-frame : (k : ℕ) → length (frame k) ≡ FRAME_SIZE
unfolding frame
length-frame k = refl

in_range : (k : ℕ) → k < MAX_PACKETS → InRange (packet k)
in_range k h =
    record {
      sec = omega arith;
      nsec = omega arith;
      orig = omega arith;
      body = subst (λ n. n < 4294967296) (sym (length-frame k)) (omega arith);
    }

all_in_range : (k n : ℕ) → k + n ≤ MAX_PACKETS → AllByRecursion InRange (packets_from k n)
all_in_range k zero h = tt
all_in_range k (suc n) h = (in_range k (omega arith), all_in_range (k + 1) n (omega arith))

all_frames : (k n : ℕ) → AllByRecursion (λ (r : Rec). length r.body ≡ FRAME_SIZE) (packets_from k n)
all_frames k zero = tt
all_frames k (suc n) = (length-frame k, all_frames (k + 1) n)

all_short : (k n : ℕ) → AllByRecursion IsShort (packets_from k n)
all_short k zero = tt
all_short k (suc n) =
    (subst (λ m. m ≤ 262144) (sym (length-frame k)) (omega arith), all_short (k + 1) n)

count : (k n : ℕ) → length (packets_from k n) ≡ n
count k zero = refl
count k (suc n) = ap suc (count (k + 1) n)

numbered : (k n i : ℕ) (d : Rec) → i < n → slice_index_or (packets_from k n) i d ≡ packet (k + i)
numbered k zero i d h = absurd (omega arith)
numbered k (suc n) zero d h = ap packet (omega arith)
numbered k (suc n) (suc i) d h =
    let e : k + 1 + i ≡ k + suc i = omega arith in
    numbered (k + 1) n i d (omega arith) ∙ ap packet e

-- the unit keeps each time as it is
uncut : (rs : List Rec) → map (cut_to Nano) rs ≡ rs
uncut [] = refl
uncut (r ∷ rs) = ap (λ l. r ∷ l) (uncut rs)

size : (k n : ℕ) → length (flat_map (record_text Nano) (packets_from k n)) ≡ 80 * n
size k zero = refl
size k (suc n) =
    let rest = flat_map (record_text Nano) (packets_from (k + 1) n) in
    let joined = length-append (record_text Nano (packet k)) rest in
    let one = length-record_text Nano (packet k) in
    let body = length-frame k in
    let more = size (k + 1) n in
    omega (arith, joined, one, body, more)

length-head : length (file_head Nano) ≡ 24
unfolding file_head
length-head = refl

pub has_count : HasCount
has_count n = count 0 n

pub are_numbered : AreNumbered
are_numbered n k d h =
    let e : 0 + k ≡ k = omega arith in numbered 0 n k d h ∙ ap packet e

pub are_frames : AreFrames
are_frames n h = (
  All-from_recursion InRange _ (all_in_range 0 n (omega arith)),
  All-from_recursion (λ (r : Rec). length r.body ≡ FRAME_SIZE) _ (all_frames 0 n),
)

pub is_whole_input : IsWholeInput
is_whole_input n h =
    let rs = packets n in
    let total = length-append (file_head Nano) (flat_map (record_text Nano) rs) in
    let more = size 0 n in
    let head = length-head in
    subst (λ l. Input (input n) l Whole) (uncut rs)
    (text_is_input Nano rs (All-from_recursion InRange _ (all_in_range 0 n (omega arith)))
    (All-from_recursion IsShort _ (all_short 0 n)) (omega (arith, total, more, head)))
