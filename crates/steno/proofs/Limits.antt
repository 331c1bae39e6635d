-- The prefix that the limits allow.
use Rattle.std.proofs.Common.{◌≡◌, ℕ, ◌+◌, ◌<◌, ◌≤◌, List, zero, suc, length, take, get_or, map, refl, sym, ap, subst, ◌∙◌, arith, inl, inr, ◌⊎◌, length-take-le}
use Rattle.std.specs.Prelude.{sum_by}
use Rattle.std.proofs.lemmas.List.Sums.{sum_by_more, sum_by-take-le}
use Rattle.std.proofs.lemmas.List.{take-take, length-take, take-map, get_or-map, length-map}
use Rattle.std.proofs.lemmas.List.Elements.{All-take}
use Rattle.st_base.specs.Records.{Rec}
use Rattle.st_base.specs.declared.limits.Limits.{Limits}
use Rattle.st_pcap.specs.declared.forms.Unit as unit
use Rattle.steno.specs.declared.packets.Packet.{Packet}
use Rattle.st_answer.specs.Limited.{captured, IsWithin, Limited}
use Rattle.steno.specs.Packets.{record_of, Lies, AllLie}
use Rattle.steno.proofs.Buffers.{length-body, captured-lens}

-- what a longer prefix captured is no less
captured-longer : (rs : List Rec) (m n : ℕ) → m ≤ n → captured (take m rs) ≤ captured (take n rs)
captured-longer rs m n le =
    let cut : take m (take n rs) ≡ take m rs = take-take m n rs le in
    subst (λ xs. captured xs ≤ captured (take n rs)) cut (sum_by-take-le (λ (r : Rec). length r.body) (take n rs) m)

either : (n i : ℕ) → (n ≤ i) ⊎ (i < n)
either zero i = inl (omega arith)
either (suc n) zero = inr (omega arith)
either (suc n) (suc i) = elim (either n i) [ inl le ↦ inl (omega arith) | inr lt ↦ inr (omega arith) ]

-- a longer prefix than one that is full is not within the limits
past : (limits : Limits) (room i n : ℕ) (rs : List Rec) (r : Rec) → i < length rs → r ≡ get_or rs i r → captured (take i rs) + room ≡ limits.bytes
    → (limits.packets ≤ i) ⊎ (room < length r.body) → i < n → IsWithin limits (take n rs) → ⊥
past limits room i n rs r below is size (inl many) more fits =
    omega (arith, length-take n rs, fits.count, many, more, below)
past limits room i n rs r below is size (inr large) more fits =
    let next = sum_by_more (λ (x : Rec). length x.body) rs i r below in
    let body : length r.body ≡ length (get_or rs i r).body = ap (λ (x : Rec). length x.body) is in
    let longer : captured (take (i + 1) rs) ≤ captured (take n rs) = captured-longer rs (i + 1) n (omega (arith, more)) in
    omega (arith, next, body, longer, fits.size, size, large)

-- the prefix stops at a packet that would be one too many, or whose bytes would be
pub stops : (limits : Limits) (room i : ℕ) (rs : List Rec) (r : Rec) → i < length rs → r ≡ get_or rs i r → i ≤ limits.packets → captured (take i rs) + room ≡ limits.bytes
    → (limits.packets ≤ i) ⊎ (room < length r.body) → Limited limits rs (take i rs)
stops limits room i rs r below is few size full =
    record {
      count = i;
      prefix = refl;
      within = record { count = omega (arith, length-take-le i rs (omega arith), few); size = omega (arith, size) };
      longest = λ n fits.
          elim (either n i) [
            | inl le ↦ omega (arith, length-take n rs, length-take i rs, le, below)
            | inr more ↦ absurd (past limits room i n rs r below is size full more fits)
          ];
    }

-- all of them are within the limits
pub goes : (limits : Limits) (room : ℕ) (rs : List Rec) → length rs ≤ limits.packets → captured (take (length rs) rs) + room ≡ limits.bytes → Limited limits rs (take (length rs) rs)
goes limits room rs few size = record {
  count = length rs;
  prefix = refl;
  within = record { count = omega (arith, length-take-le (length rs) rs (omega arith), few); size = omega (arith, size) };
  longest = λ n fits. omega (arith, length-take n rs, length-take (length rs) rs);
}

-- the packets stop at one that would be one too many, or whose bytes would be
pub stops-packets : (u : unit.Unit) (text : List ℕ) (limits : Limits) (room i : ℕ) (ps : List Packet) (p : Packet) → AllLie u text ps → i < length ps → p ≡ get_or ps i p
    → i ≤ limits.packets → sum_by (λ (x : Packet). x.len) (take i ps) + room ≡ limits.bytes → (limits.packets ≤ i) ⊎ (room < p.len)
    → Limited limits (map (record_of text) ps) (map (record_of text) (take i ps))
stops-packets u text limits room i ps p lie below is few size full =
    let f = record_of text in
    let cut : take i (map f ps) ≡ map f (take i ps) = take-map f i ps in
    let here : Lies u text p = subst (Lies u text) (sym is) (lie i p below) in
    let item : f p ≡ get_or (map f ps) i (f p) = ap f is ∙ sym (get_or-map f ps i p (f p) below) in
    let bytes : captured (take i (map f ps)) + room ≡ limits.bytes =
    ap (λ rs. captured rs + room) cut ∙ (ap (λ n. n + room) (captured-lens u text (take i ps) (All-take (Lies u text) i ps lie)) ∙ size) in
    let inside : i < length (map f ps) = omega (arith, length-map ps f, below) in
    let full' : (limits.packets ≤ i) ⊎ (room < length (f p).body) =
    elim full [ inl many ↦ inl many | inr large ↦ inr (omega (arith, length-body u text p here, large)) ] in
    subst (Limited limits (map f ps)) cut (stops limits room i (map f ps) (f p) inside item few bytes full')

-- all of them are within the limits
pub goes-packets : (u : unit.Unit) (text : List ℕ) (limits : Limits) (room i : ℕ) (ps : List Packet) → AllLie u text ps → i ≡ length ps
    → i ≤ limits.packets → sum_by (λ (x : Packet). x.len) (take i ps) + room ≡ limits.bytes
    → Limited limits (map (record_of text) ps) (map (record_of text) (take i ps))
goes-packets u text limits room i ps lie is few size =
    let f = record_of text in
    let rs = map f ps in
    let long : length rs ≡ i = length-map ps f ∙ sym is in
    let cut : take (length rs) rs ≡ map f (take i ps) = ap (λ n. take n rs) long ∙ take-map f i ps in
    let bytes : captured (take (length rs) rs) + room ≡ limits.bytes =
    ap (λ xs. captured xs + room) cut ∙ (ap (λ n. n + room) (captured-lens u text (take i ps) (All-take (Lies u text) i ps lie)) ∙ size) in
    subst (Limited limits rs) cut (goes limits room rs (omega (arith, long, few)) bytes)
