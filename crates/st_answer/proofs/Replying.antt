-- Picks in order are the answer, and their records the reply.
use Rattle.std.proofs.Common.{Option, ◌≡◌, ℕ, suc, ◌+◌, ◌<◌, ◌≤◌, List, [], ◌∷◌, Some, length, map, take, get_or, refl, sym, ap, ◌∙◌, subst, arith, Contains, ◌⊎◌, inl, inr, false}
use Rattle.std.specs.Prelude.{All, sum_by}
use Rattle.std.specs.Ordering.{is_lt}
use Rattle.std.specs.List.Sorted.{IsPermutation}
use Rattle.std.proofs.lemmas.Bool.Decides.{nat_tests}
use Rattle.std.specs.List.{take-map}
use Rattle.std.proofs.lemmas.Simd.{map-map}
use Rattle.std.proofs.lemmas.List.{length-map, length-take, get_or-map}
use Rattle.std.proofs.lemmas.List.Elements.{All-cons, All-nil, All-head, All-tail, All-weaker, All-take, Contains-get_or}
use Rattle.std.proofs.lemmas.List.Sorted.{IsPermutation-map, Contains-permutation, All-permutation, length_permutation, sum_by-IsPermutation}
use Rattle.std.proofs.lemmas.List.Sums.{sum_by-take-le}
use Rattle.st_base.specs.Records.{Rec}
use Rattle.st_base.specs.declared.limits.Limits.{Limits}
use Rattle.st_disk.specs.Pairs.{Entry}
use Rattle.st_query.specs.declared.nodes.Node.{Node}
use Rattle.st_query.specs.Meaning.{Matches}
use Rattle.st_answer.specs.declared.picked.Picked.{Picked}
use Rattle.st_answer.specs.contracts.picked.PickedOrd.TheImpl as derived
use Rattle.st_answer.specs.Packets.{Packet, IsPacketIn, IsWholeSet, records_of}
use Rattle.st_base.specs.Ascending.{IsAscending}
use Rattle.st_answer.specs.Answer.{Precedes, IsAnswer}
use Rattle.st_answer.specs.Picks.{record_in, packet_in, picked_records, IsFound, IsPlaced, blocks_of, AreDistinct, HasAllOf}
use Rattle.st_answer.specs.Limited.{Limited}
use Rattle.st_pcap.specs.declared.forms.Unit as unit
use Rattle.st_answer.specs.Order.{AreInOrder, HaveLengths, AreWithin, IsOrdered}
use Rattle.st_answer.specs.Sending.{ArePickedOf}
use Rattle.st_answer.specs.Replies.{Question, IsReply}
use Rattle.st_answer.proofs.Picking.{no_entry, no_pick, record_at}
use Rattle.st_answer.proofs.Distinct.{distinct_head, distinct_permutation, distinct_tail}

-- the picks of a whole set are of its packets
pub record IsOwn (q : Node) (now : ℕ) (set : List Entry) (p : Picked) : Type 0 where
  pub there : IsPacketIn set (packet_in set p)
  pub matches : Matches q now (packet_in set p).packet
  pub len : p.len ≡ length (packet_in set p).packet.body

pub own : (q : Node) (now : ℕ) (set : List Entry) (p : Picked) → IsWholeSet set → p.place < length set → IsFound q now set p → IsOwn q now set p
own q now set p whole lt found =
    let e = get_or set p.place no_entry in
    let at = found no_entry lt in
    let is = at.pick (whole p.place no_entry lt) in
    let same : record_in e.block p ≡ (packet_in set p).packet = sym (record_at set p lt) in
    record {
      there = (
        e,
        Contains-get_or set p.place no_entry lt,
        record {
          stamp = at.stamp;
          given = is.given;
          whole = is.whole;
          there = subst (λ r. Contains is.given (p.position, r)) same is.there;
        },
      );
      matches = subst (Matches q now) same is.matches;
      len = is.len ∙ ap (λ (r : Rec). length r.body) same;
    }

pub all_own : (q : Node) (now : ℕ) (set : List Entry) (ps : List Picked) → IsWholeSet set → All (λ p. p.place < length set) ps → All (IsFound q now set) ps → All (IsOwn q now set) ps
all_own q now set ps whole places found k d lt = own q now set (get_or ps k d) whole (places k d lt) (found k d lt)

-- of two picks of which the second isn't before the first
Later : Picked → Picked → Type 0
Later p q =
    (p.sec < q.sec) ⊎ ((p.sec ≡ q.sec) × ((p.nsec < q.nsec) ⊎ ((p.nsec ≡ q.nsec) × ((p.stamp < q.stamp) ⊎ ((p.stamp ≡ q.stamp) × (p.position < q.position))))))

not_before : (p q : Picked) → is_lt (derived.ghosts.cmp q p) ≡ false → Later p q ⊎ ((p.stamp ≡ q.stamp) × (p.position ≡ q.position))
unfolding Later
not_before p q h = grind (arith, nat_tests, h)

precedes : (set : List Entry) (p q : Picked) → Later p q → Precedes (packet_in set p) (packet_in set q)
unfolding Later
precedes set p q h = h

precedes_trans : (a b c : Packet) → Precedes a b → Precedes b c → Precedes a c
precedes_trans a b c h k = grind (arith, h, k)

order_tail : (p : Picked) (ps : List Picked) → AreInOrder (p ∷ ps) → AreInOrder ps
order_tail p ps order k d low high = let one : suc k + 1 ≡ suc (k + 1) = omega arith in subst (λ n. is_lt (derived.ghosts.cmp (get_or (p ∷ ps) n d) (get_or ps k d)) ≡ false) one (order (suc k) d (omega arith) (omega (arith, high)))

-- picks in order, no two at one position, are in ascending order
ascending : (set : List Entry) (ps : List Picked) → AreInOrder ps → AreDistinct ps → IsAscending Precedes (map (packet_in set) ps)
ascending set [] order distinct = tt
ascending set (p ∷ []) order distinct = (All-nil (Precedes (packet_in set p)), tt)
ascending set (p ∷ q ∷ ps) order distinct =
    let f = packet_in set in
    let rest = ascending set (q ∷ ps) (order_tail p (q ∷ ps) order) (distinct_tail p (q ∷ ps) distinct) in
    let first : Precedes (f p) (f q) =
    elim (not_before p q (order 0 no_pick (omega arith) (omega arith))) [
      | inl later ↦ precedes set p q later
      | inr same ↦ absurd (distinct_head p q (q ∷ ps) distinct (Contains-get_or (q ∷ ps) 0 q (omega arith)) same.0 same.1)
    ] in
    (All-cons (Precedes (f p)) (f q) (map f ps) first (All-weaker (Precedes (f q)) (Precedes (f p)) (λ x h. precedes_trans (f p) (f q) x first h) (map f ps) rest.0), rest)

-- the answer
pub answer_of : (q : Node) (now : ℕ) (set : List Entry) (ps sorted : List Picked) → All (IsOwn q now set) ps → AreDistinct ps → HasAllOf q now set set ps
    → IsPermutation ps sorted → AreInOrder sorted → IsAnswer q now set (map (packet_in set) sorted)
answer_of q now set ps sorted mine distinct all same order =
    let f = packet_in set in
    record {
      ascending = ascending set sorted order (distinct_permutation ps sorted same distinct);
      members = λ x. (
        λ (k, lt, is).
            let lt' : k < length sorted = omega (arith, lt, length-map sorted f) in
            let p = get_or sorted k no_pick in
            let at : f p ≡ x = sym (get_or-map f sorted k no_pick x lt') ∙ is in
            let one = All-permutation (IsOwn q now set) ps sorted same mine k no_pick lt' in
            (subst (IsPacketIn set) at one.there, subst (λ (x : Packet). Matches q now x.packet) at one.matches),
        λ (there, matches). Contains-permutation (map f ps) (map f sorted) x (IsPermutation-map f ps sorted same) (all x there matches),
      );
    }

-- the captured lengths of picks are those of their records
lengths : (q : Node) (now : ℕ) (set : List Entry) (ps : List Picked) → All (IsOwn q now set) ps → HaveLengths ps (picked_records set ps)
lengths q now set [] mine = refl
lengths q now set (p ∷ ps) mine =
    let head : p.len ≡ length (packet_in set p).packet.body = (All-head (IsOwn q now set) p ps mine).len in
    let rest = lengths q now set ps (All-tail (IsOwn q now set) p ps mine) in
    ap (λ n. n ∷ map (λ (p : Picked). p.len) ps) head ∙ ap (λ z. length (packet_in set p).packet.body ∷ z) rest

-- the reply
pub records_are : (set : List Entry) (ps : List Picked) → records_of (map (packet_in set) ps) ≡ picked_records set ps
records_are set ps = map-map (λ (p : Packet). p.packet) (packet_in set) ps

pub limited_of : (q : Node) (now : ℕ) (set : List Entry) (limits : Limits) (sorted : List Picked) (count : ℕ) → All (IsOwn q now set) sorted → AreWithin limits sorted count
    → Limited limits (records_of (map (packet_in set) sorted)) (picked_records set (take count sorted))
limited_of q now set limits sorted count mine within =
    let g = λ (p : Picked). (packet_in set p).packet in
    let one = within (picked_records set sorted) (lengths q now set sorted mine) in
    subst (λ z. Limited limits (records_of (map (packet_in set) sorted)) z) (take-map g count sorted) (subst (λ z. Limited limits z (take count (picked_records set sorted))) (sym (records_are set sorted)) one)

-- the picks that are sent, from those that were found
pub sent_all : (P : Picked → Type 0) (limits : Limits) (found out slice : List Picked) → IsOrdered limits found out → slice ≡ out → All P found → All P slice
sent_all P limits found out slice ordered is all =
    subst (All P) (sym (is ∙ ordered.cut)) (All-take P ordered.count ordered.sorted (All-permutation P found ordered.sorted ordered.same all))

pub reply_of : (q : Node) (now : ℕ) (set : List Entry) (limits : Limits) (u : unit.Unit) (found out slice : List Picked) → IsOrdered limits found out → slice ≡ out
    → All (IsOwn q now set) found → AreDistinct found → HasAllOf q now set set found
    → IsReply (record { node = q; now = now; limits = limits; unit = u }) set (picked_records set slice)
reply_of q now set limits u found out slice ordered is mine distinct all =
    let Q : Question = record { node = q; now = now; limits = limits; unit = u } in
    let one : IsReply Q set (picked_records set (take ordered.count ordered.sorted)) = record {
      answer = map (packet_in set) ordered.sorted;
      is = answer_of q now set found ordered.sorted mine distinct all ordered.same ordered.order;
      limited = limited_of q now set limits ordered.sorted ordered.count (All-permutation (IsOwn q now set) found ordered.sorted ordered.same mine) ordered.limited;
    } in
    subst (λ z. IsReply Q set (picked_records set z)) (sym (is ∙ ordered.cut)) one

-- picks in files lie in the set of the files
pub places_in : {F : Type 0} (content : F → Option (List ℕ)) (files : List F) (q : Node) (now : ℕ) (set : List Entry) (ps : List Picked)
    → ArePickedOf q now set (map content files) ps → All (IsPlaced (length files)) ps → All (λ p. p.place < length set) ps
places_in content files q now set ps are placed k d lt =
    let len : length files ≡ length set = sym (length-map files content) ∙ (ap length are.known ∙ (length-map (blocks_of set) Some ∙ length-map set (λ (e : Entry). e.block))) in
    let place = (placed k d lt).place in
    omega (arith, len, place)

-- what is sent is no more than what was found
pub sent_count : (limits : Limits) (found out slice : List Picked) → IsOrdered limits found out → slice ≡ out → length slice ≤ length found
sent_count limits found out slice ordered is =
    omega (arith, ap length (is ∙ ordered.cut), length-take ordered.count ordered.sorted, length_permutation found ordered.sorted ordered.same)

pub sent_lens : (limits : Limits) (found out slice : List Picked) → IsOrdered limits found out → slice ≡ out → sum_by (λ (p : Picked). p.len) slice ≤ sum_by (λ (p : Picked). p.len) found
sent_lens limits found out slice ordered is =
    let f = λ (p : Picked). p.len in
    omega (arith, ap (sum_by f) (is ∙ ordered.cut), sum_by-take-le f ordered.sorted ordered.count, sum_by-IsPermutation f found ordered.sorted ordered.same)
