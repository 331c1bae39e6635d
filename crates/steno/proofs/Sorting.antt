-- What std says of its stable sort makes the answer.
use Rattle.std.proofs.Common.{◌≡◌, ℕ, suc, ◌+◌, ◌<◌, List, [], ◌∷◌, get_or, Bool, true, false, cond, map, length, refl, sym, ap, subst, ◌∙◌, arith, Some, Result, Ok, Err}
use Rattle.std.specs.Prelude.{slice_get, OnOk}
use Rattle.std.specs.List.{filter}
use Rattle.std.specs.List.Sorted.{ties, IsSortedBy, IsStableBy}
use Rattle.std.proofs.lemmas.List.{get_or-map, length-map}
use Rattle.std.proofs.lemmas.List.Sorted.{sorted_far}
use Rattle.st_base.specs.Records.{Rec}
use Rattle.st_query.specs.declared.nodes.Node.{Node}
use Rattle.st_query.specs.Answer.{AnswerOf}
use Rattle.st_query.specs.Meaning.{Matches}
use Rattle.steno.specs.declared.packets.Packet.{Packet}
use Rattle.steno.specs.Gathering.{Selects}
use Rattle.steno.specs.Packets.{is_earlier, record_of}
use Rattle.steno.proofs.Answering.{InOrder, placement, ordered, Stable}
use Rattle.steno.proofs.TimeOrder.{earlier, by_times}

pub in_order : (ys : List Rec) → IsSortedBy earlier ys → InOrder ys
in_order [] s = tt
in_order (y ∷ ys) s = (
  λ k d below. sorted_far earlier by_times (y ∷ ys) s 0 (suc k) d (omega arith) (omega (arith, below)),
  in_order ys (λ k d low high. let one : suc k + 1 ≡ suc (k + 1) = omega arith in
      subst (λ n. earlier (get_or (y ∷ ys) n d) (get_or ys k d) ≡ false) one (s (suc k) d (omega arith) (omega (arith, high)))),
)

pub sorted_answer : (q : Node) (now : ℕ) (rs xs ys : List Rec) → Selects (Matches q now) rs xs → IsSortedBy earlier ys → IsStableBy earlier xs ys → AnswerOf q now rs ys
sorted_answer q now rs xs ys h sorted stable =
    let places = placement (Matches q now) 0 rs xs h in
    let same : Stable ys places.ps = λ x. stable x ∙ ap (filter (ties earlier x)) (sym places.same) in
    let found = ordered ys places.ps (in_order ys sorted) places.climbs same in (
      found.qs,
      record {
        ascending = found.ascending;
        members = λ p. (
          λ c.
              let t = places.there p (found.there p c) in
              let at : t.0 ≡ p.number = omega (arith, t.1) in
              (subst (λ n. slice_get rs n ≡ Some p.packet) at t.2, t.3),
          λ m. found.back p (places.back p p.number (omega arith) m.0 m.1),
        );
      },
      sym found.same,
    )

-- what passes of the values is the values of what passes
filter-map : {X Y : Type 0} (f : X → Y) (t : Y → Bool) (xs : List X) → filter t (map f xs) ≡ map f (filter (λ x. t (f x)) xs)
filter-map f t [] = refl
filter-map f t (x ∷ xs) =
    elim (t (f x)) as (λ b. cond b (f x ∷ filter t (map f xs)) (filter t (map f xs)) ≡ map f (cond b (x ∷ filter (λ y. t (f y)) xs) (filter (λ y. t (f y)) xs))) [
      | true ↦ ap (λ l. f x ∷ l) (filter-map f t xs)
      | false ↦ filter-map f t xs
    ]

-- a packet that was captured when the record was
abbrev pub packet_when : Rec → Packet
packet_when r = record { sec = r.sec; nsec = r.nsec; orig = 0; len = 0; start = 0 }

sorted_records : (text : List ℕ) (ps : List Packet) → IsSortedBy is_earlier ps → IsSortedBy earlier (map (record_of text) ps)
sorted_records text ps sorted k d low high =
    let e = packet_when d in
    let f = record_of text in
    let long = length-map ps f in
    let next : k + 1 < length ps = omega (arith, long, high) in
    let here : k < length ps = omega arith in
    subst (λ a. earlier a (get_or (map f ps) k d) ≡ false) (sym (get_or-map f ps (k + 1) e d next))
    (subst (λ b. earlier (f (get_or ps (k + 1) e)) b ≡ false) (sym (get_or-map f ps k e d here)) (sorted k e low next))

stable_records : (text : List ℕ) (ps qs : List Packet) → IsStableBy is_earlier ps qs → IsStableBy earlier (map (record_of text) ps) (map (record_of text) qs)
stable_records text ps qs stable x =
    let f = record_of text in
    filter-map f (ties earlier x) qs ∙ (ap (map f) (stable (packet_when x)) ∙ sym (filter-map f (ties earlier x) ps))

-- a stable sort by time of packets whose records match makes the answer
pub sorted_packets : (q : Node) (now : ℕ) (rs : List Rec) (text : List ℕ) (ps qs : List Packet) → Selects (Matches q now) rs (map (record_of text) ps)
    → IsSortedBy is_earlier qs → IsStableBy is_earlier ps qs → AnswerOf q now rs (map (record_of text) qs)
sorted_packets q now rs text ps qs h sorted stable =
    sorted_answer q now rs (map (record_of text) ps) (map (record_of text) qs) h (sorted_records text qs sorted) (stable_records text ps qs stable)

-- what follows from two facts that hold where a call succeeds
pub both_ok : {T E P Q S : Type 0} (r : Result T E) → OnOk r P → OnOk r Q → (P → Q → S) → OnOk r S
both_ok (Ok x) p q f = f p q
both_ok (Err e) p q f = tt
