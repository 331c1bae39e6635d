-- What is read is read for the answer.
use Rattle.std.proofs.Common.{◌≡◌, ℕ, ◌+◌, ◌≤◌, List, [], ◌∷◌, length, get_or, refl, arith, Contains}
use Rattle.std.specs.Prelude.{All, sum_by}
use Rattle.std.proofs.lemmas.List.Sums.{sum_by-cons}
use Rattle.std.proofs.lemmas.List.Elements.{All-head, All-tail}
use Rattle.st_base.specs.Records.{Rec}
use Rattle.st_disk.specs.Pairs.{Entry}
use Rattle.st_query.specs.declared.nodes.Node.{Node}
use Rattle.st_answer.specs.declared.picked.Picked.{Picked}
use Rattle.st_answer.specs.Packets.{Packet, IsWholeSet, records_of}
use Rattle.st_answer.specs.Answer.{IsAnswer}
use Rattle.st_answer.specs.Limited.{captured}
use Rattle.st_answer.specs.Bounds.{most_reads, most_asked}
use Rattle.st_answer.specs.Picks.{packet_in, AreReadFor}
use Rattle.st_answer.proofs.Replying.{IsOwn, own}
use Rattle.st_answer.proofs.Distinct.{no_more, no_longer}

-- the picks for which heads were read are of packets of the answer
pub record AreOfAnswer (set : List Entry) (ans : List Packet) (ps : List Picked) : Type 0 where
  pub count : length ps ≤ length ans
  pub lens : sum_by (λ (p : Picked). p.len) ps ≤ captured (records_of ans)

captured_of : (ans : List Packet) → captured (records_of ans) ≡ sum_by (λ (x : Packet). length x.packet.body) ans
captured_of [] = refl
captured_of (x ∷ ans) = omega (arith, sum_by-cons (λ (r : Rec). length r.body) x.packet (records_of ans), sum_by-cons (λ (x : Packet). length x.packet.body) x ans, captured_of ans)

lens_of : (q : Node) (now : ℕ) (set : List Entry) (ps : List Picked) → All (IsOwn q now set) ps → sum_by (λ (p : Picked). p.len) ps ≡ sum_by (λ p. length (packet_in set p).packet.body) ps
lens_of q now set [] mine = refl
lens_of q now set (p ∷ ps) mine =
    let one = (All-head (IsOwn q now set) p ps mine).len in
    omega (arith, one, sum_by-cons (λ (p : Picked). p.len) p ps, sum_by-cons (λ p. length (packet_in set p).packet.body) p ps, lens_of q now set ps (All-tail (IsOwn q now set) p ps mine))

pub of_answer : (q : Node) (now : ℕ) (set : List Entry) (ans : List Packet) (reads asked : ℕ) (ps : List Picked) → IsWholeSet set → IsAnswer q now set ans → AreReadFor q now set reads asked ps → AreOfAnswer set ans ps
of_answer q now set ans reads asked ps whole is are =
    let f = packet_in set in
    let mine : All (IsOwn q now set) ps = λ k d lt. let (place, found) = are.found k d lt in own q now set (get_or ps k d) whole place found in
    let there : All (λ p. Contains ans (f p)) ps = λ k d lt. let one = mine k d lt in (is.members (f (get_or ps k d))).1 (one.there, one.matches) in
    let longer = no_longer f (λ p. (refl, refl)) (λ (x : Packet). length x.packet.body) ps ans are.distinct there in
    record {
      count = no_more f (λ p. (refl, refl)) ps ans are.distinct there;
      lens = omega (arith, longer, captured_of ans, lens_of q now set ps mine);
    }

-- the heads alone
pub heads_bound : (q : Node) (now : ℕ) (set : List Entry) (ans : List Packet) (reads asked : ℕ) (ps : List Picked) → IsWholeSet set → IsAnswer q now set ans → AreReadFor q now set reads asked ps
    → (reads ≤ most_reads ans) × (asked ≤ most_asked ans)
heads_bound q now set ans reads asked ps whole is are =
    let of = of_answer q now set ans reads asked ps whole is are in
    (omega (arith, of.count, are.reads_most), omega (arith, of.count, are.asked_most))

-- and the bodies
pub bodies_bound : (q : Node) (now : ℕ) (set : List Entry) (ans : List Packet) (reads asked reads' asked' : ℕ) (ps : List Picked) → IsWholeSet set → IsAnswer q now set ans → AreReadFor q now set reads asked ps
    → reads' ≤ reads + length ps → asked' ≤ asked + sum_by (λ (p : Picked). p.len) ps → (reads' ≤ most_reads ans) × (asked' ≤ most_asked ans)
bodies_bound q now set ans reads asked reads' asked' ps whole is are less lower =
    let of = of_answer q now set ans reads asked ps whole is are in
    (omega (arith, of.count, are.reads_most, less), omega (arith, of.count, of.lens, are.asked_most, lower))
