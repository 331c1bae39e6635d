-- How many bytes the pieces have.
use Rattle.std.proofs.Common.{Option, ◌≡◌, ℕ, ◌+◌, List, [], ◌∷◌, length, refl, sym, ◌∙◌, arith, inr}
use Rattle.std.specs.Prelude.{All, sum_by}
use Rattle.std.specs.List.{flat_map}
use Rattle.std.proofs.lemmas.List.{length-map}
use Rattle.std.proofs.lemmas.List.Elements.{All-head, All-tail}
use Rattle.std.proofs.lemmas.List.Sums.{sum_by-append, sum_by-cons}
use Rattle.st_base.specs.Records.{Rec}
use Rattle.st_disk.specs.Pairs.{Entry}
use Rattle.st_query.specs.declared.nodes.Node.{Node}
use Rattle.st_pcap.specs.declared.forms.Unit as unit
use Rattle.st_pcap.specs.declared.forms.Unit.TheVariants.{Micro, Nano}
use Rattle.st_pcap.specs.declared.numbers.TheConstants.{FILE_HEAD_SIZE, RECORD_HEAD_SIZE}
use Rattle.st_pcap.specs.Text.{file_head, record_pieces, body_piece, Pieces}
use Rattle.st_pcap.proofs.Writing.{length-record_head}
use Rattle.st_answer.specs.declared.picked.Picked.{Picked}
use Rattle.st_answer.specs.declared.errors.Told.{Told}
use Rattle.st_answer.specs.declared.errors.AnswerErr.{AnswerErr}
use Rattle.st_answer.specs.declared.errors.AnswerErr.TheVariants as error
use Rattle.st_answer.specs.Picks.{packet_in, picked_records}
use Rattle.st_answer.specs.Order.{TellsPicks}
use Rattle.st_answer.specs.Sending.{StopsAmong}
use Rattle.st_answer.specs.Replies.{Question, IsReply, Tells, BreaksOff}
use Rattle.st_answer.proofs.Replying.{IsOwn}

length-file_head : (u : unit.Unit) → length (file_head u) ≡ FILE_HEAD_SIZE
unfolding file_head
length-file_head Micro = refl
length-file_head Nano = refl

body_size : (body : List ℕ) → sum_by (λ (p : List ℕ). length p) (body_piece body) ≡ length body
body_size [] = refl
body_size (x ∷ xs) = omega arith

record_size : (u : unit.Unit) (r : Rec) → sum_by (λ (p : List ℕ). length p) (record_pieces u r) ≡ RECORD_HEAD_SIZE + length r.body
record_size u r = omega (arith, sum_by-cons (λ (p : List ℕ). length p) (Rattle.st_pcap.specs.Text.record_head u r) (body_piece r.body), length-record_head u r, body_size r.body)

-- the bytes of the records of picks
records_size : (u : unit.Unit) (q : Node) (now : ℕ) (set : List Entry) (ps : List Picked) → All (IsOwn q now set) ps
    → sum_by (λ (p : List ℕ). length p) (flat_map (record_pieces u) (picked_records set ps)) ≡ sum_by (λ (p : Picked). RECORD_HEAD_SIZE + p.len) ps
records_size u q now set [] mine = refl
records_size u q now set (p ∷ ps) mine =
    let r = (packet_in set p).packet in
    let size = λ (p : List ℕ). length p in
    let rest = records_size u q now set ps (All-tail (IsOwn q now set) p ps mine) in
    let len = (All-head (IsOwn q now set) p ps mine).len in
    let left = sum_by-append size (record_pieces u r) (flat_map (record_pieces u) (picked_records set ps)) in
    let right = sum_by-cons (λ (p : Picked). RECORD_HEAD_SIZE + p.len) p ps in
    omega (arith, left, right, rest, len, record_size u r)

-- what is told of picks is told of their records
pub tells_of : (u : unit.Unit) (q : Node) (now : ℕ) (set : List Entry) (ps : List Picked) (told : Told) → All (IsOwn q now set) ps → TellsPicks ps told → Tells u (picked_records set ps) told
tells_of u q now set ps told mine tells =
    let size = λ (p : List ℕ). length p in
    let all = sum_by-cons size (file_head u) (flat_map (record_pieces u) (picked_records set ps)) in
    let head = length-file_head u in
    let rest = records_size u q now set ps mine in
    record {
      packets = tells.packets ∙ sym (length-map ps (λ p. (packet_in set p).packet));
      bytes = omega (arith, tells.bytes, all, head, rest);
    }

-- how sending fails is how the answer breaks off
pub breaks_off : {S : Type 0} (after : S → List ℕ → S) (gone : S → List ℕ) (old new : Option S) (q : Question) (set : List Entry) (rs : List Rec) (e : AnswerErr)
    → IsReply q set rs → StopsAmong after gone old new (λ rs. Pieces rs q.unit) rs e → BreaksOff after gone old new q set e
breaks_off after gone old new q set rs error.WriteFault reply stops = (rs, reply, stops)
breaks_off after gone old new q set rs error.DiskFault reply (n, sent) = inr (rs, reply, n, sent)
breaks_off after gone old new q set rs (error.Damaged s d) reply (n, sent) = inr (rs, reply, n, sent)
breaks_off after gone old new q set rs error.NoMemory reply (n, sent) = inr (rs, reply, n, sent)
