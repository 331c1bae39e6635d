-- The packets at the positions that match.
use Rattle.std.proofs.Common.{◌≡◌, ℕ, ◌<◌, List, [], ◌∷◌, length, get_or, refl, sym, ap, ◌∙◌, subst, arith, Contains}
use Rattle.std.specs.Prelude.{All}
use Rattle.std.proofs.lemmas.List.{get_or-map, length-map}
use Rattle.std.proofs.lemmas.List.Elements.{All-cons, All-nil, All-head, All-tail, Contains-get_or}
use Rattle.st_base.specs.Records.{Rec}
use Rattle.st_block.specs.Scan.{PositionedRecord, positions_in, IsFile}
use Rattle.st_query.specs.declared.nodes.Node.{Node}
use Rattle.st_query.specs.Meaning.{Matches}
use Rattle.st_rows.specs.Positions.{Rising}
use Rattle.st_rows.proofs.OneList.{has_from, has_to}
use Rattle.st_rows.proofs.Packets.{one_packet_at, file_packets}
use Rattle.st_eval.specs.Selection.{MatchesAt, AreMatching}
use Rattle.st_answer.specs.Gathering.{AreSome, HasEach}

-- no packet
pub none_read : (q : Node) (now : ℕ) (given : List PositionedRecord) → AreSome q now given []
none_read q now given = record { rising = λ i j d lt below. absurd (omega (arith, below)); each = All-nil _ }

-- the packets at some positions
record PacketsAt (q : Node) (now : ℕ) (given : List PositionedRecord) (ps : List ℕ) : Type 0 where
  xs : List PositionedRecord
  order : ps ≡ positions_in xs
  each : All (λ (x : PositionedRecord). Contains given x × Matches q now x.1) xs

packets_at : (q : Node) (now : ℕ) (given : List PositionedRecord) (ps : List ℕ) → All (MatchesAt q now given) ps → PacketsAt q now given ps
packets_at q now given [] all = record { xs = []; order = refl; each = All-nil _ }
packets_at q now given (p ∷ ps) all =
    let (r, there, matches) = All-head (MatchesAt q now given) p ps all in
    let rest = packets_at q now given ps (All-tail (MatchesAt q now given) p ps all) in
    record {
      xs = (p, r) ∷ rest.xs;
      order = ap (λ (z : List ℕ). p ∷ z) rest.order;
      each = All-cons (λ (x : PositionedRecord). Contains given x × Matches q now x.1) (p, r) rest.xs (there, matches) rest.each;
    }

-- a pair by its parts
pair_is : (y x : PositionedRecord) → y.0 ≡ x.0 → y.1 ≡ x.1 → y ≡ x
pair_is y x e f = ap (λ (n : ℕ). (n, y.1)) e ∙ ap (λ (r : Rec). (x.0, r)) f

-- the packets that match, by position
pub record Selected (q : Node) (now : ℕ) (given : List PositionedRecord) (ps : List ℕ) : Type 0 where
  pub xs : List PositionedRecord
  pub order : ps ≡ positions_in xs
  pub some : AreSome q now given xs
  pub every : HasEach q now given xs

pub selected : (q : Node) (now : ℕ) (bytes : List ℕ) (given : List PositionedRecord) (ps : List ℕ)
    → IsFile bytes given → AreMatching q now given ps → Selected q now given ps
selected q now bytes given ps file are =
    let (rise, fit) = file_packets bytes given file in
    let at = packets_at q now given ps (λ k d lt. (are.exact (get_or ps k d)).0 (has_from ps (get_or ps k d) (Contains-get_or ps k d lt))) in
    record {
      xs = at.xs;
      order = at.order;
      some = record { rising = subst Rising at.order are.rising; each = at.each };
      every = λ x there matches.
          let here : Contains ps x.0 = has_to ps x.0 ((are.exact x.0).1 (x.1, there, matches)) in
          let (k, lt, is) = here in
          let count : length ps ≡ length at.xs = ap length at.order ∙ length-map at.xs (λ (y : PositionedRecord). y.0) in
          let lt' : k < length at.xs = omega (arith, lt, count) in
          let y = get_or at.xs k x in
          let place : y.0 ≡ x.0 = sym (get_or-map (λ (z : PositionedRecord). z.0) at.xs k x x.0 lt') ∙ (ap (λ (z : List ℕ). get_or z k x.0) (sym at.order) ∙ is) in
          let other = (at.each k x lt').0 in
          let body : y.1 ≡ x.1 = one_packet_at given x.0 y.1 x.1 rise (subst (λ p. Contains given (p, y.1)) place other) there in
          (k, lt', pair_is y x place body);
    }
