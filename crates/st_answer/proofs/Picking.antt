-- What a pick of a set stands for.
use Rattle.std.proofs.Common.{Option, ◌≡◌, ℕ, ◌<◌, List, [], Some, length, map, get_or, refl, sym, ap, ◌∙◌, subst, arith, Contains}
use Rattle.std.specs.Prelude.{All}
use Rattle.std.proofs.lemmas.Option.{slice_get-get_or}
use Rattle.std.proofs.lemmas.List.Elements.{Contains-get_or}
use Rattle.std.proofs.lemmas.List.{get_or-map, length-map}
use Rattle.st_disk.specs.Pairs.{Entry}
use Rattle.st_query.specs.declared.nodes.Node.{Node}
use Rattle.st_block.specs.Record.{IsRecordAt}
use Rattle.st_block.specs.Scan.{PositionedRecord, IsFile}
use Rattle.st_block.proofs.Finding.{given_records}
use Rattle.st_answer.specs.declared.picked.Picked.{Picked}
use Rattle.st_answer.specs.Packets.{IsWholePair}
use Rattle.st_answer.specs.declared.errors.AnswerErr.{AnswerErr}
use Rattle.st_answer.specs.declared.errors.AnswerErr.TheVariants as error
use Rattle.st_answer.specs.Heads.{NamesStamp, IsNoDamage}
use Rattle.st_answer.specs.Replies.{BlamesIn}
use Rattle.st_answer.specs.Sending.{ArePickedOf, StopsAtOne}
use Rattle.st_answer.proofs.Files.{known_at}
use Rattle.st_answer.specs.Picks.{pick_of, record_in, packet_in, blocks_of, picked_records, IsPickOf, IsFoundIn}

-- a pick, and an entry, for where a list has none
abbrev pub no_pick : Picked
no_pick = record { sec = 0; nsec = 0; stamp = 0; position = 0; len = 0; orig = 0; place = 0 }

abbrev pub no_entry : Entry
no_entry = record { stamp = 0; block = []; index = [] }

-- a packet of a whole block file is at its position
pub packet_at : (bytes : List ℕ) (given : List PositionedRecord) (x : PositionedRecord) → IsFile bytes given → Contains given x → IsRecordAt (Some bytes) x.0 x.1
packet_at bytes given x file (k, lt, is) =
    given_records bytes given k x file (slice_get-get_or given k x lt ∙ ap Some is)

-- a pick of a whole pair is that of its record
pub pick_is : (q : Node) (now : ℕ) (e : Entry) (p : Picked) → IsPickOf q now e p
    → IsRecordAt (Some e.block) p.position (record_in e.block p) × (p ≡ pick_of p.place p.stamp p.position (record_in e.block p))
pick_is q now e p is =
    (packet_at e.block is.given (p.position, record_in e.block p) is.whole.file is.there, ap (λ n. record p { len = n }) is.len)

-- the block at the place of a pick
pub block_at : (set : List Entry) (i : ℕ) → i < length set → get_or (blocks_of set) i [] ≡ (get_or set i no_entry).block
block_at set i lt = get_or-map (λ (e : Entry). e.block) set i no_entry [] lt

pub record_at : (set : List Entry) (p : Picked) → p.place < length set → (packet_in set p).packet ≡ record_in (get_or set p.place no_entry).block p
record_at set p lt = ap (λ b. record_in b p) (block_at set p.place lt)

-- the records of picks, one by one
pub picked_at : (set : List Entry) (ps : List Picked) (i : ℕ) → i < length ps → get_or (picked_records set ps) i (record { sec = 0; nsec = 0; orig = 0; body = [] }) ≡ (packet_in set (get_or ps i no_pick)).packet
picked_at set ps i lt = get_or-map (λ p. (packet_in set p).packet) ps i no_pick _ lt

-- the entry of a pick of known files
pub record PickAt {F : Type 0} (content : F → Option (List ℕ)) (files : List F) (d : F) (q : Node) (now : ℕ) (set : List Entry) (p : Picked) : Type 0 where
  pub e : Entry
  pub lt : p.place < length set
  pub is : e ≡ get_or set p.place no_entry
  pub there : Contains set e
  pub content_is : content (get_or files p.place d) ≡ Some e.block
  pub found : IsFoundIn q now e p

pub entry_of : {F : Type 0} (content : F → Option (List ℕ)) (files : List F) (d : F) (q : Node) (now : ℕ) (set : List Entry) (contents : List (Option (List ℕ))) (ps : List Picked) (i : ℕ)
    → contents ≡ map content files → ArePickedOf q now set contents ps → i < length ps → (get_or ps i no_pick).place < length files
    → PickAt content files d q now set (get_or ps i no_pick)
entry_of content files d q now set contents ps i same are lt place =
    let p = get_or ps i no_pick in
    let known : map content files ≡ map Some (blocks_of set) = sym same ∙ are.known in
    let len : length files ≡ length set = sym (length-map files content) ∙ (ap length known ∙ (length-map (blocks_of set) Some ∙ length-map set (λ (e : Entry). e.block))) in
    let inside : p.place < length set = omega (arith, len, place) in
    record {
      e = get_or set p.place no_entry;
      lt = inside;
      is = refl;
      there = Contains-get_or set p.place no_entry inside;
      content_is = known_at content files (blocks_of set) p.place d [] place known ∙ ap Some (block_at set p.place inside);
      found = are.found i no_pick lt no_entry inside;
    }

-- if the pair is whole, its record is at the pick's position
pub record Stands {F : Type 0} (content : F → Option (List ℕ)) (files : List F) (d : F) (set : List Entry) (p : Picked) : Type 0 where
  pub there : IsRecordAt (content (get_or files p.place d)) p.position (packet_in set p).packet
  pub pick : p ≡ pick_of p.place p.stamp p.position (packet_in set p).packet

pub stands : {F : Type 0} (content : F → Option (List ℕ)) (files : List F) (d : F) (q : Node) (now : ℕ) (set : List Entry) (p : Picked) (at : PickAt content files d q now set p) → IsWholePair at.e → Stands content files d set p
stands content files d q now set p at whole =
    let (there, is) = pick_is q now at.e p (at.found.pick whole) in
    let same : record_in at.e.block p ≡ (packet_in set p).packet = ap (λ (e : Entry). record_in e.block p) at.is ∙ sym (record_at set p at.lt) in
    record {
      there = subst (λ r. IsRecordAt (content (get_or files p.place d)) p.position r) same (subst (λ z. IsRecordAt z p.position (record_in at.e.block p)) (sym at.content_is) there);
      pick = is ∙ ap (λ r. pick_of p.place p.stamp p.position r) same;
    }

-- all pairs of the set are whole, and so this one
pub whole_at : {F : Type 0} (content : F → Option (List ℕ)) (files : List F) (d : F) (q : Node) (now : ℕ) (set : List Entry) (p : Picked) (at : PickAt content files d q now set p) → All IsWholePair set → IsWholePair at.e
whole_at content files d q now set p at whole = subst IsWholePair (sym at.is) (whole p.place no_entry at.lt)

-- blame falls on the pair of the pick
pub blames_entry : (set : List Entry) (e : Entry) (err : AnswerErr) → Contains set e → NamesStamp e.stamp err → (IsWholePair e → IsNoDamage err) → BlamesIn set err
blames_entry set e error.WriteFault there names unhurt = tt
blames_entry set e error.DiskFault there names unhurt = tt
blames_entry set e (error.Damaged s d) there names unhurt = (e, there, sym names, unhurt)
blames_entry set e error.NoMemory there names unhurt = tt

pub stops_unhurt : {S : Type 0} (after : S → List ℕ → S) (gone : S → List ℕ) (a b : Option S) (ps : List (List ℕ)) (err : AnswerErr) → StopsAtOne after gone a b ps err → IsNoDamage err
stops_unhurt after gone a b ps error.WriteFault h = tt
stops_unhurt after gone a b ps error.DiskFault h = tt
stops_unhurt after gone a b ps (error.Damaged s d) h = h
stops_unhurt after gone a b ps error.NoMemory h = tt

-- packets of a whole block file are at their positions
pub packets_stand : (bytes : List ℕ) (given xs : List PositionedRecord) → IsFile bytes given → All (Contains given) xs → All (λ (x : PositionedRecord). IsRecordAt (Some bytes) x.0 x.1) xs
packets_stand bytes given xs file all k d lt = packet_at bytes given (get_or xs k d) file (all k d lt)
