-- Picks of a pair more, in a set.
use Rattle.std.proofs.Common.{Option, ◌≡◌, ℕ, zero, suc, ◌+◌, ◌*◌, ◌<◌, ◌≤◌, List, [], ◌∷◌, ◌++◌, Some, length, map, take, drop, get_or, refl, sym, ap, ◌∙◌, subst, arith, Contains, ◌⊎◌, inl, inr}
use Rattle.std.specs.Prelude.{All}
use Rattle.std.proofs.lemmas.List.{map_more, map_push, take_more, length-append, length-map, get_or-map, get_or_default, map-append, append_cancel_left}
use Rattle.std.proofs.lemmas.List.Elements.{All-map, All-append, All-weaker, Contains-append_cases, Contains-append_left, Contains-append_right}
use Rattle.st_base.specs.Records.{Rec}
use Rattle.st_disk.specs.Pairs.{Entry, IsFileSet}
use Rattle.st_query.specs.declared.nodes.Node.{Node}
use Rattle.st_query.specs.Meaning.{Matches}
use Rattle.st_block.specs.declared.format.TheConstants.{RECORD_HEAD}
use Rattle.st_block.specs.Scan.{PositionedRecord}
use Rattle.st_block.proofs.Finding.{record_bytes}
use Rattle.st_block.proofs.Unhurt.{one_given_there}
use Rattle.st_rows.specs.Whole.{IsWhole}
use Rattle.st_answer.specs.declared.picked.Picked.{Picked}
use Rattle.st_answer.specs.Packets.{Packet, IsWholePair}
use Rattle.st_answer.specs.Picks.{pick_of, picks_of, record_in, packet_in, blocks_of, IsPickOf, IsFoundIn, IsFound, IsPlaced, HasAllOf, AreReadFor}
use Rattle.st_answer.specs.declared.errors.AnswerErr.{AnswerErr}
use Rattle.st_answer.specs.declared.errors.AnswerErr.TheVariants as error
use Rattle.st_answer.specs.Replies.{IsNoWrite}
use Rattle.st_answer.specs.Heads.{IsOf, AddsPicks, IsReadErr, NamesStamp}
use Rattle.st_answer.specs.Gathering.{AreSome, HasEach}
use Rattle.st_answer.proofs.Picking.{no_entry, packet_at, record_at}
use Rattle.st_answer.proofs.Distinct.{distinct_more, stamps_rise}

-- the body in the block file is that of the packet
body_in : (e : Entry) (given : List PositionedRecord) → IsWhole e.block e.index given → (x : PositionedRecord) → Contains given x → take (length x.1.body) (drop (x.0 + RECORD_HEAD) e.block) ≡ x.1.body
body_in e given whole x there = (record_bytes e.block x.0 x.1 (packet_at e.block given x whole.file there)).body

-- the record that a pick of a packet has
record_is : (e : Entry) (given : List PositionedRecord) → IsWhole e.block e.index given → (x : PositionedRecord) → Contains given x → (place stamp : ℕ) → record_in e.block (pick_of place stamp x.0 x.1) ≡ x.1
record_is e given whole x there place stamp = ap (λ b. record x.1 { body = b }) (body_in e given whole x there)

-- the pick of a packet of a whole pair that matches
pub is_pick : (q : Node) (now : ℕ) (e : Entry) (given : List PositionedRecord) → IsWhole e.block e.index given → (x : PositionedRecord) → Contains given x → Matches q now x.1 → (place stamp : ℕ) → IsPickOf q now e (pick_of place stamp x.0 x.1)
is_pick q now e given whole x there matches place stamp =
    let is = record_is e given whole x there place stamp in
    record {
      given = given;
      whole = whole;
      there = subst (λ r. Contains given (x.0, r)) (sym is) there;
      len = ap (λ (r : Rec). length r.body) (sym is);
      matches = subst (Matches q now) (sym is) matches;
    }

pub are_picks : (q : Node) (now : ℕ) (e : Entry) (given : List PositionedRecord) → IsWhole e.block e.index given → (xs : List PositionedRecord) → AreSome q now given xs → (place stamp : ℕ) → All (IsPickOf q now e) (picks_of place stamp xs)
are_picks q now e given whole xs some place stamp =
    All-map (IsPickOf q now e) (λ (x : PositionedRecord). pick_of place stamp x.0 x.1) xs
    (λ k d lt. let (there, matches) = some.each k d lt in is_pick q now e given whole (get_or xs k d) there matches place stamp)

-- picks that were added are found in the set
pub found_new : (q : Node) (now : ℕ) (set : List Entry) (i : ℕ) (more : List Picked) → i < length set → All (IsOf i (get_or set i no_entry).stamp) more
    → (IsWholePair (get_or set i no_entry) → All (IsPickOf q now (get_or set i no_entry)) more) → All (IsFound q now set) more
found_new q now set i more lt all picks k d below d' inside =
    let p = get_or more k d in
    let e = get_or set i no_entry in
    let of = all k d below in
    let same : get_or set p.place d' ≡ e = ap (λ n. get_or set n d') of.place ∙ get_or_default set i d' no_entry lt in
    subst (λ e. IsFoundIn q now e p) (sym same) (record { stamp = of.stamp; pick = λ whole. picks whole k d below })

-- what was added is what was picked
pub added_is : (old new more picks : List Picked) → new ≡ old ++ more → new ≡ old ++ picks → picks ≡ more
added_is old new more picks e f = append_cancel_left old picks more (sym f ∙ e)

-- of the picks before, each has a lower stamp
low_stamps : (q : Node) (now : ℕ) (set : List Entry) (i : ℕ) (ps : List Picked) → IsFileSet set → i < length set → All (λ p. p.place < i) ps → All (IsFound q now set) ps → All (λ p. p.stamp < (get_or set i no_entry).stamp) ps
low_stamps q now set i ps rises lt places found k d below =
    let p = get_or ps k d in
    let place = places k d below in
    let stamp = (found k d below no_entry (omega (arith, place, lt))).stamp in
    let rise = stamps_rise set p.place i no_entry rises place lt in
    omega (arith, stamp, rise)

-- the heads of some packets of a whole pair were read
pub reads_more : (q : Node) (now : ℕ) (set : List Entry) (i reads asked reads' asked' : ℕ) (given xs : List PositionedRecord) (ps : List Picked)
    → IsFileSet set → i < length set → IsWhole (get_or set i no_entry).block (get_or set i no_entry).index given → AreSome q now given xs
    → All (λ p. p.place < i) ps → AreReadFor q now set reads asked ps → reads' ≤ reads + length xs → asked' ≤ asked + RECORD_HEAD * length xs
    → AreReadFor q now set reads' asked' (ps ++ picks_of i (get_or set i no_entry).stamp xs)
reads_more q now set i reads asked reads' asked' given xs ps rises lt whole some places are less lower =
    let e = get_or set i no_entry in
    let new = picks_of i e.stamp xs in
    let count = length-append ps new in
    let many = length-map xs (λ (x : PositionedRecord). pick_of i e.stamp x.0 x.1) in
    let picks = are_picks q now e given whole xs some i e.stamp in
    let of : All (λ p. (p.place ≡ i) × (p.stamp ≡ e.stamp)) new = All-map (λ p. (p.place ≡ i) × (p.stamp ≡ e.stamp)) (λ (x : PositionedRecord). pick_of i e.stamp x.0 x.1) xs (λ k d lt'. (refl, refl)) in
    let P = λ (p : Picked). (p.place < length set) × IsFound q now set p in
    record {
      found = All-append P ps new are.found (λ k d below.
          let p = get_or new k d in
          let (place, stamp) = of k d below in (
            omega (arith, place, lt),
            λ d' inside.
                let same : get_or set p.place d' ≡ e = ap (λ n. get_or set n d') place ∙ get_or_default set i d' no_entry lt in
                subst (λ e. IsFoundIn q now e p) (sym same) (record { stamp = stamp; pick = λ pair. picks k d below }),
          ));
      distinct = distinct_more i e.stamp ps xs (low_stamps q now set i ps rises lt places (All-weaker P (IsFound q now set) (λ p h. h.1) ps are.found)) are.distinct some.rising;
      reads_most = omega (arith, count, many, are.reads_most, less);
      asked_most = omega (arith, count, many, are.asked_most, lower);
    }

-- the packet of a pick of the pair at this place
packet_is : (set : List Entry) (i : ℕ) (given : List PositionedRecord) → i < length set → IsWhole (get_or set i no_entry).block (get_or set i no_entry).index given → (x : PositionedRecord) → Contains given x
    → packet_in set (pick_of i (get_or set i no_entry).stamp x.0 x.1) ≡ record { stamp = (get_or set i no_entry).stamp; position = x.0; packet = x.1 }
packet_is set i given lt whole x there =
    let e = get_or set i no_entry in
    let p = pick_of i e.stamp x.0 x.1 in
    ap (λ (r : Rec). record { stamp = e.stamp; position = x.0; packet = r }) (record_at set p lt ∙ record_is e given whole x there i e.stamp)

-- the one entry more
last_entry : (set : List Entry) (i : ℕ) (e : Entry) → i < length set → Contains (take (i + 1) set) e → Contains (take i set) e ⊎ (get_or set i no_entry ≡ e)
last_entry set i e lt there =
    let there' = subst (λ z. Contains z e) (take_more set i no_entry lt) there in
    elim (Contains-append_cases (take i set) (get_or set i no_entry ∷ []) e there') [
      | inl old ↦ inl old
      | inr (k, below, is) ↦ inr (only e k below is)
    ]
  where
    only : (e : Entry) (k : ℕ) → k < 1 → get_or (get_or set i no_entry ∷ []) k e ≡ e → get_or set i no_entry ≡ e
    only e zero below is = is
    only e (suc k) below is = absurd (omega (arith, below))

-- a packet of the pair among those that were picked is a packet of the picks
picked_in : (set : List Entry) (i : ℕ) (given xs : List PositionedRecord) → i < length set → IsWhole (get_or set i no_entry).block (get_or set i no_entry).index given
    → {q : Node} {now : ℕ} → AreSome q now given xs → (x : Packet) → x.stamp ≡ (get_or set i no_entry).stamp → Contains xs (x.position, x.packet)
    → Contains (map (packet_in set) (picks_of i (get_or set i no_entry).stamp xs)) x
picked_in set i given xs lt whole some x stamp (k, below, here) =
    let s = (get_or set i no_entry).stamp in
    let pick = λ (y : PositionedRecord). pick_of i s y.0 y.1 in
    let f = packet_in set in
    let y : PositionedRecord = get_or xs k (x.position, x.packet) in
    let inside : k < length (map f (map pick xs)) = omega (arith, below, length-map xs pick, length-map (map pick xs) f) in
    let first : get_or (map f (map pick xs)) k x ≡ f (get_or (map pick xs) k (pick y)) = get_or-map f (map pick xs) k (pick y) x (omega (arith, below, length-map xs pick)) in
    let second : get_or (map pick xs) k (pick y) ≡ pick y = get_or-map pick xs k (x.position, x.packet) (pick y) below in
    let third : f (pick y) ≡ record { stamp = s; position = y.0; packet = y.1 } = packet_is set i given lt whole y (some.each k (x.position, x.packet) below).0 in
    let fourth : record { stamp = s; position = y.0; packet = y.1 } ≡ record { stamp = s; position = x.position; packet = x.packet } = ap (λ (z : PositionedRecord). let p : Packet = record { stamp = s; position = z.0; packet = z.1 } in p) here in
    let fifth : record { stamp = s; position = x.position; packet = x.packet } ≡ x = ap (λ n. record x { stamp = n }) (sym stamp) in
    let start : get_or (map f (map pick xs)) k x ≡ f (pick y) = first ∙ ap f second in
    (k, inside, start ∙ (third ∙ (fourth ∙ fifth)))

-- all packets that match of one pair more are picked
pub has_more : (q : Node) (now : ℕ) (set : List Entry) (i : ℕ) (given xs : List PositionedRecord) (ps : List Picked)
    → i < length set → IsWhole (get_or set i no_entry).block (get_or set i no_entry).index given → AreSome q now given xs → HasEach q now given xs
    → HasAllOf q now set (take i set) ps → HasAllOf q now set (take (i + 1) set) (ps ++ picks_of i (get_or set i no_entry).stamp xs)
has_more q now set i given xs ps lt whole some every all x (e, there, is) matches =
    let new = picks_of i (get_or set i no_entry).stamp xs in
    let f = packet_in set in
    let split : map f (ps ++ new) ≡ map f ps ++ map f new = map-append f ps new in
    elim (last_entry set i e lt there) [
      | inl old ↦ subst (λ z. Contains z x) (sym split) (Contains-append_left (map f ps) (map f new) x (all x (e, old, is) matches))
      | inr same ↦
          let given' = subst (λ (e : Entry). IsWhole e.block e.index is.given) (sym same) is.whole in
          let one : is.given ≡ given = one_given_there (get_or set i no_entry).block is.given given given'.file whole.file in
          let at = subst (λ g. Contains g (x.position, x.packet)) one is.there in
          let (k, below, here) = every (x.position, x.packet) at matches in
          let stamp : x.stamp ≡ (get_or set i no_entry).stamp = is.stamp ∙ ap (λ (e : Entry). e.stamp) (sym same) in
          let inside : Contains (map f new) x = picked_in set i given xs lt whole some x stamp (k, below, here) in
          subst (λ z. Contains z x) (sym split) (Contains-append_right (map f ps) (map f new) x inside)
    ]

-- picks that were added lie in one file more
pub placed_next : (i s : ℕ) (old new : List Picked) → AddsPicks i s old new → All (IsPlaced i) old → All (IsPlaced (i + 1)) new
placed_next i s old new (more, is, all) placed =
    subst (All (IsPlaced (i + 1))) (sym is) (All-append (IsPlaced (i + 1)) old more
    (All-weaker (IsPlaced i) (IsPlaced (i + 1)) (λ p h. record { place = omega (arith, h.place); nsec = h.nsec }) old placed)
    (All-weaker (IsOf i s) (IsPlaced (i + 1)) (λ p h. record { place = omega (arith, h.place); nsec = h.nsec }) more all))

-- what a whole pair's picks are
pub record PicksOf (q : Node) (now : ℕ) (e : Entry) (place : ℕ) (given : List PositionedRecord) (old new : List Picked) : Type 0 where
  pub xs : List PositionedRecord
  pub some : AreSome q now given xs
  pub is : new ≡ old ++ picks_of place e.stamp xs

pub found_next : (q : Node) (now : ℕ) (set : List Entry) (i s : ℕ) (old new : List Picked) → i < length set → s ≡ (get_or set i no_entry).stamp → AddsPicks i s old new → All (IsFound q now set) old
    → ((given : List PositionedRecord) → IsWhole (get_or set i no_entry).block (get_or set i no_entry).index given → PicksOf q now (get_or set i no_entry) i given old new)
    → All (IsFound q now set) new
found_next q now set i s old new lt stamp (more, is, all) found picks =
    let e = get_or set i no_entry in
    let more_found = found_new q now set i more lt (subst (λ s. All (IsOf i s) more) stamp all) (λ (given, whole).
    let one = picks given whole in
    subst (All (IsPickOf q now e)) (added_is old new more (picks_of i e.stamp one.xs) is one.is) (are_picks q now e given whole one.xs one.some i e.stamp)) in
    subst (All (IsFound q now set)) (sym is) (All-append (IsFound q now set) old more found more_found)

-- errors of reading
pub read_names : (s : ℕ) (e : AnswerErr) → IsReadErr s e → NamesStamp s e
read_names s error.WriteFault h = tt
read_names s error.DiskFault h = tt
read_names s (error.Damaged t d) h = h
read_names s error.NoMemory h = tt

pub read_no_write : (s : ℕ) (e : AnswerErr) → IsReadErr s e → IsNoWrite e
read_no_write s error.WriteFault h = h
read_no_write s error.DiskFault h = tt
read_no_write s (error.Damaged t d) h = tt
read_no_write s error.NoMemory h = tt

-- the block of one entry more
pub blocks_next : (set : List Entry) (i : ℕ) (now new : List (Option (List ℕ))) → i < length set → now ≡ map Some (blocks_of (take i set)) → new ≡ now ++ Some (get_or set i no_entry).block ∷ [] → new ≡ map Some (blocks_of (take (i + 1) set))
blocks_next set i now new lt had more =
    let f = λ (e : Entry). e.block in
    let b = (get_or set i no_entry).block in
    more ∙ (ap (λ z. z ++ Some b ∷ []) had ∙ (sym (map_push Some (map f (take i set)) b) ∙ ap (map Some) (sym (map_more f set i no_entry lt))))
