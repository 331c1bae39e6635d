-- The packets of a block file: their positions rise and fit, and so do their keys.
use Rattle.std.proofs.Common.{◌≡◌, ℕ, zero, suc, ◌+◌, ◌-◌, ◌<◌, ◌≤◌, List, [], ◌∷◌, length, get_or, All, slice_index_or, sym, ap, ◌∙◌, subst, arith, ⊎_elim}
use Rattle.std.proofs.lemmas.List.{get_or_default, get_or-map, length-map}
use Rattle.std.proofs.lemmas.List.Elements.{All-contains}
use Rattle.std.proofs.lemmas.Bool.{cases_order}
use Rattle.st_base.specs.Records.{Rec, InRange}
use Rattle.st_walk.specs.declared.text.Key.{Key}
use Rattle.st_walk.specs.KeyText.{Fits}
use Rattle.st_walk.proofs.Fitting.{frame_fits}
use Rattle.st_block.specs.BlockText.{HasBytes, AreFilled, blocks}
use Rattle.st_block.specs.Position.{positions, positions_in_blocks}
use Rattle.st_block.specs.Scan.{PositionedRecord, positions_in, records_in}
use Rattle.st_block.proofs.Rising.{length-positions, positions_rise, positions_fit}
use Rattle.st_block.proofs.Rooms.{file_fills}
use Rattle.st_rows.specs.Rows.{PositionsRise, FitsFields}
use Rattle.st_rows.specs.Laws.{FewPackets, FilePackets, OnePacketAt, PacketKeysFit}

-- the position of a packet, by the list of positions
position_is : (size : ℕ) (given : List PositionedRecord) (i : ℕ) (d : PositionedRecord) → positions size (records_in given) ≡ positions_in given → i < length given → get_or (positions size (records_in given)) i 0 ≡ (get_or given i d).0
position_is size given i d heads less = ap (λ (ps : List ℕ). get_or ps i 0) heads ∙ get_or-map (λ (x : PositionedRecord). x.0) given i d 0 less

-- what all records have, each packet's has
of_packet : (P : Rec → Type 0) (given : List PositionedRecord) (i : ℕ) (d : PositionedRecord) → All P (records_in given) → i < length given → P (get_or given i d).1
of_packet P given i d all less =
    let count : length (records_in given) ≡ length given = length-map given (λ (x : PositionedRecord). x.1) in
    subst P (get_or-map (λ (x : PositionedRecord). x.1) given i d d.1 less) (all i d.1 (omega arith))

pub file_packets : FilePackets
file_packets bytes given f =
    let count : length (records_in given) ≡ length given = length-map given (λ (x : PositionedRecord). x.1) in (
      λ i j d less under.
          let first = position_is f.size given i d f.heads (omega arith) in
          let second = position_is f.size given j d f.heads under in
          let rise = positions_rise f.size i j (records_in given) f.file less (omega arith) in
          omega (arith, first, second, rise),
      λ i d less.
          let here = position_is f.size given i d f.heads less in
          let fit = positions_fit f.size i (records_in given) f.file (omega arith) in
          let range = of_packet InRange given i d f.file.range less in
          (omega (arith, here, fit), range.sec, (let n = range.nsec in omega (arith, n)), of_packet HasBytes given i d f.file.of_bytes less),
    )

-- the first position comes after the first block's head
first_position : (size : ℕ) (bs : List (List Rec)) → AreFilled size bs → 0 < length (positions_in_blocks size 0 bs) → 0 < get_or (positions_in_blocks size 0 bs) 0 0
first_position size [] fill less = absurd (omega (arith, less))
first_position size ([] ∷ bs) fill less = let some = fill.0 in absurd (omega (arith, some))
first_position size ((r ∷ rs) ∷ bs) fill less = omega arith

-- positions that rise are as far above the first as their number says, or further
above_first : (given : List PositionedRecord) (i : ℕ) (d : PositionedRecord) → PositionsRise given → i < length given → (get_or given 0 d).0 + i ≤ (get_or given i d).0
above_first given zero d rise less = omega arith
above_first given (suc i) d rise less =
    let more = above_first given i d rise (omega (arith, less)) in
    let up = rise i (suc i) d (omega arith) less in
    omega (arith, more, up)

pub few_packets : FewPackets
few_packets bytes given f =
    let d : PositionedRecord = (0, record { sec = 0; nsec = 0; orig = 0; body = [] }) in
    let records = records_in given in
    let count : length records ≡ length given = length-map given (λ (x : PositionedRecord). x.1) in
    let some = f.file.some in
    let (rise, fit) = file_packets bytes given f in
    let places = length-positions f.size records in
    let head = first_position f.size (blocks f.size records) (file_fills f.size records f.file.block_size f.file.short) (omega (arith, places, some)) in
    let first = position_is f.size given 0 d f.heads (omega (arith, count, some)) in
    let far = above_first given (length given - 1) d rise (omega (arith, count, some)) in
    let low = (fit (length given - 1) d (omega (arith, count, some))).0 in
    omega (arith, head, first, far, low)

pub one_packet_at : OnePacketAt
one_packet_at given p r q rise (i, less, e) (j, under, f) =
    let first : (slice_index_or given i (p, r)).0 ≡ p = ap (λ (x : PositionedRecord). x.0) e in
    let other : slice_index_or given j (p, r) ≡ (p, q) = get_or_default given j (p, r) (p, q) under ∙ f in
    let second : (slice_index_or given j (p, r)).0 ≡ p = ap (λ (x : PositionedRecord). x.0) other in
    ⊎_elim
    (λ same. ap (λ (x : PositionedRecord). x.1) (sym e ∙ (ap (λ k. slice_index_or given k (p, r)) same ∙ other)))
    (λ apart. ⊎_elim
    (λ up. let rises = rise i j (p, r) up under in let no : ⊥ = omega arith in absurd no)
    (λ down. let rises = rise j i (p, r) down less in let no : ⊥ = omega arith in absurd no)
    apart)
    (cases_order i j)

pub packet_keys_fit : PacketKeysFit
packet_keys_fit given k p fit (r, c, h) =
    let (place, sec, nsec, bytes) = All-contains FitsFields given (p, r) fit c in
    ⊎_elim (λ e. subst (λ (j : Key). Fits j) (sym e) sec) (λ f. frame_fits r.body k bytes f) h
