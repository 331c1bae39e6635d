-- The steps of a scan: after a record, at the next block, at a check that fails, and at the end.
use Rattle.std.proofs.Common.{◌≡◌, ℕ, ◌+◌, ◌-◌, ◌*◌, ◌<◌, ◌≤◌, List, [], ◌∷◌, ◌++◌, append_assoc, append-nil, length, length-append, take, drop, Option, None, Some, sym, ap, ◌∙◌, subst, arith}
use Rattle.std.specs.Prelude.{All}
use Rattle.std.specs.Option.{option_or}
use Rattle.std.specs.List.{flat_map}
use Rattle.std.proofs.lemmas.List.{drop-drop, length-drop, take_all}
use Rattle.std.proofs.lemmas.List.Elements.{All-append}
use Rattle.std.proofs.Math.Seq.{take-add}
use Rattle.st_base.specs.Records.{Rec, InRange}
use Rattle.st_base.specs.Damages.{DamageView}
use Rattle.st_block.specs.BlockText.{room, used_bytes, block_text, blocks, blocks_text, BlockText, AreFilled, IsShort, HasBytes, HasFile}
use Rattle.st_block.specs.Position.{positions_from, positions_in_blocks, positions}
use Rattle.st_block.specs.Checks.{room_at, record_at, records_at, count_of, records_of, layout_wrong, join_wrong, block_wrong, blocks_wrong, file_wrong}
use Rattle.st_block.specs.Layout.{SoundRecordsFit, IsWholeBlock}
use Rattle.st_block.specs.ScanView.{ScanView, rest_of_block, reached_offset, after_record, in_next_block}
use Rattle.st_block.specs.Scan.{PositionedRecord, positions_in, records_in, IsFile, GoesOn}
use Rattle.st_block.proofs.Texts.{AreBytes}
use Rattle.st_block.proofs.Rooms.{fills_are}
use Rattle.st_block.proofs.Laying.{room_is, records_more}
use Rattle.st_block.proofs.Checking.{length-records_at}
use Rattle.st_block.proofs.Whole.{both_hold, bytes_after, whole_block, whole_stands, range_all, bytes_all, short_all}
use Rattle.st_block.proofs.Sound.{stand_first}
use Rattle.st_block.proofs.Going.{NoRoomAfter, fills_push, last_push, text_push, places_push, flat_push, map_push, no_room, blocks_more}

-- after the next record
pub goes_passed : (p : ScanView) (bytes : List ℕ) (given : List PositionedRecord) → GoesOn p bytes given → 1 ≤ p.left → GoesOn (after_record p) bytes (given ++ (reached_offset p, record_at (rest_of_block p)) ∷ [])
goes_passed p bytes given on l =
    let here = rest_of_block p in
    let r = record_at here in
    let x : PositionedRecord = (reached_offset p, r) in
    let first = stand_first p.left here l on.stand in
    let after : drop (room_at here) here ≡ rest_of_block (after_record p) = drop-drop (room_at here) p.at p.block in
    let rs = records_at (p.left - 1) (rest_of_block (after_record p)) in
    let split : records_at p.left here ≡ r ∷ rs = records_more p.left here l ∙ ap (λ (b : List ℕ). r ∷ records_at (p.left - 1) b) after in
    let on_to : reached_offset p + room r ≡ reached_offset (after_record p) = let e = room_is here first.0 in omega arith in
    record {
      size = on.size;
      some = on.some;
      most = on.most;
      done = on.done;
      whole = on.whole;
      wrong = on.wrong;
      read = on.read;
      fills = on.fills;
      count = on.count;
      last = on.last;
      text = on.text;
      range = on.range;
      of_bytes = on.of_bytes;
      short = on.short;
      stand = subst (SoundRecordsFit (p.left - 1)) after first.2;
      records =
          on.records
          ∙ (ap (λ (qs : List Rec). records_in given ++ qs) split
          ∙ (sym (append_assoc (records_in given) (r ∷ []) rs) ∙ ap (λ (qs : List Rec). qs ++ rs) (sym (map_push (λ (y : PositionedRecord). y.1) given x))));
      heads =
          on.heads
          ∙ (ap (λ (qs : List Rec). positions_in given ++ positions_from (reached_offset p) qs) split
          ∙ (ap (λ (n : ℕ). positions_in given ++ (reached_offset p ∷ positions_from n rs)) on_to
          ∙ (sym (append_assoc (positions_in given) (reached_offset p ∷ []) (positions_from (reached_offset (after_record p)) rs)) ∙ ap (λ (ns : List ℕ). ns ++ positions_from (reached_offset (after_record p)) rs) (sym (map_push (λ (y : PositionedRecord). y.0) given x)))));
    }

-- what is wrong with the file, where a block is to come
wrong_here : (p : ScanView) (bytes : List ℕ) (given : List PositionedRecord) (block : List ℕ) → GoesOn p bytes given → p.done < p.blocks → block ≡ take p.size (drop (p.size * p.done) bytes) → file_wrong bytes ≡ option_or (block_wrong p.size p.done p.before block) (blocks_wrong p.size (p.blocks - (p.done + 1)) (p.done + 1) (Some (used_bytes (records_of block))) (drop (p.size * (p.done + 1)) bytes))
wrong_here p bytes given block on l same =
    let rest = drop (p.size * p.done) bytes in
    let less : p.blocks - p.done - 1 ≡ p.blocks - (p.done + 1) = omega arith in
    let far : p.size * p.done + p.size ≡ p.size * (p.done + 1) = omega arith in
    let after : drop p.size rest ≡ drop (p.size * (p.done + 1)) bytes = drop-drop p.size (p.size * p.done) bytes ∙ ap (λ (n : ℕ). drop n bytes) far in
    on.wrong
    ∙ (blocks_more p.size (p.blocks - p.done) p.done p.before rest (omega arith)
    ∙ (ap (λ (b : List ℕ). option_or (block_wrong p.size p.done p.before b) (blocks_wrong p.size (p.blocks - p.done - 1) (p.done + 1) (Some (used_bytes (records_of b))) (drop p.size rest))) (sym same)
    ∙ (ap (λ (n : ℕ). option_or (block_wrong p.size p.done p.before block) (blocks_wrong p.size n (p.done + 1) (Some (used_bytes (records_of block))) (drop p.size rest))) less
    ∙ ap (λ (b : List ℕ). option_or (block_wrong p.size p.done p.before block) (blocks_wrong p.size (p.blocks - (p.done + 1)) (p.done + 1) (Some (used_bytes (records_of block))) b)) after)))

-- a check of the next block fails
pub stops_there : (p : ScanView) (bytes : List ℕ) (given : List PositionedRecord) (block : List ℕ) (f : DamageView) → GoesOn p bytes given → p.done < p.blocks → block ≡ take p.size (drop (p.size * p.done) bytes) → block_wrong p.size p.done p.before block ≡ Some f → file_wrong bytes ≡ Some f
stops_there p bytes given block f on l same wrong =
    wrong_here p bytes given block on l same ∙ ap (λ (o : Option DamageView). option_or o (blocks_wrong p.size (p.blocks - (p.done + 1)) (p.done + 1) (Some (used_bytes (records_of block))) (drop (p.size * (p.done + 1)) bytes))) wrong

-- at the first record of the next block
pub goes_entered : (p : ScanView) (bytes : List ℕ) (given : List PositionedRecord) (block : List ℕ) → GoesOn p bytes given → p.left ≡ 0 → p.done < p.blocks → block ≡ take p.size (drop (p.size * p.done) bytes) → length block ≡ p.size → block_wrong p.size p.done p.before block ≡ None → IsWholeBlock block → GoesOn (in_next_block p block) bytes given
unfolding block_wrong
goes_entered p bytes given block on none_left l same len none whole =
    let b = records_of block in
    let some = whole.some in
    let within = whole.within in
    let least = on.size.least in
    let many : 1 ≤ length b = let e = length-records_at (count_of block) (drop 48 block) in omega arith in
    let one = both_hold (layout_wrong (p.size * p.done) block) _ none in
    let two = both_hold (join_wrong p.size (p.size * p.done) p.before block) _ one.1 in
    let apart = subst (λ o. NoRoomAfter p.size o b) (sym on.last) (no_room p.size (p.size * p.done) p.before block two.0 whole) in
    let stands = whole_stands p.size p.done p.before block whole none in
    let is = whole_block p.size p.done p.before block whole len none in
    let after : AreBytes (drop 48 block) = bytes_after 48 block whole.bytes in
    let short_size : length (drop 48 block) + 48 ≤ p.size = let e = length-drop 48 block in omega arith in
    let number : 0 + length on.read ≡ p.done = let e = on.count in omega arith in
    let far : p.size * p.done + p.size ≡ p.size * (p.done + 1) = omega arith in
    let front : take (p.size * p.done) bytes ++ take p.size (drop (p.size * p.done) bytes) ≡ take (p.size * (p.done + 1)) bytes = sym (take-add (p.size * p.done) p.size bytes) ∙ ap (λ (n : ℕ). take n bytes) far in
    let given_all : flat_map (λ (x : List Rec). x) on.read ≡ records_in given = on.records ∙ (ap (λ (n : ℕ). records_in given ++ records_at n (rest_of_block p)) none_left ∙ append-nil (records_in given)) in
    let placed_all : positions_in_blocks p.size 0 on.read ≡ positions_in given = on.heads ∙ (ap (λ (n : ℕ). positions_in given ++ positions_from (reached_offset p) (records_at n (rest_of_block p))) none_left ∙ append-nil (positions_in given)) in
    let there : p.size * (0 + length on.read) + 48 ≡ reached_offset (in_next_block p block) = ap (λ (n : ℕ). p.size * n + 48) number ∙ ap (λ (n : ℕ). p.size * n + 48) (let e : p.done ≡ p.done + 1 - 1 = omega arith in e) in
    record {
      size = on.size;
      some = on.some;
      most = on.most;
      done = omega arith;
      whole = on.whole;
      wrong = wrong_here p bytes given block on l same ∙ ap (λ (o : Option DamageView). option_or o (blocks_wrong p.size (p.blocks - (p.done + 1)) (p.done + 1) (Some (used_bytes b)) (drop (p.size * (p.done + 1)) bytes))) none;
      read = on.read ++ b ∷ [];
      fills = fills_push p.size on.read b on.fills many (omega arith) apart;
      count = length-append on.read (b ∷ []) ∙ ap (λ (n : ℕ). n + 1) on.count;
      last = last_push on.read b;
      text =
          text_push p.size 0 on.read b
          ∙ (ap (λ (n : ℕ). blocks_text p.size 0 on.read ++ block_text p.size n b) number
          ∙ (ap (λ (t : List ℕ). blocks_text p.size 0 on.read ++ t) (sym is ∙ same)
          ∙ (ap (λ (t : List ℕ). t ++ take p.size (drop (p.size * p.done) bytes)) on.text ∙ front)));
      range = subst (All InRange) (sym (flat_push on.read b)) (All-append InRange (flat_map (λ (x : List Rec). x) on.read) b on.range (range_all (count_of block) (drop 48 block) after stands));
      of_bytes = subst (All HasBytes) (sym (flat_push on.read b)) (All-append HasBytes (flat_map (λ (x : List Rec). x) on.read) b on.of_bytes (bytes_all (count_of block) (drop 48 block) after));
      short = subst (All (IsShort p.size)) (sym (flat_push on.read b)) (All-append (IsShort p.size) (flat_map (λ (x : List Rec). x) on.read) b on.short (short_all p.size (count_of block) (drop 48 block) short_size stands));
      stand = stands;
      records = flat_push on.read b ∙ ap (λ (qs : List Rec). qs ++ b) given_all;
      heads = places_push p.size 0 on.read b ∙ (ap (λ (ns : List ℕ). ns ++ positions_from (p.size * (0 + length on.read) + 48) b) placed_all ∙ ap (λ (n : ℕ). positions_in given ++ positions_from n b) there);
    }

-- blocks have records
flat_some : (size : ℕ) (bs : List (List Rec)) → AreFilled size bs → 1 ≤ length bs → 1 ≤ length (flat_map (λ (x : List Rec). x) bs)
flat_some size [] fill l = absurd (omega arith)
flat_some size (b ∷ bs) (some, fits, apart, fill) l =
    let e = length-append b (flat_map (λ (x : List Rec). x) bs) in omega (arith, e, some)

-- at the end
pub ends_there : (p : ScanView) (bytes : List ℕ) (given : List PositionedRecord) → GoesOn p bytes given → p.left ≡ 0 → p.done ≡ p.blocks → IsFile bytes given
ends_there p bytes given on none_left all =
    let rs = flat_map (λ (x : List Rec). x) on.read in
    let given_all : rs ≡ records_in given = on.records ∙ (ap (λ (n : ℕ). records_in given ++ records_at n (rest_of_block p)) none_left ∙ append-nil (records_in given)) in
    let placed_all : positions_in_blocks p.size 0 on.read ≡ positions_in given = on.heads ∙ (ap (λ (n : ℕ). positions_in given ++ positions_from (reached_offset p) (records_at n (rest_of_block p))) none_left ∙ append-nil (positions_in given)) in
    let filled : blocks p.size rs ≡ on.read = fills_are p.size on.read on.fills in
    let count = on.count in
    let some = on.some in
    let most = on.most in
    let long : length bytes ≡ p.size * p.done = on.whole ∙ ap (λ (n : ℕ). p.size * n) (sym all) in
    let whole : take (p.size * p.done) bytes ≡ bytes = take_all (p.size * p.done) bytes (omega arith) in
    let file : HasFile p.size rs = record {
      block_size = on.size;
      some = flat_some p.size on.read on.fills (omega arith);
      range = on.range;
      of_bytes = on.of_bytes;
      short = on.short;
      blocks = let e = ap (λ (bs : List (List Rec)). length bs) filled in omega arith;
    } in
    record {
      size = p.size;
      file = subst (HasFile p.size) given_all file;
      text = ap (λ (qs : List Rec). BlockText p.size qs) (sym given_all) ∙ (ap (λ (bs : List (List Rec)). blocks_text p.size 0 bs) filled ∙ (on.text ∙ whole));
      heads = ap (λ (qs : List Rec). positions p.size qs) (sym given_all) ∙ (ap (λ (bs : List (List Rec)). positions_in_blocks p.size 0 bs) filled ∙ placed_all);
    }
