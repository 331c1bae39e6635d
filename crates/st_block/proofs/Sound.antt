-- What a scan always keeps, at each of its steps.
use Rattle.std.proofs.Common.{◌≡◌, ℕ, zero, suc, ◌+◌, ◌-◌, ◌*◌, ◌<◌, ◌≤◌, List, length, drop, Option, None, Some, refl, sym, ap, ◌∙◌, subst, arith, Ok}
use Rattle.std.proofs.Math.Nat.{mul-le-mul}
use Rattle.std.proofs.lemmas.List.{drop-drop, length-drop}
use Rattle.st_base.specs.Damages.{DamageView}
use Rattle.st_block.specs.BlockText.{used_bytes}
use Rattle.st_block.specs.Checks.{room_at, record_at, count_of, records_of, block_wrong}
use Rattle.st_block.specs.Layout.{SoundRecordsFit, IsWholeBlock}
use Rattle.st_block.specs.ScanView.{ScanView, IsSoundScan, rest_of_block, IsNextBlock, in_next_block, LoadsBlock}
use Rattle.st_base.specs.Records.{Rec}
use Rattle.st_block.specs.BlockText.{room}
use Rattle.st_block.specs.ScanView.{reached_offset}
use Rattle.st_block.specs.Scan.{Follows}
use Rattle.st_block.proofs.Laying.{room_is}
use Rattle.st_block.proofs.Whole.{whole_stands}

-- the first of some records that stand
pub stand_first : (left : ℕ) (bytes : List ℕ) → 1 ≤ left → SoundRecordsFit left bytes → (room_at bytes ≤ length bytes) × ((record_at bytes).nsec ≤ 999999999) × SoundRecordsFit (left - 1) (drop (room_at bytes) bytes)
stand_first zero bytes l stand = absurd (omega arith)
stand_first (suc n) bytes l stand =
    let e : suc n - 1 ≡ n = omega arith in
    (stand.0, stand.1, subst (λ k. SoundRecordsFit k (drop (room_at bytes) bytes)) (sym e) stand.2)

-- after a record
pub sound_passed : (p : ScanView) (n : ℕ) → IsSoundScan p → 1 ≤ p.left → n ≡ room_at (rest_of_block p) → IsSoundScan (record p { at = p.at + n; left = p.left - 1 })
sound_passed p n sound l e =
    let first = stand_first p.left (rest_of_block p) l sound.stand in
    let size = length-drop p.at p.block in
    let fits = first.0 in
    let held = sound.held in
    let at = sound.at in
    let begun = sound.begun in
    let on : drop (room_at (rest_of_block p)) (rest_of_block p) ≡ drop (p.at + n) p.block = drop-drop (room_at (rest_of_block p)) p.at p.block ∙ ap (λ (k : ℕ). drop (p.at + k) p.block) (sym e) in
    record {
      size = sound.size;
      sixteen = sound.sixteen;
      blocks = sound.blocks;
      done = sound.done;
      held = sound.held;
      at = omega arith;
      begun = λ m. ((begun l).0, let b = (begun l).1 in omega arith);
      started = λ e. absurd (let b = (begun l).0 in omega arith);
      stand = subst (SoundRecordsFit (p.left - 1)) on first.2;
    }

-- at the next block
pub sound_entered : (p : ScanView) (block : List ℕ) (end : Option ℕ) (count : ℕ) → IsSoundScan p → p.done < p.blocks → length block ≡ p.size → block_wrong p.size p.done p.before block ≡ None → IsWholeBlock block → count ≡ count_of block → IsSoundScan (record p { done = p.done + 1; before = end; block = block; at = 48; left = count })
sound_entered p block end count sound l len none whole e =
    let least = sound.size.least in
    record {
      size = sound.size;
      sixteen = sound.sixteen;
      blocks = sound.blocks;
      done = omega arith;
      held = omega arith;
      at = omega arith;
      begun = λ m. (omega arith, omega arith);
      started = λ z. absurd (omega arith);
      stand = subst (λ k. SoundRecordsFit k (drop 48 block)) (sym e) (whole_stands p.size p.done p.before block whole none);
    }

-- what is not wrong with a block under the name that it was checked by
pub not_wrong : (size number : ℕ) (before : Option ℕ) (block items : List ℕ) → block ≡ items → length items ≡ size → block_wrong (length block) number before block ≡ None → block_wrong size number before items ≡ None
not_wrong size number before block items same len none =
    subst (λ (k : ℕ). block_wrong k number before items ≡ None) len (subst (λ (l : List ℕ). block_wrong (length l) number before l ≡ None) same none)

-- what is wrong, likewise
pub is_wrong : (size number : ℕ) (before : Option ℕ) (block items : List ℕ) (o : Option DamageView) → block ≡ items → length items ≡ size → block_wrong (length block) number before block ≡ o → block_wrong size number before items ≡ o
is_wrong size number before block items o same len wrong =
    subst (λ (k : ℕ). block_wrong k number before items ≡ o) len (subst (λ (l : List ℕ). block_wrong (length l) number before l ≡ o) same wrong)

-- the scan that its layout makes
pub entered_is : (p : ScanView) (block : List ℕ) (end count : ℕ) → end ≡ used_bytes (records_of block) → count ≡ count_of block → ◌≡◌ {A = ScanView} (record p { done = p.done + 1; before = Some end; block = block; at = 48; left = count }) (in_next_block p block)
entered_is p block end count e f =
    ap (λ (n : ℕ). let q : ScanView = record p { done = p.done + 1; before = Some n; block = block; at = 48; left = count } in q) e
    ∙ ap (λ (n : ℕ). let q : ScanView = record p { done = p.done + 1; before = Some (used_bytes (records_of block)); block = block; at = 48; left = n } in q) f

-- the next block, read and checked
pub loaded : (p q : ScanView) (content : Option (List ℕ)) (block : List ℕ) (end count : ℕ) → p ≡ q → IsNextBlock p content block → block_wrong p.size p.done p.before block ≡ None → IsWholeBlock block → end ≡ used_bytes (records_of block) → count ≡ count_of block → LoadsBlock q content (record p { done = p.done + 1; before = Some end; block = block; at = 48; left = count }) (Ok tt)
loaded p q content block end count same next none whole e f =
    subst (λ (r : ScanView). LoadsBlock r content (record p { done = p.done + 1; before = Some end; block = block; at = 48; left = count }) (Ok tt)) same
    (block, next, none, whole, entered_is p block end count e f)

-- the next record begins where the scan is, and the scan then is after it
pub follows : (p : ScanView) (r : Rec) (n : ℕ) → IsSoundScan p → 1 ≤ p.left → r ≡ record_at (rest_of_block p) → n ≡ room_at (rest_of_block p) → Follows p (record p { at = p.at + n; left = p.left - 1 }) (reached_offset p, r)
follows p r n sound l same e =
    let first = stand_first p.left (rest_of_block p) l sound.stand in
    let begun = (sound.begun l).1 in
    let size = ap room same ∙ room_is (rest_of_block p) first.0 in
    let most = sound.size.most in
    let held = sound.held in
    let inside = sound.at in
    let after = length-drop p.at p.block in
    let done = sound.done in
    let blocks = sound.blocks in
    let fits = first.0 in
    let far : p.size * (p.done - 1) ≤ 1048576 * 4094 = mul-le-mul most (let d : p.done - 1 ≤ 4094 = omega arith in d) in
    (omega arith, omega arith, omega arith, omega arith)

-- the next block is ahead of all that was given
pub enters_ahead : (p : ScanView) (block : List ℕ) → IsSoundScan p → reached_offset p ≤ reached_offset (in_next_block p block)
enters_ahead p block sound = either p.done p.size p.at refl sound.at (λ e. sound.started e)
  where
    either : (done size at : ℕ) → done ≡ p.done → at ≤ size → (done ≡ 0 → at ≡ 0) → size * (done - 1) + at ≤ size * (done + 1 - 1) + 48
    either zero size at e l none = let z = none refl in omega arith
    either (suc n) size at e l none =
        let one : suc n - 1 ≡ n = omega arith in
        let two : suc n + 1 - 1 ≡ n + 1 = omega arith in
        rw (one, two) (omega arith)
