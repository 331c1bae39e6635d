-- A scan before the first block.
use Rattle.std.proofs.Common.{◌≡◌, ℕ, zero, suc, ◌-◌, ◌*◌, ◌/◌, ◌^◌, ◌<◌, ◌≤◌, Bool, true, false, cond, List, [], ◌∷◌, length, take, drop, min, Option, None, Some, refl, sym, ap, ◌∙◌, subst, arith, Ok, Err, Result}
use Rattle.std.specs.Prelude.{nat_eq, nat_lt, if◌then◌else◌, ◌||◌}
use Rattle.std.specs.Option.{option_or}
use Rattle.std.specs.List.{list_any}
use Rattle.std.proofs.Math.Nat.{mul-div_cancel_left}
use Rattle.std.proofs.lemmas.List.Elements.{All-nil}
use Rattle.std.proofs.lemmas.Bool.Decides.{nat_tests}
use Rattle.byteorder.specs.Endian.{little_number}
use Rattle.st_base.specs.Records.{InRange}
use Rattle.st_base.specs.Damages.{DamageView, damage_view}
use Rattle.st_block.specs.BlockText.{IsBlockSize, IsShort, HasBytes}
use Rattle.st_block.specs.Checks.{is_block_size, nearest_length, extent_wrong, start_wrong, blocks_wrong, file_wrong, damage_at}
use Rattle.st_block.specs.ScanView.{ScanView, IsSoundScan, start_view}
use Rattle.st_block.specs.Scan.{HasGiven, Starts, EntersNew}
use Rattle.st_block.specs.declared.errors.HeadErr.{HeadErr}
use Rattle.st_block.specs.declared.errors.HeadErr.TheVariants as head_err
use Rattle.st_block.specs.Fields.{not_same}
use Rattle.st_block.proofs.Rooms.{sixteens}
use Rattle.st_block.proofs.Whole.{both_hold}

-- all are block sizes
AreSizes : List ℕ → Type 0
AreSizes [] = Unit {0}
AreSizes (n ∷ ns) = IsBlockSize n × AreSizes ns

-- a number among them is one
among : (n : ℕ) (ns : List ℕ) → list_any (λ size. nat_eq size n) ns ≡ true → AreSizes ns → IsBlockSize n
unfolding AreSizes
among n [] e all = cc
among n (m ∷ ns) e (one, all) = either (nat_eq m n) refl e (λ h. among n ns h all)
  where
    either : (b : Bool) → nat_eq m n ≡ b → (b || list_any (λ size. nat_eq size n) ns) ≡ true → (list_any (λ size. nat_eq size n) ns ≡ true → IsBlockSize n) → IsBlockSize n
    either true t h others = let same : m ≡ n = grind (arith, nat_tests) in subst IsBlockSize same one
    either false t h others = others h

-- a power of two in the limits
pub power : (k : ℕ) → 4096 ≤ 2 ^ k → 2 ^ k ≤ 1048576 → IsBlockSize (2 ^ k)
power k l m = record {
  power = k;
  is = refl;
  least = l;
  most = m;
}

-- a number that is tested for it is a block size
pub sized : (n : ℕ) → is_block_size n ≡ true → IsBlockSize n
unfolding AreSizes
sized n e =
    among n (4096 ∷ 8192 ∷ 16384 ∷ 32768 ∷ 65536 ∷ 131072 ∷ 262144 ∷ 524288 ∷ 1048576 ∷ []) e
    (power 12 (omega arith) (omega arith), (power 13 (omega arith) (omega arith), (power 14 (omega arith) (omega arith), (power 15 (omega arith) (omega arith), (power 16 (omega arith) (omega arith), (power 17 (omega arith) (omega arith), (power 18 (omega arith) (omega arith), (power 19 (omega arith) (omega arith), (power 20 (omega arith) (omega arith), tt)))))))))

-- a scan before the first block is sound
pub sound_start : (size blocks : ℕ) → IsBlockSize size → blocks ≤ 4095 → IsSoundScan (start_view size blocks)
sound_start size blocks b l =
    let least = b.least in
    record {
      size = b;
      sixteen = let m = sixteens size b in omega (arith, m.1);
      blocks = l;
      done = omega arith;
      held = omega arith;
      at = omega arith;
      begun = λ m. absurd (omega arith);
      started = λ e. refl;
      stand = tt;
    }

-- a length that is its nearest one is whole blocks
pub whole_blocks : (size extent : ℕ) → 1 ≤ size → extent ≡ nearest_length size extent → (extent ≡ size * (extent / size)) × (1 ≤ extent / size) × (extent / size ≤ 4095)
whole_blocks size extent l e = either (min (extent / size) 4095) refl e
  where
    either : (m : ℕ) → m ≡ min (extent / size) 4095 → extent ≡ (if nat_eq m 0 then size else size * m) → (extent ≡ size * (extent / size)) × (1 ≤ extent / size) × (extent / size ≤ 4095)
    either zero m h =
        let one : size * 1 / size ≡ 1 = mul-div_cancel_left 1 l in
        let same : size * 1 ≡ size = omega arith in
        let k : extent / size ≡ 1 = ap (λ (n : ℕ). n / size) h ∙ (ap (λ (n : ℕ). n / size) (sym same) ∙ one) in
        absurd (omega arith)
    either (suc m) f h =
        let some : nat_eq (suc m) 0 ≡ false = grind (arith, nat_tests) in
        let whole : extent ≡ size * suc m = rw some at h in
        let k : extent / size ≡ suc m = ap (λ (n : ℕ). n / size) whole ∙ mul-div_cancel_left (suc m) l in
        (whole ∙ ap (λ (n : ℕ). size * n) (sym k), omega arith, omega arith)

-- a choice that finds nothing
finds_none : (b : Bool) (f : DamageView) (o : Option DamageView) → cond b (Some f) o ≡ None → (b ≡ false) × (o ≡ None)
finds_none true f o e = cc
finds_none false f o e = (refl, e)

finds_none_else : (b : Bool) (f : DamageView) (o : Option DamageView) → cond b o (Some f) ≡ None → (b ≡ true) × (o ≡ None)
finds_none_else true f o e = (refl, e)
finds_none_else false f o e = cc

-- what is well before the first block
starts_well : (head : List ℕ) (extent : ℕ) → start_wrong head extent ≡ None → IsBlockSize (little_number 4 (drop 4 head)) × (extent ≡ nearest_length (little_number 4 (drop 4 head)) extent)
starts_well head extent none =
    let size = little_number 4 (drop 4 head) in
    let one = finds_none (nat_lt extent 8) _ _ none in
    let two = both_hold (not_same 0 (little_number 4 head) 1) _ one.1 in
    let three = finds_none_else (is_block_size size) _ (extent_wrong size extent) two.1 in
    let four = finds_none_else (nat_eq extent (nearest_length size extent)) _ None three.1 in
    (sized size three.0, same_length extent (nearest_length size extent) four.0)
  where
    same_length : (n m : ℕ) → nat_eq n m ≡ true → n ≡ m
    same_length n m e = grind (arith, nat_tests)

-- a scan before the first block has given no records of the file
pub starts_stand : (bytes : List ℕ) → start_wrong (take 8 bytes) (length bytes) ≡ None → HasGiven (start_view (little_number 4 (drop 4 (take 8 bytes))) (length bytes / little_number 4 (drop 4 (take 8 bytes)))) bytes []
unfolding file_wrong
starts_stand bytes none =
    let size = little_number 4 (drop 4 (take 8 bytes)) in
    let count = length bytes / size in
    let well = starts_well (take 8 bytes) (length bytes) none in
    let least = well.0.least in
    let whole = whole_blocks size (length bytes) (omega arith) well.1 in
    let none_before : size * 0 ≡ 0 = omega arith in
    let all : count - 0 ≡ count = omega arith in
    record {
      size = well.0;
      some = whole.1;
      most = whole.2;
      done = omega arith;
      whole = whole.0;
      wrong =
          ap (λ (o : Option DamageView). option_or o (blocks_wrong size count 0 None bytes)) none
          ∙ (ap (λ (n : ℕ). blocks_wrong size n 0 None bytes) (sym all) ∙ ap (λ (n : ℕ). blocks_wrong size (count - 0) 0 None (drop n bytes)) (sym none_before));
      read = [];
      fills = tt;
      count = refl;
      last = refl;
      text = ap (λ (n : ℕ). take n bytes) (sym none_before);
      range = All-nil InRange;
      of_bytes = All-nil HasBytes;
      short = All-nil (IsShort size);
      stand = tt;
      records = refl;
      heads = refl;
    }

-- what the checks before the first block find is what is wrong first with the file
starts_damaged : (bytes : List ℕ) (f : DamageView) → start_wrong (take 8 bytes) (length bytes) ≡ Some f → file_wrong bytes ≡ Some f
unfolding file_wrong
starts_damaged bytes f e =
    ap (λ (o : Option DamageView). option_or o (blocks_wrong (little_number 4 (drop 4 (take 8 bytes))) (length bytes / little_number 4 (drop 4 (take 8 bytes))) 0 None bytes)) e

-- so what starts at a file's first eight bytes enters the file
pub enters : (bytes head : List ℕ) (extent : ℕ) (result : Result ScanView HeadErr) → head ≡ take 8 bytes → length bytes ≡ extent → Starts head extent result → EntersNew bytes result
enters bytes head extent (Ok p) same len (none, is) =
    let none_there = subst (λ (h : List ℕ). start_wrong h (length bytes) ≡ None) same (subst (λ (n : ℕ). start_wrong head n ≡ None) (sym len) none) in
    let is_there = is ∙ (ap (λ (n : ℕ). start_view (little_number 4 (drop 4 head)) (n / little_number 4 (drop 4 head))) (sym len) ∙ ap (λ (h : List ℕ). start_view (little_number 4 (drop 4 h)) (length bytes / little_number 4 (drop 4 h))) same) in
    subst (λ (q : ScanView). HasGiven q bytes []) (sym is_there) (starts_stand bytes none_there)
enters bytes head extent (Err (head_err.Damaged d)) same len wrong =
    starts_damaged bytes (damage_view d) (subst (λ (h : List ℕ). start_wrong h (length bytes) ≡ Some (damage_view d)) same (subst (λ (n : ℕ). start_wrong head n ≡ Some (damage_view d)) (sym len) wrong))
enters bytes head extent (Err head_err.ReadFault) same len wrong = tt

-- a file of fewer than eight bytes
pub enters_short : (bytes : List ℕ) (extent : ℕ) → length bytes ≡ extent → extent < 8 → file_wrong bytes ≡ damage_at 0 extent 4096
enters_short bytes extent len l =
    let t : nat_lt (length bytes) 8 ≡ true = grind (arith, nat_tests) in
    starts_damaged bytes (record { place = 0; found = extent; want = 4096 }) (rw (t, len) refl)

-- the blocks of a scan that starts lie in the file
pub starts_inside : (head : List ℕ) (extent : ℕ) (p : ScanView) → Starts head extent (Ok p) → p.size * p.blocks ≤ extent
starts_inside head extent p (none, is) =
    let size = little_number 4 (drop 4 head) in
    let well = starts_well head extent none in
    let least = well.0.least in
    let whole = whole_blocks size extent (omega arith) well.1 in
    subst (λ (q : ScanView). q.size * q.blocks ≤ extent) (sym is) (let e = whole.0 in omega arith)
