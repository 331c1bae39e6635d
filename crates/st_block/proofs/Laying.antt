-- Laying out the records of a block, one after the other.
use Rattle.std.proofs.Common.{◌≡◌, ℕ, zero, suc, ◌+◌, ◌-◌, ◌%◌, ◌<◌, ◌≤◌, true, false, List, ◌∷◌, length, drop, refl, sym, ap, ◌∙◌, subst, arith}
use Rattle.std.specs.Prelude.{nat_lt, nat_eq, if◌then◌else◌}
use Rattle.std.proofs.lemmas.List.{drop-drop, length-drop, length-take-le}
use Rattle.std.proofs.lemmas.Bool.Decides.{nat_tests}
use Rattle.st_base.specs.Records.{Rec}
use Rattle.st_block.specs.BlockText.{padded_len, room, used_bytes, last_of}
use Rattle.st_block.specs.Checks.{damage_at, captured_length, room_at, record_at, records_at, count_of, layout_from, layout_wrong}
use Rattle.st_block.specs.Layout.{RecordsFit}

-- a length is no more than its padded one
pub padded_more : (n : ℕ) → n ≤ padded_len n
padded_more n = omega arith

-- the body that fits is as long as its head says
pub body_is : (bytes : List ℕ) → room_at bytes ≤ length bytes → length (record_at bytes).body ≡ captured_length bytes
unfolding record_at
body_is bytes fits =
    let size = length-drop 48 bytes in
    let more = padded_more (captured_length bytes) in
    length-take-le (captured_length bytes) (drop 48 bytes) (omega arith)

-- and the record takes as many bytes as its head says
pub room_is : (bytes : List ℕ) → room_at bytes ≤ length bytes → room (record_at bytes) ≡ room_at bytes
room_is bytes fits = ap (λ (n : ℕ). 48 + padded_len n) (body_is bytes fits)

-- one record less to lay out
pub layout_more : (place count left at : ℕ) (bytes : List ℕ) → 0 < left → layout_from place count left at bytes ≡ (if nat_lt (length bytes) 48 then damage_at (place + 12) count (count - left) else if nat_lt (length bytes) (room_at bytes) then damage_at (place + at + 12) (captured_length bytes) (length bytes - 48) else layout_from place count (left - 1) (at + room_at bytes) (drop (room_at bytes) bytes))
layout_more place count zero at bytes l = absurd (omega arith)
layout_more place count (suc n) at bytes l = let e : suc n - 1 ≡ n = omega arith in rw e refl

pub records_more : (left : ℕ) (bytes : List ℕ) → 0 < left → records_at left bytes ≡ record_at bytes ∷ records_at (left - 1) (drop (room_at bytes) bytes)
records_more zero bytes l = absurd (omega arith)
records_more (suc n) bytes l = let e : suc n - 1 ≡ n = omega arith in rw e refl

pub fit_more : (left : ℕ) (bytes : List ℕ) → 0 < left → room_at bytes ≤ length bytes → RecordsFit (left - 1) (drop (room_at bytes) bytes) → RecordsFit left bytes
fit_more zero bytes l here rest = absurd (omega arith)
fit_more (suc n) bytes l here rest =
    let e : suc n - 1 ≡ n = omega arith in (here, subst (λ k. RecordsFit k (drop (room_at bytes) bytes)) e rest)

pub fit_first : (left : ℕ) (bytes : List ℕ) → 0 < left → RecordsFit left bytes → (room_at bytes ≤ length bytes) × RecordsFit (left - 1) (drop (room_at bytes) bytes)
fit_first zero bytes l fit = absurd (omega arith)
fit_first (suc n) bytes l fit =
    let e : suc n - 1 ≡ n = omega arith in (fit.0, subst (λ k. RecordsFit k (drop (room_at bytes) bytes)) (sym e) fit.1)

-- so far so many records of a block were laid out: where the last one's head is and where it ends
pub record Laid (block : List ℕ) (place count had last at : ℕ) : Type 0 where
  pub low : 48 ≤ at
  pub sixteen : at % 16 ≡ 0
  pub inside : at ≤ length block
  pub head : last + 48 ≤ length block
  pub wrong : layout_from place count (count - had) at (drop at block) ≡ layout_from place count count 48 (drop 48 block)
  pub fit : RecordsFit (count - had) (drop at block) → RecordsFit count (drop 48 block)
  pub final : last_of (record_at (drop last block)) (records_at (count - had) (drop at block)) ≡ last_of (record_at (drop 48 block)) (records_at count (drop 48 block))
  pub end : at + used_bytes (records_at (count - had) (drop at block)) ≡ 48 + used_bytes (records_at count (drop 48 block))

-- none was yet
pub laid_none : (block : List ℕ) (place count : ℕ) → 96 ≤ length block → Laid block place count 0 48 48
laid_none block place count l =
    let e : count - 0 ≡ count = omega arith in
    record {
      low = omega arith;
      sixteen = refl;
      inside = omega arith;
      head = omega arith;
      wrong = rw e refl;
      fit = λ f. subst (λ k. RecordsFit k (drop 48 block)) e f;
      final = rw e refl;
      end = rw e refl;
    }

-- the next one is
pub laid_more : (block : List ℕ) (place count had last at : ℕ) → Laid block place count had last at → had < count → 48 ≤ length (drop at block) → room_at (drop at block) ≤ length (drop at block) → Laid block place count (had + 1) at (at + room_at (drop at block))
laid_more block place count had last at laid l head fits =
    let rest = drop at block in
    let size = length-drop at block in
    let less : count - had - 1 ≡ count - (had + 1) = omega arith in
    let on : drop (room_at rest) rest ≡ drop (at + room_at rest) block = drop-drop (room_at rest) at block in
    let t1 : nat_lt (length rest) 48 ≡ false = grind (arith, nat_tests) in
    let t2 : nat_lt (length rest) (room_at rest) ≡ false = grind (arith, nat_tests) in
    let more = records_more (count - had) rest (omega arith) in
    let same : records_at (count - had - 1) (drop (room_at rest) rest) ≡ records_at (count - (had + 1)) (drop (at + room_at rest) block) = rw (less, on) refl in
    let sixteen = laid.sixteen in
    let inside = laid.inside in
    let low = laid.low in
    record {
      low = omega arith;
      sixteen = omega arith;
      inside = omega arith;
      head = omega arith;
      wrong = rw (less, on, t1, t2) at (sym (layout_more place count (count - had) at rest (omega arith))) ∙ laid.wrong;
      fit = λ f. laid.fit (fit_more (count - had) rest (omega arith) fits (rw (less, on) f));
      final = ap (λ (rs : List Rec). last_of (record_at rest) rs) (sym same) ∙ (sym (ap (λ (rs : List Rec). last_of (record_at (drop last block)) rs) more) ∙ laid.final);
      end =
          let e : at + used_bytes (records_at (count - had) rest) ≡ at + (room_at rest + used_bytes (records_at (count - (had + 1)) (drop (at + room_at rest) block))) = ap (λ (rs : List Rec). at + used_bytes rs) more ∙ (ap (λ (n : ℕ). at + (n + used_bytes (records_at (count - had - 1) (drop (room_at rest) rest)))) (room_is rest fits) ∙ ap (λ (rs : List Rec). at + (room_at rest + used_bytes rs)) same) in
          let was = laid.end in omega arith;
    }

-- a block whose number of records isn't 0 is laid out record by record
layout_some : (block : List ℕ) (place count : ℕ) → count ≡ count_of block → 0 < count → layout_wrong place block ≡ layout_from place count count 48 (drop 48 block)
layout_some block place count e l =
    let some : nat_eq count 0 ≡ false = grind (arith, nat_tests) in
    rw (← e, some) refl

-- a head passes the block's end
pub laid_short : (block : List ℕ) (place count had last at : ℕ) → Laid block place count had last at → count ≡ count_of block → had < count → length (drop at block) < 48 → layout_wrong place block ≡ damage_at (place + 12) count had
laid_short block place count had last at laid e l short =
    let rest = drop at block in
    let t : nat_lt (length rest) 48 ≡ true = grind (arith, nat_tests) in
    let index : count - (count - had) ≡ had = omega arith in
    layout_some block place count e (omega arith) ∙ (sym laid.wrong ∙ (layout_more place count (count - had) at rest (omega arith) ∙ rw (t, index) refl))

-- a padded body does
pub laid_long : (block : List ℕ) (place count had last at : ℕ) → Laid block place count had last at → count ≡ count_of block → had < count → 48 ≤ length (drop at block) → length (drop at block) < room_at (drop at block) → layout_wrong place block ≡ damage_at (place + at + 12) (captured_length (drop at block)) (length (drop at block) - 48)
laid_long block place count had last at laid e l head long =
    let rest = drop at block in
    let t1 : nat_lt (length rest) 48 ≡ false = grind (arith, nat_tests) in
    let t2 : nat_lt (length rest) (room_at rest) ≡ true = grind (arith, nat_tests) in
    layout_some block place count e (omega arith) ∙ (sym laid.wrong ∙ (layout_more place count (count - had) at rest (omega arith) ∙ rw (t1, t2) refl))
