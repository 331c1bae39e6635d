-- A lane represents one list of records only.
use Rattle.std.proofs.Common.{◌≡◌, ℕ, zero, suc, ◌≤◌, Option, Some, List, [], ◌∷◌, ◌++◌, length, length-append, refl, sym, ap, ◌∙◌, subst, arith}
use Rattle.std.specs.Prelude.{All}
use Rattle.std.specs.List.{flat_map}
use Rattle.st_base.specs.Records.{Rec, InRange}
use Rattle.st_block.specs.BlockText.{IsShort, HasBytes, HasFile, AreFilled, BlockText, blocks, blocks_text}
use Rattle.st_block.proofs.Rooms.{flat_blocks, file_fills, fills_are}
use Rattle.st_block.proofs.Going.{flat_push}
use Rattle.st_block.proofs.Unique.{one_file, one_block}
use Rattle.st_lane.specs.Filling.{FillingView, but_last, last_block, Fills}
use Rattle.st_lane.specs.Lane.{IsTextButLast}
use Rattle.st_lane.specs.Laws.{OneLane}
use Rattle.st_lane.proofs.Blocks.{whole_blocks}
use Rattle.st_lane.proofs.Wholes.{all_bytes}

-- the records are those of the last block after those of the blocks before it
parted : (size : ℕ) (rs : List Rec) → 1 ≤ length rs → rs ≡ flat_map (λ (b : List Rec). b) (but_last (blocks size rs)) ++ last_block (blocks size rs)
parted size rs some =
    sym (flat_blocks size rs) ∙ (ap (flat_map (λ (b : List Rec). b)) (sym (whole_blocks size rs some)) ∙ flat_push (but_last (blocks size rs)) (last_block (blocks size rs)))

-- what holds of all holds of each part
all_first_part : (P : Rec → Type 0) (xs ys : List Rec) → All P (xs ++ ys) → All P xs
all_first_part P [] ys a k d l = absurd (omega arith)
all_first_part P (x ∷ xs) ys a zero d l = a zero d (omega arith)
all_first_part P (x ∷ xs) ys a (suc k) d l = all_first_part P xs ys (λ i e h. a (suc i) e (omega arith)) k d (omega arith)

all_last_part : (P : Rec → Type 0) (xs ys : List Rec) → All P (xs ++ ys) → All P ys
all_last_part P [] ys a = a
all_last_part P (x ∷ xs) ys a = all_last_part P xs ys (λ i e h. a (suc i) e (omega arith))

-- blocks before others are filled too
fills_front : (size : ℕ) (bs : List (List Rec)) (b : List Rec) → AreFilled size (bs ++ b ∷ []) → AreFilled size bs
fills_front size [] b fill = tt
fills_front size (c ∷ []) b (some, l, apart, fill) = (some, l, tt, tt)
fills_front size (c ∷ [] ∷ bs) b (some, l, apart, fill) = absurd apart
fills_front size (c ∷ (r ∷ d) ∷ bs) b (some, l, apart, fill) = (some, l, apart, fills_front size ((r ∷ d) ∷ bs) b fill)

-- some blocks have a record
some_flat : (size : ℕ) (bs : List (List Rec)) → AreFilled size bs → 1 ≤ length bs → 1 ≤ length (flat_map (λ (b : List Rec). b) bs)
some_flat size [] fill some = absurd (omega arith)
some_flat size (b ∷ bs) (one, l, apart, fill) some = let e = length-append b (flat_map (λ (b : List Rec). b) bs) in omega arith

-- the blocks before the last are a file
front_file : (f : FillingView) (rs : List Rec) → Fills f rs → 1 ≤ length rs → 1 ≤ f.done
    → HasFile f.size (flat_map (λ (b : List Rec). b) (but_last (blocks f.size rs))) × (blocks f.size (flat_map (λ (b : List Rec). b) (but_last (blocks f.size rs))) ≡ but_last (blocks f.size rs))
front_file f rs fills some done =
    let bs = blocks f.size rs in
    let whole = whole_blocks f.size rs some in
    let filled : AreFilled f.size (but_last bs) = fills_front f.size (but_last bs) (last_block bs) (subst (AreFilled f.size) (sym whole) (file_fills f.size rs fills.size fills.short)) in
    let same = fills_are f.size (but_last bs) filled in
    let first = flat_map (λ (b : List Rec). b) (but_last bs) in
    let split = parted f.size rs some in
    let d = fills.done in
    let count = ap length whole in
    let parts = length-append (but_last bs) (last_block bs ∷ []) in
    let few = fills.few in
    let allowed = fills.allowed in
    let n = ap length same in (
      record {
        block_size = fills.size;
        some = some_flat f.size (but_last bs) filled (omega arith);
        range = all_first_part InRange first (last_block bs) (subst (All InRange) split fills.range);
        of_bytes = all_first_part HasBytes first (last_block bs) (subst (All HasBytes) (fills.records ∙ split) (all_bytes fills.given fills.made.fit));
        short = all_first_part (IsShort f.size) first (last_block bs) (subst (All (IsShort f.size)) split fills.short);
        blocks = omega arith;
      },
      same,
    )

some_known : (a b : List ℕ) (o : Option (List ℕ)) → o ≡ Some a → o ≡ Some b → a ≡ b
some_known a b o e d = let k : ◌≡◌ {A = Option (List ℕ)} (Some a) (Some b) = sym e ∙ d in cc

none_done : (bs : List (List Rec)) → length bs ≡ 0 → bs ≡ []
none_done [] e = refl
none_done (b ∷ bs) e = absurd (omega arith)

none_in : (rs : List Rec) → length rs ≡ 0 → rs ≡ []
none_in [] e = refl
none_in (r ∷ rs) e = absurd (omega arith)

-- the first blocks of both are the same
same_front : (f : FillingView) (block : Option (List ℕ)) (rs qs : List Rec) → Fills f rs → Fills f qs → IsTextButLast f.size rs block → IsTextButLast f.size qs block
    → 1 ≤ length rs → 1 ≤ length qs → (n : ℕ) → f.done ≡ n
    → flat_map (λ (b : List Rec). b) (but_last (blocks f.size rs)) ≡ flat_map (λ (b : List Rec). b) (but_last (blocks f.size qs))
same_front f block rs qs h k a b some other zero none =
    ap (flat_map (λ (b : List Rec). b)) (none_done (but_last (blocks f.size rs)) (sym h.done ∙ none) ∙ sym (none_done (but_last (blocks f.size qs)) (sym k.done ∙ none)))
same_front f block rs qs h k a b some other (suc n) more =
    let one = front_file f rs h some (omega arith) in
    let two = front_file f qs k other (omega arith) in
    let texts = some_known (blocks_text f.size 0 (but_last (blocks f.size rs))) (blocks_text f.size 0 (but_last (blocks f.size qs))) block a b in
    let same : BlockText f.size (flat_map (λ (b : List Rec). b) (but_last (blocks f.size rs))) ≡ BlockText f.size (flat_map (λ (b : List Rec). b) (but_last (blocks f.size qs))) =
    ap (λ l. blocks_text f.size 0 l) one.1 ∙ (texts ∙ ap (λ l. blocks_text f.size 0 l) (sym two.1)) in
    (one_file f.size f.size (flat_map (λ (b : List Rec). b) (but_last (blocks f.size rs))) (flat_map (λ (b : List Rec). b) (but_last (blocks f.size qs))) one.0 two.0 same).1

one_some : (f : FillingView) (block : Option (List ℕ)) (rs qs : List Rec) → Fills f rs → Fills f qs → IsTextButLast f.size rs block → IsTextButLast f.size qs block
    → 1 ≤ length rs → 1 ≤ length qs → rs ≡ qs
one_some f block rs qs h k a b some other =
    let first = flat_map (λ (b : List Rec). b) (but_last (blocks f.size rs)) in
    let second = flat_map (λ (b : List Rec). b) (but_last (blocks f.size qs)) in
    let front = same_front f block rs qs h k a b some other f.done refl in
    let split = parted f.size rs some in
    let apart = parted f.size qs other in
    let last = one_block f.here (last_block (blocks f.size rs)) (last_block (blocks f.size qs)) h.here k.here
    (all_last_part InRange first (last_block (blocks f.size rs)) (subst (All InRange) split h.range))
    (all_last_part InRange second (last_block (blocks f.size qs)) (subst (All InRange) apart k.range)) in
    split ∙ (ap (λ (l : List Rec). l ++ last_block (blocks f.size rs)) front ∙ (ap (λ (l : List Rec). second ++ l) last ∙ sym apart))

pub one_lane : OneLane
one_lane f block rs [] h k a b = let c = h.count in let d = k.count in none_in rs (omega arith)
one_lane f block [] (q ∷ qs) h k a b = let c = h.count in let d = k.count in absurd (omega arith)
one_lane f block (r ∷ rs) (q ∷ qs) h k a b = one_some f block (r ∷ rs) (q ∷ qs) h k a b (omega arith) (omega arith)
