-- What the calls of a scan give, from the records that it has given.
use Rattle.std.proofs.Common.{◌≡◌, ℕ, ◌*◌, ◌<◌, ◌≤◌, List, [], ◌∷◌, ◌++◌, take, drop, Option, None, Some, refl, sym, ap, ◌∙◌, subst, arith, Ok, Err, Result}
use Rattle.std.specs.Prelude.{IfOk, IfSome}
use Rattle.st_base.specs.Records.{Rec}
use Rattle.st_base.specs.Damages.{damage_view}
use Rattle.st_base.specs.declared.damages.Damage.{Damage}
use Rattle.st_block.specs.Position.{positions_from}
use Rattle.st_block.specs.Checks.{record_at, records_at}
use Rattle.st_block.specs.Layout.{SoundRecordsFit}
use Rattle.st_block.specs.ScanView.{ScanView, rest_of_block, reached_offset, after_record, without_block, in_next_block, IsNextBlock, LoadsBlock}
use Rattle.st_block.specs.Scan.{PositionedRecord, positions_in, records_in, IsFile, GoesOn, HasGivenUntil, HasGiven, GivesNext, PassesRecord, Follows}
use Rattle.st_block.specs.declared.errors.BlockErr.{BlockErr}
use Rattle.st_block.specs.declared.errors.BlockErr.TheVariants as block_err
use Rattle.st_block.proofs.Steps.{goes_passed, goes_entered, stops_there, ends_there}

-- a scan that hasn't stopped goes on
going : (p : ScanView) (bytes : List ℕ) (given : List PositionedRecord) → p.stopped ≡ None → HasGiven p bytes given → GoesOn p bytes given
going p bytes given e stands = subst (λ o. HasGivenUntil o p bytes given) e stands

standing : (p : ScanView) (bytes : List ℕ) (given : List PositionedRecord) → p.stopped ≡ None → GoesOn p bytes given → HasGiven p bytes given
standing p bytes given e on = subst (λ o. HasGivenUntil o p bytes given) (sym e) on

-- one that has stopped answers its damage again
pub stopped_gives : (p : ScanView) (bytes : List ℕ) (given : List PositionedRecord) (d : Damage) → p.stopped ≡ Some d → HasGiven p bytes given → GivesNext bytes given p (Err (block_err.Damaged d))
stopped_gives p bytes given d same stands = subst (λ o. HasGivenUntil o p bytes given) same stands

-- one that waits to read a block again
goes_waiting : (p : ScanView) (bytes : List ℕ) (given : List PositionedRecord) → GoesOn p bytes given → p.left ≡ 0 → GoesOn (without_block p) bytes given
goes_waiting p bytes given on none =
    let here : ◌≡◌ {A = List Rec} (records_at p.left (rest_of_block p)) (records_at p.left (rest_of_block (without_block p))) = ap (λ (n : ℕ). records_at n (rest_of_block p)) none ∙ ap (λ (n : ℕ). records_at n (rest_of_block (without_block p))) (sym none) in
    record {
      size = on.size;
      some = on.some;
      most = on.most;
      done = on.done;
      whole = on.whole;
      wrong = on.wrong;
      read = on.read;
      fills = on.fills;
      count = on.count;
      last = on.last;
      text = on.text;
      range = on.range;
      of_bytes = on.of_bytes;
      short = on.short;
      stand = subst (λ (n : ℕ). SoundRecordsFit n (rest_of_block (without_block p))) (sym none) tt;
      records = on.records ∙ ap (λ (rs : List Rec). records_in given ++ rs) here;
      heads = on.heads ∙ ap (λ (rs : List Rec). positions_in given ++ positions_from (reached_offset p) rs) here;
    }

-- the next record
pub passes_gives : (p q : ScanView) (bytes : List ℕ) (given : List PositionedRecord) (result : Result (Option PositionedRecord) BlockErr) → p.stopped ≡ None → HasGiven p bytes given → 1 ≤ p.left → PassesRecord p q result → GivesNext bytes given q result
passes_gives p q bytes given (Ok None) e stands l passes = absurd passes
passes_gives p q bytes given (Ok (Some x)) e stands l (place, same, new) =
    let on = goes_passed p bytes given (going p bytes given e stands) l in
    let pair : ◌≡◌ {A = PositionedRecord} (reached_offset p, record_at (rest_of_block p)) x = λ i. (sym place i, sym same i) in
    let after : HasGiven (after_record p) bytes (given ++ x ∷ []) = standing (after_record p) bytes (given ++ x ∷ []) e (subst (λ (y : PositionedRecord). GoesOn (after_record p) bytes (given ++ y ∷ [])) pair on) in
    subst (λ (r : ScanView). HasGiven r bytes (given ++ x ∷ [])) (sym new) after
passes_gives p q bytes given (Err (block_err.Damaged d)) e stands l passes = absurd passes
passes_gives p q bytes given (Err block_err.ReadFault) e stands l passes = absurd passes
passes_gives p q bytes given (Err block_err.NoMemory) e stands l same =
    subst (λ (r : ScanView). HasGiven r bytes given) (sym same) stands

-- the end
pub ended_gives : (p : ScanView) (bytes : List ℕ) (given : List PositionedRecord) → p.stopped ≡ None → HasGiven p bytes given → p.left ≡ 0 → p.done ≡ p.blocks → IsFile bytes given
ended_gives p bytes given e stands none all = ends_there p bytes given (going p bytes given e stands) none all

-- the bytes that were read are those of the next block
next_is : (p : ScanView) (bytes block : List ℕ) → IsNextBlock p (Some bytes) block → block ≡ take p.size (drop (p.size * p.done) bytes)
next_is p bytes block (len, part) = part bytes refl ∙ ap (λ (n : ℕ). take n (drop (p.size * p.done) bytes)) len

-- the next block
pub loads_stands : (p q : ScanView) (content : Option (List ℕ)) (bytes : List ℕ) (given : List PositionedRecord) → content ≡ Some bytes → p.stopped ≡ None → HasGiven p bytes given → p.left ≡ 0 → p.done < p.blocks → LoadsBlock p content q (Ok tt) → HasGiven q bytes given
loads_stands p q content bytes given known e stands none l (block, next, well, whole, new) =
    let is = next_is p bytes block (subst (λ o. IsNextBlock p o block) known next) in
    let on = goes_entered p bytes given block (going p bytes given e stands) none l is next.0 well whole in
    subst (λ (r : ScanView). HasGiven r bytes given) (sym new) (standing (in_next_block p block) bytes given e on)

-- a check of it that fails
pub loads_gives : (p q : ScanView) (content : Option (List ℕ)) (bytes : List ℕ) (given : List PositionedRecord) (f : BlockErr) → content ≡ Some bytes → p.stopped ≡ None → HasGiven p bytes given → p.left ≡ 0 → p.done < p.blocks → LoadsBlock p content q (Err f) → GivesNext bytes given q (Err f)
loads_gives p q content bytes given (block_err.Damaged d) known e stands none l (block, next, ill, stop) =
    let is = next_is p bytes block (subst (λ o. IsNextBlock p o block) known next) in
    stops_there p bytes given block (damage_view d) (going p bytes given e stands) l is ill
loads_gives p q content bytes given block_err.ReadFault known e stands none l same =
    subst (λ (r : ScanView). HasGiven r bytes given) (sym same) (standing (without_block p) bytes given e (goes_waiting p bytes given (going p bytes given e stands) none))
loads_gives p q content bytes given block_err.NoMemory known e stands none l same =
    subst (λ (r : ScanView). HasGiven r bytes given) (sym same) (standing (without_block p) bytes given e (goes_waiting p bytes given (going p bytes given e stands) none))

-- a scan at the next block has not stopped, and has a record to give
pub loads_some : (p q : ScanView) (content : Option (List ℕ)) → p.stopped ≡ None → LoadsBlock p content q (Ok tt) → (q.stopped ≡ None) × (1 ≤ q.left)
loads_some p q content e (block, next, well, whole, new) =
    (ap (λ (r : ScanView). r.stopped) new ∙ e, subst (λ (r : ScanView). 1 ≤ r.left) (sym new) whole.some)

-- what follows the next block's beginning follows what was given before
pub follows_on : (p q r : ScanView) (result : Result (Option PositionedRecord) BlockErr) → reached_offset p ≤ reached_offset q → IfOk result (λ o. IfSome o (Follows q r)) → IfOk result (λ o. IfSome o (Follows p r))
follows_on p q r (Ok None) l f = tt
follows_on p q r (Ok (Some x)) l (at, low, end, bound) = (omega arith, low, end, bound)
follows_on p q r (Err e) l f = tt
