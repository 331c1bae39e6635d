-- A lane takes one record after the other.
use Rattle.std.specs.Prelude.{false}
use Rattle.std.proofs.Common.{◌≡◌, ℕ, ◌+◌, ◌≤◌, ◌⊎◌, inl, inr, ⊎_elim, List, [], ◌∷◌, ◌++◌, length, length-append, append_assoc, sym, ap, ◌∙◌, subst, arith, Option, Ok}
use Rattle.st_base.specs.Faults.{Rose}
use Rattle.st_base.specs.Records.{Rec}
use Rattle.st_block.specs.BlockText.{IsShort}
use Rattle.st_lane.specs.Cut.{EndsList}
use Rattle.st_lane.specs.Lane.{LaneView, Represents, Pushes, IsSameLane}
use Rattle.st_lane.specs.declared.errors.Pushed.{Pushed}
use Rattle.st_lane.specs.declared.errors.Pushed.TheVariants.{Kept}
use Rattle.st_shelf.specs.Origins.{DraftOrigin}
use Rattle.st_pcap.specs.Input.{Whole, Refused, Input}
use Rattle.st_pcap.specs.Reading.{PcapReaderView, IsGoing, IsOutside}
use Rattle.st_pcap.specs.declared.errors.PcapErr.{PcapErr}
use Rattle.st_pcap.specs.declared.errors.PcapErr.TheVariants.{ReadFault, NoMemory}
use Rattle.st_load.specs.Causes.{RoseJustIf, Says}
use Rattle.st_load.specs.Filling.{HasReadTo, Begins, Fills, Leaves, EndsReading, IsFillFault}
use Rattle.st_load.specs.Stopping.{StopsAfter, IsInputEnd}
use Rattle.st_load.specs.declared.ends.LoadEnd.{LoadEnd}
use Rattle.st_load.specs.declared.ends.LoadEnd.TheVariants as end
use Rattle.st_load.specs.declared.filling.Filled.{Filled}
use Rattle.st_load.specs.declared.filling.Filled.TheVariants as filled
use Rattle.st_load.proofs.Reading.{input_of}

-- nothing yet and the first record is at hand, or some records that begin with it
abbrev pub From : Rec → Rec → List Rec → Type 0
From first packet rs = ((rs ≡ []) × (packet ≡ first)) ⊎ ((more : List Rec) × (rs ≡ first ∷ more))

-- the lane has these records, and the one at hand follows them
pub record Took {T : Type 0} (written : T → Option (List ℕ)) (Before Read : List ℕ → List Rec → Type 0) (first packet : Rec) (lane : LaneView T) : Type 0 where
  pub rs : List Rec
  pub has : Represents written lane rs
  pub from : From first packet rs
  pub read : (bytes : List ℕ) (given : List Rec) → Before bytes given → Read bytes (given ++ (rs ++ packet ∷ []))

from_more : (first packet next : Rec) (rs : List Rec) → From first packet rs → From first next (rs ++ packet ∷ [])
from_more first packet next rs (inl (none, same)) = inr ([], ap (λ (l : List Rec). l ++ packet ∷ []) none ∙ ap (λ (r : Rec). r ∷ []) same)
from_more first packet next rs (inr (more, is)) = inr (more ++ packet ∷ [], ap (λ (l : List Rec). l ++ packet ∷ []) is)

-- one record more
pub took_more : {T : Type 0} (written : T → Option (List ℕ)) (Before Read Next : List ℕ → List Rec → Type 0) (first packet next : Rec) (old new : LaneView T)
    → (took : Took written Before Read first packet old) → Represents written new (took.rs ++ packet ∷ [])
    → ((bytes : List ℕ) (rs : List Rec) → Read bytes rs → Next bytes (rs ++ next ∷ []))
    → Took written Before Next first next new
took_more written Before Read Next first packet next old new took has reads = record {
  rs = took.rs ++ packet ∷ [];
  has = has;
  from = from_more first packet next took.rs took.from;
  read = λ bytes given before.
      subst (Next bytes) (append_assoc given (took.rs ++ packet ∷ []) (next ∷ []))
      (reads bytes (given ++ (took.rs ++ packet ∷ [])) (took.read bytes given before));
}

-- with the record at hand there is the first one
pub starts : (first packet : Rec) (rs : List Rec) → From first packet rs → (more : List Rec) × (rs ++ packet ∷ [] ≡ first ∷ more)
starts first packet rs (inl (none, same)) = ([], ap (λ (l : List Rec). l ++ packet ∷ []) none ∙ ap (λ (r : Rec). r ∷ []) same)
starts first packet rs (inr (more, is)) = (more ++ packet ∷ [], ap (λ (l : List Rec). l ++ packet ∷ []) is)

-- a record at hand that is too long
pub from_begins : (size : ℕ) (first packet : Rec) (rs : List Rec) → From first packet rs → (IsShort size packet → ⊥) → Begins size first rs
from_begins size first packet rs (inl (none, same)) long = inl (none, subst (λ (r : Rec). IsShort size r → ⊥) same long)
from_begins size first packet rs (inr (more, is)) long = inr (more, is)

pub long_stop : (size : ℕ) (bytes : List ℕ) (p : PcapReaderView) (left : Option (List ℕ)) (given rs : List Rec) (packet : Rec) (number records len : ℕ)
    → IsGoing p.phase → HasReadTo p bytes (given ++ (rs ++ packet ∷ [])) left → (IsShort size packet → ⊥) → len ≡ length packet.body → number ≡ length given + 1 → records ≡ length rs
    → StopsAfter size bytes (given ++ rs) (end.TooLong (number + records) len)
long_stop size bytes p left given rs packet number records len going (rest, is, has) long size_is at count =
    let (more, ended, input) = input_of p bytes (given ++ (rs ++ packet ∷ [])) rest going has in
    let n = length-append given rs in
    let same : (given ++ (rs ++ packet ∷ [])) ++ more ≡ (given ++ rs) ++ packet ∷ more =
    ap (λ (l : List Rec). l ++ more) (sym (append_assoc given rs (packet ∷ []))) ∙ append_assoc (given ++ rs) (packet ∷ []) more in
    (packet, more, ended, subst (λ (l : List Rec). Input bytes l ended) same input, long, size_is, omega (arith, n, at, count))

-- a reader that stops
pub stop_fills : {T : Type 0} (written : T → Option (List ℕ)) (Before : List ℕ → List Rec → Type 0) (first : Rec) (number : ℕ) (lane : LaneView T) (reader : PcapReaderView) (left : Option (List ℕ))
    (error : PcapErr) (result : Filled) (rs : List Rec) → Represents written lane rs → Begins lane.filling.size first rs
    → ((bytes : List ℕ) (given : List Rec) → Before bytes given → IsOutside error ⊎ Input bytes (given ++ rs) (Refused error))
    → EndsReading error result → Fills written Before first number lane reader left result
stop_fills written Before first number lane reader left error (filled.Ready r) rs has begins reads ends = absurd ends
stop_fills written Before first number lane reader left error (filled.Ended e) rs has begins reads (is, inside) = (
  rs,
  has,
  begins,
  λ bytes given before at.
      subst (λ (x : LoadEnd). StopsAfter lane.filling.size bytes (given ++ rs) x) (sym is)
      (⊎_elim (λ outside. absurd (inside outside)) (λ input. input) (reads bytes given before)),
)
stop_fills written Before first number lane reader left error (filled.Failed e) rs has begins reads ends = tt

-- and what it leaves
pub stop_leaves : {T : Type 0} (number : ℕ) (lane : LaneView T) (old new : PcapReaderView) (error : PcapErr) (result : Filled) → lane.broken ≡ false → EndsReading error result → Leaves number lane old new result
stop_leaves number lane old new error (filled.Ready r) whole ends = absurd ends
stop_leaves number lane old new error (filled.Ended e) whole (is, inside) =
    (whole, subst IsInputEnd (sym is) tt, subst (λ (x : LoadEnd). Says lane.filling.size x) (sym is) inside)
stop_leaves number lane old new error (filled.Failed e) whole ends =
    ⊎_elim (λ read. subst IsFillFault (sym read.1) tt) (λ memory. subst IsFillFault (sym memory.1) tt) ends

-- and why
pub stop_read : (error : PcapErr) (result : Filled) (before now : ℕ) → EndsReading error result → (error ≡ ReadFault → Rose before now) → ((error ≡ ReadFault → ⊥) → now ≡ before) → before ≤ now
    → RoseJustIf (result ≡ filled.Failed end.ReadFault) before now
stop_read error (filled.Ready r) before now ends rose still later = absurd ends
stop_read error (filled.Ended e) before now (is, inside) rose still later =
    record { later = later; rose = λ same. absurd (cc); still = λ other. still (λ read. inside (inl read)) }
stop_read error (filled.Failed e) before now ends rose still later = record {
  later = later;
  rose = λ same. ⊎_elim (λ read. rose read.0) (λ memory. let bad : end.NoMemory ≡ end.ReadFault = sym memory.1 ∙ failed_same e end.ReadFault same in absurd (cc)) ends;
  still = λ other. still (λ read. ⊎_elim (λ is. other (ap filled.Failed is.1)) (λ memory. let bad : NoMemory ≡ ReadFault = sym memory.0 ∙ read in absurd (cc)) ends);
}
  where
    failed_same : (a b : LoadEnd) → filled.Failed a ≡ filled.Failed b → a ≡ b
    failed_same a b same = cc

-- the lane is full
pub ready_fills : {T : Type 0} (written : T → Option (List ℕ)) (Before Read : List ℕ → List Rec → Type 0) (first packet r : Rec) (number : ℕ) (old new : LaneView T) (reader : PcapReaderView) (left : Option (List ℕ))
    (took : Took written Before Read first packet old) → new ≡ old → r ≡ packet → 1 ≤ old.filling.records
    → IsShort old.filling.size r × EndsList old.filling.size old.filling.most took.rs r
    → ((bytes : List ℕ) (rs : List Rec) → Read bytes rs → HasReadTo reader bytes rs left)
    → Fills written Before first number new reader left (filled.Ready packet)
ready_fills {T} written Before Read first packet r number old new reader left took is same some (short, ends) reads =
    subst (λ (x : LaneView T). Fills written Before first number x reader left (filled.Ready packet)) (sym is) (by_from took.rs took.has took.from took.read ends)
  where
    by_from : (rs : List Rec) → Represents written old rs → From first packet rs → ((bytes : List ℕ) (given : List Rec) → Before bytes given → Read bytes (given ++ (rs ++ packet ∷ [])))
        → EndsList old.filling.size old.filling.most rs r → Fills written Before first number old reader left (filled.Ready packet)
    by_from rs has (inl (none, at)) read ends = let n = has.fills.count ∙ ap length none in absurd (omega arith)
    by_from rs has (inr (more, at)) read ends = (
      more,
      subst (Represents written old) at has,
      subst (IsShort old.filling.size) same short,
      subst (λ (l : List Rec). EndsList old.filling.size old.filling.most l packet) at (subst (EndsList old.filling.size old.filling.most rs) same ends),
      λ bytes given before. subst (λ (l : List Rec). HasReadTo reader bytes (given ++ (l ++ packet ∷ [])) left) at (reads bytes (given ++ (rs ++ packet ∷ [])) (read bytes given before)),
    )

-- the record at hand is too long
pub long_fills : {T : Type 0} (written : T → Option (List ℕ)) (Before Read : List ℕ → List Rec → Type 0) (first packet : Rec) (number records len : ℕ) (old new : LaneView T) (reader : PcapReaderView) (left : Option (List ℕ))
    → Took written Before Read first packet old → new ≡ old → (IsShort old.filling.size packet → ⊥) → len ≡ length packet.body → records ≡ new.filling.records → IsGoing reader.phase
    → ((bytes : List ℕ) (rs : List Rec) → Read bytes rs → HasReadTo reader bytes rs left)
    → Fills written Before first number new reader left (filled.Ended (end.TooLong (number + records) len))
long_fills {T} written Before Read first packet number records len old new reader left took is long size count going reads =
    subst (λ (x : LaneView T). Fills written Before first number x reader left (filled.Ended (end.TooLong (number + records) len))) (sym is) (
      took.rs,
      took.has,
      from_begins old.filling.size first packet took.rs took.from long,
      λ bytes given before at.
          long_stop old.filling.size bytes reader left given took.rs packet number records len going (reads bytes (given ++ (took.rs ++ packet ∷ [])) (took.read bytes given before)) long size at
          (count ∙ ap (λ (x : LaneView T). x.filling.records) is ∙ took.has.fills.count),
    )

-- the input ends
pub done_fills : {T : Type 0} (written : T → Option (List ℕ)) (Before Read : List ℕ → List Rec → Type 0) (first packet : Rec) (number : ℕ) (old new : LaneView T) (reader : PcapReaderView) (left : Option (List ℕ))
    (took : Took written Before Read first packet old) → Represents written new (took.rs ++ packet ∷ [])
    → ((bytes : List ℕ) (rs : List Rec) → Read bytes rs → Input bytes rs Whole)
    → Fills written Before first number new reader left (filled.Ended end.Done)
done_fills written Before Read first packet number old new reader left took has reads =
    (took.rs ++ packet ∷ [], has, inr (starts first packet took.rs took.from), λ bytes given before at. reads bytes (given ++ (took.rs ++ packet ∷ [])) (took.read bytes given before))

pub kept_has : {T : Type 0} (written : T → Option (List ℕ)) (old new : LaneView T) (rs : List Rec) (r packet : Rec) (p : Pushed) → p ≡ Kept → r ≡ packet → Pushes written old new rs r (Ok p) → Represents written new (rs ++ packet ∷ [])
kept_has written old new rs r packet p is same pushes =
    subst (λ (x : Rec). Represents written new (rs ++ x ∷ [])) same (subst (λ (x : Pushed). Pushes written old new rs r (Ok x)) is pushes)

pub same_lane : {T : Type 0} (origin : T → DraftOrigin) (a b c : LaneView T) → IsSameLane origin a b → IsSameLane origin b c → IsSameLane origin a c
same_lane origin a b c one two = (two.0 ∙ one.0, two.1 ∙ one.1, two.2 ∙ one.2, two.3 ∙ one.3)
