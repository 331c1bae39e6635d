-- Laws of records that stand one behind the other.
use Rattle.std.proofs.Common.{◌≡◌, ℕ, ◌+◌, ◌<◌, List, [], ◌∷◌, ◌++◌, length, refl, ap, ◌∙◌, arith, length-append}
use Rattle.st_base.specs.Records.{Rec}
use Rattle.st_pcap.specs.declared.forms.Order.{Order}
use Rattle.st_pcap.specs.declared.forms.Unit as unit
use Rattle.st_pcap.specs.declared.numbers.TheConstants.{RECORD_HEAD_SIZE, MAX_INPUT}
use Rattle.st_pcap.specs.Heads.{IsRecordHead}
use Rattle.st_pcap.specs.Input.{Records, AllBegin}

-- how many bytes records take
abbrev pub size_of : List Rec → ℕ
size_of [] = 0
size_of (r ∷ rs) = RECORD_HEAD_SIZE + length r.body + size_of rs

-- the bytes are those of the records and the rest
pub length-Records : (order : Order) (u : unit.Unit) (bytes : List ℕ) (rs : List Rec) (rest : List ℕ) → Records order u bytes rs rest → length bytes ≡ size_of rs + length rest
length-Records order u bytes [] rest same = ap length same ∙ omega arith
length-Records order u bytes (r ∷ rs) rest (head, more, is, whole, later) =
    let size = ap length whole ∙ length-append head (r.body ++ more) in
    let body = length-append r.body more in
    let first = is.size in
    let others = length-Records order u more rs rest later in
    omega arith

-- one record more
pub Records-snoc : (order : Order) (u : unit.Unit) (bytes : List ℕ) (rs : List Rec) (r : Rec) (head more : List ℕ) → Records order u bytes rs (head ++ (r.body ++ more)) → IsRecordHead order u head r
    → Records order u bytes (rs ++ r ∷ []) more
Records-snoc order u bytes [] r head more same is = (head, more, is, same, refl)
Records-snoc order u bytes (q ∷ rs) r head more (first, others, is_first, whole, later) is =
    (first, others, is_first, whole, Records-snoc order u others rs r head more later is)

pub AllBegin-snoc : (before : ℕ) (rs : List Rec) (r : Rec) → AllBegin before rs → before + size_of rs < MAX_INPUT → AllBegin before (rs ++ r ∷ [])
AllBegin-snoc before [] r all below = (omega arith, tt)
AllBegin-snoc before (q ∷ rs) r (first, later) below = (first, AllBegin-snoc (before + (RECORD_HEAD_SIZE + length q.body)) rs r later (omega arith))
