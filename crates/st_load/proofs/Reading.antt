-- What a reader gave is the beginning of what its input has.
use Rattle.std.specs.Prelude.{◌==◌, if◌then◌else◌}
use Rattle.std.proofs.Common.{◌≡◌, ℕ, ◌+◌, ◌-◌, List, [], ◌∷◌, ◌++◌, length, Some, refl, sym, ap, ◌∙◌, subst, inl, inr, arith, length-append}
use Rattle.st_base.specs.Records.{Rec}
use Rattle.st_pcap.specs.declared.forms.Form.{Form}
use Rattle.st_pcap.specs.declared.forms.Order.{Order}
use Rattle.st_pcap.specs.declared.forms.Order.TheVariants.{Little, Big}
use Rattle.st_pcap.specs.declared.forms.Unit as unit
use Rattle.st_pcap.specs.declared.forms.Unit.TheVariants.{Micro, Nano}
use Rattle.st_pcap.specs.declared.numbers.TheConstants.{FILE_HEAD_SIZE, RECORD_HEAD_SIZE}
use Rattle.st_pcap.specs.declared.reader.Phase.{Phase}
use Rattle.st_pcap.specs.declared.reader.Phase.TheVariants.{Fresh, Open, Stopped}
use Rattle.st_pcap.specs.Forms.{magic}
use Rattle.st_pcap.specs.Heads.{IsFileHead, IsRecordHead}
use Rattle.st_pcap.specs.Input.{Records, AllBegin, IsPcap, End, Input, end_at}
use Rattle.st_pcap.specs.Reading.{PcapReaderView, HasReadIn, HasRead, IsGoing}
use Rattle.st_pcap.proofs.Existence.{some_input}
use Rattle.st_pcap.proofs.Spellings.{size_of, length-Records}
use Rattle.st_pcap.proofs.Splits.{same_front, same_back}
use Rattle.st_pcap.proofs.Uniqueness.{record_there, pcap_accepted}

rec_same : (r q : Rec) → r.sec ≡ q.sec → r.nsec ≡ q.nsec → r.orig ≡ q.orig → r.body ≡ q.body → r ≡ q
rec_same r q a b c d =
    ap (λ (s : ℕ). record r { sec = s }) a ∙ ap (λ (n : ℕ). record r { sec = q.sec; nsec = n }) b
    ∙ ap (λ (o : ℕ). record r { sec = q.sec; nsec = q.nsec; orig = o }) c ∙ ap (λ (l : List ℕ). record q { body = l }) d

head_same : (order : Order) (u : unit.Unit) (head : List ℕ) (r q : Rec) → IsRecordHead order u head r → IsRecordHead order u head q → r.body ≡ q.body → r ≡ q
head_same order u head r q a b same = rec_same r q (sym a.sec ∙ b.sec) (sym a.nsec ∙ b.nsec) (sym a.orig ∙ b.orig) same

form_of : ℕ → Order × unit.Unit
form_of n =
    if n == 0xa1b2c3d4 then (Little, Micro) else if n == 0xd4c3b2a1 then (Big, Micro) else if n == 0xa1b23c4d then (Little, Nano) else (Big, Nano)

form_of-magic : (order : Order) (u : unit.Unit) → form_of (magic order u) ≡ (order, u)
unfolding form_of
form_of-magic Little Micro = refl
form_of-magic Big Micro = refl
form_of-magic Little Nano = refl
form_of-magic Big Nano = refl

same_form : (a b : Order) (u v : unit.Unit) (head : List ℕ) → IsFileHead a u head → IsFileHead b v head → (a ≡ b) × (u ≡ v)
same_form a b u v head is also =
    let same = sym (form_of-magic a u) ∙ ap form_of (sym is.magic ∙ also.magic) ∙ form_of-magic b v in
    (ap (λ (p : Order × unit.Unit). p.0) same, ap (λ (p : Order × unit.Unit). p.1) same)

-- records that are there are the first of those up to the end
abbrev Begins : List Rec → List Rec → Type 0
Begins rs qs = (more : List Rec) × (qs ≡ rs ++ more)

begins_with : (order : Order) (u : unit.Unit) (before number : ℕ) (bytes : List ℕ) (rs qs : List Rec) (rest other : List ℕ) (last : End)
    → Records order u bytes rs rest → AllBegin before rs
    → Records order u bytes qs other → end_at order u (before + size_of qs) (number + length qs) other ≡ Some last
    → Begins rs qs
begins_with order u before number bytes [] qs rest other last a _ b ends = (qs, refl)
begins_with order u before number bytes (r ∷ rs) [] rest other last (head, more, is, whole, later) (below, _) b ends =
    let none = record_there order u (before + 0) (number + 0) other head more r (omega arith) is (sym b ∙ whole) in
    absurd cc
begins_with order u before number bytes (r ∷ rs) (q ∷ qs) rest other last (head, more, is, whole, later) (below, all) (head', more', is', whole', later') ends =
    let both = sym whole ∙ whole' in
    let size = is.size ∙ sym is'.size in
    let heads : head ≡ head' = same_front head (r.body ++ more) head' (q.body ++ more') both size in
    let tails : r.body ++ more ≡ q.body ++ more' = same_back head (r.body ++ more) head' (q.body ++ more') both size in
    let is_q : IsRecordHead order u head q = subst (λ h. IsRecordHead order u h q) (sym heads) is' in
    let lengths = sym is.captured ∙ is_q.captured in
    let bodies : r.body ≡ q.body = same_front r.body more q.body more' tails lengths in
    let rests : more ≡ more' = same_back r.body more q.body more' tails lengths in
    let first : r ≡ q = head_same order u head r q is is_q bodies in
    let next = before + (RECORD_HEAD_SIZE + length r.body) in
    let total : next + size_of qs ≡ before + size_of (q ∷ qs) = omega arith in
    let count : number + 1 + length qs ≡ number + length (q ∷ qs) = omega arith in
    let rec = begins_with order u next (number + 1) more rs qs rest other last later all
    (subst (λ l. Records order u l qs other) (sym rests) later')
    (ap (λ n. end_at order u n (number + 1 + length qs) other) total ∙ ap (λ n. end_at order u (before + size_of (q ∷ qs)) n other) count ∙ ends) in
    (rec.0, ap (λ x. x ∷ qs) (sym first) ∙ ap (λ xs. r ∷ xs) rec.1)

-- of a file in the form that its head has
in_form : (order : Order) (u : unit.Unit) (bytes head text : List ℕ) (rs qs : List Rec) (rest other : List ℕ) (last : End)
    → bytes ≡ head ++ text → IsFileHead order u head → Records order u text rs rest → AllBegin FILE_HEAD_SIZE rs
    → (file : IsPcap bytes qs other) → end_at file.order file.unit (length bytes - length other) (length qs + 1) other ≡ Some last
    → Begins rs qs
in_form order u bytes head text rs qs rest other last whole starts records begin file ends =
    let both = sym whole ∙ file.whole in
    let size = starts.size ∙ sym file.starts.size in
    let heads = same_front head text file.head file.text both size in
    let texts = same_back head text file.head file.text both size in
    let form = same_form order file.order u file.unit head starts (subst (λ h. IsFileHead file.order file.unit h) (sym heads) file.starts) in
    let long = ap length file.whole ∙ length-append file.head file.text in
    let total = length-Records file.order file.unit file.text qs other file.records in
    let fsize = file.starts.size in
    let before : FILE_HEAD_SIZE + size_of qs ≡ length bytes - length other = omega arith in
    let number : 1 + length qs ≡ length qs + 1 = omega arith in
    let ended : end_at file.order file.unit (FILE_HEAD_SIZE + size_of qs) (1 + length qs) other ≡ Some last =
    ap (λ n. end_at file.order file.unit n (1 + length qs) other) before ∙ ap (λ n. end_at file.order file.unit (length bytes - length other) n other) number ∙ ends in
    begins_with file.order file.unit 24 1 file.text rs qs rest other last
    (subst (λ o. Records o file.unit file.text rs rest) form.0 (subst (λ v. Records order v file.text rs rest) form.1 (subst (λ l. Records order u l rs rest) texts records)))
    begin file.records ended

reads_first : (form : Form) (bytes head text : List ℕ) (rs qs : List Rec) (rest : List ℕ) (end : End)
    → bytes ≡ head ++ text → IsFileHead form.order form.unit head → Records form.order form.unit text rs rest → AllBegin FILE_HEAD_SIZE rs
    → Input bytes qs end → Begins rs qs
reads_first form bytes head text rs qs rest end whole starts records begin (inl (e, refused, none, is)) =
    let yes = pcap_accepted bytes rs rest (record { order = form.order; unit = form.unit; head = head; text = text; whole = whole; starts = starts; records = records }) in
    absurd cc
reads_first form bytes head text rs qs rest end whole starts records begin (inr (other, file, begins, ends)) =
    in_form form.order form.unit bytes head text rs qs rest other end whole starts records begin file ends

by_phase : (phase : Phase) (taken number : ℕ) (bytes : List ℕ) (rs qs : List Rec) (rest : List ℕ) (end : End) → IsGoing phase
    → HasReadIn phase taken number bytes rs rest → Input bytes qs end → Begins rs qs
by_phase Fresh taken number bytes rs qs rest end going has input = absurd going
by_phase (Open form) taken number bytes rs qs rest end going (head, text, whole, starts, records, begin, count, total) input =
    reads_first form bytes head text rs qs rest end whole starts records begin input
by_phase (Stopped e) taken number bytes rs qs rest end going has input = absurd going

-- an input of which a reader gave these records has these and maybe more
abbrev pub IsInputOf : List ℕ → List Rec → Type 0
IsInputOf bytes rs = (more : List Rec) × (end : End) × Input bytes (rs ++ more) end

pub input_of : (p : PcapReaderView) (bytes : List ℕ) (rs : List Rec) (rest : List ℕ) → IsGoing p.phase → HasRead p bytes rs rest → IsInputOf bytes rs
input_of p bytes rs rest going has =
    let (qs, end, input) = some_input bytes in
    let (more, is) = by_phase p.phase p.taken p.number bytes rs qs rest end going has input in
    (more, end, subst (λ xs. Input bytes xs end) is input)
