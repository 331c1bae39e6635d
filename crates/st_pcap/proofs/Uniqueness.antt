-- No bytes have two readings.
use Rattle.std.specs.Prelude.{◌==◌, if◌then◌else◌}
use Rattle.std.proofs.Common.{◌≡◌, ℕ, ◌+◌, ◌-◌, ◌<◌, List, [], ◌∷◌, ◌++◌, length, take, None, Some, refl, sym, ap, ◌∙◌, subst, inl, inr, arith, length-append}
use Rattle.std.proofs.lemmas.Bool.Decides.{nat_tests}
use Rattle.std.proofs.lemmas.List.{take_at}
use Rattle.std.specs.Option.{option_map, option_or}
use Rattle.byteorder.specs.Endian.{little_number}
use Rattle.st_base.specs.Records.{Rec}
use Rattle.st_pcap.specs.declared.forms.Order.{Order}
use Rattle.st_pcap.specs.declared.forms.Order.TheVariants.{Little, Big}
use Rattle.st_pcap.specs.declared.forms.Unit as unit
use Rattle.st_pcap.specs.declared.forms.Unit.TheVariants.{Micro, Nano}
use Rattle.st_pcap.specs.declared.numbers.TheConstants.{NUMBER_SIZE, FILE_HEAD_SIZE, RECORD_HEAD_SIZE, CAPTURED_AT, MAX_INPUT}
use Rattle.st_pcap.specs.Forms.{number_at, magic}
use Rattle.st_pcap.specs.Heads.{IsFileHead, IsRecordHead, refusal_of_file, refusal_of_magic, refusal_of_rest, refusal_of_fields, refusal_of_size}
use Rattle.st_pcap.specs.Input.{Records, AllBegin, IsPcap, End, Refused, Input, end_at}
use Rattle.st_pcap.proofs.Heads.{end_at-fields}
use Rattle.st_pcap.proofs.Spellings.{size_of, length-Records}
use Rattle.st_pcap.proofs.Splits.{same_front, same_back}

-- a record is one where its parts are
rec_same : (r q : Rec) → r.sec ≡ q.sec → r.nsec ≡ q.nsec → r.orig ≡ q.orig → r.body ≡ q.body → r ≡ q
rec_same r q a b c d =
    ap (λ (s : ℕ). record r { sec = s }) a ∙ ap (λ (n : ℕ). record r { sec = q.sec; nsec = n }) b
    ∙ ap (λ (o : ℕ). record r { sec = q.sec; nsec = q.nsec; orig = o }) c ∙ ap (λ (l : List ℕ). record q { body = l }) d

-- one head is the head of one record, but for its body
head_same : (order : Order) (u : unit.Unit) (head : List ℕ) (r q : Rec) → IsRecordHead order u head r → IsRecordHead order u head q → r.body ≡ q.body → r ≡ q
head_same order u head r q a b same = rec_same r q (sym a.sec ∙ b.sec) (sym a.nsec ∙ b.nsec) (sym a.orig ∙ b.orig) same

-- fields in range are not refused
in_range : (order : Order) (u : unit.Unit) (number : ℕ) (head : List ℕ) (r : Rec) → IsRecordHead order u head r → refusal_of_fields order u number head ≡ None
in_range order u number head r is = grind (arith, nat_tests)

-- where a record stands, no end does
pub record_there : (order : Order) (u : unit.Unit) (before number : ℕ) (rest head more : List ℕ) (r : Rec) → before < MAX_INPUT → IsRecordHead order u head r
    → rest ≡ head ++ (r.body ++ more) → end_at order u before number rest ≡ None
record_there order u before number rest head more r below is whole =
    let front : take RECORD_HEAD_SIZE rest ≡ head = ap (take RECORD_HEAD_SIZE) whole ∙ take_at head (r.body ++ more) 16 is.size in
    let long = ap length whole ∙ length-append head (r.body ++ more) in
    let body = length-append r.body more in
    let size = is.size in
    let captured = is.captured in
    let fields : refusal_of_fields order u number head ≡ None = in_range order u number head r is in
    let enough : refusal_of_size number (length rest) (RECORD_HEAD_SIZE + number_at order CAPTURED_AT head) ≡ None = grind (arith, nat_tests) in
    end_at-fields order u before number rest below (omega arith)
    ∙ ap (λ l. option_map Refused (option_or (refusal_of_fields order u number l) (refusal_of_size number (length rest) (RECORD_HEAD_SIZE + number_at order CAPTURED_AT l)))) front
    ∙ ap (λ o. option_map Refused (option_or o (refusal_of_size number (length rest) (RECORD_HEAD_SIZE + number_at order CAPTURED_AT head)))) fields ∙ ap (option_map Refused) enough

-- from one place on, the records and what stands behind them are one
same_records : (order : Order) (u : unit.Unit) (before number : ℕ) (bytes : List ℕ) (rs qs : List Rec) (rest other : List ℕ) (end last : End)
    → Records order u bytes rs rest → AllBegin before rs → end_at order u (before + size_of rs) (number + length rs) rest ≡ Some end
    → Records order u bytes qs other → AllBegin before qs → end_at order u (before + size_of qs) (number + length qs) other ≡ Some last
    → (rs ≡ qs) × (rest ≡ other)
same_records order u before number bytes [] [] rest other end last a _ _ b _ _ = (refl, sym a ∙ b)
same_records order u before number bytes [] (q ∷ qs) rest other end last a _ ends (head, more, is, whole, later) (below, _) _ =
    let none = record_there order u (before + 0) (number + 0) rest head more q (omega arith) is (sym a ∙ whole) in
    absurd cc
same_records order u before number bytes (r ∷ rs) [] rest other end last (head, more, is, whole, later) (below, _) _ b _ ends =
    let none = record_there order u (before + 0) (number + 0) other head more r (omega arith) is (sym b ∙ whole) in
    absurd cc
same_records order u before number bytes (r ∷ rs) (q ∷ qs) rest other end last (head, more, is, whole, later) (below, all) ends (head', more', is', whole', later') (below', all') ends' =
    let both = sym whole ∙ whole' in
    let size = is.size ∙ sym is'.size in
    let heads : head ≡ head' = same_front head (r.body ++ more) head' (q.body ++ more') both size in
    let tails : r.body ++ more ≡ q.body ++ more' = same_back head (r.body ++ more) head' (q.body ++ more') both size in
    let is_q : IsRecordHead order u head q = subst (λ h. IsRecordHead order u h q) (sym heads) is' in
    let lengths = sym is.captured ∙ is_q.captured in
    let bodies : r.body ≡ q.body = same_front r.body more q.body more' tails lengths in
    let rests : more ≡ more' = same_back r.body more q.body more' tails lengths in
    let first : r ≡ q = head_same order u head r q is is_q bodies in
    let next = before + (RECORD_HEAD_SIZE + length r.body) in
    let total : next + size_of rs ≡ before + size_of (r ∷ rs) = omega arith in
    let count : number + 1 + length rs ≡ number + length (r ∷ rs) = omega arith in
    let total' : next + size_of qs ≡ before + size_of (q ∷ qs) = omega arith in
    let count' : number + 1 + length qs ≡ number + length (q ∷ qs) = omega arith in
    let begins : AllBegin next qs = subst (λ n. AllBegin (before + (RECORD_HEAD_SIZE + n)) qs) (sym lengths) all' in
    let (others, left) = same_records order u next (number + 1) more rs qs rest other end last later all (ap (λ n. end_at order u n (number + 1 + length rs) rest) total ∙ ap (λ n. end_at order u (before + size_of (r ∷ rs)) n rest) count ∙ ends)
    (subst (λ l. Records order u l qs other) (sym rests) later') begins (ap (λ n. end_at order u n (number + 1 + length qs) other) total' ∙ ap (λ n. end_at order u (before + size_of (q ∷ qs)) n other) count' ∙ ends') in
    (ap (λ x. x ∷ rs) first ∙ ap (λ xs. q ∷ xs) others, left)

-- the form that a magic tells
form_of : ℕ → Order × unit.Unit
form_of n =
    if n == 0xa1b2c3d4 then (Little, Micro) else if n == 0xd4c3b2a1 then (Big, Micro) else if n == 0xa1b23c4d then (Little, Nano) else (Big, Nano)

form_of-magic : (order : Order) (u : unit.Unit) → form_of (magic order u) ≡ (order, u)
unfolding form_of
form_of-magic Little Micro = refl
form_of-magic Big Micro = refl
form_of-magic Little Nano = refl
form_of-magic Big Nano = refl

same_form : (a b : Order) (u v : unit.Unit) (head : List ℕ) → IsFileHead a u head → IsFileHead b v head → (a ≡ b) × (u ≡ v)
same_form a b u v head is also =
    let same = sym (form_of-magic a u) ∙ ap form_of (sym is.magic ∙ also.magic) ∙ form_of-magic b v in
    (ap (λ (p : Order × unit.Unit). p.0) same, ap (λ (p : Order × unit.Unit). p.1) same)

-- a file head is not refused: by what its magic is followed by, by its form, and by its size
rest_accepted : (order : Order) (u : unit.Unit) (head : List ℕ) → IsFileHead order u head → refusal_of_rest order head ≡ None
rest_accepted order u head is = grind (arith, nat_tests)

by_form : (order : Order) (u : unit.Unit) (head : List ℕ) → IsFileHead order u head → refusal_of_magic (magic order u) head ≡ None
by_form Little Micro head is = rest_accepted Little Micro head is
by_form Big Micro head is = rest_accepted Big Micro head is
by_form Little Nano head is = rest_accepted Little Nano head is
by_form Big Nano head is = rest_accepted Big Nano head is

accepted : (order : Order) (u : unit.Unit) (head : List ℕ) → IsFileHead order u head → refusal_of_file head ≡ None
accepted order u head is =
    let size = is.size in
    let known : refusal_of_file head ≡ refusal_of_magic (little_number NUMBER_SIZE head) head = grind (arith, nat_tests) in
    known ∙ ap (λ n. refusal_of_magic n head) is.magic ∙ by_form order u head is

pub pcap_accepted : (bytes : List ℕ) (rs : List Rec) (rest : List ℕ) → IsPcap bytes rs rest → refusal_of_file (take FILE_HEAD_SIZE bytes) ≡ None
pcap_accepted bytes rs rest file =
    ap refusal_of_file (ap (take FILE_HEAD_SIZE) file.whole ∙ take_at file.head file.text 24 file.starts.size) ∙ accepted file.order file.unit file.head file.starts

-- where the records of a file end, counted from its records
ends_counted : (order : Order) (u : unit.Unit) (bytes head text : List ℕ) (rs : List Rec) (rest : List ℕ) (end : End) → bytes ≡ head ++ text → length head ≡ FILE_HEAD_SIZE → Records order u text rs rest
    → end_at order u (length bytes - length rest) (length rs + 1) rest ≡ Some end → end_at order u (FILE_HEAD_SIZE + size_of rs) (1 + length rs) rest ≡ Some end
ends_counted order u bytes head text rs rest end whole size records ends =
    let long = ap length whole ∙ length-append head text in
    let total = length-Records order u text rs rest records in
    let before : FILE_HEAD_SIZE + size_of rs ≡ length bytes - length rest = omega arith in
    let number : 1 + length rs ≡ length rs + 1 = omega arith in
    ap (λ n. end_at order u n (1 + length rs) rest) before ∙ ap (λ n. end_at order u (length bytes - length rest) n rest) number ∙ ends

-- two readings behind file heads
one_file : (bytes : List ℕ) (rs qs : List Rec) (rest other : List ℕ) (end last : End) (file : IsPcap bytes rs rest) (also : IsPcap bytes qs other)
    → AllBegin FILE_HEAD_SIZE rs → end_at file.order file.unit (length bytes - length rest) (length rs + 1) rest ≡ Some end
    → AllBegin FILE_HEAD_SIZE qs → end_at also.order also.unit (length bytes - length other) (length qs + 1) other ≡ Some last
    → (rs ≡ qs) × (end ≡ last)
one_file bytes rs qs rest other end last file also begin ends begin' ends' =
    let both = sym file.whole ∙ also.whole in
    let size = file.starts.size ∙ sym also.starts.size in
    let heads = same_front file.head file.text also.head also.text both size in
    let texts = same_back file.head file.text also.head also.text both size in
    let form = same_form file.order also.order file.unit also.unit file.head file.starts (subst (λ h. IsFileHead also.order also.unit h) (sym heads) also.starts) in
    let there = ends_counted file.order file.unit bytes file.head file.text rs rest end file.whole file.starts.size file.records ends in
    let there' = ends_counted also.order also.unit bytes also.head also.text qs other last also.whole also.starts.size also.records ends' in
    let records' = subst (λ l. Records file.order file.unit l qs other) (sym texts) (subst (λ o. Records o file.unit also.text qs other) (sym form.0) (subst (λ v. Records also.order v also.text qs other) (sym form.1) also.records)) in
    let last' = ap (λ o. end_at o file.unit (FILE_HEAD_SIZE + size_of qs) (1 + length qs) other) form.0 ∙ ap (λ v. end_at also.order v (FILE_HEAD_SIZE + size_of qs) (1 + length qs) other) form.1 ∙ there' in
    let same = same_records file.order file.unit 24 1 file.text rs qs rest other end last file.records begin there records' begin' last' in
    let one = sym there ∙ ap (λ xs. end_at file.order file.unit (FILE_HEAD_SIZE + size_of xs) (1 + length xs) rest) same.0 ∙ ap (λ l. end_at file.order file.unit (FILE_HEAD_SIZE + size_of qs) (1 + length qs) l) same.1 ∙ last' in
    (same.0, cc)

pub one_input : (bytes : List ℕ) (rs qs : List Rec) (end other : End) → Input bytes rs end → Input bytes qs other → (rs ≡ qs) × (end ≡ other)
one_input bytes rs qs end other (inl (e, refused, none, is)) (inl (f, refused', none', is')) = (none ∙ sym none', cc)
one_input bytes rs qs end other (inl (e, refused, none, is)) (inr (rest, file, begin, ends)) = let yes = pcap_accepted bytes qs rest file in absurd cc
one_input bytes rs qs end other (inr (rest, file, begin, ends)) (inl (e, refused, none, is)) = let yes = pcap_accepted bytes rs rest file in absurd cc
one_input bytes rs qs end other (inr (rest, file, begin, ends)) (inr (rest', file', begin', ends')) = one_file bytes rs qs rest rest' end other file file' begin ends begin' ends'
