-- A reader's step at a record, over plain values.
use Rattle.std.proofs.Common.{Option, ◌≡◌, ℕ, ◌+◌, ◌-◌, List, [], ◌∷◌, ◌++◌, length, None, Some, Ok, Err, sym, ap, ◌∙◌, subst, inl, inr, ◌⊎◌, arith, length-append}
use Rattle.st_base.specs.Records.{Rec}
use Rattle.st_pcap.specs.declared.errors.PcapErr.{PcapErr}
use Rattle.st_pcap.specs.declared.forms.Form.{Form}
use Rattle.st_pcap.specs.declared.reader.Phase.{Phase}
use Rattle.st_pcap.specs.declared.reader.Phase.TheVariants.{Open}
use Rattle.st_pcap.specs.Input.{Input, Records, Whole, Refused, End, end_at}
use Rattle.st_pcap.specs.Checks.{GivesRecord}
use Rattle.st_pcap.specs.Reading.{HasReadIn, IsOutside}
use Rattle.st_pcap.specs.Taking.{Took}
use Rattle.st_pcap.proofs.Spellings.{length-Records, Records-snoc, AllBegin-snoc}

-- a record was given
pub reads_more : (phase : Phase) (form : Form) (taken number taken' : ℕ) (bytes rest : List ℕ) (rs : List Rec) (r : Rec) (left : Option (List ℕ)) → phase ≡ Open form
    → HasReadIn phase taken number bytes rs rest → GivesRecord form taken (number + 1) rest left (Ok (Some r)) → Took (Some rest) left taken taken'
    → (more : List ℕ) × (left ≡ Some more) × HasReadIn phase taken' (number + 1) bytes (rs ++ r ∷ []) more
reads_more phase form taken number taken' bytes rest rs r left is read (head, more, below, is_head, whole, to_come) took =
    let (first, text, all, is_file, records, begin, count, sum) = subst (λ p. HasReadIn p taken number bytes rs rest) is read in
    let longer = Records-snoc form.order form.unit text rs r head more (subst (Records form.order form.unit text rs) whole records) is_head in
    let size = length-Records form.order form.unit text rs rest records in
    let total = ap length all ∙ length-append first text in
    let file = is_file.size in
    let moved = subst (λ o. Took (Some rest) o taken taken') to_come took in
    let counted = length-append rs (r ∷ []) in (
      more,
      to_come,
      subst (λ p. HasReadIn p taken' (number + 1) bytes (rs ++ r ∷ []) more) (sym is)
          (first, text, all, is_file, longer, AllBegin-snoc 24 rs r begin (omega arith), omega arith, omega arith),
    )

-- what the checks find behind the records is how the input ends
pub ends_there : (phase : Phase) (form : Form) (taken number : ℕ) (bytes rest : List ℕ) (rs : List Rec) (end : End) → phase ≡ Open form
    → HasReadIn phase taken number bytes rs rest → end_at form.order form.unit taken (number + 1) rest ≡ Some end → Input bytes rs end
ends_there phase form taken number bytes rest rs end is read found =
    let (first, text, all, is_file, records, begin, count, sum) = subst (λ p. HasReadIn p taken number bytes rs rest) is read in
    let before : length bytes - length rest ≡ taken = omega arith in
    inr (
      rest,
      record { order = form.order; unit = form.unit; head = first; text = text; whole = all; starts = is_file; records = records },
      begin,
      ap (λ n. end_at form.order form.unit n (length rs + 1) rest) before ∙ ap (λ n. end_at form.order form.unit taken (n + 1) rest) (sym count) ∙ found,
    )

-- the whole end was found, and nothing was taken
pub reads_whole : (phase : Phase) (form : Form) (taken number taken' : ℕ) (bytes rest : List ℕ) (rs : List Rec) (left : Option (List ℕ)) → phase ≡ Open form
    → HasReadIn phase taken number bytes rs rest → GivesRecord form taken (number + 1) rest left (Ok None) → Took (Some rest) left taken taken'
    → Input bytes rs Whole × ((more : List ℕ) × (left ≡ Some more) × HasReadIn phase taken' number bytes rs more)
reads_whole phase form taken number taken' bytes rest rs left is read (whole, to_come) took =
    let moved = subst (λ o. Took (Some rest) o taken taken') to_come took in
    let same : taken ≡ taken' = omega arith in
    (ends_there phase form taken number bytes rest rs Whole is read whole, (rest, to_come, subst (λ n. HasReadIn phase n number bytes rs rest) same read))

-- a refusal was found, or the outside failed
pub stops_there : (phase : Phase) (form : Form) (taken number : ℕ) (bytes rest : List ℕ) (rs : List Rec) (left : Option (List ℕ)) (e : PcapErr) → phase ≡ Open form
    → HasReadIn phase taken number bytes rs rest → GivesRecord form taken (number + 1) rest left (Err e) → IsOutside e ⊎ Input bytes rs (Refused e)
stops_there phase form taken number bytes rest rs left e is read (inl outside) = inl outside
stops_there phase form taken number bytes rest rs left e is read (inr refused) = inr (ends_there phase form taken number bytes rest rs (Refused e) is read refused)
