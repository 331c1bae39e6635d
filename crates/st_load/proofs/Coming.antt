-- How far a lane comes in an input, and why a load ends there, whatever is known of the shelf.
use Rattle.std.proofs.Common.{◌≡◌, ℕ, ◌+◌, ◌<◌, ◌≤◌, ◌⊎◌, inl, inr, ⊎_elim, List, [], ◌∷◌, ◌++◌, length, length-append, append_assoc, refl, sym, ◌∙◌, subst, arith, Option, Ok}
use Rattle.std.proofs.lemmas.Bool.{cases_lt}
use Rattle.st_base.specs.Records.{Rec}
use Rattle.st_block.specs.BlockText.{IsShort}
use Rattle.st_block.specs.declared.format.TheConstants.{BLOCK_HEAD, RECORD_HEAD}
use Rattle.st_lane.specs.Lane.{RefusesLong}
use Rattle.st_lane.specs.declared.errors.Pushed.{Pushed}
use Rattle.st_pcap.specs.Input.{Whole, Refused, Input}
use Rattle.st_pcap.specs.Reading.{PcapReaderView, IsGoing, IsOutside}
use Rattle.st_pcap.specs.declared.errors.PcapErr.{PcapErr}
use Rattle.st_load.specs.Causes.{IsFailure, IsFinishEnd, EndsUnread}
use Rattle.st_load.specs.Filling.{HasReadTo, HasCome, ComesTo, EndsReading, IsFillFault}
use Rattle.st_load.specs.Stopping.{IsInputEnd, StopsAfter, StopsInput}
use Rattle.st_load.specs.declared.ends.LoadEnd.{LoadEnd}
use Rattle.st_load.specs.declared.ends.LoadEnd.TheVariants as end
use Rattle.st_load.specs.declared.filling.Filled.{Filled}
use Rattle.st_load.specs.declared.filling.Filled.TheVariants as filled
use Rattle.st_load.proofs.Lists.{all_both, all_none, all_one}
use Rattle.st_load.proofs.Reading.{input_of}

not_long : (size : ℕ) (r : Rec) → ((IsShort size r → ⊥) → ⊥) → IsShort size r
not_long size r not =
    ⊎_elim (λ (over : size < length r.body + (BLOCK_HEAD + RECORD_HEAD)). absurd (not (λ (short : length r.body + (BLOCK_HEAD + RECORD_HEAD) ≤ size). omega (arith, over, short)))) (λ (fits : length r.body + (BLOCK_HEAD + RECORD_HEAD) ≤ size). fits)
    (cases_lt size (length r.body + (BLOCK_HEAD + RECORD_HEAD)))

-- a record that was not refused is short
pub kept_short : (size : ℕ) (r packet : Rec) (p : Pushed) → RefusesLong size r (Ok p) → r ≡ packet → IsShort size packet
kept_short size r packet p refuses same = subst (IsShort size) same (not_long size r (λ long. let bad = refuses.long long in absurd (cc)))

-- the first record of an input is at hand
pub come_first : (size : ℕ) (bytes : List ℕ) (first : Rec) (p : PcapReaderView) (left : Option (List ℕ)) → HasReadTo p bytes (first ∷ []) left → HasCome size 1 bytes first p left
come_first size bytes first p left read = record { before = []; short = all_none (IsShort size); read = read; is = refl }

-- the number may be written in another way
pub come_at : (size number other : ℕ) (bytes : List ℕ) (r : Rec) (p : PcapReaderView) (left : Option (List ℕ)) → number ≡ other → HasCome size number bytes r p left → HasCome size other bytes r p left
come_at size number other bytes r p left same come = subst (λ (n : ℕ). HasCome size n bytes r p left) same come

-- one record more
pub come_more : (size number later : ℕ) (bytes : List ℕ) (packet next : Rec) (old new : PcapReaderView) (was left : Option (List ℕ)) → IsShort size packet → later ≡ number + 1
    → HasCome size number bytes packet old was → ((rs : List Rec) → HasReadTo old bytes rs was → HasReadTo new bytes (rs ++ next ∷ []) left)
    → HasCome size later bytes next new left
come_more size number later bytes packet next old new was left short count come reads = record {
  before = come.before ++ packet ∷ [];
  short = all_both (IsShort size) come.before (packet ∷ []) come.short (all_one (IsShort size) packet short);
  read = reads (come.before ++ packet ∷ []) come.read;
  is = let n = length-append come.before (packet ∷ []) in let at = come.is in omega (arith, n, at, count);
}

-- the record at hand is too long
pub long_comes : (size number said len : ℕ) (bytes : List ℕ) (packet : Rec) (p : PcapReaderView) (left : Option (List ℕ)) → IsGoing p.phase → (IsShort size packet → ⊥) → len ≡ length packet.body → said ≡ number
    → HasCome size number bytes packet p left → StopsInput size bytes (end.TooLong said len)
long_comes size number said len bytes packet p left going long size_is same come any =
    let (rest, left_is, has) = come.read in
    let (more, ended, input) = input_of p bytes (come.before ++ packet ∷ []) rest going has in
    (come.before, come.short, (packet, more, ended, subst (λ (l : List Rec). Input bytes l ended) (append_assoc come.before (packet ∷ []) more) input, long, size_is, same ∙ come.is))

-- the input ends after the record at hand, or goes on with one that is refused
pub done_comes : (size number : ℕ) (bytes : List ℕ) (packet : Rec) (p : PcapReaderView) (left : Option (List ℕ)) → IsShort size packet
    → (come : HasCome size number bytes packet p left) → Input bytes (come.before ++ packet ∷ []) Whole → StopsInput size bytes end.Done
done_comes size number bytes packet p left short come input any =
    (come.before ++ packet ∷ [], all_both (IsShort size) come.before (packet ∷ []) come.short (all_one (IsShort size) packet short), input)

pub stop_comes : (size number later : ℕ) (bytes : List ℕ) (packet : Rec) (old new : PcapReaderView) (was left : Option (List ℕ)) (error : PcapErr) (result : Filled) → IsShort size packet
    → (come : HasCome size number bytes packet old was) → IsOutside error ⊎ Input bytes (come.before ++ packet ∷ []) (Refused error) → EndsReading error result
    → ComesTo size later bytes new left result
stop_comes size number later bytes packet old new was left error (filled.Ready r) short come reads ends = absurd ends
stop_comes size number later bytes packet old new was left error (filled.Ended e) short come reads (is, inside) =
    subst (λ (x : LoadEnd). StopsInput size bytes x) (sym is)
    (λ any. (come.before ++ packet ∷ [], all_both (IsShort size) come.before (packet ∷ []) come.short (all_one (IsShort size) packet short), ⊎_elim (λ outside. absurd (inside outside)) (λ input. input) reads))
stop_comes size number later bytes packet old new was left error (filled.Failed e) short come reads ends = tt

-- a lane of the size of a layout
pub comes_at : (size other number later : ℕ) (bytes : List ℕ) (first : Rec) (old new : PcapReaderView) (was left : Option (List ℕ)) (result : Filled) → size ≡ other
    → (HasCome size number bytes first old was → ComesTo size later bytes new left result) → HasCome other number bytes first old was → ComesTo other later bytes new left result
comes_at size other number later bytes first old new was left result same comes =
    subst (λ (n : ℕ). HasCome n number bytes first old was → ComesTo n later bytes new left result) same comes

-- an end that the input has no part in
pub failure_stops : (size : ℕ) (bytes : List ℕ) (e : LoadEnd) → IsFailure e → StopsInput size bytes e
failure_stops size bytes e (inl is) any = absurd (subst IsInputEnd is any)
failure_stops size bytes e (inr is) any = absurd (subst IsInputEnd is any)

pub finish_stops : (size : ℕ) (bytes : List ℕ) (e : LoadEnd) → IsFinishEnd e → StopsInput size bytes e
finish_stops size bytes end.Done is any = absurd is
finish_stops size bytes (end.BadInput x) is any = absurd is
finish_stops size bytes (end.TooLong number len) is any = absurd is
finish_stops size bytes end.ReadFault is any = absurd is
finish_stops size bytes end.WriteFault is any = absurd any
finish_stops size bytes end.DiskFault is any = absurd any
finish_stops size bytes (end.StampsSpent last) is any = absurd any
finish_stops size bytes end.NoMemory is any = absurd any

pub fault_stops : (size : ℕ) (bytes : List ℕ) (e : LoadEnd) → IsFillFault e → StopsInput size bytes e
fault_stops size bytes end.Done is any = absurd is
fault_stops size bytes (end.BadInput x) is any = absurd is
fault_stops size bytes (end.TooLong number len) is any = absurd is
fault_stops size bytes end.ReadFault is any = absurd any
fault_stops size bytes end.WriteFault is any = absurd is
fault_stops size bytes end.DiskFault is any = absurd any
fault_stops size bytes (end.StampsSpent last) is any = absurd is
fault_stops size bytes end.NoMemory is any = absurd any

-- an input of which no record was read
pub whole_stops : (size : ℕ) (bytes : List ℕ) → Input bytes [] Whole → StopsInput size bytes end.Done
whole_stops size bytes input any = ([], all_none (IsShort size), input)

pub unread_stops : (size : ℕ) (bytes : List ℕ) (error : PcapErr) (e : LoadEnd) → EndsUnread error e → IsOutside error ⊎ Input bytes [] (Refused error) → StopsInput size bytes e
unread_stops size bytes error e (inl (is, read)) gives any = absurd (subst IsInputEnd read any)
unread_stops size bytes error e (inr (inl (is, memory))) gives any = absurd (subst IsInputEnd memory any)
unread_stops size bytes error e (inr (inr (bad, inside))) gives any =
    ([], all_none (IsShort size), subst (λ (x : LoadEnd). StopsAfter size bytes [] x) (sym bad) (⊎_elim (λ outside. absurd (inside outside)) (λ input. input) gives))
