-- One record more was sent, or none.
use Rattle.std.proofs.Common.{Option, ◌≡◌, ℕ, ◌+◌, ◌<◌, List, [], ◌∷◌, ◌++◌, length, take, drop, get_or, sym, subst, Result, Ok, Err}
use Rattle.std.specs.List.{flat_map}
use Rattle.st_base.specs.Records.{Rec}
use Rattle.st_base.specs.Outlets.{IsPrefix, SentAll, SentPart}
use Rattle.st_base.proofs.Sending.{SentAll-then, SentPart-then, SentPart-more}
use Rattle.st_pcap.specs.declared.forms.Unit as unit
use Rattle.st_pcap.specs.Text.{record_pieces}
use Rattle.st_answer.specs.declared.errors.AnswerErr.{AnswerErr}
use Rattle.st_answer.specs.declared.errors.AnswerErr.TheVariants as error
use Rattle.st_answer.specs.Sending.{StopsAtOne, StopsAmong, SendsRecords, body_pieces}
use Rattle.st_answer.proofs.Files.{flat_next, flat_split}

-- a record, for where a list has none
abbrev pub no_rec : Rec
no_rec = record { sec = 0; nsec = 0; orig = 0; body = [] }

module _ {S : Type 0} (after : S → List ℕ → S) (gone : S → List ℕ) (grows : (s : S) (bytes : List ℕ) → IsPrefix (gone s) (gone (after s bytes))) where
  -- one record more
  pub goes_on : (a b c : Option S) (u : unit.Unit) (rs : List Rec) (i : ℕ) → i < length rs
      → SentAll after a b (body_pieces u (take i rs)) → SentAll after b c (record_pieces u (get_or rs i no_rec)) → SentAll after a c (body_pieces u (take (i + 1) rs))
  goes_on a b c u rs i lt h k =
      subst (SentAll after a c) (sym (flat_next (record_pieces u) rs i no_rec lt)) (SentAll-then after gone grows a b c (body_pieces u (take i rs)) (record_pieces u (get_or rs i no_rec)) h k)

  -- nothing more
  same_sent : (a b c : Option S) (ps : List (List ℕ)) → SentAll after a b ps → c ≡ b → SentAll after a c ps
  same_sent a b c ps h e = subst (λ z. SentAll after a z ps) (sym e) h

  -- a record that failed
  pub fails_at : (a b c : Option S) (u : unit.Unit) (rs : List Rec) (i : ℕ) (e : AnswerErr) → i < length rs
      → SentAll after a b (body_pieces u (take i rs)) → StopsAtOne after gone b c (record_pieces u (get_or rs i no_rec)) e → StopsAmong after gone a c (body_pieces u) rs e
  fails_at a b c u rs i error.WriteFault lt h k =
      let f = record_pieces u in
      let one = f (get_or rs i no_rec) in
      subst (SentPart after gone a c) (sym (flat_split f rs i no_rec lt))
      (SentPart-more after gone grows a c (flat_map f (take i rs) ++ one) (flat_map f (drop (i + 1) rs)) (SentPart-then after gone grows a b c (flat_map f (take i rs)) one h k))
  fails_at a b c u rs i error.DiskFault lt h k = (i, same_sent a b c (body_pieces u (take i rs)) h k)
  fails_at a b c u rs i (error.Damaged s d) lt h k = absurd k
  fails_at a b c u rs i error.NoMemory lt h k = (i, same_sent a b c (body_pieces u (take i rs)) h k)

  -- a piece before all, of whatever list of records
  pub head_fails : (a b c : Option S) (head : List ℕ) (f : List Rec → List (List ℕ)) (rs : List Rec) (e : AnswerErr)
      → SentAll after a b (head ∷ []) → StopsAmong after gone b c f rs e → StopsAmong after gone a c (λ rs. head ∷ f rs) rs e
  head_fails a b c head f rs error.WriteFault h k = SentPart-then after gone grows a b c (head ∷ []) (f rs) h k
  head_fails a b c head f rs error.DiskFault h (n, k) = (n, SentAll-then after gone grows a b c (head ∷ []) (f (take n rs)) h k)
  head_fails a b c head f rs (error.Damaged s d) h (n, k) = (n, SentAll-then after gone grows a b c (head ∷ []) (f (take n rs)) h k)
  head_fails a b c head f rs error.NoMemory h (n, k) = (n, SentAll-then after gone grows a b c (head ∷ []) (f (take n rs)) h k)

  pub head_then : {T : Type 0} (a b c : Option S) (head : List ℕ) (f : List Rec → List (List ℕ)) (rs : List Rec) (r : Result T AnswerErr)
      → SentAll after a b (head ∷ []) → SendsRecords after gone b c f rs r → SendsRecords after gone a c (λ rs. head ∷ f rs) rs r
  head_then a b c head f rs (Ok t) h k = SentAll-then after gone grows a b c (head ∷ []) (f rs) h k
  head_then a b c head f rs (Err e) h k = head_fails a b c head f rs e h k
