-- What a query writes, from what its answer sent.
use Rattle.std.proofs.Common.{◌≡◌, ℕ, List, [], ◌∷◌, ◌++◌, length, take, Option, None, Some, Result, Ok, Err, refl, sym, ◌∙◌, ap, subst, inl, inr, append_assoc, append-nil}
use Rattle.std.proofs.Math.Seq.{take-append_seam}
use Rattle.std.specs.List.{fold, concat}
use Rattle.std.specs.Io.KnownBytes.{Appends}
use Rattle.std.proofs.lemmas.List.{append_cancel_left}
use Rattle.std.proofs.lemmas.List.Elements.{All-contains}
use Rattle.st_base.specs.Outlets.{SentAll, SentPart}
use Rattle.st_base.specs.Pieces.{AppendsPrefix}
use Rattle.st_pcap.specs.Text.{Pieces}
use Rattle.st_pcap.proofs.Joining.{pieces_text}
use Rattle.st_disk.specs.Pairs.{Entry}
use Rattle.st_answer.specs.Packets as packets
use Rattle.st_answer.specs.Replies.{Question, SendsSome, Replies, RepliesFor, Blames, HasDiskCause, HasOutletCause}
use Rattle.st_answer.specs.declared.errors.AnswerErr.{AnswerErr}
use Rattle.st_answer.specs.declared.errors.AnswerErr.TheVariants as error
use Rattle.st_answer.specs.declared.errors.Told.{Told}
use Rattle.st_commands.specs.Commands.{HasDiskFault, HasWriteFault}
use Rattle.st_commands.specs.Queries.{EndsWith, WritesFirst, WritesWhole, NamesHurt}
use Rattle.st_commands.specs.declared.outcomes.Outcome.{Outcome}

abbrev pub joined : List ℕ → List ℕ → List ℕ
joined s more = s ++ more

abbrev pub itself : List ℕ → List ℕ
itself s = s

fold_joined : (s : List ℕ) (ps : List (List ℕ)) → fold joined s ps ≡ s ++ concat ps
fold_joined s [] = sym (append-nil s)
fold_joined s (p ∷ ps) = fold_joined (s ++ p) ps ∙ append_assoc s p (concat ps)

put_at : (s bytes : List ℕ) (new : Option (List ℕ)) → new ≡ Some (s ++ bytes) → Appends (Some s) new bytes
put_at s bytes None e = absurd (cc)
put_at s bytes (Some t) e = cc

-- all pieces, put one after the other
put_all : (old new : Option (List ℕ)) (ps : List (List ℕ)) → SentAll joined old new ps → Appends old new (concat ps)
put_all None new ps h = tt
put_all (Some s) new ps h = put_at s (concat ps) new (h s refl ∙ ap Some (fold_joined s ps))

put_part : (old new : Option (List ℕ)) (ps : List (List ℕ)) → SentPart joined itself old new ps → AppendsPrefix old new (concat ps)
put_part None new ps h = (0, tt)
put_part (Some s) new ps h =
    let (t, is, (more, begins), (rest, ends)) = h s refl in
    let whole : s ++ concat ps ≡ s ++ (more ++ rest) = sym (fold_joined s ps) ∙ (ends ∙ (ap (λ k. k ++ rest) begins ∙ append_assoc s more rest)) in
    let all : concat ps ≡ more ++ rest = append_cancel_left s (concat ps) (more ++ rest) whole in
    let first : take (length more) (concat ps) ≡ more = ap (take (length more)) all ∙ take-append_seam more rest in
    (length more, put_at s (take (length more) (concat ps)) new (is ∙ ap Some (begins ∙ ap (λ k. s ++ k) (sym first))))

put_first : (q : Question) (set : List Entry) (old new : Option (List ℕ)) → SendsSome joined old new q set → WritesFirst q set old new
put_first q set old new (inl same) = inl same
put_first q set old new (inr (rs, is, n, sent)) =
    inr (rs, is, n, subst (Appends old new) (pieces_text q.unit (take n rs)) (put_all old new (Pieces (take n rs) q.unit) sent))

pub writes_whole : (q : Question) (set : List Entry) (old new : Option (List ℕ)) (r : Result Told AnswerErr) (o : Outcome) → EndsWith r o → packets.IsWholeSet set
    → Replies joined itself old new q set r → Blames (Some set) r → WritesWhole q set old new o
writes_whole q set old new (Ok told) o ends whole (rs, is, sent, tells) blames =
    subst (WritesWhole q set old new) (sym ends) (record { packets = rs; are = is; put = subst (Appends old new) (pieces_text q.unit rs) (put_all old new (Pieces rs q.unit) sent) })
writes_whole q set old new (Err error.WriteFault) o ends whole (rs, is, part) blames =
    subst (WritesWhole q set old new) (sym ends) (record { packets = rs; are = is; put = subst (AppendsPrefix old new) (pieces_text q.unit rs) (put_part old new (Pieces rs q.unit) part) })
writes_whole q set old new (Err error.DiskFault) o ends whole some blames = subst (WritesWhole q set old new) (sym ends) (put_first q set old new some)
writes_whole q set old new (Err (error.Damaged stamp d)) o ends whole some blames =
    let (e, there, at, hurt) = blames set refl in
    absurd (hurt (All-contains packets.IsWholePair set e whole there))
writes_whole q set old new (Err error.NoMemory) o ends whole some blames = subst (WritesWhole q set old new) (sym ends) (put_first q set old new some)

pub names_hurt : (set : List Entry) (r : Result Told AnswerErr) (o : Outcome) → EndsWith r o → Blames (Some set) r → NamesHurt set o
names_hurt set (Ok told) o ends blames = subst (NamesHurt set) (sym ends) tt
names_hurt set (Err error.WriteFault) o ends blames = subst (NamesHurt set) (sym ends) tt
names_hurt set (Err error.DiskFault) o ends blames = subst (NamesHurt set) (sym ends) tt
names_hurt set (Err (error.Damaged stamp d)) o ends blames = subst (NamesHurt set) (sym ends) (blames set refl)
names_hurt set (Err error.NoMemory) o ends blames = subst (NamesHurt set) (sym ends) tt

-- the counts of a query are those of its answer
pub disk_ends : (before now : ℕ) (r : Result Told AnswerErr) (o : Outcome) → EndsWith r o → HasDiskCause before now r → HasDiskFault before now o
disk_ends before now (Ok told) o ends cause = record { later = cause.later; rose = λ is. absurd (cc) }
disk_ends before now (Err error.WriteFault) o ends cause = record { later = cause.later; rose = λ is. absurd (cc) }
disk_ends before now (Err error.DiskFault) o ends cause = record { later = cause.later; rose = λ is. cause.failed refl }
disk_ends before now (Err (error.Damaged stamp d)) o ends cause = record { later = cause.later; rose = λ is. absurd (cc) }
disk_ends before now (Err error.NoMemory) o ends cause = record { later = cause.later; rose = λ is. absurd (cc) }

pub write_ends : (before now : ℕ) (r : Result Told AnswerErr) (o : Outcome) → EndsWith r o → HasOutletCause before now r → HasWriteFault before now o
write_ends before now (Ok told) o ends cause = record { later = cause.later; rose = λ is. absurd (cc); still = λ other. cause.still (λ is. cc) }
write_ends before now (Err error.WriteFault) o ends cause = record { later = cause.later; rose = λ is. cause.rose refl; still = λ other. absurd (other ends) }
write_ends before now (Err error.DiskFault) o ends cause = record { later = cause.later; rose = λ is. absurd (cc); still = λ other. cause.still (λ is. cc) }
write_ends before now (Err (error.Damaged stamp d)) o ends cause = record { later = cause.later; rose = λ is. absurd (cc); still = λ other. cause.still (λ is. cc) }
write_ends before now (Err error.NoMemory) o ends cause = record { later = cause.later; rose = λ is. absurd (cc); still = λ other. cause.still (λ is. cc) }

-- the same over an output that is known otherwise
pub replies_at : (q : Question) (asked : Option (List Entry)) (r : Result Told AnswerErr) (old new old' new' : Option (List ℕ)) → old' ≡ old → new' ≡ new
    → RepliesFor joined itself old new q asked r → RepliesFor joined itself old' new' q asked r
replies_at q asked r old new old' new' a b h =
    subst (λ (o : Option (List ℕ)). RepliesFor joined itself o new' q asked r) (sym a) (subst (λ (o : Option (List ℕ)). RepliesFor joined itself old o q asked r) (sym b) h)
