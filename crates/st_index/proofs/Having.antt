-- The packets that a maker has, with one more.
use Rattle.std.proofs.Common.{◌≡◌, ℕ, ◌+◌, ◌*◌, ◌<◌, ◌≤◌, ◌^◌, ◌↔◌, Bool, true, false, ◌||◌, List, [], ◌∷◌, ◌++◌, length, IsTrue, All, ◌⊎◌, inl, inr, refl, sym, ap, ◌∙◌, subst, arith, true≢false, ⊎_elim, nat_eq, eq-eqb, Option, Some}
use Rattle.std.proofs.lemmas.Bool.Decides.{nat_tests}
use Rattle.std.proofs.lemmas.List.Quantifiers.{all_pairs_push}
use Rattle.std.proofs.lemmas.List.Elements.{All-push, Contains-append_left, Contains-push, Contains-push_cases}
use Rattle.st_base.specs.Records.{Rec}
use Rattle.st_walk.specs.Walk.{HasKey}
use Rattle.st_walk.specs.Listing.{frame_keys}
use Rattle.st_walk.specs.declared.text.Key.{Key}
use Rattle.st_block.specs.BlockText.{HasBytes}
use Rattle.st_block.specs.Scan.{PositionedRecord}
use Rattle.st_rows.specs.Positions.{has}
use Rattle.st_rows.specs.Rows.{HasAt, IsSummary, FitsFields}
use Rattle.st_index.specs.NumberedLists.{Gained}
use Rattle.st_index.specs.PositionLists.{positions_at}
use Rattle.st_index.specs.Summaries.{SummaryOf, summary_view}
use Rattle.st_index.specs.Maker.{end_of, ArePositions, HasPackets}
use Rattle.st_index.specs.declared.lists.PositionLists.{PositionLists}
use Rattle.st_index.specs.declared.summary.Summary.{Summary}
use Rattle.st_index.proofs.WalkSizes.{four_bytes_a_key}

or_assoc : (a b c : Bool) → ((a || b) || c) ≡ (a || (b || c))
or_assoc true b c = refl
or_assoc false b c = refl

or_false : (b : Bool) → (b || false) ≡ b
or_false true = refl
or_false false = refl

has_push : (xs : List ℕ) (x p : ℕ) → has (xs ++ x ∷ []) p ≡ (has xs p || nat_eq p x)
has_push [] x p = or_false (nat_eq p x)
has_push (y ∷ xs) x p = ap (λ b. nat_eq p y || b) (has_push xs x p) ∙ sym (or_assoc (nat_eq p y) (has xs p) (nat_eq p x))

either_so : (a b : Bool) → (a || b) ≡ true → (a ≡ true) ⊎ (b ≡ true)
either_so true b h = inl refl
either_so false b h = inr h

so_left : (a b : Bool) → a ≡ true → (a || b) ≡ true
so_left true b h = refl
so_left false b h = absurd (true≢false (sym h))

so_right : (a b : Bool) → b ≡ true → (a || b) ≡ true
so_right true b h = refl
so_right false b h = h

equal : (p q : ℕ) → nat_eq p q ≡ true → p ≡ q
equal p q h = grind (arith, nat_tests)

kept : (given : List PositionedRecord) (x : PositionedRecord) (k : Key) (p : ℕ) → HasAt given k p → HasAt (given ++ x ∷ []) k p
kept given x k p (r, c, h) = (r, Contains-append_left given (x ∷ []) (p, r) c, h)

gained : (given : List PositionedRecord) (r : Rec) (at p : ℕ) (k : Key) (xs : List ℕ) → HasKey r.body r.sec k → IsTrue (has xs p) ↔ HasAt given k p → IsTrue (has (xs ++ at ∷ []) p) ↔ HasAt (given ++ (at, r) ∷ []) k p
gained given r at p k xs own e = (
  λ h. ⊎_elim (λ i. kept given (at, r) k p (e.0 i)) (λ i. let same = equal p at i in subst (λ (q : ℕ). HasAt (given ++ (at, r) ∷ []) k q) (sym same) (r, Contains-push given (at, r), own)) (either_so (has xs p) (nat_eq p at) (sym (has_push xs at p) ∙ h)),
  λ (s, c, h). has_push xs at p ∙ ⊎_elim (λ d. so_left (has xs p) (nat_eq p at) (e.1 (s, d, h))) (λ d. so_right (has xs p) (nat_eq p at) (eq-eqb p at (ap (λ (x : PositionedRecord). x.0) (sym d)))) (Contains-push_cases given (at, r) (p, s) c),
)

stayed : (given : List PositionedRecord) (r : Rec) (at p : ℕ) (k : Key) (xs : List ℕ) → (HasKey r.body r.sec k → ⊥) → IsTrue (has xs p) ↔ HasAt given k p → IsTrue (has xs p) ↔ HasAt (given ++ (at, r) ∷ []) k p
stayed given r at p k xs lacks e = (
  λ h. kept given (at, r) k p (e.0 h),
  λ (s, c, h). ⊎_elim (λ d. e.1 (s, d, h)) (λ d. absurd (lacks (subst (λ (x : PositionedRecord). HasKey x.1.body x.1.sec k) (sym d) h))) (Contains-push_cases given (at, r) (p, s) c),
)

-- the list of a key, with a packet more
list_on : (given : List PositionedRecord) (r : Rec) (at : ℕ) (k : Key) (before now : List ℕ) → All (λ p. p < at) before
    → Gained (HasKey r.body r.sec k) before now at → ArePositions given k before → ArePositions (given ++ (at, r) ∷ []) k now
list_on given r at k before now low (inl (n, own)) h =
    subst (λ (xs : List ℕ). ArePositions (given ++ (at, r) ∷ []) k xs) (sym n) (all_pairs_push (λ a b. a < b) before at h.0 low, λ p. gained given r at p k before own (h.1 p))
list_on given r at k before now low (inr (n, lacks)) h =
    subst (λ (xs : List ℕ). ArePositions (given ++ (at, r) ∷ []) k xs) (sym n) (h.0, λ p. stayed given r at p k before lacks (h.1 p))

-- what a packet has to be, to be added at a position
pub record IsNext (end : ℕ) (at : ℕ) (r : Rec) : Type 0 where
  pub after : end ≤ at
  pub fits : at + (48 + length r.body) ≤ 2 ^ 32
  pub sec : r.sec < 2 ^ 32
  pub nsec : r.nsec < 2 ^ 32
  pub bytes : HasBytes r

pub packet_on : (old new : PositionLists) (summary : Option Summary) (t : Summary) (end next : ℕ) (given : List PositionedRecord) (r : Rec) (at : ℕ)
    → IsNext end at r → next ≡ end_of (at, r) → ((k : Key) → All (λ p. p < at) (positions_at old k))
    → ((k : Key) → Gained (HasKey r.body r.sec k) (positions_at old k) (positions_at new k) at)
    → (SummaryOf given summary → IsSummary (given ++ (at, r) ∷ []) (summary_view t))
    → HasPackets old summary end given → HasPackets new (Some t) next (given ++ (at, r) ∷ [])
packet_on old new summary t end next given r at is n low gain sums h = record {
  positions = λ k. list_on given r at k (positions_at old k) (positions_at new k) (low k) (gain k) (h.positions k);
  summed = sums h.summed;
  ends = All-push (λ x. end_of x ≤ next) given (at, r) (λ i d less. let was = h.ends i d less in let a = is.after in omega (arith, was, a, n)) (omega (arith, n));
  rise = all_pairs_push (λ x y. x.0 < y.0) given (at, r) h.rise (λ i d less. let was = h.ends i d less in let a = is.after in omega (arith, was, a));
  fit = All-push FitsFields given (at, r) h.fit ((let f = is.fits in omega (arith, f)), is.sec, is.nsec, is.bytes);
}

-- after a refusal
pub same_packets : (old new : PositionLists) (summary : Option Summary) (end : ℕ) (given : List PositionedRecord)
    → ((k : Key) → positions_at new k ≡ positions_at old k) → HasPackets old summary end given → HasPackets new summary end given
same_packets old new summary end given same h = record {
  positions = λ k. subst (λ (xs : List ℕ). ArePositions given k xs) (sym (same k)) (h.positions k);
  summed = h.summed;
  ends = h.ends;
  rise = h.rise;
  fit = h.fit;
}

-- ---- what every maker keeps

-- all positions are below the next packet's
pub below_on : (before now : List ℕ) (at next : ℕ) (Has : Type 0) → All (λ p. p < at) before → at < next → Gained Has before now at → All (λ p. p < next) now
below_on before now at next Has low less (inl (n, own)) = subst (λ (xs : List ℕ). All (λ p. p < next) xs) (sym n) (All-push (λ p. p < next) before at (λ i d l. let h = low i d l in omega (arith, h, less)) less)
below_on before now at next Has low less (inr (n, lacks)) = subst (λ (xs : List ℕ). All (λ p. p < next) xs) (sym n) (λ i d l. let h = low i d l in omega (arith, h, less))

-- no more positions than a fourth of the bytes
pub few_on : (frame : List ℕ) (old new end at next : ℕ) → 4 * old + 48 ≤ end → end ≤ at → next ≡ at + (48 + length frame) → new ≤ old + (length (frame_keys frame) + 1) → 4 * new + 48 ≤ next
few_on frame old new end at next had after n more = let keys = four_bytes_a_key frame in omega (arith, had, after, n, more, keys)
