-- The summary with a packet more.
use Rattle.std.proofs.Common.{◌≡◌, ◌+◌, List, [], ◌∷◌, ◌++◌, length-append, All, inl, inr, refl, sym, ◌∙◌, subst, arith}
use Rattle.std.proofs.lemmas.List.Elements.{All-push, Contains-append_left, Contains-push}
use Rattle.st_base.specs.Records.{time}
use Rattle.st_block.specs.Scan.{PositionedRecord}
use Rattle.st_rows.specs.Rows.{Moment, IsUpTo, WasAt, SummaryView, IsSummary}
use Rattle.st_index.specs.Summaries.{IsEarlier, IsLater}

up_trans : (t u v : Moment) → IsUpTo t u → IsUpTo u v → IsUpTo t v
up_trans t u v (inl h) (inl i) = inl (omega (arith, h, i))
up_trans t u v (inl h) (inr (e, i)) = inl (omega (arith, h, e))
up_trans t u v (inr (e, h)) (inl i) = inl (omega (arith, e, i))
up_trans t u v (inr (e, h)) (inr (f, i)) = inr (e ∙ f, omega (arith, h, i))

up_itself : (t : Moment) → IsUpTo t t
up_itself t = inr (refl, omega arith)

-- what all have, and one more has
all_more : (P : PositionedRecord → Type 0) (given : List PositionedRecord) (x : PositionedRecord) → All P given → P x → All P (given ++ x ∷ [])
all_more P given x h i = All-push P given x h i

kept : (given : List PositionedRecord) (x : PositionedRecord) (t : Moment) → WasAt given t → WasAt (given ++ x ∷ []) t
kept given x t (y, c, e) = (y, Contains-append_left given (x ∷ []) y c, e)

gained : (given : List PositionedRecord) (x : PositionedRecord) (t : Moment) → time x.1 ≡ t → WasAt (given ++ x ∷ []) t
gained given x t e = (x, Contains-push given x, e)

-- the first moment of one packet more
first_more : (given : List PositionedRecord) (x : PositionedRecord) (old now : Moment) → WasAt given old → All (λ y. IsUpTo old (time y.1)) given
    → IsEarlier old (time x.1) now → WasAt (given ++ x ∷ []) now × All (λ y. IsUpTo now (time y.1)) (given ++ x ∷ [])
first_more given x old now was all (inl (e, h)) =
    subst (λ (t : Moment). WasAt (given ++ x ∷ []) t × All (λ y. IsUpTo t (time y.1)) (given ++ x ∷ [])) (sym e)
    (kept given x old was, all_more (λ y. IsUpTo old (time y.1)) given x all h)
first_more given x old now was all (inr (e, h)) =
    subst (λ (t : Moment). WasAt (given ++ x ∷ []) t × All (λ y. IsUpTo t (time y.1)) (given ++ x ∷ [])) (sym e)
    (gained given x (time x.1) refl, all_more (λ y. IsUpTo (time x.1) (time y.1)) given x (λ i d less. up_trans (time x.1) old _ h (all i d less)) (up_itself (time x.1)))

last_more : (given : List PositionedRecord) (x : PositionedRecord) (old now : Moment) → WasAt given old → All (λ y. IsUpTo (time y.1) old) given
    → IsLater old (time x.1) now → WasAt (given ++ x ∷ []) now × All (λ y. IsUpTo (time y.1) now) (given ++ x ∷ [])
last_more given x old now was all (inl (e, h)) =
    subst (λ (t : Moment). WasAt (given ++ x ∷ []) t × All (λ y. IsUpTo (time y.1) t) (given ++ x ∷ [])) (sym e)
    (kept given x old was, all_more (λ y. IsUpTo (time y.1) old) given x all h)
last_more given x old now was all (inr (e, h)) =
    subst (λ (t : Moment). WasAt (given ++ x ∷ []) t × All (λ y. IsUpTo (time y.1) t) (given ++ x ∷ [])) (sym e)
    (gained given x (time x.1) refl, all_more (λ y. IsUpTo (time y.1) (time x.1)) given x (λ i d less. up_trans _ old (time x.1) (all i d less) h) (up_itself (time x.1)))

pub first_packet : (x : PositionedRecord) → IsSummary (x ∷ []) (record { packets = 1; first = time x.1; last = time x.1 })
first_packet x = record {
  packets = refl;
  first = gained [] x (time x.1) refl;
  none_before = all_more (λ y. IsUpTo (time x.1) (time y.1)) [] x (λ i d less. absurd (omega arith)) (up_itself (time x.1));
  last = gained [] x (time x.1) refl;
  none_after = all_more (λ y. IsUpTo (time y.1) (time x.1)) [] x (λ i d less. absurd (omega arith)) (up_itself (time x.1));
}

pub packet_more : (given : List PositionedRecord) (x : PositionedRecord) (s t : SummaryView) → IsSummary given s → t.packets ≡ s.packets + 1
    → IsEarlier s.first (time x.1) t.first → IsLater s.last (time x.1) t.last → IsSummary (given ++ x ∷ []) t
packet_more given x s t is count early late =
    let first = first_more given x s.first t.first is.first is.none_before early in
    let last = last_more given x s.last t.last is.last is.none_after late in
    let all = length-append given (x ∷ []) in
    let had = is.packets in
    record { packets = omega (arith, count, all, had); first = first.0; none_before = first.1; last = last.0; none_after = last.1 }
