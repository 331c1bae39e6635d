-- A history's file set is whole if the pairs that were found are.
use Rattle.std.specs.Prelude.{Bool, true, false, cond, nat_eq}
use Rattle.std.proofs.Common.{◌≡◌, ◌<◌, ℕ, List, [], ◌∷◌, ◌++◌, All, refl, sym, ap, subst}
use Rattle.std.proofs.lemmas.List.Elements.{All-nil, All-cons, All-head, All-tail, All-push}
use Rattle.st_disk.specs.Events.{Event, Found, Publish, Remove}
use Rattle.st_disk.specs.Pairs.{Entry}
use Rattle.st_pairs.specs.Pairs.{IsWholePair as IsWhole}
use Rattle.st_spool.specs.History.{set_of, set_after, without, Legal, MayFollow}
use Rattle.st_spool.specs.Standing.{PublishWhole}
use Rattle.st_answer.specs.Packets.{IsWholePair, IsWholeSet}

either : (b : Bool) (xs ys : List Entry) → IsWholeSet xs → IsWholeSet ys
    → IsWholeSet (cond b xs ys)
either true xs ys p q = p
either false xs ys p q = q

whole_without : (s : ℕ) (es : List Entry) → IsWholeSet es → IsWholeSet (without s es)
whole_without s [] whole = whole
whole_without s (e ∷ es) whole =
    let rest = whole_without s es (All-tail IsWholePair e es whole) in
    either (nat_eq e.stamp s) (without s es) (e ∷ without s es) rest
    (All-cons IsWholePair e (without s es) (All-head IsWholePair e es whole) rest)

whole_after : (limit : ℕ) (all set : List Entry) (es : List Event) → MayFollow limit all set es
    → PublishWhole IsWhole es → IsWholeSet set → IsWholeSet (set_after set es)
whole_after limit all set [] may whole is = is
whole_after limit all set (Found found ∷ es) may whole is = absurd may
whole_after limit all set (Publish e ∷ es) may whole is =
    whole_after limit (all ++ e ∷ []) (set ++ e ∷ []) es may.1 whole.1
    (All-push IsWholePair set e is whole.0)
whole_after limit all set (Remove s ∷ es) may whole is =
    whole_after limit all (without s set) es may.2 whole (whole_without s set is)

pub set_whole : (limit : ℕ) (found : List Entry) (es : List Event)
    → Legal limit (Found found ∷ es) → PublishWhole IsWhole (Found found ∷ es)
    → IsWholeSet found → IsWholeSet (set_of (Found found ∷ es))
set_whole limit found es legal whole is = whole_after limit found found es legal.1 whole is
