-- The lines of a load are as many as the pairs that they are of.
use Rattle.std.specs.Prelude.{Bool, true, false, cond, nat_eq, nat_lt, count_by, codes}
use Rattle.std.specs.Fmt.{decimal, digits, digits_onto, digit_glyph}
use Rattle.std.proofs.Common.{◌≡◌, ◌≤◌, ◌<◌, ◌+◌, ◌/◌, ◌%◌, ◌^◌, ℕ, zero, suc, List, [], ◌∷◌, ◌++◌, length, take, append-nil, Option, Some, refl, sym, ap, ◌∙◌, subst, arith}
use Rattle.std.proofs.lemmas.Bool.Decides.{nat_tests}
use Rattle.std.proofs.lemmas.List.Sums.{sum_by-cons, sum_by-append}
use Rattle.st_base.specs.Records.{Rec}
use Rattle.st_load.specs.Acts.{Act, line_text, lines_of, happen, removals, newest}
use Rattle.st_load.specs.Job.{Situation, AddsAll, IsJob}
use Rattle.st_load.specs.Loading.{Did}
use Rattle.st_load.specs.declared.ends.LoadEnd.{LoadEnd}
use Rattle.st_load.specs.declared.ends.LoadEnd.TheVariants as load
use Rattle.st_load.proofs.Jobs.{lines_append, lines_happen}
use Rattle.st_drill.specs.declared.numbers.TheConstants.{LINE_FEED}

abbrev pub feeds : List ℕ → ℕ
feeds text = count_by (nat_eq LINE_FEED) text

abbrev is_feed : ℕ → ℕ
is_feed b = cond (nat_eq LINE_FEED b) 1 0

feeds_append : (xs ys : List ℕ) → feeds (xs ++ ys) ≡ feeds xs + feeds ys
feeds_append xs ys = sum_by-append is_feed xs ys

-- no digit ends a line
apart : (b : Bool) (d : ℕ) → nat_eq LINE_FEED (cond b (48 + d) (87 + d)) ≡ false
apart true d = grind (arith, nat_tests)
apart false d = grind (arith, nat_tests)

either : (b : Bool) (n : ℕ) (xs ys : List ℕ) → feeds xs ≡ n → feeds ys ≡ n
    → feeds (cond b xs ys) ≡ n
either true n xs ys p q = p
either false n xs ys p q = q

onto : (k n : ℕ) (acc : List ℕ) → feeds (digits_onto k 10 false n acc) ≡ feeds acc
onto zero n acc = refl
onto (suc k) n acc =
    let glyph = digit_glyph false (n % 10) in
    let more : feeds (glyph ∷ acc) ≡ feeds acc =
    sum_by-cons is_feed glyph acc
    ∙ ap (λ (b : Bool). cond b 1 0 + feeds acc) (apart (nat_lt (n % 10) 10) (n % 10))
    ∙ omega arith in
    either (nat_eq (n / 10) 0) (feeds acc) (glyph ∷ acc)
    (digits_onto k 10 false (n / 10) (glyph ∷ acc)) more (onto k (n / 10) (glyph ∷ acc) ∙ more)

no_feed : (n : ℕ) → feeds (decimal n) ≡ 0
unfolding digits
no_feed n = onto 64 n []

-- a line has one line feed
one_feed : (stamp packets : ℕ) → feeds (line_text stamp packets) ≡ 1
one_feed stamp packets =
    let last : List ℕ = codes "\n" in
    let count = decimal packets ++ last in
    let a = feeds_append (decimal stamp) (codes " " ++ count) in
    let b = feeds_append (codes " ") count in
    let c = feeds_append (decimal packets) last in
    let d = no_feed stamp in
    let e = no_feed packets in
    let s : feeds (codes " ") ≡ 0 = refl in
    let l : feeds last ≡ 1 = refl in
    omega (arith, a, b, c, d, e, s, l)

-- and so has what is written for a pair
feeds_all : (limit size : ℕ) (a b : Situation) (lists : List (List Rec)) (acts : List Act)
    → AddsAll limit size a lists acts b → feeds (lines_of acts) ≡ length lists
feeds_all limit size a b [] acts (none, same) = ap (λ (l : List Act). feeds (lines_of l)) none
feeds_all limit size a b (rs ∷ lists) acts (mid, first, later, is, add, adds) =
    let line = line_text add.e.stamp (length rs) in
    let gone = removals limit (a.set ++ add.e ∷ []) in
    let here : lines_of first ≡ line ++ [] =
    ap lines_of add.acts_are ∙ ap (λ (l : List ℕ). line ++ l) (lines_happen gone) in
    let one : feeds (lines_of first) ≡ 1 =
    ap feeds here ∙ ap feeds (append-nil line) ∙ one_feed add.e.stamp (length rs) in
    let rest = feeds_all limit size mid b lists later adds in
    let both = feeds_append (lines_of first) (lines_of later) in
    ap (λ (l : List Act). feeds (lines_of l)) is ∙ ap feeds (lines_append first later)
    ∙ omega (arith, one, rest, both)

job_feeds : (limit size : ℕ) (a b : Situation) (lists : List (List Rec)) (acts : List Act)
    → IsJob limit size a lists acts b → feeds (lines_of acts) ≡ length lists
job_feeds limit size a b lists acts (later, is, adds) =
    let gone = happen (removals limit a.set) in
    ap (λ (l : List Act). feeds (lines_of l)) is ∙ ap feeds (lines_append gone later)
    ∙ ap (λ (l : List ℕ). feeds (l ++ lines_of later)) (lines_happen (removals limit a.set))
    ∙ feeds_all limit size (record a { set = newest limit a.set }) b lists later adds

-- a load that did all of its job wrote a line for each pair
did_all : (limit size : ℕ) (start : Situation) (lists : List (List Rec)) (acts to_come : List Act)
    (times : Option (List ℕ)) (text : List ℕ)
    → Did (IsJob limit size start) load.Done lists acts to_come times (Some []) (Some text)
    → feeds text ≡ length lists
did_all limit size start lists acts to_come times text did =
    let whole : acts ++ to_come ≡ acts =
    ap (λ (l : List Act). acts ++ l) did.ends.0 ∙ append-nil acts in
    ap feeds did.lines
    ∙ job_feeds limit size start did.final lists acts
    (subst (λ (l : List Act). IsJob limit size start lists l did.final) whole did.job)

pub lines_counted : (limit size : ℕ) (start : Situation) (e : LoadEnd) (lists : List (List Rec))
    (acts to_come : List Act) (times : Option (List ℕ)) (text : List ℕ)
    → Did (IsJob limit size start) e lists acts to_come times (Some []) (Some text)
    → e ≡ load.Done → count_by (nat_eq LINE_FEED) text ≡ length lists
lines_counted limit size start e lists acts to_come times text did is =
    did_all limit size start lists acts to_come times text
    (subst (λ (x : LoadEnd). Did (IsJob limit size start) x lists acts to_come times (Some []) (Some text))
    is did)
