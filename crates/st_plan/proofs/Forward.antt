-- Words that make a line are taken, and the rows hold what they make.
use Rattle.std.proofs.Common.{◌≡◌, Bool, true, false, List, [], ◌∷◌, ◌++◌, Option, Some, None, is_some, refl, sym, ap, ◌∙◌, subst, codes, append_assoc, append-nil, fold}
use Rattle.clap.specs.Words.{Row, Text}
use Rattle.clap.specs.Walk.{Walk, Waiting, option, positional, walked, settled_rows}
use Rattle.clap.specs.Takes.{turn_passes, settle_passes, walk_passes}
use Rattle.st_plan.specs.Line.{name_of, long_name, name_and_value, Options, with_value, Line, nothing, rest, word, ns, value, joined}
use Rattle.st_plan.proofs.Steps as steps
use Rattle.st_plan.proofs.Steps.{shape, rules, held, at, wait}
use Rattle.st_plan.proofs.Holds.{Holds, Ready, one, holds_ns, holds_value, settled_value, holds_word, ns_row, value_row}

-- the walk ends with these options and arguments
pub record Final (o : Options) (gs : List Text) (w : Walk) : Type 0 where
  pub settles : settle_passes rules false w.held ≡ true
  pub holds : Holds o gs (settled_rows rules w.held.pending w.held.rows)

-- each turn passes, and the walk ends so
pub record Reads (w : Walk) (ws : List Text) (o : Options) (gs : List Text) : Type 0 where
  pub passes : walk_passes shape [] w ws ≡ true
  pub final : Final o gs (fold (walked rules []) w ws)

no_more : (w : Walk) → walk_passes shape [] w [] ≡ true
unfolding walk_passes
no_more w = refl

turn : (w next : Walk) (word : Text) (ws : List Text) (o : Options) (gs : List Text) → turn_passes shape [] w word ≡ true → walked rules [] w word ≡ next → Reads next ws o gs → Reads w (word ∷ ws) o gs
turn w next v ws o gs passes moves later =
    let reads : Reads (walked rules [] w v) ws o gs = subst (λ x. Reads x ws o gs) (sym moves) later in
    record { passes = steps.turn_then w v ws passes reads.passes; final = reads.final }

-- what stands once a word is an argument
pub word_ready : (o : Options) (gs : List Text) (w : Text) (rows : List Row) (p : Option (Text × List Text)) → Ready o gs rows p → Ready o (gs ++ w ∷ []) (settled_rows rules p rows) (Some (codes "words", w ∷ []))
word_ready o gs w rows p r = record { settles = steps.words_settle (settled_rows rules p rows) w; holds = holds_word o gs w (settled_rows rules p rows) r.holds }

trailing : (waiting : Waiting) (rows : List Row) (p : Option (Text × List Text)) (ws : List Text) (o : Options) (gs : List Text) → Ready o gs rows p → Reads (at rows p waiting true) ws o (gs ++ ws)
trailing waiting rows p [] o gs r =
    record { passes = no_more (at rows p waiting true); final = record { settles = r.settles; holds = subst (λ hs. Holds o hs (settled_rows rules p rows)) (sym (append-nil gs)) r.holds } }
trailing waiting rows p (w ∷ ws) o gs r =
    let later = trailing positional (settled_rows rules p rows) (Some (codes "words", w ∷ [])) ws o (gs ++ w ∷ []) (word_ready o gs w rows p r) in
    turn (at rows p waiting true) _ w ws o (gs ++ w ∷ ws) (steps.trailing_passes waiting rows p w true r.settles) (steps.trailing_moves waiting rows p w)
    (subst (λ hs. Reads (at (settled_rows rules p rows) (Some (codes "words", w ∷ [])) positional true) ws o hs) (append_assoc gs (w ∷ []) ws) later)

-- what stands once an option was used, with nothing pending
pub used_ready : (o : Options) (gs : List Text) (rows : List Row) → Holds o gs rows → Ready o gs rows None
used_ready o gs rows h = record { settles = refl; holds = h }

pub taken : (o p : Options) (gs ws hs : List Text) → Line o gs ws p hs → (m : Bool) (rows : List Row) (q : Option (Text × List Text)) → Ready o gs rows q → Reads (at rows q (wait m) false) ws p hs
taken o p gs ws hs nothing m rows q r = record { passes = no_more (at rows q (wait m) false); final = record { settles = r.settles; holds = r.holds } }
taken o p gs us hs (rest {ws = ws} is) m rows q r =
    turn (at rows q (wait m) false) (at rows q (wait m) true) (codes "--") ws o hs (steps.stop_passes (wait m) rows q) (steps.stop_moves (wait m) rows q)
    (subst (λ t. Reads (at rows q (wait m) true) ws o t) (sym is) (trailing (wait m) rows q ws o gs r))
taken o p gs us hs (word {ws = ws} {w = w} plain line) m rows q r =
    turn (at rows q (wait m) false) _ w ws p hs (steps.word_passes m rows q w plain r.settles) (steps.word_moves m rows q w plain)
    (taken o p (gs ++ w ∷ []) ws hs line true (settled_rows rules q rows) (Some (codes "words", w ∷ [])) (word_ready o gs w rows q r))
taken o p gs us hs (ns {ws = ws} first line) m rows q r =
    turn (at rows q (wait m) false) _ (codes "--ns") ws p hs (steps.ns_passes m rows q r.settles (ns_row o gs (settled_rows rules q rows) false r.holds first)) (steps.ns_moves m rows q)
    (taken (record o { ns = true }) p gs ws hs line false _ None (used_ready _ gs _ (holds_ns o gs (settled_rows rules q rows) r.holds first)))
taken o p gs us hs (value {ws = ws} x v first plain line) m rows q r =
    let all = settled_rows rules q rows in
    let none = value_row x o gs all r.holds ∙ ap (λ t. is_some (one t)) first in
    turn (at rows q (wait m) false) _ (long_name x) (v ∷ ws) p hs (steps.value_passes x m rows q r.settles) (steps.value_moves x m rows q)
    (turn (at all (Some (name_of x, [])) (option (name_of x)) false) _ v ws p hs (steps.taken_passes x all v plain) (steps.taken_moves x all v plain)
    (taken (with_value o x v) p gs ws hs line false all (Some (name_of x, v ∷ []))
    (record { settles = steps.value_settles x all v none; holds = settled_value x o gs v all r.holds first })))
taken o p gs us hs (joined {ws = ws} x v first line) m rows q r =
    let all = settled_rows rules q rows in
    let none = value_row x o gs all r.holds ∙ ap (λ t. is_some (one t)) first in
    turn (at rows q (wait m) false) _ (name_and_value x v) ws p hs (steps.joined_passes x m rows q v r.settles none) (steps.joined_moves x m rows q v)
    (taken (with_value o x v) p gs ws hs line false _ None (used_ready _ gs _ (holds_value x o gs v all r.holds first)))
