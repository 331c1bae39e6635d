-- Each step of the walk over the words.
use Rattle.std.proofs.Common.{◌≡◌, Bool, true, false, ◌&&◌, ◌==◌, arith, List, [], ◌∷◌, Option, Some, None, refl, codes}
use Rattle.std.specs.Str.{bytes_eq}
use Rattle.clap.specs.Words.{Row, Rule, Text}
use Rattle.clap.specs.Walk.{Held, Walk, Waiting, idle, option, positional, walked, settled_rows, used, has_row, is_pending, walk, nothing_held}
use Rattle.clap.specs.Takes.{turn_passes, settle_passes, walk_passes, takes, entered_passes}
use Rattle.clap.specs.Simple.{Shape, built, filled, with_index}
use Rattle.clap.proofs.OnLiterals.{clap_on_literals}
use Rattle.st_plan.specs.Rules.{line_app, flag_rule, value_rule, words_rule}
use Rattle.st_plan.specs.Line.{Valued, packets, bytes, block, blocks, limit, name_of, long_name, name_and_value, is_plain}
use Rattle.clap.specs.Lexer.{long_of, short_of}
use Rattle.std.proofs.lemmas.Bool.Decides.{nat_tests}

abbrev pub shape : Shape
shape = (built line_app).top

abbrev pub rules : List Rule
rules = shape.rules

abbrev pub flag_in : Text → Rule
flag_in name = filled (flag_rule name)

abbrev pub value_in : Text → Rule
value_in name = filled (value_rule name)

abbrev pub words_in : Rule
words_in = with_index 1 (filled words_rule)

abbrev pub held : List Row → Option (Text × List Text) → Held
held rows pending = record { rows = rows; pending = pending; skip = 0 }

abbrev pub at : List Row → Option (Text × List Text) → Waiting → Bool → Walk
at rows pending waiting trailing =
    record { held = held rows pending; waiting = waiting; position = 1; is_trailing = trailing; stopped = None }

abbrev pub wait : Bool → Waiting
wait true = positional
wait false = idle

pub ns_passes : (m : Bool) (rows : List Row) (p : Option (Text × List Text)) → settle_passes rules false (held rows p) ≡ true → has_row (codes "ns") (settled_rows rules p rows) ≡ false
    → turn_passes shape [] (at rows p (wait m) false) (codes "--ns") ≡ true
unfolding clap_on_literals
ns_passes true rows p h k = rw (h, k) refl
ns_passes false rows p h k = rw (h, k) refl

pub ns_moves : (m : Bool) (rows : List Row) (p : Option (Text × List Text))
    → walked rules [] (at rows p (wait m) false) (codes "--ns") ≡ at (used (flag_in (codes "ns")) [] (settled_rows rules p rows)) None idle false
unfolding clap_on_literals
ns_moves true rows p = refl
ns_moves false rows p = refl

pub plain_stop : (w : Text) → is_plain w ≡ true → bytes_eq w (codes "--") ≡ false
plain_stop [] h = refl
plain_stop (x ∷ []) h = grind (arith, nat_tests)
plain_stop (x ∷ (y ∷ rest)) h = grind (arith, nat_tests)

pub plain_long : (w : Text) → is_plain w ≡ true → long_of w ≡ None
plain_long [] h = refl
plain_long (x ∷ []) h = elim (x == 45) as (λ b. (x == 45) ≡ b → long_of (x ∷ []) ≡ None) [ true ↦ λ e. rw e refl | false ↦ λ e. rw e refl ] refl
plain_long (x ∷ (y ∷ rest)) h = elim (x == 45) as (λ b. (x == 45) ≡ b → long_of (x ∷ (y ∷ rest)) ≡ None) [ true ↦ λ e. let bad = rw e at h in absurd cc | false ↦ λ e. rw e refl ] refl

pub plain_short : (w : Text) → is_plain w ≡ true → short_of w ≡ None
plain_short [] h = refl
plain_short (x ∷ []) h = elim (x == 45) as (λ b. (x == 45) ≡ b → short_of (x ∷ []) ≡ None) [ true ↦ λ e. rw e refl | false ↦ λ e. rw e refl ] refl
plain_short (x ∷ (y ∷ rest)) h = elim (x == 45) as (λ b. (x == 45) ≡ b → short_of (x ∷ (y ∷ rest)) ≡ None) [ true ↦ λ e. let bad = rw e at h in absurd cc | false ↦ λ e. rw e refl ] refl

pub and_false : (b : Bool) → (b && false) ≡ false
and_false true = refl
and_false false = refl

pub word_moves : (m : Bool) (rows : List Row) (p : Option (Text × List Text)) (w : Text) → is_plain w ≡ true
    → walked rules [] (at rows p (wait m) false) w ≡ at (settled_rows rules p rows) (Some (codes "words", w ∷ [])) positional false
unfolding clap_on_literals
word_moves true rows p w h = rw (plain_stop w h, plain_long w h, plain_short w h, and_false (is_pending words_in p)) refl
word_moves false rows p w h = rw (plain_stop w h, plain_long w h, plain_short w h, and_false (is_pending words_in p)) refl

pub word_passes : (m : Bool) (rows : List Row) (p : Option (Text × List Text)) (w : Text) → is_plain w ≡ true → settle_passes rules false (held rows p) ≡ true
    → turn_passes shape [] (at rows p (wait m) false) w ≡ true
unfolding clap_on_literals
word_passes true rows p w h k = rw (plain_stop w h, plain_long w h, plain_short w h, and_false (is_pending words_in p), k) refl
word_passes false rows p w h k = rw (plain_stop w h, plain_long w h, plain_short w h, and_false (is_pending words_in p), k) refl

-- `--` ends the options
pub stop_moves : (waiting : Waiting) (rows : List Row) (p : Option (Text × List Text))
    → walked rules [] (at rows p waiting false) (codes "--") ≡ at rows p waiting true
unfolding clap_on_literals
stop_moves idle rows p = refl
stop_moves positional rows p = refl
stop_moves (option id) rows p = refl

pub stop_passes : (waiting : Waiting) (rows : List Row) (p : Option (Text × List Text))
    → turn_passes shape [] (at rows p waiting false) (codes "--") ≡ true
unfolding clap_on_literals
stop_passes idle rows p = refl
stop_passes positional rows p = refl
stop_passes (option id) rows p = refl

-- behind it each word is an argument
pub trailing_moves : (waiting : Waiting) (rows : List Row) (p : Option (Text × List Text)) (w : Text)
    → walked rules [] (at rows p waiting true) w ≡ at (settled_rows rules p rows) (Some (codes "words", w ∷ [])) positional true
unfolding clap_on_literals
trailing_moves waiting rows p w = rw (and_false (is_pending words_in p)) refl

pub trailing_passes : (waiting : Waiting) (rows : List Row) (p : Option (Text × List Text)) (w : Text) (b : Bool) → settle_passes rules false (held rows p) ≡ b
    → turn_passes shape [] (at rows p waiting true) w ≡ b
unfolding clap_on_literals
trailing_passes waiting rows p w true k = rw (and_false (is_pending words_in p), k) refl
trailing_passes waiting rows p w false k = rw (and_false (is_pending words_in p), k) refl

-- `--name`
pub value_moves : (x : Valued) (m : Bool) (rows : List Row) (p : Option (Text × List Text))
    → walked rules [] (at rows p (wait m) false) (long_name x) ≡ at (settled_rows rules p rows) (Some (name_of x, [])) (option (name_of x)) false
unfolding clap_on_literals
value_moves packets true rows p = refl
value_moves bytes true rows p = refl
value_moves block true rows p = refl
value_moves blocks true rows p = refl
value_moves limit true rows p = refl
value_moves packets false rows p = refl
value_moves bytes false rows p = refl
value_moves block false rows p = refl
value_moves blocks false rows p = refl
value_moves limit false rows p = refl

pub value_passes : (x : Valued) (m : Bool) (rows : List Row) (p : Option (Text × List Text)) → settle_passes rules false (held rows p) ≡ true
    → turn_passes shape [] (at rows p (wait m) false) (long_name x) ≡ true
unfolding clap_on_literals
value_passes packets true rows p h = rw h refl
value_passes bytes true rows p h = rw h refl
value_passes block true rows p h = rw h refl
value_passes blocks true rows p h = rw h refl
value_passes limit true rows p h = rw h refl
value_passes packets false rows p h = rw h refl
value_passes bytes false rows p h = rw h refl
value_passes block false rows p h = rw h refl
value_passes blocks false rows p h = rw h refl
value_passes limit false rows p h = rw h refl

-- `--name=`
pub joined_moves : (x : Valued) (m : Bool) (rows : List Row) (p : Option (Text × List Text)) (v : Text)
    → walked rules [] (at rows p (wait m) false) (name_and_value x v) ≡ at (used (value_in (name_of x)) (v ∷ []) (settled_rows rules p rows)) None idle false
unfolding clap_on_literals
joined_moves packets true rows p v = refl
joined_moves bytes true rows p v = refl
joined_moves block true rows p v = refl
joined_moves blocks true rows p v = refl
joined_moves limit true rows p v = refl
joined_moves packets false rows p v = refl
joined_moves bytes false rows p v = refl
joined_moves block false rows p v = refl
joined_moves blocks false rows p v = refl
joined_moves limit false rows p v = refl

pub joined_passes : (x : Valued) (m : Bool) (rows : List Row) (p : Option (Text × List Text)) (v : Text) → settle_passes rules false (held rows p) ≡ true
    → has_row (name_of x) (settled_rows rules p rows) ≡ false → turn_passes shape [] (at rows p (wait m) false) (name_and_value x v) ≡ true
unfolding clap_on_literals
joined_passes packets true rows p v h k = rw (h, k) refl
joined_passes bytes true rows p v h k = rw (h, k) refl
joined_passes block true rows p v h k = rw (h, k) refl
joined_passes blocks true rows p v h k = rw (h, k) refl
joined_passes limit true rows p v h k = rw (h, k) refl
joined_passes packets false rows p v h k = rw (h, k) refl
joined_passes bytes false rows p v h k = rw (h, k) refl
joined_passes block false rows p v h k = rw (h, k) refl
joined_passes blocks false rows p v h k = rw (h, k) refl
joined_passes limit false rows p v h k = rw (h, k) refl

-- its value
pub taken_moves : (x : Valued) (rows : List Row) (v : Text) → is_plain v ≡ true
    → walked rules [] (at rows (Some (name_of x, [])) (option (name_of x)) false) v ≡ at rows (Some (name_of x, v ∷ [])) idle false
unfolding clap_on_literals
taken_moves packets rows v h = rw (plain_stop v h, plain_long v h, plain_short v h) refl
taken_moves bytes rows v h = rw (plain_stop v h, plain_long v h, plain_short v h) refl
taken_moves block rows v h = rw (plain_stop v h, plain_long v h, plain_short v h) refl
taken_moves blocks rows v h = rw (plain_stop v h, plain_long v h, plain_short v h) refl
taken_moves limit rows v h = rw (plain_stop v h, plain_long v h, plain_short v h) refl

pub taken_passes : (x : Valued) (rows : List Row) (v : Text) → is_plain v ≡ true
    → turn_passes shape [] (at rows (Some (name_of x, [])) (option (name_of x)) false) v ≡ true
unfolding clap_on_literals
taken_passes packets rows v h = rw (plain_stop v h, plain_long v h, plain_short v h) refl
taken_passes bytes rows v h = rw (plain_stop v h, plain_long v h, plain_short v h) refl
taken_passes block rows v h = rw (plain_stop v h, plain_long v h, plain_short v h) refl
taken_passes blocks rows v h = rw (plain_stop v h, plain_long v h, plain_short v h) refl
taken_passes limit rows v h = rw (plain_stop v h, plain_long v h, plain_short v h) refl

pub value_settles : (x : Valued) (rows : List Row) (v : Text) → has_row (name_of x) rows ≡ false → settle_passes rules false (held rows (Some (name_of x, v ∷ []))) ≡ true
unfolding clap_on_literals
value_settles packets rows v k = rw k refl
value_settles bytes rows v k = rw k refl
value_settles block rows v k = rw k refl
value_settles blocks rows v k = rw k refl
value_settles limit rows v k = rw k refl

pub words_settle : (rows : List Row) (w : Text) → settle_passes rules false (held rows (Some (codes "words", w ∷ []))) ≡ true
unfolding clap_on_literals
words_settle rows w = refl

both : (a b : Bool) → (a && b) ≡ true → (a ≡ true) × (b ≡ true)
both true true h = (refl, refl)
both true false h = (refl, h)
both false b h = (h, cc)

no_subcommand : (stop : Option (Text × List Text)) → entered_passes (built line_app) stop ≡ true
no_subcommand None = refl
no_subcommand (Some p) = refl

-- the words are taken where each turn passes and what is pending at the end does
pub takes_by : (words : List Text) → walk_passes shape [] (at [] None idle false) words ≡ true
    → settle_passes rules false (walk rules [] nothing_held words).held ≡ true → takes line_app words ≡ true
takes_by words passes settles = rw (no_subcommand (walk rules [] nothing_held words).stopped, passes, settles) refl

pub turn_then : (w : Walk) (word : Text) (words : List Text) → turn_passes shape [] w word ≡ true → walk_passes shape [] (walked rules [] w word) words ≡ true
    → walk_passes shape [] w (word ∷ words) ≡ true
unfolding walk_passes
turn_then w word words turn rest = rw (turn, rest) refl
