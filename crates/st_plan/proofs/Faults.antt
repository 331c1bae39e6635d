-- Each step of the walk that is refused, and by what.
use Rattle.std.proofs.Common.{◌≡◌, ℕ, Bool, true, false, List, [], ◌∷◌, ◌++◌, Option, Some, None, refl, codes, slice_get}
use Rattle.std.specs.Str.{bytes_eq, chars}
use Rattle.clap.specs.Words.{Row, Text, Kinds, fault_of}
use Rattle.clap.specs.Walk.{Walk, Waiting, idle, option, positional, walked, settled_rows, has_row, is_pending, walk, nothing_held}
use Rattle.clap.specs.Faults.{turn_fault, settle_fault, walk_fault}
use Rattle.clap.specs.Kinds.{or_else}
use Rattle.clap.specs.Lexer.{long_of, short_of}
use Rattle.clap.specs.declared.error.kind.ErrorKind.{ErrorKind}
use Rattle.clap.specs.declared.error.kind.ErrorKind.TheVariants.{ArgumentConflict, UnknownArgument}
use Rattle.clap.proofs.OnLiterals.{clap_on_literals}
use Rattle.st_plan.specs.Rules.{line_app}
use Rattle.st_plan.specs.Line.{Valued, packets, bytes, block, blocks, limit, name_of, long_name, name_and_value, is_plain}
use Rattle.st_plan.proofs.Steps.{shape, rules, held, at, wait, words_in, and_false, plain_stop, plain_long, plain_short}

-- the turn has a fault
pub record Fails (w : Walk) (v : Text) : Type 0 where
  pub kind : ErrorKind
  pub more : Kinds
  pub is : turn_fault shape [] w v ≡ kind ∷ more

-- what is pending can't be used
pub record Stuck (rows : List Row) (p : Option (Text × List Text)) : Type 0 where
  pub kind : ErrorKind
  pub more : Kinds
  pub is : settle_fault rules false (held rows p) ≡ kind ∷ more

-- no fault at the end or anywhere before it

pub ns_again : (m : Bool) (rows : List Row) (p : Option (Text × List Text)) → settle_fault rules false (held rows p) ≡ [] → has_row (codes "ns") (settled_rows rules p rows) ≡ true
    → Fails (at rows p (wait m) false) (codes "--ns")
unfolding clap_on_literals
ns_again true rows p h k = record { kind = ArgumentConflict; more = []; is = rw (h, k) refl }
ns_again false rows p h k = record { kind = ArgumentConflict; more = []; is = rw (h, k) refl }

pub trailing_fails : (waiting : Waiting) (rows : List Row) (p : Option (Text × List Text)) (w : Text) → Stuck rows p → Fails (at rows p waiting true) w
unfolding clap_on_literals
trailing_fails waiting rows p w k = record { kind = k.kind; more = k.more; is = rw (and_false (is_pending words_in p), k.is) refl }

pub word_stuck : (m : Bool) (rows : List Row) (p : Option (Text × List Text)) (w : Text) → is_plain w ≡ true → Stuck rows p → Fails (at rows p (wait m) false) w
unfolding clap_on_literals
word_stuck true rows p w h k = record { kind = k.kind; more = k.more; is = rw (plain_stop w h, plain_long w h, plain_short w h, and_false (is_pending words_in p), k.is) refl }
word_stuck false rows p w h k = record { kind = k.kind; more = k.more; is = rw (plain_stop w h, plain_long w h, plain_short w h, and_false (is_pending words_in p), k.is) refl }

pub ns_stuck : (waiting : Waiting) (rows : List Row) (p : Option (Text × List Text)) → Stuck rows p → Fails (at rows p waiting false) (codes "--ns")
unfolding clap_on_literals
ns_stuck idle rows p k = record { kind = k.kind; more = k.more; is = rw k.is refl }
ns_stuck positional rows p k = record { kind = k.kind; more = k.more; is = rw k.is refl }
ns_stuck (option id) rows p k = record { kind = k.kind; more = k.more; is = rw k.is refl }

pub unknown_long : (waiting : Waiting) (rows : List Row) (p : Option (Text × List Text)) (w n : Text) (v : Option Text) → bytes_eq w (codes "--") ≡ false → long_of w ≡ Some (n, v)
    → bytes_eq (codes "ns") n ≡ false → ((x : Valued) → bytes_eq (name_of x) n ≡ false)
    → Fails (at rows p waiting false) w
unfolding clap_on_literals
unknown_long idle rows p w n v a b c d = record { kind = UnknownArgument; more = []; is = rw (a, b, c, d packets, d bytes, d block, d blocks, d limit) refl }
unknown_long positional rows p w n v a b c d = record { kind = UnknownArgument; more = []; is = rw (a, b, c, d packets, d bytes, d block, d blocks, d limit) refl }
unknown_long (option id) rows p w n v a b c d = record { kind = UnknownArgument; more = []; is = rw (a, b, c, d packets, d bytes, d block, d blocks, d limit) refl }

pub flag_value : (waiting : Waiting) (rows : List Row) (p : Option (Text × List Text)) (v : Text) → Fails (at rows p waiting false) (codes "--ns=" ++ v)
unfolding clap_on_literals
flag_value idle rows p v = record { kind = _; more = _; is = refl }
flag_value positional rows p v = record { kind = _; more = _; is = refl }
flag_value (option id) rows p v = record { kind = _; more = _; is = refl }

pub bundle : (waiting : Waiting) (rows : List Row) (p : Option (Text × List Text)) (w more : Text) (y c : ℕ) → bytes_eq w (codes "--") ≡ false → long_of w ≡ None → short_of w ≡ Some (y ∷ more)
    → slice_get (chars (y ∷ more)) 0 ≡ Some c → Fails (at rows p waiting false) w
unfolding clap_on_literals
bundle idle rows p w more y c a b d e = record { kind = UnknownArgument; more = []; is = rw (a, b, d, e) refl }
bundle positional rows p w more y c a b d e = record { kind = UnknownArgument; more = []; is = rw (a, b, d, e) refl }
bundle (option id) rows p w more y c a b d e = record { kind = UnknownArgument; more = []; is = rw (a, b, d, e) refl }

pub words_settle : (rows : List Row) (w : Text) → settle_fault rules false (held rows (Some (codes "words", w ∷ []))) ≡ []
unfolding clap_on_literals
words_settle rows w = refl

either : (a b : Kinds) → or_else a b ≡ [] → (a ≡ []) × (b ≡ [])
either [] b h = (refl, h)
either (k ∷ ks) b h = absurd cc

pub then_turn : (w : Walk) (v : Text) (ws : List Text) → walk_fault shape [] w (v ∷ ws) ≡ [] → (turn_fault shape [] w v ≡ []) × (walk_fault shape [] (walked rules [] w v) ws ≡ [])
unfolding walk_fault
then_turn w v ws h = either (turn_fault shape [] w v) (walk_fault shape [] (walked rules [] w v) ws) h

-- where nothing fails, no turn does, nor what is pending at the end
pub by_faults : (words : List Text) → fault_of line_app words ≡ []
    → (walk_fault shape [] (at [] None idle false) words ≡ []) × (settle_fault rules false (walk rules [] nothing_held words).held ≡ [])
by_faults words none =
    let (walked, more) = either (walk_fault shape [] (at [] None idle false) words) _ none in
    let (below, rest) = either _ _ more in
    let (settles, others) = either (settle_fault rules false (walk rules [] nothing_held words).held) _ rest in
    (walked, settles)

pub value_name_stuck : (x : Valued) (waiting : Waiting) (rows : List Row) (p : Option (Text × List Text)) → Stuck rows p → Fails (at rows p waiting false) (long_name x)
unfolding clap_on_literals
value_name_stuck packets idle rows p k = record { kind = k.kind; more = k.more; is = rw k.is refl }
value_name_stuck bytes idle rows p k = record { kind = k.kind; more = k.more; is = rw k.is refl }
value_name_stuck block idle rows p k = record { kind = k.kind; more = k.more; is = rw k.is refl }
value_name_stuck blocks idle rows p k = record { kind = k.kind; more = k.more; is = rw k.is refl }
value_name_stuck limit idle rows p k = record { kind = k.kind; more = k.more; is = rw k.is refl }
value_name_stuck packets positional rows p k = record { kind = k.kind; more = k.more; is = rw k.is refl }
value_name_stuck bytes positional rows p k = record { kind = k.kind; more = k.more; is = rw k.is refl }
value_name_stuck block positional rows p k = record { kind = k.kind; more = k.more; is = rw k.is refl }
value_name_stuck blocks positional rows p k = record { kind = k.kind; more = k.more; is = rw k.is refl }
value_name_stuck limit positional rows p k = record { kind = k.kind; more = k.more; is = rw k.is refl }
value_name_stuck packets (option id) rows p k = record { kind = k.kind; more = k.more; is = rw k.is refl }
value_name_stuck bytes (option id) rows p k = record { kind = k.kind; more = k.more; is = rw k.is refl }
value_name_stuck block (option id) rows p k = record { kind = k.kind; more = k.more; is = rw k.is refl }
value_name_stuck blocks (option id) rows p k = record { kind = k.kind; more = k.more; is = rw k.is refl }
value_name_stuck limit (option id) rows p k = record { kind = k.kind; more = k.more; is = rw k.is refl }

pub joined_stuck : (x : Valued) (waiting : Waiting) (rows : List Row) (p : Option (Text × List Text)) (v : Text) → Stuck rows p → Fails (at rows p waiting false) (name_and_value x v)
unfolding clap_on_literals
joined_stuck packets idle rows p v k = record { kind = k.kind; more = k.more; is = rw k.is refl }
joined_stuck bytes idle rows p v k = record { kind = k.kind; more = k.more; is = rw k.is refl }
joined_stuck block idle rows p v k = record { kind = k.kind; more = k.more; is = rw k.is refl }
joined_stuck blocks idle rows p v k = record { kind = k.kind; more = k.more; is = rw k.is refl }
joined_stuck limit idle rows p v k = record { kind = k.kind; more = k.more; is = rw k.is refl }
joined_stuck packets positional rows p v k = record { kind = k.kind; more = k.more; is = rw k.is refl }
joined_stuck bytes positional rows p v k = record { kind = k.kind; more = k.more; is = rw k.is refl }
joined_stuck block positional rows p v k = record { kind = k.kind; more = k.more; is = rw k.is refl }
joined_stuck blocks positional rows p v k = record { kind = k.kind; more = k.more; is = rw k.is refl }
joined_stuck limit positional rows p v k = record { kind = k.kind; more = k.more; is = rw k.is refl }
joined_stuck packets (option id) rows p v k = record { kind = k.kind; more = k.more; is = rw k.is refl }
joined_stuck bytes (option id) rows p v k = record { kind = k.kind; more = k.more; is = rw k.is refl }
joined_stuck block (option id) rows p v k = record { kind = k.kind; more = k.more; is = rw k.is refl }
joined_stuck blocks (option id) rows p v k = record { kind = k.kind; more = k.more; is = rw k.is refl }
joined_stuck limit (option id) rows p v k = record { kind = k.kind; more = k.more; is = rw k.is refl }

pub joined_again : (x : Valued) (m : Bool) (rows : List Row) (p : Option (Text × List Text)) (v : Text) → settle_fault rules false (held rows p) ≡ []
    → has_row (name_of x) (settled_rows rules p rows) ≡ true → Fails (at rows p (wait m) false) (name_and_value x v)
unfolding clap_on_literals
joined_again packets true rows p v h k = record { kind = ArgumentConflict; more = []; is = rw (h, k) refl }
joined_again bytes true rows p v h k = record { kind = ArgumentConflict; more = []; is = rw (h, k) refl }
joined_again block true rows p v h k = record { kind = ArgumentConflict; more = []; is = rw (h, k) refl }
joined_again blocks true rows p v h k = record { kind = ArgumentConflict; more = []; is = rw (h, k) refl }
joined_again limit true rows p v h k = record { kind = ArgumentConflict; more = []; is = rw (h, k) refl }
joined_again packets false rows p v h k = record { kind = ArgumentConflict; more = []; is = rw (h, k) refl }
joined_again bytes false rows p v h k = record { kind = ArgumentConflict; more = []; is = rw (h, k) refl }
joined_again block false rows p v h k = record { kind = ArgumentConflict; more = []; is = rw (h, k) refl }
joined_again blocks false rows p v h k = record { kind = ArgumentConflict; more = []; is = rw (h, k) refl }
joined_again limit false rows p v h k = record { kind = ArgumentConflict; more = []; is = rw (h, k) refl }

pub value_settles : (x : Valued) (rows : List Row) (v : Text) → has_row (name_of x) rows ≡ false → settle_fault rules false (held rows (Some (name_of x, v ∷ []))) ≡ []
unfolding clap_on_literals
value_settles packets rows v k = rw k refl
value_settles bytes rows v k = rw k refl
value_settles block rows v k = rw k refl
value_settles blocks rows v k = rw k refl
value_settles limit rows v k = rw k refl

pub value_stuck : (x : Valued) (rows : List Row) (v : Text) → has_row (name_of x) rows ≡ true → Stuck rows (Some (name_of x, v ∷ []))
unfolding clap_on_literals
value_stuck packets rows v k = record { kind = ArgumentConflict; more = []; is = rw k refl }
value_stuck bytes rows v k = record { kind = ArgumentConflict; more = []; is = rw k refl }
value_stuck block rows v k = record { kind = ArgumentConflict; more = []; is = rw k refl }
value_stuck blocks rows v k = record { kind = ArgumentConflict; more = []; is = rw k refl }
value_stuck limit rows v k = record { kind = ArgumentConflict; more = []; is = rw k refl }

pub value_lacks : (x : Valued) (rows : List Row) → Stuck rows (Some (name_of x, []))
unfolding clap_on_literals
value_lacks packets rows = record { kind = _; more = _; is = refl }
value_lacks bytes rows = record { kind = _; more = _; is = refl }
value_lacks block rows = record { kind = _; more = _; is = refl }
value_lacks blocks rows = record { kind = _; more = _; is = refl }
value_lacks limit rows = record { kind = _; more = _; is = refl }
