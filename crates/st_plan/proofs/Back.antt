-- Words in which nothing fails make a line.
use Rattle.std.proofs.Common.{◌≡◌, ℕ, Bool, true, false, List, [], ◌∷◌, ◌++◌, Option, Some, None, is_some, refl, sym, ap, ◌∙◌, subst, codes, slice_get, fold}
use Rattle.std.specs.Str.{bytes_eq, chars}
use Rattle.std.proofs.lemmas.Slice.Eq.{bytes_eq-Decides}
use Rattle.clap.specs.Words.{Row, Text}
use Rattle.clap.specs.Walk.{Walk, Waiting, idle, option, walked, settled_rows}
use Rattle.clap.specs.Faults.{settle_fault, walk_fault}
use Rattle.clap.specs.Lexer.{long_of, short_of}
use Rattle.st_plan.specs.Line.{Valued, packets, bytes, block, blocks, limit, name_of, long_name, name_and_value, Options, with_value, Line, is_plain, no_options}
use Rattle.st_plan.specs.Line as line
use Rattle.st_plan.proofs.Steps as steps
use Rattle.st_plan.proofs.Faults as faults
use Rattle.st_plan.proofs.Faults.{Fails, Stuck}
use Rattle.st_plan.proofs.Steps.{shape, rules, held, at, wait}
use Rattle.st_plan.proofs.Forms.{form, stop, plain, named, joined, letters}
use Rattle.st_plan.proofs.Holds.{Holds, one, holds_ns, holds_value, settled_value, holds_word, ns_row, value_row}

-- behind a first hyphen stands a character
abbrev pub IsText : Text → Type 0
IsText w = (y : ℕ) (more : Text) → w ≡ 45 ∷ (y ∷ more) → (c : ℕ) × (slice_get (chars (y ∷ more)) 0 ≡ Some c)

abbrev pub AllText : List Text → Type 0
AllText [] = Unit {0}
AllText (w ∷ ws) = IsText w × AllText ws

-- no turn fails, nor what is pending at the end
pub record IsTaken (w : Walk) (ws : List Text) : Type 0 where
  pub turns : walk_fault shape [] w ws ≡ []
  pub settles : settle_fault rules false (fold (walked rules []) w ws).held ≡ []

-- between two words: what is pending can be used, and with it the rows hold what was read
pub record Ready (o : Options) (gs : List Text) (rows : List Row) (p : Option (Text × List Text)) : Type 0 where
  pub settles : settle_fault rules false (held rows p) ≡ []
  pub holds : Holds o gs (settled_rows rules p rows)

word_ready : (o : Options) (gs : List Text) (w : Text) (rows : List Row) (p : Option (Text × List Text)) → Ready o gs rows p → Ready o (gs ++ w ∷ []) (settled_rows rules p rows) (Some (codes "words", w ∷ []))
word_ready o gs w rows p r = record { settles = faults.words_settle (settled_rows rules p rows) w; holds = holds_word o gs w (settled_rows rules p rows) r.holds }

pub used_ready : (o : Options) (gs : List Text) (rows : List Row) → Holds o gs rows → Ready o gs rows None
used_ready o gs rows h = record { settles = refl; holds = h }

-- the first turn does not fail, nor do the rest
on : (w next : Walk) (v : Text) (ws : List Text) → walked rules [] w v ≡ next → IsTaken w (v ∷ ws) → IsTaken next ws
on w next v ws moves t =
    let (turn, rest) = faults.then_turn w v ws t.turns in
    subst (λ x. IsTaken x ws) moves (record { turns = rest; settles = t.settles })

refused : (w : Walk) (v : Text) (ws : List Text) → Fails w v → IsTaken w (v ∷ ws) → ⊥
refused w v ws fails t = let (turn, rest) = faults.then_turn w v ws t.turns in let is = fails.is in cc

-- what is pending at the end can't be used
left : (rows : List Row) (p : Option (Text × List Text)) → Stuck rows p → settle_fault rules false (held rows p) ≡ [] → ⊥
left rows p k e = let is = k.is in cc

-- the options' names
data Name (n : Text) : Type 0 where
  is_ns : n ≡ codes "ns" → Name n
  is_value : (x : Valued) → n ≡ name_of x → Name n
  other : bytes_eq (codes "ns") n ≡ false → ((x : Valued) → bytes_eq (name_of x) n ≡ false) → Name n

value_name : (n : Text) (x : Valued) → (bytes_eq (name_of x) n ≡ false → Name n) → Name n
value_name n x others =
    elim (bytes_eq (name_of x) n) as (λ b. bytes_eq (name_of x) n ≡ b → Name n) [
      | true ↦ λ e. is_value x (sym ((bytes_eq-Decides (name_of x) n).0 e))
      | false ↦ others
    ] refl

each : (n : Text) → bytes_eq (name_of packets) n ≡ false → bytes_eq (name_of bytes) n ≡ false → bytes_eq (name_of block) n ≡ false → bytes_eq (name_of blocks) n ≡ false → bytes_eq (name_of limit) n ≡ false
    → (x : Valued) → bytes_eq (name_of x) n ≡ false
each n a b c d e packets = a
each n a b c d e bytes = b
each n a b c d e block = c
each n a b c d e blocks = d
each n a b c d e limit = e

name : (n : Text) → Name n
name n =
    elim (bytes_eq (codes "ns") n) as (λ b. bytes_eq (codes "ns") n ≡ b → Name n) [
      | true ↦ λ e. is_ns (sym ((bytes_eq-Decides (codes "ns") n).0 e))
      | false ↦ λ e. value_name n packets (λ a. value_name n bytes (λ b. value_name n block (λ c. value_name n blocks (λ d. value_name n limit (λ f. other e (each n a b c d f))))))
    ] refl

-- where what is pending can't be used, nothing is taken

trailing_never : (waiting : Waiting) (rows : List Row) (p : Option (Text × List Text)) (ws : List Text) → Stuck rows p → IsTaken (at rows p waiting true) ws → ⊥
trailing_never waiting rows p [] k t = left rows p k t.settles
trailing_never waiting rows p (w ∷ ws) k t = refused (at rows p waiting true) w ws (faults.trailing_fails waiting rows p w k) t

named_fails : (waiting : Waiting) (rows : List Row) (p : Option (Text × List Text)) (w n : Text) → Stuck rows p
    → w ≡ codes "--" ++ n → bytes_eq w (codes "--") ≡ false → long_of w ≡ Some (n, None) → Fails (at rows p waiting false) w
named_fails waiting rows p w n k is a b =
    elim (name n) [
      | is_ns e ↦ subst (λ t. Fails (at rows p waiting false) t) (sym (is ∙ ap (λ t. codes "--" ++ t) e)) (faults.ns_stuck waiting rows p k)
      | is_value x e ↦ subst (λ t. Fails (at rows p waiting false) t) (sym (is ∙ ap (λ t. codes "--" ++ t) e)) (faults.value_name_stuck x waiting rows p k)
      | other c d ↦ faults.unknown_long waiting rows p w n None a b c d
    ]

joined_fails : (waiting : Waiting) (rows : List Row) (p : Option (Text × List Text)) (w n v : Text) → Stuck rows p
    → w ≡ codes "--" ++ (n ++ 61 ∷ v) → bytes_eq w (codes "--") ≡ false → long_of w ≡ Some (n, Some v) → Fails (at rows p waiting false) w
joined_fails waiting rows p w n v k is a b =
    elim (name n) [
      | is_ns e ↦ subst (λ t. Fails (at rows p waiting false) t) (sym (is ∙ ap (λ t. codes "--" ++ (t ++ 61 ∷ v)) e)) (faults.flag_value waiting rows p v)
      | is_value x e ↦ subst (λ t. Fails (at rows p waiting false) t) (sym (is ∙ ap (λ t. codes "--" ++ (t ++ 61 ∷ v)) e)) (faults.joined_stuck x waiting rows p v k)
      | other c d ↦ faults.unknown_long waiting rows p w n (Some v) a b c d
    ]

letters_fail : (waiting : Waiting) (rows : List Row) (p : Option (Text × List Text)) (w more : Text) (y : ℕ) → IsText w
    → w ≡ 45 ∷ (y ∷ more) → bytes_eq w (codes "--") ≡ false → long_of w ≡ None → short_of w ≡ Some (y ∷ more) → Fails (at rows p waiting false) w
letters_fail waiting rows p w more y text is a b d = let (c, first) = text y more is in faults.bundle waiting rows p w more y c a b d first

-- a word behind which what is pending can't be used
never : (m : Bool) (rows : List Row) (p : Option (Text × List Text)) (ws : List Text) → Stuck rows p → AllText ws → IsTaken (at rows p (wait m) false) ws → ⊥
never m rows p [] k text t = left rows p k t.settles
never m rows p (w ∷ ws) k text t =
    elim (form w) [
      | stop is ↦
          let u : IsTaken (at rows p (wait m) false) (codes "--" ∷ ws) = subst (λ v. IsTaken (at rows p (wait m) false) (v ∷ ws)) is t in
          trailing_never (wait m) rows p ws k (on (at rows p (wait m) false) (at rows p (wait m) true) (codes "--") ws (steps.stop_moves (wait m) rows p) u)
      | plain h ↦ refused (at rows p (wait m) false) w ws (faults.word_stuck m rows p w h k) t
      | named n is a b ↦ refused (at rows p (wait m) false) w ws (named_fails (wait m) rows p w n k is a b) t
      | joined n v is a b ↦ refused (at rows p (wait m) false) w ws (joined_fails (wait m) rows p w n v k is a b) t
      | letters y more is a b d ↦ refused (at rows p (wait m) false) w ws (letters_fail (wait m) rows p w more y text.0 is a b d) t
    ]

-- the line that words make behind others
abbrev Made : Options → List Text → List Text → Type 0
Made o gs ws = (p : Options) × (hs : List Text) × Line o gs ws p hs

abbrev Back : List Text → Type 0
Back ws = (m : Bool) (rows : List Row) (p : Option (Text × List Text)) (o : Options) (gs : List Text) → Ready o gs rows p → AllText ws → IsTaken (at rows p (wait m) false) ws → Made o gs ws

-- behind one more word
abbrev Second : List Text → Type 0
Second [] = Unit {0}
Second (v ∷ vs) = Back vs

from_word : (w : Text) (ws : List Text) → is_plain w ≡ true → Back ws → Back (w ∷ ws)
from_word w ws h back m rows p o gs r text t =
    let u = on (at rows p (wait m) false) _ w ws (steps.word_moves m rows p w h) t in
    let (q, hs, made) = back true (settled_rows rules p rows) (Some (codes "words", w ∷ [])) o (gs ++ w ∷ []) (word_ready o gs w rows p r) text.1 u in
    (q, hs, line.word h made)

from_ns : (ws : List Text) → Back ws → Back (codes "--ns" ∷ ws)
from_ns ws back m rows p o gs r text t =
    elim o.ns as (λ b. o.ns ≡ b → Made o gs (codes "--ns" ∷ ws)) [
      | true ↦ λ e. absurd (refused (at rows p (wait m) false) (codes "--ns") ws (faults.ns_again m rows p r.settles (ns_row o gs (settled_rows rules p rows) true r.holds e)) t)
      | false ↦ λ e.
          let u = on (at rows p (wait m) false) _ (codes "--ns") ws (steps.ns_moves m rows p) t in
          let (q, hs, made) = back false _ None (record o { ns = true }) gs (used_ready _ gs _ (holds_ns o gs (settled_rows rules p rows) r.holds e)) text.1 u in
          (q, hs, line.ns e made)
    ] refl

from_value_joined : (x : Valued) (v : Text) (ws : List Text) → Back ws → Back ((name_and_value x v) ∷ ws)
from_value_joined x v ws back m rows p o gs r text t =
    elim (o.value x) as (λ d. o.value x ≡ d → Made o gs ((name_and_value x v) ∷ ws)) [
      | Some had ↦ λ e.
          absurd (refused (at rows p (wait m) false) (name_and_value x v) ws
          (faults.joined_again x m rows p v r.settles (value_row x o gs (settled_rows rules p rows) r.holds ∙ ap (λ d. is_some (one d)) e)) t)
      | None ↦ λ e.
          let u = on (at rows p (wait m) false) _ (name_and_value x v) ws (steps.joined_moves x m rows p v) t in
          let (q, hs, made) = back false _ None (with_value o x v) gs (used_ready _ gs _ (holds_value x o gs v (settled_rows rules p rows) r.holds e)) text.1 u in
          (q, hs, line.joined x v e made)
    ] refl

-- a value that is a plain word
from_value_taken : (x : Valued) (v : Text) (ws : List Text) → is_plain v ≡ true → Back ws → (rows : List Row) (o : Options) (gs : List Text) → Holds o gs rows → AllText ws
    → IsTaken (at rows (Some (name_of x, [])) (option (name_of x)) false) (v ∷ ws) → Made o gs (long_name x ∷ (v ∷ ws))
from_value_taken x v ws h back rows o gs holds text t =
    let u = on (at rows (Some (name_of x, [])) (option (name_of x)) false) (at rows (Some (name_of x, v ∷ [])) idle false) v ws (steps.taken_moves x rows v h) t in
    elim (o.value x) as (λ d. o.value x ≡ d → Made o gs (long_name x ∷ (v ∷ ws))) [
      | Some had ↦ λ e.
          absurd (never false rows (Some (name_of x, v ∷ [])) ws (faults.value_stuck x rows v (value_row x o gs rows holds ∙ ap (λ d. is_some (one d)) e)) text u)
      | None ↦ λ e.
          let ready : Ready (with_value o x v) gs rows (Some (name_of x, v ∷ [])) =
          record { settles = faults.value_settles x rows v (value_row x o gs rows holds ∙ ap (λ d. is_some (one d)) e); holds = settled_value x o gs v rows holds e } in
          let (q, hs, made) = back false rows (Some (name_of x, v ∷ [])) (with_value o x v) gs ready text u in
          (q, hs, line.value x v e h made)
    ] refl

from_value : (x : Valued) (ws : List Text) → Second ws → Back (long_name x ∷ ws)
from_value x [] second m rows p o gs r text t =
    let u = on (at rows p (wait m) false) _ (long_name x) [] (steps.value_moves x m rows p) t in
    absurd (left (settled_rows rules p rows) (Some (name_of x, [])) (faults.value_lacks x (settled_rows rules p rows)) u.settles)
from_value x (v ∷ vs) second m rows p o gs r text t =
    let all = settled_rows rules p rows in
    let pending : Option (Text × List Text) = Some (name_of x, []) in
    let waiting = option (name_of x) in
    let u = on (at rows p (wait m) false) (at all pending waiting false) (long_name x) (v ∷ vs) (steps.value_moves x m rows p) t in
    let lacks = faults.value_lacks x all in
    elim (form v) [
      | stop is ↦
          let x : IsTaken (at all pending waiting false) (codes "--" ∷ vs) = subst (λ y. IsTaken (at all pending waiting false) (y ∷ vs)) is u in
          absurd (trailing_never waiting all pending vs lacks (on (at all pending waiting false) (at all pending waiting true) (codes "--") vs (steps.stop_moves waiting all pending) x))
      | plain h ↦ from_value_taken x v vs h second all o gs r.holds text.1.1 u
      | named k is a b ↦ absurd (refused (at all pending waiting false) v vs (named_fails waiting all pending v k lacks is a b) u)
      | joined k w is a b ↦ absurd (refused (at all pending waiting false) v vs (joined_fails waiting all pending v k w lacks is a b) u)
      | letters y more is a b d ↦ absurd (refused (at all pending waiting false) v vs (letters_fail waiting all pending v more y text.1.0 is a b d) u)
    ]

from_named : (w n : Text) (ws : List Text) → Back ws → Second ws → w ≡ codes "--" ++ n → bytes_eq w (codes "--") ≡ false → long_of w ≡ Some (n, None) → Back (w ∷ ws)
from_named w n ws back second is a b =
    elim (name n) [
      | is_ns e ↦ subst (λ v. Back (v ∷ ws)) (sym (is ∙ ap (λ t. codes "--" ++ t) e)) (from_ns ws back)
      | is_value x e ↦ subst (λ v. Back (v ∷ ws)) (sym (is ∙ ap (λ t. codes "--" ++ t) e)) (from_value x ws second)
      | other c d ↦ λ m rows p o gs r text t. absurd (refused (at rows p (wait m) false) w ws (faults.unknown_long (wait m) rows p w n None a b c d) t)
    ]

from_joined : (w n x : Text) (ws : List Text) → Back ws → w ≡ codes "--" ++ (n ++ 61 ∷ x) → bytes_eq w (codes "--") ≡ false → long_of w ≡ Some (n, Some x) → Back (w ∷ ws)
from_joined w n x ws back is a b =
    elim (name n) [
      | is_ns e ↦ subst (λ v. Back (v ∷ ws)) (sym (is ∙ ap (λ t. codes "--" ++ (t ++ 61 ∷ x)) e))
          (λ m rows p o gs r text t. absurd (refused (at rows p (wait m) false) (codes "--ns=" ++ x) ws (faults.flag_value (wait m) rows p x) t))
      | is_value y e ↦ subst (λ v. Back (v ∷ ws)) (sym (is ∙ ap (λ t. codes "--" ++ (t ++ 61 ∷ x)) e)) (from_value_joined y x ws back)
      | other c d ↦ λ m rows p o gs r text t. absurd (refused (at rows p (wait m) false) w ws (faults.unknown_long (wait m) rows p w n (Some x) a b c d) t)
    ]

from_stop : (ws : List Text) → Back (codes "--" ∷ ws)
from_stop ws m rows p o gs r text t = (o, gs ++ ws, line.rest refl)

from_letters : (w more : Text) (y : ℕ) (ws : List Text) → w ≡ 45 ∷ (y ∷ more) → bytes_eq w (codes "--") ≡ false → long_of w ≡ None → short_of w ≡ Some (y ∷ more) → Back (w ∷ ws)
from_letters w more y ws is a b d m rows p o gs r text t =
    let (c, first) = text.0 y more is in
    absurd (refused (at rows p (wait m) false) w ws (faults.bundle (wait m) rows p w more y c a b d first) t)

from_first : (w : Text) (ws : List Text) → Back ws → Second ws → Back (w ∷ ws)
from_first w ws back second =
    elim (form w) [
      | stop is ↦ subst (λ v. Back (v ∷ ws)) (sym is) (from_stop ws)
      | plain h ↦ from_word w ws h back
      | named n is a b ↦ from_named w n ws back second is a b
      | joined n v is a b ↦ from_joined w n v ws back is a b
      | letters y more is a b d ↦ from_letters w more y ws is a b d
    ]

from_none : Back []
from_none m rows p o gs r text t = (o, gs, line.nothing)

pub back : (ws : List Text) → Back ws
back [] = from_none
back (w ∷ []) = from_first w [] from_none tt
back (w ∷ (v ∷ vs)) = from_first w (v ∷ vs) (back (v ∷ vs)) (back vs)
