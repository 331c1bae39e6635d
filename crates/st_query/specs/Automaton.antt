-- What the calls of the module `automaton` ensure: one pass over the tokens, with a stack of what
-- precedes each open parenthesis.
use Rattle.std.specs.Prelude.{◌≡◌, ℕ, nat_le, nat_lt, IsTrue, Bool, true, false, if◌then◌else◌, List, [], ◌∷◌, length, reverse, map, Option, Some, None, option_and_then}
use Rattle.std.specs.Option.{option_map}
use Rattle.st_query.specs.declared.addrs.Addr.TheVariants.{V4, V6}
use Rattle.st_query.specs.declared.tokens.Token.TheVariants as token
use Rattle.st_query.specs.declared.tokens.Token.{Token}
use Rattle.st_query.specs.declared.tokens.Keyword.TheVariants as key
use Rattle.st_query.specs.declared.nodes.When.TheVariants as when
use Rattle.st_query.specs.declared.nodes.Primitive.{Primitive}
use Rattle.st_query.specs.declared.nodes.Primitive.TheVariants as prim
use Rattle.st_query.specs.declared.limits.TheConstants.{MAX_OPEN, MAX_PORT, MAX_PROTO, MAX_VLAN, MAX_LABEL}
use Rattle.st_query.specs.declared.automaton.Want.{Want}
use Rattle.st_query.specs.declared.automaton.Want.TheVariants as want
use Rattle.st_query.specs.declared.automaton.Effect.{Effect}
use Rattle.st_query.specs.declared.automaton.Effect.TheVariants as effect
use Rattle.st_query.specs.declared.automaton.Kind.{Kind}
use Rattle.st_query.specs.declared.automaton.Kind.TheVariants as kind
use Rattle.st_query.specs.declared.automaton.Half.{Half}
use Rattle.st_query.specs.declared.automaton.Phase.{Phase}
use Rattle.st_query.specs.declared.automaton.Phase.TheVariants as phase
use Rattle.st_query.specs.Words.{network}
use Rattle.st_query.specs.Trees.{Tree, joined_by, one, tree}

-- the primitive if its number is at most this, else a refusal
abbrev pub at_most : ℕ → ℕ → Primitive → Effect
at_most most n p = if nat_le n most then effect.Done p else effect.Refused

-- what a token does where this is wanted
abbrev pub read : Want → Token → Effect
read want.Item token.Open = effect.Deeper
read want.Item (token.Key key.Host) = effect.Go want.Host
read want.Item (token.Key key.Net) = effect.Go want.Net
read want.Item (token.Key key.Port) = effect.Go want.Port
read want.Item (token.Key key.Ip) = effect.Go want.ProtoWord
read want.Item (token.Key key.Vlan) = effect.Go want.Vlan
read want.Item (token.Key key.Mpls) = effect.Go want.Mpls
read want.Item (token.Key key.Icmp) = effect.Done (prim.Proto 1)
read want.Item (token.Key key.Tcp) = effect.Done (prim.Proto 6)
read want.Item (token.Key key.Udp) = effect.Done (prim.Proto 17)
read want.Item (token.Key key.Before) = effect.Go want.Before
read want.Item (token.Key key.After) = effect.Go want.After
read want.Host (token.Address a m) = effect.Done (prim.Host a)
read want.Net (token.Net a n) = effect.Done (prim.Net (network a n) n)
read want.Net (token.Address a m) = effect.Go (want.MaskWord a)
read (want.MaskWord a) (token.Key key.Mask) = effect.Go (want.MaskOf a)
read (want.MaskOf (V4 a)) (token.Address (V4 b) (Some n)) =
    effect.Done (prim.Net (network (V4 a) n) n)
read (want.MaskOf (V6 a)) (token.Address (V6 b) (Some n)) =
    effect.Done (prim.Net (network (V6 a) n) n)
read want.Port (token.Number n) = at_most MAX_PORT n (prim.Port n)
read want.ProtoWord (token.Key key.Proto) = effect.Go want.Proto
read want.Proto (token.Number n) = at_most MAX_PROTO n (prim.Proto n)
read want.Vlan (token.Number n) = at_most MAX_VLAN n (prim.Vlan n)
read want.Mpls (token.Number n) = at_most MAX_LABEL n (prim.Mpls n)
read want.Before (token.Instant t) = effect.Done (prim.Before (when.At t))
read want.Before (token.Span n h) = effect.Go (want.BeforeAgo n h)
read (want.BeforeAgo n h) (token.Key key.Ago) = effect.Done (prim.Before (when.Ago n h))
read want.After (token.Instant t) = effect.Done (prim.After (when.At t))
read want.After (token.Span n h) = effect.Go (want.AfterAgo n h)
read (want.AfterAgo n h) (token.Key key.Ago) = effect.Done (prim.After (when.Ago n h))
read _ _ = effect.Refused

-- the kind of a refusal where this is wanted, of a token that is no stray byte or of the end
abbrev pub kind_of : Want → Kind
kind_of want.Host = kind.Address
kind_of want.Net = kind.Address
kind_of (want.MaskOf a) = kind.Address
kind_of want.Port = kind.Number
kind_of want.Proto = kind.Number
kind_of want.Vlan = kind.Number
kind_of want.Mpls = kind.Number
kind_of want.Before = kind.Time
kind_of want.After = kind.Time
kind_of _ = kind.Syntax

-- a query and the joiner that follows it: `and`, or else `or`
pub record HalfView : Type 0 where
  pub left : Tree
  pub and : Bool

-- what the tokens so far have come to: something is wanted, after a half or alone; or a query ends
pub data PhaseView : Type 0 where
  Reading : Want → Option HalfView → PhaseView
  Joined : Tree → PhaseView

-- the phase after a query and a joiner: `and`, or else `or`
abbrev pub after_joiner : Tree → Bool → PhaseView
after_joiner q and = Reading want.Item (Some (record { left = q; and = and }))

-- the query joined to the half that precedes it, or alone
abbrev pub join : Option HalfView → Tree → Tree
join None q = q
join (Some half) q = joined_by half.and half.left q

-- a phase, and for each open parenthesis the half that precedes it, the innermost first
abbrev pub ParserState : Type 0
ParserState = PhaseView × List (Option HalfView)

-- the phase before the first token, and after an opening parenthesis
abbrev pub start : PhaseView
start = Reading want.Item None

-- the state after a token with this effect, or none if it is refused
abbrev pub after : List (Option HalfView) → Option HalfView → Effect → Option ParserState
after hs half (effect.Go w) = Some (Reading w half, hs)
after hs half (effect.Done p) = Some (Joined (join half (one p)), hs)
after hs half effect.Deeper = if nat_lt (length hs) MAX_OPEN then Some (start, half ∷ hs) else None
after hs half effect.Refused = None

-- the state after one more token, or none if it is refused
abbrev pub step : List (Option HalfView) → PhaseView → Token → Option ParserState
step hs (Reading w half) t = after hs half (read w t)
step hs (Joined q) token.And = Some (after_joiner q true, hs)
step hs (Joined q) token.Or = Some (after_joiner q false, hs)
step (half ∷ hs) (Joined q) token.Close = Some (Joined (join half q), hs)
step hs (Joined q) _ = None

-- the state after these tokens, or none if one of them is refused
abbrev pub run : List (Option HalfView) → PhaseView → List Token → Option ParserState
run hs s [] = Some (s, hs)
run hs s (t ∷ ts) = option_and_then (λ (x : ParserState). run x.1 x.0 ts) (step hs s t)

-- the kind of the refusal of this token, or of the end, in this phase
abbrev pub refusal : PhaseView → Option Token → Kind
refusal s (Some token.Stray) = kind.Syntax
refusal (Reading want.Item half) (Some token.Open) = kind.Deep
refusal (Reading w half) t = kind_of w
refusal (Joined q) t = kind.Syntax

-- what contracts see of a half
abbrev pub half_view : Half → HalfView
half_view h = record { left = tree h.left; and = h.and }

-- what contracts see of a phase
abbrev pub phase_view : Phase → PhaseView
phase_view (phase.Reading w half) = Reading w (option_map half_view half)
phase_view (phase.Joined q) = Joined (tree q)

-- what contracts see of a stack, whose top is at its end
abbrev pub open_halves : List (Option Half) → List (Option HalfView)
open_halves stack = reverse (map (option_map half_view) stack)

-- the phase and the stack after a token are those of the step, or the step refuses it
abbrev pub Steps : List (Option Half) → Phase → Token → Option Phase → List (Option Half) → Type 0
Steps old p t None new = step (open_halves old) (phase_view p) t ≡ None
Steps old p t (Some q) new =
    step (open_halves old) (phase_view p) t ≡ Some (phase_view q, open_halves new)

-- a parenthesis was opened, or as many were open as may be
abbrev pub Opens : List (Option Half) → Option Half → Option Phase → List (Option Half) → Type 0
Opens old half None new = IsTrue (nat_le MAX_OPEN (length (open_halves old)))
Opens old half (Some q) new =
    IsTrue (nat_lt (length (open_halves old)) MAX_OPEN) × (phase_view q ≡ start)
    × (open_halves new ≡ option_map half_view half ∷ open_halves old)
