-- Where the pass refuses a token nothing goes on, and the kind is what was wanted.
use Rattle.std.proofs.Common.{◌≡◌, ℕ, ℤ, pos, List, [], ◌∷◌, ◌++◌, Option, Some, None, refl, sym, ◌∙◌, ap, subst, append_assoc, append-nil, option_and_then, inl, inr}
use Rattle.st_query.specs.declared.addrs.Addr.{Addr}
use Rattle.st_query.specs.declared.addrs.Addr.TheVariants.{V4, V6}
use Rattle.st_query.specs.declared.tokens.Token.TheVariants as token
use Rattle.st_query.specs.declared.tokens.Token.{Token}
use Rattle.st_query.specs.declared.tokens.Keyword.TheVariants as key
use Rattle.st_query.specs.declared.automaton.Want.{Want}
use Rattle.st_query.specs.declared.automaton.Want.TheVariants as want
use Rattle.st_query.specs.declared.automaton.Kind.TheVariants as kind
use Rattle.st_query.specs.Trees.{Tree}
use Rattle.st_query.specs.Grammar.{Query, CanGoOn, WantsNumber, WantsAddress, WantsTime, WantsItem, HasKind}
use Rattle.st_query.specs.Automaton.{HalfView, PhaseView, Reading, Joined, ParserState, start, step, run, kind_of, refusal}
use Rattle.st_query.proofs.GrammarRuns.{query_runs}
use Rattle.st_query.proofs.GrammarStates.{LeadTo, Kept, keeps, can_go_on, run_kept, begin}

pub run_append : (ts us : List Token) (hs : List (Option HalfView)) (s : PhaseView) → run hs s (ts ++ us) ≡ option_and_then (λ (x : ParserState). run x.1 x.0 us) (run hs s ts)
run_append [] us hs s = refl
run_append (t ∷ ts) us hs s =
    elim (step hs s t) as (λ o. option_and_then (λ (x : ParserState). run x.1 x.0 (ts ++ us)) o ≡ option_and_then (λ (x : ParserState). run x.1 x.0 us) (option_and_then (λ (x : ParserState). run x.1 x.0 ts) o)) [
      | None ↦ refl
      | Some x ↦ run_append ts us x.1 x.0
    ]

-- the tokens so far stand where the pass came to
pub lead_to : (ts : List Token) (hs : List (Option HalfView)) (s : PhaseView) → run [] start ts ≡ Some (s, hs) → LeadTo hs s ts
lead_to ts hs s e = subst (λ (o : Option ParserState). Kept o ts) e (run_kept ts [] start [] begin)

-- the pass ends with whatever the tokens derive
pub passes : (ts : List Token) (q : Tree) → Query 0 ts q → run [] start ts ≡ Some (Joined q, [])
passes ts q h = subst (λ (us : List Token). run [] start us ≡ Some (Joined q, [])) (append-nil ts) (query_runs h [] refl [])

run_next : (ts : List Token) (t : Token) (more : List Token) (hs : List (Option HalfView)) (s : PhaseView) → run [] start ts ≡ Some (s, hs) → run [] start ((ts ++ t ∷ []) ++ more) ≡ option_and_then (λ (x : ParserState). run x.1 x.0 more) (step hs s t)
run_next ts t more hs s e = rw (append_assoc ts (t ∷ []) more) (run_append ts (t ∷ more) [] start ∙ ap (λ (o : Option ParserState). option_and_then (λ (x : ParserState). run x.1 x.0 (t ∷ more)) o) e)

pub stops : (ts : List Token) (t : Token) (hs : List (Option HalfView)) (s : PhaseView) → run [] start ts ≡ Some (s, hs) → step hs s t ≡ None → CanGoOn (ts ++ t ∷ []) → ⊥
stops ts t hs s e none (more, q, h) =
    let whole = passes ((ts ++ t ∷ []) ++ more) q h in
    let cut = run_next ts t more hs s e ∙ ap (λ (o : Option ParserState). option_and_then (λ (x : ParserState). run x.1 x.0 more) o) none in
    cc

pub goes : (ts : List Token) (t : Token) (hs : List (Option HalfView)) (s : PhaseView) (x : ParserState) → LeadTo hs s ts → step hs s t ≡ Some x → CanGoOn (ts ++ t ∷ [])
goes ts t hs s x h e = can_go_on x.1 x.0 (ts ++ t ∷ []) (subst (λ (o : Option ParserState). Kept o (ts ++ t ∷ [])) e (keeps hs s ts t h))

-- facts of one list of tokens, at which something is wanted or a query ends
abbrev Facts : List Token → List (Option HalfView) → PhaseView → Type 0
Facts ts hs s = (run [] start ts ≡ Some (s, hs)) × LeadTo hs s ts

none_wanted : (ts : List Token) (hs : List (Option HalfView)) (s : PhaseView) → Facts ts hs s → ((n : ℕ) → step hs s (token.Number n) ≡ None) → ((a : Addr) (m : Option ℕ) → step hs s (token.Address a m) ≡ None) → ((t : ℤ) → step hs s (token.Instant t) ≡ None) → (WantsNumber ts → ⊥) × (WantsAddress ts → ⊥) × (WantsTime ts → ⊥)
none_wanted ts hs s (e, h) number address time = (
  λ (n, more). stops ts (token.Number n) hs s e (number n) more,
  λ (a, m, more). stops ts (token.Address a m) hs s e (address a m) more,
  λ (t, more). stops ts (token.Instant t) hs s e (time t) more,
)

no_item : (ts : List Token) (hs : List (Option HalfView)) (s : PhaseView) (t : Option Token) → Facts ts hs s → step hs s (token.Key key.Icmp) ≡ None → t ≡ Some token.Open → WantsItem ts → ⊥
no_item ts hs s t (e, h) none k more = stops ts (token.Key key.Icmp) hs s e none more

plain : (ts : List Token) (hs : List (Option HalfView)) (s : PhaseView) (t : Option Token) → Facts ts hs s → ((n : ℕ) → step hs s (token.Number n) ≡ None) → ((a : Addr) (m : Option ℕ) → step hs s (token.Address a m) ≡ None) → ((i : ℤ) → step hs s (token.Instant i) ≡ None) → (t ≡ Some token.Open → WantsItem ts → ⊥) → HasKind ts t kind.Syntax
plain ts hs s t h number address time item =
    let none = none_wanted ts hs s h number address time in
    inr (none.0, none.1, none.2, item)

by_want : (w : Want) (half : Option HalfView) (ts : List Token) (hs : List (Option HalfView)) (t : Option Token) → Facts ts hs (Reading w half) → (t ≡ Some token.Stray → ⊥) → (w ≡ want.Item → t ≡ Some token.Open → ⊥) → HasKind ts t (kind_of w)
by_want want.Host half ts hs t (e, h) k o = (k, (V4 0, None, goes ts (token.Address (V4 0) None) hs (Reading want.Host half) _ h refl))
by_want want.Net half ts hs t (e, h) k o = (k, (V4 0, None, goes ts (token.Address (V4 0) None) hs (Reading want.Net half) _ h refl))
by_want (want.MaskOf (V4 a)) half ts hs t (e, h) k o = (k, (V4 0, Some 0, goes ts (token.Address (V4 0) (Some 0)) hs (Reading (want.MaskOf (V4 a)) half) _ h refl))
by_want (want.MaskOf (V6 a)) half ts hs t (e, h) k o = (k, (V6 0, Some 0, goes ts (token.Address (V6 0) (Some 0)) hs (Reading (want.MaskOf (V6 a)) half) _ h refl))
by_want want.Port half ts hs t (e, h) k o = (k, (0, goes ts (token.Number 0) hs (Reading want.Port half) _ h refl))
by_want want.Proto half ts hs t (e, h) k o = (k, (0, goes ts (token.Number 0) hs (Reading want.Proto half) _ h refl))
by_want want.Vlan half ts hs t (e, h) k o = (k, (0, goes ts (token.Number 0) hs (Reading want.Vlan half) _ h refl))
by_want want.Mpls half ts hs t (e, h) k o = (k, (0, goes ts (token.Number 0) hs (Reading want.Mpls half) _ h refl))
by_want want.Before half ts hs t (e, h) k o = (k, (pos 0, goes ts (token.Instant (pos 0)) hs (Reading want.Before half) _ h refl))
by_want want.After half ts hs t (e, h) k o = (k, (pos 0, goes ts (token.Instant (pos 0)) hs (Reading want.After half) _ h refl))
by_want want.Item half ts hs t f k o = plain ts hs (Reading want.Item half) t f (λ n. refl) (λ a m. refl) (λ i. refl) (λ p q. o refl p)
by_want (want.MaskWord a) half ts hs t f k o = plain ts hs (Reading (want.MaskWord a) half) t f (λ n. refl) (λ a m. refl) (λ i. refl) (no_item ts hs (Reading (want.MaskWord a) half) t f refl)
by_want want.ProtoWord half ts hs t f k o = plain ts hs (Reading want.ProtoWord half) t f (λ n. refl) (λ a m. refl) (λ i. refl) (no_item ts hs (Reading want.ProtoWord half) t f refl)
by_want (want.BeforeAgo n b) half ts hs t f k o = plain ts hs (Reading (want.BeforeAgo n b) half) t f (λ n. refl) (λ a m. refl) (λ i. refl) (no_item ts hs (Reading (want.BeforeAgo n b) half) t f refl)
by_want (want.AfterAgo n b) half ts hs t f k o = plain ts hs (Reading (want.AfterAgo n b) half) t f (λ n. refl) (λ a m. refl) (λ i. refl) (no_item ts hs (Reading (want.AfterAgo n b) half) t f refl)

by_token : (w : Want) (half : Option HalfView) (ts : List Token) (hs : List (Option HalfView)) (t : Option Token) → Facts ts hs (Reading w half) → HasKind ts t (refusal (Reading w half) t)
by_token w half ts hs (Some token.Stray) f = inl refl
by_token want.Item half ts hs (Some token.Open) (e, h) = (refl, goes ts (token.Key key.Icmp) hs (Reading want.Item half) _ h refl)
by_token w half ts hs (Some token.Open) f = by_want w half ts hs (Some token.Open) f (λ k. cc) (λ k. cc)
by_token w half ts hs t f = by_want w half ts hs t f (λ k. cc) (λ j k. cc)

-- the kind of each refusal
pub kinds : (ts : List Token) (hs : List (Option HalfView)) (s : PhaseView) (t : Option Token) → run [] start ts ≡ Some (s, hs) → HasKind ts t (refusal s t)
kinds ts hs (Reading w half) t e = by_token w half ts hs t (e, lead_to ts hs (Reading w half) e)
kinds ts hs (Joined q) (Some token.Stray) e = inl refl
kinds ts hs (Joined q) t e =
    let f : Facts ts hs (Joined q) = (e, lead_to ts hs (Joined q) e) in
    plain ts hs (Joined q) t f (λ n. refl) (λ a m. refl) (λ i. refl) (no_item ts hs (Joined q) t f refl)

-- at the end of the tokens: a query, or none
pub whole_query : (ts : List Token) (q : Tree) → run [] start ts ≡ Some (Joined q, []) → Query 0 ts q
whole_query ts q e = lead_to ts [] (Joined q) e

abbrev pub IsWhole : List (Option HalfView) → PhaseView → Type 0
IsWhole [] (Joined q) = Unit {0}
IsWhole _ _ = ⊥

Whole : Option ParserState → Type 0
Whole None = ⊥
Whole (Some x) = IsWhole x.1 x.0

pub no_query : (ts : List Token) (hs : List (Option HalfView)) (s : PhaseView) → run [] start ts ≡ Some (s, hs) → (IsWhole hs s → ⊥) → (q : Tree) → Query 0 ts q → ⊥
unfolding Whole
no_query ts hs s e h q query =
    h (subst Whole (sym (passes ts q query) ∙ e) tt)
