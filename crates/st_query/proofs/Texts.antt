-- The pass over a text, from one token to the next.
use Rattle.std.proofs.Common.{◌≡◌, ℕ, ◌+◌, ◌-◌, ◌≤◌, ◌<◌, List, [], ◌∷◌, ◌++◌, length, drop, Option, Some, None, refl, sym, ◌∙◌, ap, subst, arith, option_and_then, inl, inr, length-append, length-drop, map}
use Rattle.std.proofs.lemmas.List.{drop-drop, length-reverse, length-map}
use Rattle.std.proofs.Math.Seq.{drop-append-add, drop-append_seam}
use Rattle.st_query.specs.declared.tokens.Token.{Token}
use Rattle.st_query.specs.declared.lexer.Found.{Found}
use Rattle.st_query.specs.declared.automaton.Kind.{Kind}
use Rattle.st_query.specs.declared.automaton.Kind.TheVariants as kind
use Rattle.st_query.specs.declared.errors.QueryErr.{QueryErr}
use Rattle.st_query.specs.declared.automaton.Half.{Half}
use Rattle.st_query.specs.declared.automaton.Want.{Want}
use Rattle.st_query.specs.declared.automaton.Phase.{Phase}
use Rattle.st_query.specs.declared.automaton.Phase.TheVariants as phase
use Rattle.st_query.specs.declared.nodes.Node.{Node}
use Rattle.std.specs.Option.{option_map}
use Rattle.st_query.specs.Tokens.{IsBlank, IsPiece}
use Rattle.st_query.specs.Lexer.{Next}
use Rattle.st_query.specs.Trees.{Tree, tree}
use Rattle.st_query.specs.Automaton.{HalfView, PhaseView, Joined, ParserState, start, step, run, refusal, half_view, phase_view, open_halves}
use Rattle.st_query.specs.Spelling.{Starts, IsSpelled, IsRefused, Refuses}
use Rattle.st_query.specs.Parser.{HasRead, error_at}
use Rattle.st_query.proofs.GrammarStates.{can_go_on}
use Rattle.st_query.proofs.GrammarKinds.{run_append, lead_to, stops, kinds, whole_query, no_query, IsWhole}

-- one more token
pub starts_on : (text : List ℕ) (ts : List Token) (rest : List ℕ) (t : Token) (gap piece more : List ℕ) → Starts text ts rest → rest ≡ gap ++ (piece ++ more) → IsBlank gap → IsPiece t piece more → Starts text (ts ++ t ∷ []) more
starts_on text [] rest t gap piece more h e b p = (gap, piece, more, h ∙ e, b, p, refl)
starts_on text (u ∷ us) rest t gap piece more (g, first, others, split, blank, is_first, h) e b p =
    (g, first, others, split, blank, is_first, starts_on others us rest t gap piece more h e b p)

-- each token has a byte
pub piece_length : (t : Token) (piece more : List ℕ) → IsPiece t piece more → 0 < length piece
piece_length t piece more (inl h) = rw h.1 (omega arith)
piece_length t piece more (inr (inl h)) = rw h.1 (omega arith)
piece_length t piece more (inr (inr (inl h))) = rw h.1 (omega arith)
piece_length t piece more (inr (inr (inr (inl h)))) = rw h.1 (omega arith)
piece_length t piece more (inr (inr (inr (inr (inl h))))) = h.1
piece_length t piece more (inr (inr (inr (inr (inr h))))) = omega arith

-- what the place following a token says
pub record Following (text : List ℕ) (at : ℕ) (f : Found) (more : List ℕ) : Type 0 where
  pub on : at < f.end
  pub within : f.end ≤ length text
  pub rest : drop f.end text ≡ more
  pub left : f.end + length more ≡ length text

pub following : (text : List ℕ) (at : ℕ) (f : Found) (gap piece more : List ℕ) → at ≤ length text → drop at text ≡ gap ++ (piece ++ more) → f.start ≡ at + length gap → f.end ≡ f.start + length piece → 0 < length piece → Following text at f more
following text at f gap piece more inside split from to some =
    let counted : length text - at ≡ length gap + (length piece + length more) = sym (length-drop at text) ∙ ap length split ∙ length-append gap (piece ++ more) ∙ ap (λ n. length gap + n) (length-append piece more) in
    let two : f.end ≡ at + (length gap + length piece) = omega arith in
    record {
      on = omega arith;
      within = omega arith;
      rest = ap (λ (n : ℕ). drop n text) two ∙ sym (drop-drop (length gap + length piece) at text)
          ∙ ap (drop (length gap + length piece)) split ∙ drop-append-add gap (piece ++ more) (length piece) ∙ drop-append_seam piece more;
      left = omega arith;
    }

-- what the next token says of its place
pub next_following : (text : List ℕ) (at : ℕ) (f : Found) → at ≤ length text → (h : Next at (drop at text) (Some f)) → Following text at f (h.2)
next_following text at f inside (gap, piece, more, split, blank, from, to, is_piece) =
    following text at f gap piece more inside split from to (piece_length f.token piece more is_piece)

pub reads_on : (text : List ℕ) (at : ℕ) (f : Found) (s t : PhaseView) (hs gs : List (Option HalfView)) → at ≤ length text → Next at (drop at text) (Some f) → HasRead text at s hs → step hs s f.token ≡ Some (t, gs) → HasRead text f.end t gs
reads_on text at f s t hs gs inside (gap, piece, more, split, blank, from, to, is_piece) (ts, starts, e) taken =
    let b = following text at f gap piece more inside split from to (piece_length f.token piece more is_piece) in (
      ts ++ f.token ∷ [],
      rw b.rest (starts_on text ts (drop at text) f.token gap piece more starts split blank is_piece),
      run_append ts (f.token ∷ []) [] start ∙ ap (λ (o : Option ParserState). option_and_then (λ (x : ParserState). run x.1 x.0 (f.token ∷ [])) o) e ∙ ap (λ (o : Option ParserState). option_and_then (λ (x : ParserState). run x.1 x.0 []) o) taken,
    )

-- the refusal of a token
pub token_refused : (text : List ℕ) (at : ℕ) (f : Found) (s : PhaseView) (hs : List (Option HalfView)) → length text ≤ 4096 → at ≤ length text → Next at (drop at text) (Some f) → HasRead text at s hs → step hs s f.token ≡ None → IsRefused text f.start (refusal s (Some f.token))
token_refused text at f s hs short inside (gap, piece, more, split, blank, from, to, is_piece) (ts, starts, e) none =
    let b = following text at f gap piece more inside split from to (piece_length f.token piece more is_piece) in
    let left : f.start + (length piece + length more) ≡ length text = omega (arith, b.left) in (
      short,
      (
        ts,
        drop at text,
        length piece + length more,
        starts,
        can_go_on hs s ts (lead_to ts hs s e),
        left,
        inl (record {
          gap = gap;
          piece = piece;
          more = more;
          token = f.token;
          split = split;
          blank = blank;
          is_piece = is_piece;
          place = refl;
          stops = stops ts f.token hs s e none;
          has_kind = kinds ts hs s (Some f.token) e;
        }),
      ),
    )

-- the refusal of the end
pub end_refused : (text : List ℕ) (at : ℕ) (s : PhaseView) (hs : List (Option HalfView)) → length text ≤ 4096 → Next at (drop at text) None → HasRead text at s hs → (IsWhole hs s → ⊥) → IsRefused text (length text) (refusal s None)
end_refused text at s hs short blank (ts, starts, e) unfinished = (
  short,
  (
    ts,
    drop at text,
    0,
    starts,
    can_go_on hs s ts (lead_to ts hs s e),
    omega arith,
    inr (record {
      blank = blank;
      place = refl;
      unfinished = no_query ts hs s e unfinished;
      has_kind = kinds ts hs s None e;
    }),
  ),
)

pub spelled : (text : List ℕ) (at : ℕ) (q : Tree) → Next at (drop at text) None → HasRead text at (Joined q) [] → IsSpelled text q
spelled text at q blank (ts, starts, e) = (ts, drop at text, starts, blank, whole_query ts q e)

pub refuses : (text : List ℕ) (place : ℕ) (k : Kind) → IsRefused text place k → Refuses text (error_at k place)
refuses text place kind.Syntax h = h
refuses text place kind.Number h = h
refuses text place kind.Address h = h
refuses text place kind.Time h = h
refuses text place kind.Deep h = h

-- the refusal that the code makes
pub error_refused : (text : List ℕ) (place : ℕ) (k j : Kind) (e : QueryErr) → e ≡ error_at k place → k ≡ j → IsRefused text place j → Refuses text e
error_refused text place k j e is same h = rw (is, same) (refuses text place j h)

-- where the code's query is whole: nothing lead_to open
pub joined_read : (text : List ℕ) (at : ℕ) (p : Phase) (stack : List (Option Half)) (node : Node) → p ≡ phase.Joined node → stack ≡ [] → HasRead text at (phase_view p) (open_halves stack) → HasRead text at (Joined (tree node)) []
joined_read text at p stack node e empty h = rw (e, empty) at h

whole_frames : (hs : List (Option HalfView)) (s : PhaseView) → IsWhole hs s → hs ≡ []
whole_frames [] s h = refl
whole_frames (f ∷ hs) s h = absurd h

pub whole_stack : (stack : List (Option Half)) (s : PhaseView) → IsWhole (open_halves stack) s → stack ≡ []
whole_stack [] s h = refl
whole_stack (x ∷ xs) s h =
    let none : length (open_halves (x ∷ xs)) ≡ 0 = ap length (whole_frames (open_halves (x ∷ xs)) s h) in
    absurd (omega (arith, none, length-reverse (map (option_map half_view) (x ∷ xs)), length-map (x ∷ xs) (option_map half_view)))

pub reading_whole : (hs : List (Option HalfView)) (p : Phase) (w : Want) (half : Option Half) → p ≡ phase.Reading w half → IsWhole hs (phase_view p) → ⊥
reading_whole [] p w half e h = subst (λ (q : Phase). IsWhole [] (phase_view q)) e h
reading_whole (f ∷ hs) p w half e h = subst (λ (q : Phase). IsWhole (f ∷ hs) (phase_view q)) e h
