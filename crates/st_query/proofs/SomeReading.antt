-- Each text spells a query or is refused.
use Rattle.std.proofs.Common.{◌≡◌, ℕ, ◌≤◌, List, [], ◌∷◌, length, drop, Option, Some, None, refl, sym, subst, inl, inr, ◌⊎◌}
use Rattle.st_query.specs.declared.lexer.Found.{Found}
use Rattle.st_query.specs.declared.automaton.Want.{Want}
use Rattle.st_query.specs.declared.errors.QueryErr.{QueryErr}
use Rattle.st_query.specs.Lexer.{Next}
use Rattle.st_query.specs.Automaton.{HalfView, PhaseView, Reading, Joined, start, step, refusal}
use Rattle.st_query.specs.Spelling.{IsSpelled, Refuses}
use Rattle.st_query.specs.Parser.{HasRead, error_at}
use Rattle.st_query.specs.Laws.{HasReading}
use Rattle.st_query.proofs.GrammarKinds.{IsWhole}
use Rattle.st_query.proofs.NodeTrees.{back, tree_back}
use Rattle.st_query.proofs.Texts.{reads_on, token_refused, end_refused, spelled, refuses}

-- up to this place the text can be read, or it is refused
abbrev pub SoFar : List ℕ → ℕ → Type 0
SoFar text at =
    ((s : PhaseView) × (hs : List (Option HalfView)) × HasRead text at s hs) ⊎ ((e : QueryErr) × Refuses text e)

pub so_far_start : (text : List ℕ) → SoFar text 0
so_far_start text = inl (start, [], ([], refl, refl))

pub so_far_on : (text : List ℕ) (at : ℕ) (f : Found) → length text ≤ 4096 → at ≤ length text → Next at (drop at text) (Some f) → SoFar text at → SoFar text f.end
so_far_on text at f short inside next (inr refused) = inr refused
so_far_on text at f short inside next (inl (s, hs, has_read)) =
    elim (step hs s f.token) as (λ o. step hs s f.token ≡ o → SoFar text f.end) [
      | None ↦ λ e. inr (error_at (refusal s (Some f.token)) f.start, refuses text f.start (refusal s (Some f.token)) (token_refused text at f s hs short inside next has_read e))
      | Some x ↦ λ e. inl (x.0, x.1, reads_on text at f s x.0 hs x.1 inside next has_read e)
    ] refl

not_whole : (hs : List (Option HalfView)) (w : Want) (half : Option HalfView) → IsWhole hs (Reading w half) → ⊥
not_whole [] w half h = h
not_whole (f ∷ hs) w half h = h

pub reading : (text : List ℕ) (at : ℕ) → length text ≤ 4096 → Next at (drop at text) None → SoFar text at → HasReading text
reading text at short none (inr refused) = inr refused
reading text at short none (inl (Joined q, [], has_read)) =
    inl (back q, (short, subst (IsSpelled text) (sym (tree_back q)) (spelled text at q none has_read)))
reading text at short none (inl (Joined q, f ∷ hs, has_read)) =
    inr (error_at (refusal (Joined q) None) (length text), refuses text (length text) (refusal (Joined q) None) (end_refused text at (Joined q) (f ∷ hs) short none has_read (λ h. h)))
reading text at short none (inl (Reading w half, hs, has_read)) =
    inr (error_at (refusal (Reading w half) None) (length text), refuses text (length text) (refusal (Reading w half) None) (end_refused text at (Reading w half) hs short none has_read (not_whole hs w half)))
