-- The text of each query spells it, and so is read as it.
use Rattle.std.proofs.Common.{◌≡◌, ◌≢◌, ℕ, ◌≤◌, List, length, refl, sym, ap, ◌∙◌, subst, arith}
use Rattle.std.specs.Prelude.{codes, pos, ◌++◌, Result, Ok, Err, IfOk, IfErr}
use Rattle.std.specs.Fmt.{digits}
use Rattle.jiff_core.specs.Calendar.{day_count}
use Rattle.jiff_core.proofs.MarchLemmas.{day_count-late}
use Rattle.st_query.specs.declared.nodes.Node.{Node}
use Rattle.st_query.specs.PrintedWords.{instant_text, year_of, month_of, day_of_month}
use Rattle.st_query.proofs.Calendar.{year_is, month_is, day_is}
use Rattle.st_query.specs.declared.errors.QueryErr.{QueryErr}
use Rattle.st_query.specs.declared.errors.QueryErr.TheVariants.{Syntax, Number, Address, Time, Deep, Long, NoMemory}
use Rattle.st_query.specs.Trees.{Tree, IsSound, tree}
use Rattle.st_query.specs.PrintedForm.{printed}
use Rattle.st_query.specs.Spelling.{IsSpelled, Spells, Refuses}
use Rattle.st_query.proofs.Printed.{printed_spells}
use Rattle.st_query.proofs.Readings.{one_tree, not_spelled}
use Rattle.st_drill.specs.declared.queries.DrillQuery.{DrillQuery}
use Rattle.st_drill.specs.declared.queries.DrillQuery.TheVariants.{Dns, NearTcp, Early, Late}
use Rattle.st_drill.specs.Queries.{query_tree}

-- the day in the middle of the packets, as the calendar counts days
abbrev middle_day : ℕ
middle_day = 4_383_527

middle : day_count (pos 2001) 9 9 ≡ middle_day
middle = omega (arith, day_count-late (pos 2001) 12001 9 9 refl (omega arith) (omega arith) (omega arith))

middle_year : year_of middle_day ≡ 2001
middle_year = year_is 2001 9 9 middle_day (search arith) middle

middle_month : month_of middle_day ≡ 9
middle_month = month_is 2001 9 9 middle_day (search arith) middle

middle_of_month : day_of_month middle_day ≡ 9
middle_of_month = day_is 2001 9 9 middle_day (search arith) middle

-- the moment in the middle of the packets
middle_text : instant_text (pos 1_000_000_100) ≡ codes "2001-09-09T01:48:20Z"
middle_text = simp (middle_year, middle_month, middle_of_month)

-- the text of each query
abbrev pub text : DrillQuery → List ℕ
text Dns = codes "port 53"
text NearTcp = codes "ip proto 6 and net 10.0.0.0/25"
text Early = codes "before 2001-09-09T01:48:20Z"
text Late = codes "after 2001-09-09T01:48:20Z"

-- is its printed form
pub text_printed : (q : DrillQuery) → text q ≡ printed (query_tree q)
unfolding digits
text_printed Dns = refl
text_printed NearTcp = refl
text_printed Early = ap (λ l. codes "before " ++ l) (sym middle_text)
text_printed Late = ap (λ l. codes "after " ++ l) (sym middle_text)

-- each query is one that can be asked
pub sound : (q : DrillQuery) → IsSound (query_tree q)
sound Dns = record { in_range = omega arith; shallow = omega arith }
sound NearTcp = record { in_range = (omega arith, (omega arith, omega arith, refl)); shallow = omega arith }
sound Early = record { in_range = search arith; shallow = omega arith }
sound Late = record { in_range = search arith; shallow = omega arith }

short : (q : DrillQuery) → length (text q) ≤ 4096
short Dns = omega arith
short NearTcp = omega arith
short Early = omega arith
short Late = omega arith

-- what the printed form spells is the query
pub spelled : (text : List ℕ) (q : DrillQuery) (n : Node) → text ≡ printed (query_tree q)
    → Spells text n → tree n ≡ query_tree q
spelled text q n e h =
    one_tree text (tree n) (query_tree q) h.1
    (subst (λ l. IsSpelled l (query_tree q)) (sym e) (printed_spells (query_tree q) (sound q)))

never : (text : List ℕ) (t : Tree) (e : QueryErr) → length text ≤ 4096 → IsSpelled text t
    → Refuses text e → ⊥
never text t (Syntax p) h s r = not_spelled text t p _ s r
never text t (Number p) h s r = not_spelled text t p _ s r
never text t (Address p) h s r = not_spelled text t p _ s r
never text t (Time p) h s r = not_spelled text t p _ s r
never text t (Deep p) h s r = not_spelled text t p _ s r
never text t (Long n) h s r = absurd (omega arith)
never text t NoMemory h s r = r

-- the printed form isn't refused
pub not_refused : (text : List ℕ) (q : DrillQuery) (e : QueryErr) → text ≡ printed (query_tree q)
    → Refuses text e → ⊥
not_refused text q e same r =
    never text (query_tree q) e
    (subst (λ l. length l ≤ 4096) (text_printed q ∙ sym same) (short q))
    (subst (λ l. IsSpelled l (query_tree q)) (sym same) (printed_spells (query_tree q) (sound q)))
    r

-- a parse of the printed form reads the query
pub reads_tree : (text : List ℕ) (q : DrillQuery) (r : Result Node QueryErr)
    → text ≡ printed (query_tree q) → IfOk r (λ n. Spells text n)
    → IfOk r (λ n. tree n ≡ query_tree q)
reads_tree text q (Ok n) same h = spelled text q n same h
reads_tree text q (Err e) same h = tt

-- and is refused only for want of memory
pub reads_memory : (text : List ℕ) (q : DrillQuery) (r : Result Node QueryErr)
    → text ≡ printed (query_tree q) → IfErr r (λ e. e ≢ NoMemory → Refuses text e)
    → IfErr r (λ e. e ≡ NoMemory)
reads_memory text q (Ok n) same h = tt
reads_memory text q (Err NoMemory) same h = refl
reads_memory text q (Err (Syntax p)) same h = absurd (not_refused text q (Syntax p) same (h (λ e. cc)))
reads_memory text q (Err (Number p)) same h = absurd (not_refused text q (Number p) same (h (λ e. cc)))
reads_memory text q (Err (Address p)) same h = absurd (not_refused text q (Address p) same (h (λ e. cc)))
reads_memory text q (Err (Time p)) same h = absurd (not_refused text q (Time p) same (h (λ e. cc)))
reads_memory text q (Err (Deep p)) same h = absurd (not_refused text q (Deep p) same (h (λ e. cc)))
reads_memory text q (Err (Long n)) same h = absurd (not_refused text q (Long n) same (h (λ e. cc)))
