-- A shelf that begins with an image of another.
use Rattle.std.proofs.Common.{◌≡◌, ◌≤◌, ℕ, ◌+◌, ◌/◌, ◌^◌, List, [], length, take, refl, sym, ◌∙◌, ap, subst, arith, zero-add}
use Rattle.std.proofs.lemmas.List.{take_all}
use Rattle.st_disk.specs.declared.naming.Kind.{Kind}
use Rattle.st_disk.specs.declared.naming.Kind.TheVariants as kind
use Rattle.st_disk.specs.declared.changes.Change.{Change}
use Rattle.st_disk.specs.declared.changes.Call.{Call}
use Rattle.st_disk.specs.declared.changes.Update.{Update}
use Rattle.st_disk.specs.Folders.{Folder, join, folder_of}
use Rattle.st_disk.specs.Disks.{Log, Side, side, after, flushed_side, SomeOf, reads, Leaves, moment, at_moment, log_of}
use Rattle.st_disk.specs.Book.{NoDraft, NumbersBelow, IsKept}
use Rattle.st_disk.specs.Crashes.{chosen, side_from, IsCrash}
use Rattle.st_disk.proofs.Images.{is_left}
use Rattle.st_disk.proofs.Bits.{chosen_some}

pub whole : (n : ℕ) → n ≡ n / 2 ^ 0
whole n = omega arith

-- a folder side_from again is that folder of the log
pub block_side : (sb si : List Update) (cs ds : List Call) (s fl : List Update) (la : List Change) (k : ℕ) → ((j : Kind) (x : Side) → after j x ds ≡ after j x (take k cs)) → s ≡ sb → side_from fl la ≡ after kind.Block (flushed_side (folder_of s)) ds → side_from fl la ≡ side kind.Block (at_moment k (log_of sb si cs))
unfolding side
block_side sb si cs ds s fl la k e f is = is ∙ e kind.Block (flushed_side (folder_of s)) ∙ ap (λ (ps : List Update). after kind.Block (flushed_side (folder_of ps)) (take k cs)) f

pub index_side : (sb si : List Update) (cs ds : List Call) (s fl : List Update) (la : List Change) (k : ℕ) → ((j : Kind) (x : Side) → after j x ds ≡ after j x (take k cs)) → s ≡ si → side_from fl la ≡ after kind.Index (flushed_side (folder_of s)) ds → side_from fl la ≡ side kind.Index (at_moment k (log_of sb si cs))
unfolding side
index_side sb si cs ds s fl la k e f is = is ∙ e kind.Index (flushed_side (folder_of s)) ∙ ap (λ (ps : List Update). after kind.Index (flushed_side (folder_of ps)) (take k cs)) f

-- a log with no call yet
reads_start : (sb si : List Update) → reads (log_of sb si []) ≡ join (folder_of sb) (folder_of si)
unfolding reads side
reads_start sb si = refl

leaves_start : (sb si : List Update) (f : Folder) → Leaves (log_of sb si []) f → f ≡ join (folder_of sb) (folder_of si)
unfolding Leaves side
leaves_start sb si f h = h.4 ∙ ap (λ (b : Folder). join b h.1) h.2 ∙ ap (λ (i : Folder). join (folder_of sb) i) h.3

module _ (log : Log) (k choice : ℕ) (fl gl ps ns xs ys : List Update) (la lb las lbs : List Change) (blocks : side_from fl la ≡ side kind.Block (at_moment k log)) (indexes : side_from gl lb ≡ side kind.Index (at_moment k log))
    (same_la : las ≡ la) (same_lb : lbs ≡ lb) (made : folder_of ps ≡ chosen 0 choice las (folder_of fl)) (made_after : folder_of ns ≡ chosen (0 + length las) choice lbs (folder_of gl)) (same_ps : xs ≡ ps) (same_ns : ys ≡ ns) where
  of_blocks : folder_of ps ≡ chosen 0 choice (side kind.Block (at_moment k log)).later (side kind.Block (at_moment k log)).flushed
  of_blocks = made ∙ ap (λ (cs : List Change). chosen 0 choice cs (folder_of fl)) same_la ∙ ap (λ (s : Side). chosen 0 choice s.later s.flushed) blocks

  of_indexes : folder_of ns ≡ chosen (length (side kind.Block (at_moment k log)).later) choice (side kind.Index (at_moment k log)).later (side kind.Index (at_moment k log)).flushed
  of_indexes =
      made_after
      ∙ ap (λ (n : ℕ). chosen n choice lbs (folder_of gl)) (zero-add (length las) ∙ ap length same_la ∙ ap (λ (s : Side). length s.later) blocks)
      ∙ ap (λ (cs : List Change). chosen (length (side kind.Block (at_moment k log)).later) choice cs (folder_of gl)) same_lb
      ∙ ap (λ (s : Side). chosen (length (side kind.Block (at_moment k log)).later) choice s.later s.flushed) indexes

  left : Leaves (at_moment k log) (join (folder_of ps) (folder_of ns))
  left =
      let x = side kind.Block (at_moment k log) in
      let y = side kind.Index (at_moment k log) in
      is_left (at_moment k log) (join (folder_of ps) (folder_of ns)) (
        folder_of ps,
        folder_of ns,
        subst (λ (b : Folder). SomeOf x.later x.flushed b) (sym of_blocks) (chosen_some 0 choice x.later x.flushed),
        subst (λ (i : Folder). SomeOf y.later y.flushed i) (sym of_indexes) (chosen_some (length x.later) choice y.later y.flushed),
        refl,
      )

  joined : join (folder_of xs) (folder_of ys) ≡ join (folder_of ps) (folder_of ns)
  joined = ap (λ (qs : List Update). join (folder_of qs) (folder_of ys)) same_ps ∙ ap (λ (qs : List Update). join (folder_of ps) (folder_of qs)) same_ns

  pub is_crash : (cs : List Call) → cs ≡ [] → IsCrash log k choice (log_of xs ys cs)
  is_crash cs none = record {
    calls = none;
    of_blocks = ap folder_of same_ps ∙ of_blocks;
    of_indexes = ap folder_of same_ns ∙ of_indexes;
    left = subst (λ (f : Folder). Leaves (at_moment k log) f) (sym (ap (λ (ds : List Call). reads (log_of xs ys ds)) none ∙ reads_start xs ys ∙ joined)) left;
  }

  numbers : (next : ℕ) → k ≤ moment log → NumbersBelow next log → (f : Folder) → Leaves (log_of xs ys []) f → NoDraft next f
  numbers next le below f h = subst (NoDraft next) (sym (leaves_start xs ys f h ∙ joined)) (below (join (folder_of ps) (folder_of ns)) (k, omega arith, le, left))

  kept_start : (next : ℕ) → k ≤ moment log → NumbersBelow next log → IsKept (log_of xs ys []) ps ns next
  unfolding side
  kept_start next le below = record {
    of_blocks = sym (ap folder_of same_ps);
    of_indexes = sym (ap folder_of same_ns);
    numbers = λ f s. numbers next le below f (subst (λ (ds : List Call). Leaves (log_of xs ys ds) f) (take_all s.0 [] (omega arith)) s.3);
  }

  pub kept_crash : (cs : List Call) (next : ℕ) → cs ≡ [] → k ≤ moment log → NumbersBelow next log → IsKept (log_of xs ys cs) ps ns next
  kept_crash cs next none le below = subst (λ (ds : List Call). IsKept (log_of xs ys ds) ps ns next) (sym none) (kept_start next le below)
