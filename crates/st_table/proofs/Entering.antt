-- A table is entered by its footer and its index block.
use Rattle.std.proofs.Common.{◌≡◌, ℕ, List, Result, Ok, Err, ◌∙◌, subst, inr, arith}
use Rattle.std.specs.Prelude.{MatchResult}
use Rattle.st_tblock.specs.Block.{IsBlock}
use Rattle.st_tblock.specs.declared.handle.Handle.{Handle}
use Rattle.st_table.specs.TableFile.{footer_at}
use Rattle.st_table.specs.Stored.{ReadsBlock}
use Rattle.st_table.specs.Rows.{RefusesBlock}
use Rattle.st_table.specs.Index.{ReadsFooter, HasEntries, Entered, RefusesTable, holds_handle}
use Rattle.st_table.specs.declared.errors.TableErr.{TableErr}
use Rattle.st_table.specs.declared.index.IndexEntry.{IndexEntry}
use Rattle.st_table.proofs.Blocks.{is_stored}

-- what the index block says is what the table says
pub index_read : {V : Type 0} (items : V → List IndexEntry) (r : Result V TableErr) (bytes : List ℕ) (h : Handle) (block text : List ℕ) → ReadsFooter bytes (Ok h) → ReadsBlock {T = Unit {0}} (footer_at bytes) bytes h block (Ok (tt {0})) → text ≡ block → MatchResult r (λ v. HasEntries text (items v)) (λ e. RefusesBlock holds_handle h.offset text e) → MatchResult r (λ v. Entered bytes (items v)) (λ e. RefusesTable bytes e)
index_read items (Ok v) bytes h block text f b t m =
    let good = subst (λ (xs : List ℕ). IsBlock xs m.0) (t ∙ b.1) m.1 in
    record {
      index = m.0;
      has = record { footer = f.0; meta = f.1.0; named = h; handles = f.1.1; stored = is_stored (footer_at bytes) bytes h m.0 (omega arith) b.0 good };
      decoded = m.2;
    }
index_read items (Err e) bytes h block text f b t m =
    inr (inr (h, f, inr (inr (b.0, subst (λ (xs : List ℕ). RefusesBlock holds_handle h.offset xs e) (t ∙ b.1) m))))
