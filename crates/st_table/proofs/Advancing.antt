-- How far a step goes over any file.
use Rattle.std.proofs.Common.{◌≡◌, ℕ, ◌+◌, ◌-◌, ◌*◌, ◌<◌, ◌≤◌, max, List, [], ◌∷◌, length, Some, None, Ok, Err, ◌⊎◌, inl, inr, sym, ap, ◌∙◌, subst, arith, mul-le-mul_right, add-mul}
use Rattle.st_tblock.specs.Block.{RowView}
use Rattle.st_table.specs.Cursor.{CursorView, Advances, most_left}

-- within a step: nothing was read yet, or no row was at hand and blocks were passed, each with one
-- read
pub record Passes (count extent before now : ℕ) (old new : CursorView) : Type 0 where
  pub next : old.next ≤ new.next
  pub within : new.next ≤ max old.next count
  pub reads : now ≤ before + (new.next - old.next)
  pub rows : (new ≡ old) ⊎ ((old.rows ≡ []) × (old.next < new.next) × (length new.rows ≤ extent))

-- a call that finds nothing at hand leaves it
pub passes_still : (count extent before now : ℕ) (old here new : CursorView) → Passes count extent before now old here → new ≡ here → Passes count extent before now old new
passes_still count extent before now old here new p e = subst (Passes count extent before now old) (sym e) p

-- one block more
pub passes_on : (count extent before mid now : ℕ) (old here new : CursorView) → Passes count extent before mid old here → here.rows ≡ [] → here.next < count → new.next ≡ here.next + 1 → length new.rows ≤ extent → now ≤ mid + 1 → Passes count extent before now old new
passes_on count extent before mid now old here new p none more next few reads =
    record {
      next = let a = p.next in omega arith;
      within = let a = p.within in omega arith;
      reads = let a = p.reads in let b = p.next in omega arith;
      rows = inr (empty p.rows, let a = p.next in omega arith, few);
    }
  where
    empty : (here ≡ old) ⊎ ((old.rows ≡ []) × (old.next < here.next) × (length here.rows ≤ extent)) → old.rows ≡ []
    empty (inl e) = ap (λ (c : CursorView). c.rows) (sym e) ∙ none
    empty (inr h) = h.0

-- more rows may come of one block more than are at hand
less : (x y k a b : ℕ) → x + 1 ≤ y → a < k → x * k + a < y * k + b
less x y k a b l f =
    let all : (x + 1) * k ≤ y * k = mul-le-mul_right k l in
    let parts : (x + 1) * k ≡ x * k + 1 * k = add-mul x 1 k in
    let one : 1 * k ≡ k = omega arith in
    omega arith

-- a row at hand is given
pub row_taken : {E : Type 0} (count extent before now : ℕ) (old here new : CursorView) (r : RowView) → Passes count extent before now old here → here ≡ record { low = new.low; high = new.high; rows = r ∷ new.rows; next = new.next } → Advances {E = E} count extent before now old new (Ok (Some r))
row_taken count extent before now old here new r p e =
    let next : here.next ≡ new.next = ap (λ (c : CursorView). c.next) e in
    let rows : here.rows ≡ r ∷ new.rows = ap (λ (c : CursorView). c.rows) e in
    let size : length here.rows ≡ length (r ∷ new.rows) = ap length rows in
    record {
      next = let a = p.next in omega arith;
      within = let a = p.within in omega arith;
      rows = most size p.rows;
      reads = let a = p.reads in omega arith;
      taken = λ q qs h. takes rows next q qs h p.rows;
      fewer = falls next rows size p.rows;
    }
  where
    most : length here.rows ≡ length (r ∷ new.rows) → (here ≡ old) ⊎ ((old.rows ≡ []) × (old.next < here.next) × (length here.rows ≤ extent)) → length new.rows ≤ max (length old.rows) extent
    most size (inl s) = let same = ap (λ (c : CursorView). length c.rows) s in omega arith
    most size (inr h) = let few = h.2 in omega arith

    takes : here.rows ≡ r ∷ new.rows → here.next ≡ new.next → (q : RowView) (qs : List RowView) → old.rows ≡ q ∷ qs → (here ≡ old) ⊎ ((old.rows ≡ []) × (old.next < here.next) × (length here.rows ≤ extent)) → (new.rows ≡ qs) × (new.next ≡ old.next)
    takes rows next q qs h (inl s) =
        let both : r ∷ new.rows ≡ q ∷ qs = sym rows ∙ ap (λ (c : CursorView). c.rows) s ∙ h in
        (cc, sym next ∙ ap (λ (c : CursorView). c.next) s)
    takes rows next q qs h (inr n) = absurd (let none = n.0 in cc)

    falls : here.next ≡ new.next → here.rows ≡ r ∷ new.rows → length here.rows ≡ length (r ∷ new.rows) → (here ≡ old) ⊎ ((old.rows ≡ []) × (old.next < here.next) × (length here.rows ≤ extent)) → most_left count extent new < most_left count extent old
    falls next rows size (inl s) =
        let same : old.next ≡ new.next = ap (λ (c : CursorView). c.next) (sym s) ∙ next in
        let more : length old.rows ≡ length (r ∷ new.rows) = ap (λ (c : CursorView). length c.rows) (sym s) ∙ size in
        rw same (omega arith)
    falls next rows size (inr h) =
        let w = p.within in
        let n = h.1 in
        let few = h.2 in
        less (count - new.next) (count - old.next) (extent + 1) (length new.rows) (length old.rows) (omega arith) (omega arith)

-- no block is left
pub none_left : {E : Type 0} (count extent before now : ℕ) (old new : CursorView) → Passes count extent before now old new → new.rows ≡ [] → Advances {E = E} count extent before now old new (Ok None)
none_left count extent before now old new p none =
    let size : length new.rows ≡ 0 = ap length none in
    record {
      next = p.next;
      within = p.within;
      rows = omega arith;
      reads = p.reads;
      taken = λ q qs h. no_row none q qs h p.rows;
      fewer = tt;
    }
  where
    no_row : new.rows ≡ [] → (q : RowView) (qs : List RowView) → old.rows ≡ q ∷ qs → (new ≡ old) ⊎ ((old.rows ≡ []) × (old.next < new.next) × (length new.rows ≤ extent)) → (new.rows ≡ qs) × (new.next ≡ old.next)
    no_row none q qs h (inl s) = absurd (let same = ap (λ (c : CursorView). c.rows) s in cc)
    no_row none q qs h (inr n) = absurd (let no = n.0 in cc)

-- the next block is refused
pub next_refused : {E : Type 0} (count extent before mid now : ℕ) (old new : CursorView) (e : E) → Passes count extent before mid old new → new.rows ≡ [] → now ≤ mid + 1 → Advances count extent before now old new (Err e)
next_refused {E = E} count extent before mid now old new e p none reads =
    let a = none_left {E = E} count extent before mid old new p none in
    record {
      next = a.next;
      within = a.within;
      rows = a.rows;
      reads = let b = p.reads in omega arith;
      taken = a.taken;
      fewer = tt;
    }
