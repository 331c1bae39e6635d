use Rattle.std.proofs.Common.{◌≡◌, ◌<◌, ◌-◌, ◌+◌, ◌^◌, ℕ, max, min, List, ◌∷◌, [], ◌++◌, Option, Some, Result, Ok, Err, IsOk, if◌then◌else◌, sym, ◌∙◌, ap, subst, arith, vec_len}
use Rattle.std.specs.Result.{is_ok}
use Rattle.std.specs.Vec.{vec_capacity}
use Rattle.st_disk.specs.Disks.{Log}
use Rattle.st_disk.specs.Folders.{given}
use Rattle.st_disk.specs.declared.naming.Name.TheVariants.{Block, Index}
use Rattle.st_disk.specs.LoggedCalls.{KnownBefore, Reads}
use Rattle.st_disk.specs.Runs.{Each}
use Rattle.st_disk.specs.Pairs.{Files}
use Rattle.st_disk.specs.Events.{Publish}
use Rattle.st_spool.specs.Rows.{Row, Free, Half, Coming, Has, set_row, RanBy}
use Rattle.st_spool.specs.declared.settling.Stopped.{Stopped}
use Rattle.st_spool.specs.declared.settling.Stopped.TheVariants.{Before, After}
use Rattle.st_spool.specs.Settling.{files, entry, SettlesPair}
use Rattle.st_spool.specs.States.{SpoolView}
use Rattle.st_spool.specs.Standing.{StandsFor}
use Rattle.st_spool.proofs.Published.{published_stands, published_images, unsettled_stands, settled_stands, unsettled_images, settled_images, free_read}
use Rattle.st_spool.proofs.spool.Spool.publish.Goals as goal

next_more : (last floor stamp : ℕ) → stamp ≡ max floor (last + 1) → last < stamp
next_more last floor stamp e = omega arith

was_pushed : {E : Type 0} (r : Result (Unit {0}) E) (xs a b : List ℕ) → IsOk r → xs ≡ (if is_ok r then a else b) → xs ≡ a
was_pushed {E = E} (Ok v) xs a b ok e = e
was_pushed {E = E} (Err v) xs a b ok e = cc

at_before : (old new : Option Log) (t : ℕ) (f : Files) (x : Stopped) → x ≡ Before → ((l : Log) (rows : ℕ → Row) → old ≡ Some l → Each l (Has rows) → rows t ≡ Free → SettlesPair l new rows t f (Err x))
    → (l : Log) (rows : ℕ → Row) → old ≡ Some l → Each l (Has rows) → rows t ≡ Free → RanBy l new [] (set_row rows t (Half f)) (set_row rows t (Half f))
at_before old new t f x is placed l rows known each free = subst (λ (y : Stopped). SettlesPair l new rows t f (Err y)) is (placed l rows known each free)

at_after : (old new : Option Log) (t : ℕ) (f : Files) (x : Stopped) → x ≡ After → ((l : Log) (rows : ℕ → Row) → old ≡ Some l → Each l (Has rows) → rows t ≡ Free → SettlesPair l new rows t f (Err x))
    → (l : Log) (rows : ℕ → Row) → old ≡ Some l → Each l (Has rows) → rows t ≡ Free → RanBy l new (Publish (entry t f) ∷ []) (set_row rows t (Coming f)) (set_row rows t (Coming f)) × Reads new (Block t) (λ v. v ≡ Some f.block) × Reads new (Index t) (λ v. v ≡ Some f.index)
at_after old new t f x is placed l rows known each free = subst (λ (y : Stopped). SettlesPair l new rows t f (Err y)) is (placed l rows known each free)

has_room : (cap len : ℕ) → 0 < cap - len → len < cap
has_room cap len h = omega arith

some_more : (n m : ℕ) → m ≡ min (n + 1) (2 ^ 64 - 1) → 0 < m
some_more n m e = omega arith

pub settle_pair-requires-clause-free : goal.settle_pair-requires-clause-free
settle_pair-requires-clause-free g c =
    let i = c.self.invariant in
    free_read g.W.PairRule.is_whole (g.D.Shelf.log c.self.inside.shelf) (g.D.Shelf.log c.self.inside.shelf) _ i.0 i.1 i.2 (files [] []) c.max-stamp.result i.3 c.in_default.is (next_more _ _ _ c.max-stamp.ensures)

pub invariant_of-self : goal.invariant_of-self
invariant_of-self g c =
    let i = c.self.invariant in
    let D = g.D.Shelf in
    let f = files (given (g.D.Draft.Draft.sealed_bytes c.args.pair.block)) (given (g.D.Draft.Draft.sealed_bytes c.args.pair.index)) in
    let spare : 0 < vec_capacity c.self.inside.stamps - vec_len c.self.inside.stamps = subst (λ (s : SpoolView g.row.D.Denot). 0 < s.spare) (sym c.self.view_is) c.requires.spare in
    let pushed = was_pushed c.push.result c.push.new.self.items (c.self.inside.stamps.items ++ c.max-stamp.result ∷ []) c.self.inside.stamps.items (c.push.ensures.succeeds (has_room _ _ spare)) c.push.ensures.items in
    let whole : (l : Log) → D.log c.self.inside.shelf ≡ Some l → g.W.PairRule.is_whole f.block f.index = λ l known. c.requires.whole l (ap (λ (s : SpoolView g.row.D.Denot). D.log s.shelf) (sym c.self.view_is) ∙ known) in
    (i.0, i.1 ++ Publish (entry c.max-stamp.result f) ∷ [], i.2, published_stands g.W.PairRule.is_whole (D.log c.self.inside.shelf) (D.log c.settle_pair.new.shelf) _ i.0 i.1 i.2 f c.max-stamp.result i.3 c.in_default.is (next_more _ _ _ c.max-stamp.ensures) c.push.new.self.items pushed whole c.settle_pair.ensures.known c.in-Ok.ensures.placed)

pub invariant_of-self-in-Err-Before : goal.invariant_of-self-in-Err-Before
invariant_of-self-in-Err-Before g c =
    let i = c.self.invariant in
    let D = g.D.Shelf in
    let f = files (given (g.D.Draft.Draft.sealed_bytes c.args.pair.block)) (given (g.D.Draft.Draft.sealed_bytes c.args.pair.index)) in
    let whole : (l : Log) → D.log c.self.inside.shelf ≡ Some l → g.W.PairRule.is_whole f.block f.index = λ l known. c.requires.whole l (ap (λ (s : SpoolView g.row.D.Denot). D.log s.shelf) (sym c.self.view_is) ∙ known) in
    (i.0, i.1, f, unsettled_stands g.W.PairRule.is_whole (D.log c.self.inside.shelf) (D.log c.settle_pair.new.shelf) _ i.0 i.1 i.2 f c.max-stamp.result i.3 c.in_default.is (next_more _ _ _ c.max-stamp.ensures) c.fault_count.result _ (some_more _ _ c.saturating_add-self-inside.ensures) whole c.settle_pair.ensures.known (at_before (D.log c.self.inside.shelf) (D.log c.settle_pair.new.shelf) c.max-stamp.result f c.in-Err-Before.field-0 c.in-Err-Before.field-0-is c.in-Err-Before.ensures.placed))

pub invariant_of-self-in-Err-After : goal.invariant_of-self-in-Err-After
invariant_of-self-in-Err-After g c =
    let i = c.self.invariant in
    let D = g.D.Shelf in
    let f = files (given (g.D.Draft.Draft.sealed_bytes c.args.pair.block)) (given (g.D.Draft.Draft.sealed_bytes c.args.pair.index)) in
    let whole : (l : Log) → D.log c.self.inside.shelf ≡ Some l → g.W.PairRule.is_whole f.block f.index = λ l known. c.requires.whole l (ap (λ (s : SpoolView g.row.D.Denot). D.log s.shelf) (sym c.self.view_is) ∙ known) in
    (i.0, i.1, f, settled_stands g.W.PairRule.is_whole (D.log c.self.inside.shelf) (D.log c.settle_pair.new.shelf) _ i.0 i.1 i.2 f c.max-stamp.result i.3 c.in_default.is (next_more _ _ _ c.max-stamp.ensures) c.fault_count-in-Err-After.result _ (some_more _ _ c.saturating_add-self-inside-in-Err-After.ensures) whole c.settle_pair.ensures.known (at_after (D.log c.self.inside.shelf) (D.log c.settle_pair.new.shelf) c.max-stamp.result f c.in-Err-After.field-0 c.in-Err-After.field-0-is c.in-Err-After.ensures.placed))

pub returns-in-Ok-clause-published : goal.returns-in-Ok-clause-published
returns-in-Ok-clause-published g c = λ earlier h k may stands.
    let i = c.self.invariant in
    let D = g.D.Shelf in
    let f = files (given (g.D.Draft.Draft.sealed_bytes c.args.pair.block)) (given (g.D.Draft.Draft.sealed_bytes c.args.pair.index)) in
    let whole : (l : Log) → D.log c.self.inside.shelf ≡ Some l → g.W.PairRule.is_whole f.block f.index = λ l known. c.requires.whole l (ap (λ (s : SpoolView g.row.D.Denot). D.log s.shelf) (sym c.self.view_is) ∙ known) in
    let spare : 0 < vec_capacity c.self.inside.stamps - vec_len c.self.inside.stamps = subst (λ (s : SpoolView g.row.D.Denot). 0 < s.spare) (sym c.self.view_is) c.requires.spare in
    let pushed = was_pushed c.push.result c.push.new.self.items (c.self.inside.stamps.items ++ c.max-stamp.result ∷ []) c.self.inside.stamps.items (c.push.ensures.succeeds (has_room _ _ spare)) c.push.ensures.items in
    let here = subst (λ (s : SpoolView g.row.D.Denot). StandsFor g.W.PairRule.is_whole (D.log s.shelf) s.state earlier h k) (sym c.self.view_is) stands in
    record {
      known = subst (λ (s : SpoolView g.row.D.Denot). KnownBefore (D.log s.shelf) (D.log c.settle_pair.new.shelf)) c.self.view_is c.settle_pair.ensures.known;
      stands = published_stands g.W.PairRule.is_whole (D.log c.self.inside.shelf) (D.log c.settle_pair.new.shelf) _ earlier h k f c.max-stamp.result here c.in_default.is (next_more _ _ _ c.max-stamp.ensures) c.push.new.self.items pushed whole c.settle_pair.ensures.known c.in-Ok.ensures.placed;
      images = λ l known. published_images g.W.PairRule.is_whole (D.log c.self.inside.shelf) (D.log c.settle_pair.new.shelf) _ earlier h k f c.max-stamp.result here c.in_default.is (next_more _ _ _ c.max-stamp.ensures) l (ap (λ (s : SpoolView g.row.D.Denot). D.log s.shelf) c.self.view_is ∙ known) c.in-Ok.ensures.placed;
    }

pub returns-in-Err-Before-clause-published : goal.returns-in-Err-Before-clause-published
returns-in-Err-Before-clause-published g c = λ earlier h k may stands.
    let i = c.self.invariant in
    let D = g.D.Shelf in
    let f = files (given (g.D.Draft.Draft.sealed_bytes c.args.pair.block)) (given (g.D.Draft.Draft.sealed_bytes c.args.pair.index)) in
    let whole : (l : Log) → D.log c.self.inside.shelf ≡ Some l → g.W.PairRule.is_whole f.block f.index = λ l known. c.requires.whole l (ap (λ (s : SpoolView g.row.D.Denot). D.log s.shelf) (sym c.self.view_is) ∙ known) in
    let here = subst (λ (s : SpoolView g.row.D.Denot). StandsFor g.W.PairRule.is_whole (D.log s.shelf) s.state earlier h k) (sym c.self.view_is) stands in
    record {
      known = subst (λ (s : SpoolView g.row.D.Denot). KnownBefore (D.log s.shelf) (D.log c.settle_pair.new.shelf)) c.self.view_is c.settle_pair.ensures.known;
      stands = unsettled_stands g.W.PairRule.is_whole (D.log c.self.inside.shelf) (D.log c.settle_pair.new.shelf) _ earlier h k f c.max-stamp.result here c.in_default.is (next_more _ _ _ c.max-stamp.ensures) c.fault_count.result _ (some_more _ _ c.saturating_add-self-inside.ensures) whole c.settle_pair.ensures.known (at_before (D.log c.self.inside.shelf) (D.log c.settle_pair.new.shelf) c.max-stamp.result f c.in-Err-Before.field-0 c.in-Err-Before.field-0-is c.in-Err-Before.ensures.placed);
      images = λ l known. unsettled_images g.W.PairRule.is_whole (D.log c.self.inside.shelf) (D.log c.settle_pair.new.shelf) _ earlier h k f c.max-stamp.result here c.in_default.is (next_more _ _ _ c.max-stamp.ensures) l (ap (λ (s : SpoolView g.row.D.Denot). D.log s.shelf) c.self.view_is ∙ known) (at_before (D.log c.self.inside.shelf) (D.log c.settle_pair.new.shelf) c.max-stamp.result f c.in-Err-Before.field-0 c.in-Err-Before.field-0-is c.in-Err-Before.ensures.placed);
    }

pub returns-in-Err-After-clause-published : goal.returns-in-Err-After-clause-published
returns-in-Err-After-clause-published g c = λ earlier h k may stands.
    let i = c.self.invariant in
    let D = g.D.Shelf in
    let f = files (given (g.D.Draft.Draft.sealed_bytes c.args.pair.block)) (given (g.D.Draft.Draft.sealed_bytes c.args.pair.index)) in
    let whole : (l : Log) → D.log c.self.inside.shelf ≡ Some l → g.W.PairRule.is_whole f.block f.index = λ l known. c.requires.whole l (ap (λ (s : SpoolView g.row.D.Denot). D.log s.shelf) (sym c.self.view_is) ∙ known) in
    let here = subst (λ (s : SpoolView g.row.D.Denot). StandsFor g.W.PairRule.is_whole (D.log s.shelf) s.state earlier h k) (sym c.self.view_is) stands in
    record {
      known = subst (λ (s : SpoolView g.row.D.Denot). KnownBefore (D.log s.shelf) (D.log c.settle_pair.new.shelf)) c.self.view_is c.settle_pair.ensures.known;
      stands = settled_stands g.W.PairRule.is_whole (D.log c.self.inside.shelf) (D.log c.settle_pair.new.shelf) _ earlier h k f c.max-stamp.result here c.in_default.is (next_more _ _ _ c.max-stamp.ensures) c.fault_count-in-Err-After.result _ (some_more _ _ c.saturating_add-self-inside-in-Err-After.ensures) whole c.settle_pair.ensures.known (at_after (D.log c.self.inside.shelf) (D.log c.settle_pair.new.shelf) c.max-stamp.result f c.in-Err-After.field-0 c.in-Err-After.field-0-is c.in-Err-After.ensures.placed);
      images = λ l known. settled_images g.W.PairRule.is_whole (D.log c.self.inside.shelf) (D.log c.settle_pair.new.shelf) _ earlier h k f c.max-stamp.result here c.in_default.is (next_more _ _ _ c.max-stamp.ensures) l (ap (λ (s : SpoolView g.row.D.Denot). D.log s.shelf) c.self.view_is ∙ known) (at_after (D.log c.self.inside.shelf) (D.log c.settle_pair.new.shelf) c.max-stamp.result f c.in-Err-After.field-0 c.in-Err-After.field-0-is c.in-Err-After.ensures.placed);
    }
