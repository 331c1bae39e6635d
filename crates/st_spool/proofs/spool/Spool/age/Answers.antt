use Rattle.std.proofs.Common.{◌≡◌, ◌<◌, ◌-◌, ◌+◌, ◌^◌, min, ℕ, ◌∷◌, [], ◌++◌, length, Option, Some, None, Err, subst, arith}
use Rattle.std.proofs.lemmas.List.{get_or_read}
use Rattle.st_disk.specs.declared.naming.Name.TheVariants.{Index}
use Rattle.st_disk.specs.Disks.{Log}
use Rattle.st_disk.specs.LoggedCalls.{Reads}
use Rattle.st_disk.specs.Runs.{Each}
use Rattle.st_disk.specs.Pairs.{Files}
use Rattle.st_disk.specs.Events.{Remove}
use Rattle.st_disk.proofs.Runs.{known_then}
use Rattle.st_spool.specs.Rows.{Row, Pair, Going, Has, set_row, RanBy}
use Rattle.st_spool.specs.declared.settling.Stopped.{Stopped}
use Rattle.st_spool.specs.declared.settling.Stopped.TheVariants.{Before, After}
use Rattle.st_spool.specs.Settling.{Hidden}
use Rattle.st_spool.proofs.Kept.{stands_from, fails_moved, removes_moved, stopped_before, stopped_after}
use Rattle.st_spool.proofs.AgedStates.{leaving, leaving_as, there_read, parked_free, aged_run, aged_found, aged_stands, aged_images, unhidden_fails, hidden_fails}
use Rattle.st_spool.proofs.spool.Spool.age.Goals as goal

at_before : (old new : Option Log) (t : ℕ) (x : Stopped) → x ≡ Before → ((l : Log) (rows : ℕ → Row) (f : Files) → old ≡ Some l → Each l (Has rows) → rows t ≡ Pair f → Hidden l new rows t f (Err x)) → (l : Log) (rows : ℕ → Row) (f : Files) → old ≡ Some l → Each l (Has rows) → rows t ≡ Pair f → RanBy l new [] rows rows
at_before old new t x is hidden l rows f known each pair = subst (λ (y : Stopped). Hidden l new rows t f (Err y)) is (hidden l rows f known each pair)

at_after : (old new : Option Log) (t : ℕ) (x : Stopped) → x ≡ After → ((l : Log) (rows : ℕ → Row) (f : Files) → old ≡ Some l → Each l (Has rows) → rows t ≡ Pair f → Hidden l new rows t f (Err x)) → (l : Log) (rows : ℕ → Row) (f : Files) → old ≡ Some l → Each l (Has rows) → rows t ≡ Pair f → RanBy l new (Remove t ∷ []) (set_row rows t (Going f)) (set_row rows t (Going f)) × Reads new (Index t) (λ v. v ≡ None)
at_after old new t x is hidden l rows f known each pair = subst (λ (y : Stopped). Hidden l new rows t f (Err y)) is (hidden l rows f known each pair)

over_limit : (limit all n g : ℕ) → all ≡ n → limit < all - g → limit < n - g
over_limit limit all n g same lt = omega arith

has_more : (limit all n g : ℕ) → all ≡ n → limit < all - g → g < n
has_more limit all n g same lt = omega arith

some_more : (n m : ℕ) → m ≡ min (n + 1) (2 ^ 64 - 1) → 0 < m
some_more n m e = omega arith

pub hide_out-requires-clause-there : goal.hide_out-requires-clause-there
hide_out-requires-clause-there g c =
    let W = g.W.PairRule.is_whole in
    let D = g.D.Shelf in
    let i = c.self.invariant in
    let long : c.len-count.result ≡ length c.self.inside.stamps.items = omega (arith, c.self.inside.stamps.ok.0) in
    let over = over_limit _ _ _ _ long c.if-count-self.false in
    let at = get_or_read c.self.inside.stamps.items c.self.inside.removed _ (has_more _ _ _ _ long c.if-count-self.false) c.index-stamp.ensures 0 in
    let r = leaving W (D.log c.self.inside.shelf) _ i.0 i.1 i.2 c.index-stamp.result.now i.3 over at in
    there_read W (D.log c.self.inside.shelf) _ i.0 i.1 i.2 c.index-stamp.result.now i.3 c.in_default.is r.0 r.1 r.2 r.3

pub hide_out-requires-clause-free : goal.hide_out-requires-clause-free
hide_out-requires-clause-free g c =
    let W = g.W.PairRule.is_whole in
    let D = g.D.Shelf in
    let i = c.self.invariant in
    let long : c.len-count.result ≡ length c.self.inside.stamps.items = omega (arith, c.self.inside.stamps.ok.0) in
    let over = over_limit _ _ _ _ long c.if-count-self.false in
    let at = get_or_read c.self.inside.stamps.items c.self.inside.removed _ (has_more _ _ _ _ long c.if-count-self.false) c.index-stamp.ensures 0 in
    let r = leaving W (D.log c.self.inside.shelf) _ i.0 i.1 i.2 c.index-stamp.result.now i.3 over at in
    parked_free W (D.log c.self.inside.shelf) _ i.0 i.1 i.2 c.index-stamp.result.now i.3 c.in_default.is r.0 r.1 r.2 r.3

pub invariant_of-self : goal.invariant_of-self
invariant_of-self g c =
    let W = g.W.PairRule.is_whole in
    let D = g.D.Shelf in
    let i = c.self.invariant in
    let long : c.len-count.result ≡ length c.self.inside.stamps.items = omega (arith, c.self.inside.stamps.ok.0) in
    let over = over_limit _ _ _ _ long c.if-count-self.false in
    let at = get_or_read c.self.inside.stamps.items c.self.inside.removed _ (has_more _ _ _ _ long c.if-count-self.false) c.index-stamp.ensures 0 in
    let r = leaving W (D.log c.self.inside.shelf) _ i.0 i.1 i.2 c.index-stamp.result.now i.3 over at in
    (i.0, i.1 ++ Remove c.index-stamp.result.now ∷ [], i.2, aged_stands W (D.log c.self.inside.shelf) _ i.0 i.1 i.2 c.index-stamp.result.now i.3 c.in_default.is r.0 r.1 r.2 r.3 (D.log c.sweep-self-inside.new.shelf) (known_then (D.log c.self.inside.shelf) (D.log c.hide_out.new.shelf) (D.log c.sweep-self-inside.new.shelf) c.hide_out.ensures.known c.sweep-self-inside.ensures.known) (aged_run W (D.log c.self.inside.shelf) _ i.0 i.1 i.2 c.index-stamp.result.now i.3 c.in_default.is r.0 r.1 r.2 r.3 (D.log c.hide_out.new.shelf) (D.log c.sweep-self-inside.new.shelf) c.as_slice.result.now c.as_slice-in-Ok.result.now c.as_slice.ensures.value c.as_slice-in-Ok.ensures.value r.5 c.in-Ok.ensures.hidden c.sweep-self-inside.ensures.swept) (aged_found W (D.log c.self.inside.shelf) _ i.0 i.1 i.2 c.index-stamp.result.now i.3 c.in_default.is r.0 r.1 r.2 r.3 (D.log c.hide_out.new.shelf) (D.log c.sweep-self-inside.new.shelf) c.as_slice.result.now c.as_slice-in-Ok.result.now c.as_slice.ensures.value c.as_slice-in-Ok.ensures.value r.5 c.in-Ok.ensures.hidden c.sweep-self-inside.ensures.swept) r.4 r.5 c.sweep-self-inside.result)

pub invariant_of-self-in-Err-Before : goal.invariant_of-self-in-Err-Before
invariant_of-self-in-Err-Before g c =
    let W = g.W.PairRule.is_whole in
    let D = g.D.Shelf in
    let i = c.self.invariant in
    let long : c.len-count.result ≡ length c.self.inside.stamps.items = omega (arith, c.self.inside.stamps.ok.0) in
    let over = over_limit _ _ _ _ long c.if-count-self.false in
    let at = get_or_read c.self.inside.stamps.items c.self.inside.removed _ (has_more _ _ _ _ long c.if-count-self.false) c.index-stamp.ensures 0 in
    let r = leaving W (D.log c.self.inside.shelf) _ i.0 i.1 i.2 c.index-stamp.result.now i.3 over at in
    (i.0, i.1, _, (unhidden_fails W (D.log c.self.inside.shelf) _ i.0 i.1 i.2 c.index-stamp.result.now i.3 c.in_default.is r.0 r.1 r.2 r.3 (D.log c.hide_out.new.shelf) c.hide_out.ensures.known r.4 c.fault_count.result _ (some_more _ _ c.saturating_add-self-inside.ensures) (at_before (D.log c.self.inside.shelf) (D.log c.hide_out.new.shelf) c.index-stamp.result.now c.in-Err-Before.field-0 c.in-Err-Before.field-0-is c.in-Err-Before.ensures.hidden)).stands)

pub invariant_of-self-in-Err-After : goal.invariant_of-self-in-Err-After
invariant_of-self-in-Err-After g c =
    let W = g.W.PairRule.is_whole in
    let D = g.D.Shelf in
    let i = c.self.invariant in
    let long : c.len-count.result ≡ length c.self.inside.stamps.items = omega (arith, c.self.inside.stamps.ok.0) in
    let over = over_limit _ _ _ _ long c.if-count-self.false in
    let at = get_or_read c.self.inside.stamps.items c.self.inside.removed _ (has_more _ _ _ _ long c.if-count-self.false) c.index-stamp.ensures 0 in
    let r = leaving W (D.log c.self.inside.shelf) _ i.0 i.1 i.2 c.index-stamp.result.now i.3 over at in
    (i.0, i.1, _, (hidden_fails W (D.log c.self.inside.shelf) _ i.0 i.1 i.2 c.index-stamp.result.now i.3 c.in_default.is r.0 r.1 r.2 r.3 (D.log c.hide_out.new.shelf) c.hide_out.ensures.known r.4 c.fault_count-in-Err-After.result _ (some_more _ _ c.saturating_add-self-inside-in-Err-After.ensures) (at_after (D.log c.self.inside.shelf) (D.log c.hide_out.new.shelf) c.index-stamp.result.now c.in-Err-After.field-0 c.in-Err-After.field-0-is c.in-Err-After.ensures.hidden)).stands)

pub returns-in-Ok-clause-aged : goal.returns-in-Ok-clause-aged
returns-in-Ok-clause-aged g c = λ earlier h k e after may stands first.
    let W = g.W.PairRule.is_whole in
    let D = g.D.Shelf in
    let i = c.self.invariant in
    let long : c.len-count.result ≡ length c.self.inside.stamps.items = omega (arith, c.self.inside.stamps.ok.0) in
    let over = over_limit _ _ _ _ long c.if-count-self.false in
    let at = get_or_read c.self.inside.stamps.items c.self.inside.removed _ (has_more _ _ _ _ long c.if-count-self.false) c.index-stamp.ensures 0 in
    let here = stands_from W D.log _ _ earlier h k c.self.view_is stands in
    let r = leaving_as W (D.log c.self.inside.shelf) _ earlier h k c.index-stamp.result.now e after here over at first in
    removes_moved W D.log _ _ (D.log c.sweep-self-inside.new.shelf) _ earlier h k e c.index-stamp.result.now c.self.view_is r.1
    (known_then (D.log c.self.inside.shelf) (D.log c.hide_out.new.shelf) (D.log c.sweep-self-inside.new.shelf) c.hide_out.ensures.known c.sweep-self-inside.ensures.known)
    (aged_stands W (D.log c.self.inside.shelf) _ earlier h k c.index-stamp.result.now here c.in_default.is e after r.0 r.1 (D.log c.sweep-self-inside.new.shelf) (known_then (D.log c.self.inside.shelf) (D.log c.hide_out.new.shelf) (D.log c.sweep-self-inside.new.shelf) c.hide_out.ensures.known c.sweep-self-inside.ensures.known) (aged_run W (D.log c.self.inside.shelf) _ earlier h k c.index-stamp.result.now here c.in_default.is e after r.0 r.1 (D.log c.hide_out.new.shelf) (D.log c.sweep-self-inside.new.shelf) c.as_slice.result.now c.as_slice-in-Ok.result.now c.as_slice.ensures.value c.as_slice-in-Ok.ensures.value r.3 c.in-Ok.ensures.hidden c.sweep-self-inside.ensures.swept) (aged_found W (D.log c.self.inside.shelf) _ earlier h k c.index-stamp.result.now here c.in_default.is e after r.0 r.1 (D.log c.hide_out.new.shelf) (D.log c.sweep-self-inside.new.shelf) c.as_slice.result.now c.as_slice-in-Ok.result.now c.as_slice.ensures.value c.as_slice-in-Ok.ensures.value r.3 c.in-Ok.ensures.hidden c.sweep-self-inside.ensures.swept) r.2 r.3 c.sweep-self-inside.result)
    (aged_images W (D.log c.self.inside.shelf) _ earlier h k c.index-stamp.result.now here c.in_default.is e after r.0 r.1 (D.log c.sweep-self-inside.new.shelf) (known_then (D.log c.self.inside.shelf) (D.log c.hide_out.new.shelf) (D.log c.sweep-self-inside.new.shelf) c.hide_out.ensures.known c.sweep-self-inside.ensures.known) (aged_run W (D.log c.self.inside.shelf) _ earlier h k c.index-stamp.result.now here c.in_default.is e after r.0 r.1 (D.log c.hide_out.new.shelf) (D.log c.sweep-self-inside.new.shelf) c.as_slice.result.now c.as_slice-in-Ok.result.now c.as_slice.ensures.value c.as_slice-in-Ok.ensures.value r.3 c.in-Ok.ensures.hidden c.sweep-self-inside.ensures.swept) (aged_found W (D.log c.self.inside.shelf) _ earlier h k c.index-stamp.result.now here c.in_default.is e after r.0 r.1 (D.log c.hide_out.new.shelf) (D.log c.sweep-self-inside.new.shelf) c.as_slice.result.now c.as_slice-in-Ok.result.now c.as_slice.ensures.value c.as_slice-in-Ok.ensures.value r.3 c.in-Ok.ensures.hidden c.sweep-self-inside.ensures.swept) r.2 r.3)

pub returns-in-Err-Before-clause-aged : goal.returns-in-Err-Before-clause-aged
returns-in-Err-Before-clause-aged g c = λ earlier h k e after may stands first.
    let W = g.W.PairRule.is_whole in
    let D = g.D.Shelf in
    let i = c.self.invariant in
    let long : c.len-count.result ≡ length c.self.inside.stamps.items = omega (arith, c.self.inside.stamps.ok.0) in
    let over = over_limit _ _ _ _ long c.if-count-self.false in
    let at = get_or_read c.self.inside.stamps.items c.self.inside.removed _ (has_more _ _ _ _ long c.if-count-self.false) c.index-stamp.ensures 0 in
    let here = stands_from W D.log _ _ earlier h k c.self.view_is stands in
    let r = leaving_as W (D.log c.self.inside.shelf) _ earlier h k c.index-stamp.result.now e after here over at first in
    record {
      fails = fails_moved W D.log _ _ (D.log c.hide_out.new.shelf) _ earlier h _ c.self.view_is
          (unhidden_fails W (D.log c.self.inside.shelf) _ earlier h k c.index-stamp.result.now here c.in_default.is e after r.0 r.1 (D.log c.hide_out.new.shelf) c.hide_out.ensures.known r.2 c.fault_count.result _ (some_more _ _ c.saturating_add-self-inside.ensures) (at_before (D.log c.self.inside.shelf) (D.log c.hide_out.new.shelf) c.index-stamp.result.now c.in-Err-Before.field-0 c.in-Err-Before.field-0-is c.in-Err-Before.ensures.hidden));
      stopped = stopped_before D.log _ _ (D.log c.hide_out.new.shelf) c.index-stamp.result.now c.in-Err-Before.field-0 c.self.view_is c.in-Err-Before.field-0-is c.in-Err-Before.ensures.stopped;
    }

pub returns-in-Err-After-clause-aged : goal.returns-in-Err-After-clause-aged
returns-in-Err-After-clause-aged g c = λ earlier h k e after may stands first.
    let W = g.W.PairRule.is_whole in
    let D = g.D.Shelf in
    let i = c.self.invariant in
    let long : c.len-count.result ≡ length c.self.inside.stamps.items = omega (arith, c.self.inside.stamps.ok.0) in
    let over = over_limit _ _ _ _ long c.if-count-self.false in
    let at = get_or_read c.self.inside.stamps.items c.self.inside.removed _ (has_more _ _ _ _ long c.if-count-self.false) c.index-stamp.ensures 0 in
    let here = stands_from W D.log _ _ earlier h k c.self.view_is stands in
    let r = leaving_as W (D.log c.self.inside.shelf) _ earlier h k c.index-stamp.result.now e after here over at first in
    record {
      fails = fails_moved W D.log _ _ (D.log c.hide_out.new.shelf) _ earlier h _ c.self.view_is
          (hidden_fails W (D.log c.self.inside.shelf) _ earlier h k c.index-stamp.result.now here c.in_default.is e after r.0 r.1 (D.log c.hide_out.new.shelf) c.hide_out.ensures.known r.2 c.fault_count-in-Err-After.result _ (some_more _ _ c.saturating_add-self-inside-in-Err-After.ensures) (at_after (D.log c.self.inside.shelf) (D.log c.hide_out.new.shelf) c.index-stamp.result.now c.in-Err-After.field-0 c.in-Err-After.field-0-is c.in-Err-After.ensures.hidden));
      stopped = stopped_after D.log _ _ (D.log c.hide_out.new.shelf) c.index-stamp.result.now c.in-Err-After.field-0 c.self.view_is c.in-Err-After.field-0-is c.in-Err-After.ensures.stopped;
    }
