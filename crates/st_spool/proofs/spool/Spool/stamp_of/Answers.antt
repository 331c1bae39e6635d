use Rattle.std.proofs.Common.{◌≡◌, ◌+◌, ◌∷◌, drop, sym, subst, arith}
use Rattle.std.proofs.lemmas.List.{get_or_read}
use Rattle.st_spool.specs.States.{held}
use Rattle.st_spool.specs.declared.state.Span.{Span}
use Rattle.st_spool.proofs.Kept.{stands_from}
use Rattle.st_spool.proofs.Holds.{held_here, size_here, in_list, in_stamps, held_entry, stamp_at}
use Rattle.st_spool.proofs.spool.Spool.stamp_of.Goals as goal

pub overflow_add-hold-inside : goal.overflow_add-hold-inside
overflow_add-hold-inside g c =
    let W = g.W.PairRule.is_whole in
    let D = g.D.Shelf in
    let i = c.self.invariant in
    let span = c.hold.inside.span in
    let has = held_here _ _ span c.args.hold.now c.self.view_is c.hold.view_is c.requires.held in
    let small = size_here span c.args.hold.now c.args.i c.hold.view_is c.requires.within in
    let lt = in_stamps W (D.log c.self.inside.shelf) _ i.0 i.1 i.2 span c.args.i i.3 has small in
    omega (arith, c.self.inside.stamps.ok.0)

pub index-requires : goal.index-requires
index-requires g c =
    let W = g.W.PairRule.is_whole in
    let D = g.D.Shelf in
    let i = c.self.invariant in
    let span = c.hold.inside.span in
    let has = held_here _ _ span c.args.hold.now c.self.view_is c.hold.view_is c.requires.held in
    let small = size_here span c.args.hold.now c.args.i c.hold.view_is c.requires.within in
    let lt = in_stamps W (D.log c.self.inside.shelf) _ i.0 i.1 i.2 span c.args.i i.3 has small in
    omega (arith, c.self.inside.stamps.ok.0)

pub returns : goal.returns
returns g c = λ earlier h k e after stands at.
    let W = g.W.PairRule.is_whole in
    let D = g.D.Shelf in
    let i = c.self.invariant in
    let span = c.hold.inside.span in
    let has = held_here _ _ span c.args.hold.now c.self.view_is c.hold.view_is c.requires.held in
    let small = size_here span c.args.hold.now c.args.i c.hold.view_is c.requires.within in
    let lt = in_stamps W (D.log c.self.inside.shelf) _ i.0 i.1 i.2 span c.args.i i.3 has small in
    let here = stands_from W D.log _ _ earlier h k c.self.view_is stands in
    let r = held_entry span h c.args.i e after (subst (λ (s : Span). drop c.args.i (held s h) ≡ e ∷ after) (sym c.hold.view_is) at) in
    stamp_at W (D.log c.self.inside.shelf) _ earlier h k (span.from + c.args.i) c.index.result.now e r.0 here (in_list W (D.log c.self.inside.shelf) _ earlier h k span c.args.i here has small) r.1 (get_or_read c.self.inside.stamps.items (span.from + c.args.i) _ lt c.index.ensures 0)
