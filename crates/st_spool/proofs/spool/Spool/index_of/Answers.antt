use Rattle.std.proofs.Common.{◌≡◌, ◌+◌, ℕ, ◌∷◌, drop, Some, sym, ◌∙◌, ap, subst, arith}
use Rattle.st_disk.specs.Disks.{reads}
use Rattle.st_spool.proofs.Kept.{keeps_some, keeps_from, stands_from, known_from, other_keeps}
use Rattle.std.proofs.lemmas.List.{get_or_read}
use Rattle.st_spool.specs.States.{held}
use Rattle.st_spool.specs.declared.state.Span.{Span}
use Rattle.st_spool.specs.Holding.{is_parked, index_name}
use Rattle.st_spool.proofs.Holds.{held_here, size_here, in_list, in_stamps, held_entry, stamp_at, entry_at, held_index, is_there, shown}
use Rattle.st_spool.proofs.spool.Spool.index_of.Goals as goal

pub invariant_of-self : goal.invariant_of-self
invariant_of-self g c = keeps_some g.W.PairRule.is_whole (g.D.Shelf.log c.self.inside.shelf) (g.D.Shelf.log c.reader.new.self) _ (other_keeps (g.D.Shelf.log c.self.inside.shelf) (g.D.Shelf.log c.reader.new.self) c.reader.result c.reader.ensures.log) c.self.invariant

pub returns-clause-keeps : goal.returns-clause-keeps
returns-clause-keeps g c = λ earlier h k stands. keeps_from g.W.PairRule.is_whole g.D.Shelf.log _ _ (g.D.Shelf.log c.reader.new.self) earlier h k c.self.view_is (other_keeps (g.D.Shelf.log c.self.inside.shelf) (g.D.Shelf.log c.reader.new.self) c.reader.result c.reader.ensures.log) stands

pub overflow_add-place : goal.overflow_add-place
overflow_add-place g c =
    let W = g.W.PairRule.is_whole in
    let D = g.D.Shelf in
    let i = c.self.invariant in
    let span = c.hold.inside.span in
    let has = held_here _ _ span c.args.hold.now c.self.view_is c.hold.view_is c.requires.held in
    let small = size_here span c.args.hold.now c.args.i c.hold.view_is c.requires.within in
    let lt = in_stamps W (D.log c.self.inside.shelf) _ i.0 i.1 i.2 span c.args.i i.3 has small in
    omega (arith, c.self.inside.stamps.ok.0)

pub index-stamp-requires : goal.index-stamp-requires
index-stamp-requires g c =
    let W = g.W.PairRule.is_whole in
    let D = g.D.Shelf in
    let i = c.self.invariant in
    let span = c.hold.inside.span in
    let has = held_here _ _ span c.args.hold.now c.self.view_is c.hold.view_is c.requires.held in
    let small = size_here span c.args.hold.now c.args.i c.hold.view_is c.requires.within in
    let lt = in_stamps W (D.log c.self.inside.shelf) _ i.0 i.1 i.2 span c.args.i i.3 has small in
    omega (arith, c.self.inside.stamps.ok.0)

pub reader-requires : goal.reader-requires
reader-requires g c =
    let W = g.W.PairRule.is_whole in
    let D = g.D.Shelf in
    let i = c.self.invariant in
    let span = c.hold.inside.span in
    let has = held_here _ _ span c.args.hold.now c.self.view_is c.hold.view_is c.requires.held in
    let small = size_here span c.args.hold.now c.args.i c.hold.view_is c.requires.within in
    let lt = in_stamps W (D.log c.self.inside.shelf) _ i.0 i.1 i.2 span c.args.i i.3 has small in
    let at = get_or_read c.self.inside.stamps.items (span.from + c.args.i) _ lt c.index-stamp.ensures 0 in
    let r = entry_at W (D.log c.self.inside.shelf) _ i.0 i.1 i.2 (span.from + c.args.i) c.index-stamp.result.now i.3 (in_list W (D.log c.self.inside.shelf) _ i.0 i.1 i.2 span c.args.i i.3 has small) at in
    record { there = λ l known. is_there (reads l c.index_file-name.result) r.0.index (ap (λ n. reads l n) c.index_file-name.ensures ∙ subst (λ (s : ℕ). reads l (index_name (is_parked c.self.inside.doubt c.self.inside.removed (span.from + c.args.i)) s) ≡ Some r.0.index) (sym r.3) (held_index W (D.log c.self.inside.shelf) _ i.0 i.1 i.2 span c.args.i i.3 has small r.0 r.1 r.2 l known)) }

pub invariant_of-self-2 : goal.invariant_of-self-2
invariant_of-self-2 g c = keeps_some g.W.PairRule.is_whole (g.D.Shelf.log c.self.inside.shelf) (g.D.Shelf.log c.reader.new.self) _ (other_keeps (g.D.Shelf.log c.self.inside.shelf) (g.D.Shelf.log c.reader.new.self) c.reader.result c.reader.ensures.log) c.self.invariant

pub returns-in_default-clause-keeps : goal.returns-in_default-clause-keeps
returns-in_default-clause-keeps g c = λ earlier h k stands. keeps_from g.W.PairRule.is_whole g.D.Shelf.log _ _ (g.D.Shelf.log c.reader.new.self) earlier h k c.self.view_is (other_keeps (g.D.Shelf.log c.self.inside.shelf) (g.D.Shelf.log c.reader.new.self) c.reader.result c.reader.ensures.log) stands

pub returns-clause-content : goal.returns-clause-content
returns-clause-content g c = λ l earlier h k e after known stands at.
    let W = g.W.PairRule.is_whole in
    let D = g.D.Shelf in
    let i = c.self.invariant in
    let span = c.hold.inside.span in
    let has = held_here _ _ span c.args.hold.now c.self.view_is c.hold.view_is c.requires.held in
    let small = size_here span c.args.hold.now c.args.i c.hold.view_is c.requires.within in
    let lt = in_stamps W (D.log c.self.inside.shelf) _ i.0 i.1 i.2 span c.args.i i.3 has small in
    let read_at = get_or_read c.self.inside.stamps.items (span.from + c.args.i) _ lt c.index-stamp.ensures 0 in
    let here = stands_from W D.log _ _ earlier h k c.self.view_is stands in
    let here_known = known_from D.log _ _ l c.self.view_is known in
    let r = held_entry span h c.args.i e after (subst (λ (s : Span). drop c.args.i (held s h) ≡ e ∷ after) (sym c.hold.view_is) at) in
    let same = stamp_at W (D.log c.self.inside.shelf) _ earlier h k (span.from + c.args.i) c.index-stamp.result.now e r.0 here (in_list W (D.log c.self.inside.shelf) _ earlier h k span c.args.i here has small) r.1 read_at in
    shown (is_parked c.self.inside.doubt c.self.inside.removed (span.from + c.args.i)) c.index-stamp.result.now c.index_file-name.result (g.D.File.Reader.content c.in-Ok.file) (reads l) c.index_file-name.ensures (c.in-Ok.ensures.content l here_known) ∙ subst (λ (s : ℕ). reads l (index_name (is_parked c.self.inside.doubt c.self.inside.removed (span.from + c.args.i)) s) ≡ Some e.index) (sym same) (held_index W (D.log c.self.inside.shelf) _ earlier h k span c.args.i here has small e r.0 r.1 l here_known)
