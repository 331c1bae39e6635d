use Rattle.std.proofs.Common.{◌≡◌, ℕ, ◌+◌, ◌*◌, ◌<◌, ◌≤◌, ◌∷◌, [], ◌++◌, length, refl, sym, ap, ◌∙◌, subst, arith}
use Rattle.std.specs.Io.KnownBytes.{Appends}
use Rattle.st_base.specs.Records.{Rec}
use Rattle.st_block.specs.BlockText.{room, IsShort, block_text, blocks}
use Rattle.st_index.specs.Maker.{HasRecords}
use Rattle.st_lane.specs.Filling.{FillingView, last_block, Fills}
use Rattle.st_lane.specs.contracts.filling.Filling.{the_view}
use Rattle.st_lane.proofs.Pushing.{fills_begun, fills_same, fits_empty, begun_steady}
use Rattle.st_lane.proofs.filling.Filling.begin_next.Goals as goal

pub returns-in-Err-clause-begins : goal.returns-in-Err-clause-begins
returns-in-Err-clause-begins g c rs f =
    let old : FillingView = the_view c.self.inside in
    fills_same old _ rs (subst (λ (x : FillingView). Fills x rs) (sym c.self.view_is) f) refl refl refl refl refl c.in-Err.ensures.records

pub add-requires-2 : goal.add-requires-2
add-requires-2 g c =
    let short : IsShort c.self.inside.size c.args.r = subst (λ (x : FillingView). IsShort x.size c.args.r) (sym c.self.view_is) c.requires.0 in
    let least = fits_empty c.self.inside.size c.args.r c.self.invariant.size short in
    let empty = c.put_block-written.ensures.none.used in
    let same = c.put_block-written.ensures.size in
    let whole = c.self.invariant.same in
    omega arith

pub invariant_of-self-in-Ok-written : goal.invariant_of-self-in-Ok-written
invariant_of-self-in-Ok-written g c =
    let old : FillingView = the_view c.self.inside in
    let r = c.args.r in
    let short : IsShort old.size r = subst (λ (x : FillingView). IsShort x.size r) (sym c.self.view_is) c.requires.0 in
    let some : 1 ≤ old.records = subst (λ (x : FillingView). 1 ≤ x.records) (sym c.self.view_is) c.requires.2 in
    let next : old.done + 1 < old.most = subst (λ (x : FillingView). x.done + 1 < x.most) (sym c.self.view_is) c.requires.3 in
    let empty = c.put_block-written.ensures.none.used in
    let end : c.add.new.self.end ≡ old.size * (old.done + 1) + 48 + (48 + length r.body) = c.in-Ok.ensures.end ∙ ap (λ n. n + (48 + length c.again.result.body)) c.position_in-position.ensures.value ∙ ap (λ (x : Rec). old.size * (old.done + 1) + 48 + (48 + length x.body)) c.again.ensures.same in
    let used : c.add-2.new.self.used ≡ 48 + room r = c.add-2.ensures.used ∙ ap (λ n. n + room r) empty in
    let count = c.add-2.ensures.count in
    begun_steady old _ r c.self.invariant short some next refl refl refl (c.add-2.ensures.size ∙ c.put_block-written.ensures.size ∙ c.self.invariant.same) used (omega arith) end c.in-Ok.ensures.some (omega arith) (omega arith)

pub invariant_of-self-in-Err-written : goal.invariant_of-self-in-Err-written
invariant_of-self-in-Err-written g c =
    let old : FillingView = the_view c.self.inside in
    let r = c.args.r in
    let short : IsShort old.size r = subst (λ (x : FillingView). IsShort x.size r) (sym c.self.view_is) c.requires.0 in
    let some : 1 ≤ old.records = subst (λ (x : FillingView). 1 ≤ x.records) (sym c.self.view_is) c.requires.2 in
    let next : old.done + 1 < old.most = subst (λ (x : FillingView). x.done + 1 < x.most) (sym c.self.view_is) c.requires.3 in
    let empty = c.put_block-written.ensures.none.used in
    let end : c.add.new.self.end ≡ old.size * (old.done + 1) + 48 + (48 + length r.body) = c.in-Ok.ensures.end ∙ ap (λ n. n + (48 + length c.again.result.body)) c.position_in-position.ensures.value ∙ ap (λ (x : Rec). old.size * (old.done + 1) + 48 + (48 + length x.body)) c.again.ensures.same in
    let used : c.add-2.new.self.used ≡ 48 + room r = c.add-2.ensures.used ∙ ap (λ n. n + room r) empty in
    let count = c.add-2.ensures.count in
    begun_steady old _ r c.self.invariant short some next refl refl refl (c.add-2.ensures.size ∙ c.put_block-written.ensures.size ∙ c.self.invariant.same) used (omega arith) end c.in-Ok.ensures.some (omega arith) (omega arith)

pub returns-in-Ok-written-clause-begins : goal.returns-in-Ok-written-clause-begins
returns-in-Ok-written-clause-begins g c rs f =
    let old : FillingView = the_view c.self.inside in
    let r = c.args.r in
    let was : Fills old rs = subst (λ (x : FillingView). Fills x rs) (sym c.self.view_is) f in
    let short : IsShort old.size r = subst (λ (x : FillingView). IsShort x.size r) (sym c.self.view_is) c.requires.0 in
    let some : 1 ≤ old.records = subst (λ (x : FillingView). 1 ≤ x.records) (sym c.self.view_is) c.requires.2 in
    let full : old.size < old.here.used + room r = subst (λ (x : FillingView). x.size < x.here.used + room r) (sym c.self.view_is) c.requires.1 in
    let next : old.done + 1 < old.most = subst (λ (x : FillingView). x.done + 1 < x.most) (sym c.self.view_is) c.requires.3 in
    let fills = fills_begun old _ rs r was c.again.ensures.range short some full next refl refl refl refl
    (c.add-2.ensures.records [] c.put_block-written.ensures.none)
    (λ given h. subst (λ (p : ℕ). HasRecords c.add.new.self (given ++ (p, r) ∷ [])) c.position_in-position.ensures.value (subst (λ (x : Rec). HasRecords c.add.new.self (given ++ (c.position_in-position.result, x) ∷ [])) c.again.ensures.same (c.in-Ok.ensures.records given h))) in
    let put = c.in-Ok-written.ensures.bytes (last_block (blocks old.size rs)) was.here in
    let at : ℕ → FillingView → Type 0 = λ n x. Appends (g.S.Sink.written c.args.sink.now) (g.S.Sink.written c.put_block-written.new.sink) (block_text n x.done (last_block (blocks x.size rs))) in
    (fills, subst (λ (x : FillingView). at x.size x) c.self.view_is (subst (λ (n : ℕ). at n old) c.self.invariant.same put))
