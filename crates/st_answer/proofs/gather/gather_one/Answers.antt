use Rattle.std.proofs.Common.{arith, ◌≡◌, ◌∷◌, [], ◌++◌, length, map, get_or, sym, ap, ◌∙◌, subst}
use Rattle.std.specs.Prelude.{All}
use Rattle.std.specs.List.{sum_by}
use Rattle.std.proofs.lemmas.List.{map_push, length-map}
use Rattle.std.proofs.lemmas.List.Elements.{All-push}
use Rattle.std.proofs.lemmas.List.Sums.{sum_by_push}
use Rattle.st_block.specs.Record.{IsRecordAt}
use Rattle.st_block.specs.Scan.{PositionedRecord}
use Rattle.st_answer.specs.Heads.{AreAt}
use Rattle.st_answer.specs.Picks.{picks_of}
use Rattle.st_answer.specs.Gathering.{HasEach}
use Rattle.st_answer.proofs.Results.{on_ok, unhurt_map}
use Rattle.st_answer.proofs.Selecting.{none_read, selected}
use Rattle.st_answer.proofs.Picking.{packets_stand}
use Rattle.st_answer.proofs.Staying.{store_trans, still_held}
use Rattle.st_answer.proofs.gather.gather_one.Goals as goal

pub returns-in-Err-clause-picks : goal.returns-in-Err-clause-picks
returns-in-Err-clause-picks g c set d told lt given whole =
    let stays = c.stamp_of-stamp.ensures.stays.others in
    let told1 = stays.set c.args.hold.now c.requires.held ∙ told in
    let reads = ap (sum_by g.S.File.Reader.reads) c.reserve.ensures.items in
    let asked = ap (sum_by g.S.File.Reader.asked) c.reserve.ensures.items in
    record {
      xs = [];
      some = none_read c.args.query.now c.args.now given;
      reads_most = omega (arith, reads);
      asked_most = omega (arith, asked);
      ends = c.in-Err.ensures.chooses set d told1 lt given whole;
    }

pub returns-clause-picks : goal.returns-clause-picks
returns-clause-picks g c set d told lt given whole =
    let reads = ap (sum_by g.S.File.Reader.reads) c.reserve.ensures.items in
    let asked = ap (sum_by g.S.File.Reader.asked) c.reserve.ensures.items in
    record {
      xs = [];
      some = none_read c.args.query.now c.args.now given;
      reads_most = omega (arith, reads);
      asked_most = omega (arith, asked);
      ends = tt;
    }

pub returns-in-Ok-block_of-clause-picks : goal.returns-in-Ok-block_of-clause-picks
returns-in-Ok-block_of-clause-picks g c set d told lt given whole =
    let h = c.args.hold.now in
    let e = get_or set c.args.i d in
    let q = c.args.query.now in
    let stays = c.stamp_of-stamp.ensures.stays.others in
    let held1 = still_held stays h c.requires.held in
    let told1 = stays.set h c.requires.held ∙ told in
    let told2 = c.choose.ensures.stays.others.set h held1 ∙ told1 in
    let stamp = c.stamp_of-stamp.ensures.stamp set d told lt in
    let sel = selected q c.args.now e.block given c.in-Ok.positions whole.file (c.in-Ok.ensures.chooses set d told1 lt given whole) in
    let content = c.in-Ok-block_of.ensures.content set d told2 lt in
    let stand = packets_stand e.block given sel.xs whole.file (λ k d' lt'. (sel.some.each k d' lt').0) in
    let at : AreAt (g.S.File.Reader.content c.in-Ok-block_of.file) c.items.result.now sel.xs = record {
      order = c.items.ensures.same ∙ sel.order;
      each = subst (λ z. All (λ (x : PositionedRecord). IsRecordAt z x.0 x.1) sel.xs) (sym content) stand;
    } in
    let count : length c.items.result.now ≡ length sel.xs = ap length (c.items.ensures.same ∙ sel.order) ∙ length-map sel.xs (λ (x : PositionedRecord). x.0) in
    let old = c.args.picked.now.items in
    let new = c.heads-result.new.picked.items in
    let file = c.heads-result.new.file in
    let reads = ap (sum_by g.S.File.Reader.reads) (c.push_reserved.ensures.items ∙ ap (λ z. z ++ file ∷ []) c.reserve.ensures.items) ∙ sum_by_push g.S.File.Reader.reads c.args.files.now.items file in
    let asked = ap (sum_by g.S.File.Reader.asked) (c.push_reserved.ensures.items ∙ ap (λ z. z ++ file ∷ []) c.reserve.ensures.items) ∙ sum_by_push g.S.File.Reader.asked c.args.files.now.items file in
    record {
      xs = sel.xs;
      some = sel.some;
      reads_most = omega (arith, reads, count, c.heads-result.ensures.reads, c.in-Ok-block_of.ensures.fresh.reads);
      asked_most = omega (arith, asked, count, c.heads-result.ensures.asked, c.in-Ok-block_of.ensures.fresh.asked);
      ends = unhurt_map (λ t. new ≡ old ++ picks_of c.args.i c.stamp_of-stamp.result sel.xs) (λ t. HasEach q c.args.now given sel.xs × (new ≡ old ++ picks_of c.args.i e.stamp sel.xs)) c.heads-result.result
          (λ t is. (sel.every, is ∙ ap (λ s. old ++ picks_of c.args.i s sel.xs) stamp)) (c.heads-result.ensures.picks sel.xs at);
    }

pub returns-in-Ok-block_of-clause-file : goal.returns-in-Ok-block_of-clause-file
returns-in-Ok-block_of-clause-file g c =
    let h = c.args.hold.now in
    let file = c.heads-result.new.file in
    let old = c.args.files.now.items in
    let stays = c.stamp_of-stamp.ensures.stays in
    let held1 = still_held stays.others h c.requires.held in
    let items = c.push_reserved.ensures.items ∙ ap (λ z. z ++ file ∷ []) c.reserve.ensures.items in
    let origin = g.met.S.Store.keeps file c.in-Ok-block_of.file c.heads-result.ensures.same.beside in
    let home = ap (λ o. o.home) origin ∙ (c.in-Ok-block_of.ensures.fresh.home ∙ (c.choose.ensures.stays.id ∙ stays.id)) in
    let id = g.S.Store.id c.args.store.now in
    record {
      at_home = λ all. subst (All (λ f. (g.S.Store.origin f).home ≡ id)) (sym items) (All-push (λ f. (g.S.Store.origin f).home ≡ id) old file all home);
      more = on_ok c.heads-result.result _ (ap length items ∙ grind (arith, Rattle.std.proofs.lemmas.Grind.common_steps));
      last = on_ok c.heads-result.result _ (λ set d told lt.
          let told1 = stays.others.set h c.requires.held ∙ told in
          let told2 = c.choose.ensures.stays.others.set h held1 ∙ told1 in
          let content = c.heads-result.ensures.same.content ∙ c.in-Ok-block_of.ensures.content set d told2 lt in
          ap (map g.S.File.Reader.content) items ∙ (map_push g.S.File.Reader.content old file ∙ ap (λ z. map g.S.File.Reader.content old ++ z ∷ []) content));
    }

pub returns-in-Ok-block_of-clause-stays : goal.returns-in-Ok-block_of-clause-stays
returns-in-Ok-block_of-clause-stays g c =
    store_trans (g.met.S.Store.becomes_later _ _ _) c.stamp_of-stamp.ensures.stays (store_trans (g.met.S.Store.becomes_later _ _ _) c.choose.ensures.stays c.block_of.ensures.stays)
