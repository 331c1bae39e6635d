use Rattle.std.proofs.Common.{◌≡◌, List, sym, subst, ap, arith}
use Rattle.st_index.specs.EntryLists.{KeyList}
use Rattle.st_index.specs.KeyLists.{key_lists, lists_left, AreLists, count_of}
use Rattle.st_index.proofs.RowsOf.{count_bound, rows_of_some}
use Rattle.st_index.proofs.row_list.RowList.new.Goals as goal

pub returns-clause-lists : goal.returns-clause-lists
returns-clause-lists c = subst (λ (xs : List KeyList). AreLists c.args.maker.now.lists xs) (sym c.new.ensures.left) c.new.ensures.all

pub returns-clause-few : goal.returns-clause-few
returns-clause-few c =
    let m = c.args.maker.now in
    let bound = count_bound m.lists m.end (key_lists m.lists) c.new.ensures.all m.few in
    let same : count_of (lists_left c.new.result) ≡ count_of (key_lists m.lists) = ap count_of c.new.ensures.left in
    let fits = m.fits in
    omega (arith, bound, same, fits)

pub returns-clause-records : goal.returns-clause-records
returns-clause-records c some given h = rows_of_some c.args.maker.now.lists c.args.maker.now.summary c.args.maker.now.end given (key_lists c.args.maker.now.lists) some c.new.ensures.all h
