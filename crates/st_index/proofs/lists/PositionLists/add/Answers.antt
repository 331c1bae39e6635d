use Rattle.std.proofs.Common.{arith, ◌≡◌, ◌<◌, sym, subst}
use Rattle.std.proofs.lemmas.List.Elements.{All-from_get_or}
use Rattle.st_walk.specs.declared.text.Key.{Key}
use Rattle.st_walk.specs.declared.text.Key.TheVariants as key
use Rattle.st_walk.specs.Walk.{FrameHas}
use Rattle.st_index.specs.NumberedLists.{with_last}
use Rattle.st_index.specs.PositionLists.{positions_at}
use Rattle.st_index.proofs.Adding.{fresh, gained_second, gained_may}
use Rattle.st_index.proofs.Counting.{count_put}
use Rattle.st_index.proofs.lists.PositionLists.add.Goals as goal

pub put_all-requires : goal.put_all-requires
put_all-requires c k = fresh (positions_at c.args.self.now k) c.args.position (c.requires k)

pub returns-in-Err-clause-same : goal.returns-in-Err-clause-same
returns-in-Err-clause-same c k =
    let before = positions_at c.args.self.now k in
    c.take_all.ensures k before (fresh before c.args.position (c.requires k))
    (gained_may (FrameHas c.args.frame.now k) before (positions_at c.put_all.new.self k) (positions_at c.put.new.self k) c.args.position (c.in-Err.ensures.same k) (c.in_ok-put_all.ensures.gained k))

pub returns-in-Err-clause-bytes : goal.returns-in-Err-clause-bytes
returns-in-Err-clause-bytes c = All-from_get_or (λ b. b < 256) c.args.frame.now 0 (λ i _. let byte = c.type_inv.frame i in omega (arith, byte))

pub returns-clause-gained : goal.returns-clause-gained
returns-clause-gained c k =
    let s = key.Second c.args.sec in
    gained_second c.args.frame.now c.args.sec k (positions_at c.args.self.now k) (positions_at c.put_all.new.self k) (positions_at c.put.new.self k) c.args.position
    (c.requires k) (c.in_ok-put_all.ensures.gained k)
    (λ e. subst (λ (j : Key). positions_at c.put.new.self j ≡ with_last (positions_at c.put_all.new.self j) c.args.position) (sym e) c.in_default.ensures.here) (c.put.ensures.others k)

pub returns-clause-count : goal.returns-clause-count
returns-clause-count c ks apart =
    let k = key.Second c.args.sec in
    let all = c.in_ok-put_all.ensures.count ks apart in
    let second = count_put c.put_all.new.self c.put.new.self k c.args.position ks apart c.in_default.ensures.here c.put.ensures.others in
    omega (arith, all, second)

pub returns-clause-bytes : goal.returns-clause-bytes
returns-clause-bytes c = All-from_get_or (λ b. b < 256) c.args.frame.now 0 (λ i _. let byte = c.type_inv.frame i in omega (arith, byte))
