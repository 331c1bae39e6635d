use Rattle.std.proofs.Common.{arith, ◌≡◌, ◌<◌, ◌+◌, ◌++◌, Some, length, get_or, map, take, ap, ◌∙◌, subst, sym}
use Rattle.std.specs.Prelude.{All}
use Rattle.std.specs.List.{sum_by}
use Rattle.std.proofs.lemmas.List.{take_all}
use Rattle.std.proofs.lemmas.List.Elements.{All-weaker, Contains-get_or}
use Rattle.st_answer.specs.Heads.{NamesStamp}
use Rattle.st_answer.specs.Picks.{picks_of, blocks_of, IsPlaced, HasAllOf}
use Rattle.st_answer.specs.declared.picked.Picked.{Picked}
use Rattle.st_answer.proofs.Staying.{store_trans}
use Rattle.st_answer.proofs.Picking.{no_entry, blames_entry}
use Rattle.st_answer.proofs.Found.{reads_more, has_more, placed_next, found_next, read_names, read_no_write, blocks_next}
use Rattle.st_answer.proofs.gather.gather.Goals as goal

pub returns-in-Err-clause-fails : goal.returns-in-Err-clause-fails
returns-in-Err-clause-fails g c =
    let adds = c.in-Err.ensures.adds in (
      read_no_write adds.stamp c.in-Err.error adds.fails,
      λ set told.
          let i = c.entries.i in
          let h = c.args.hold.now in
          let told' = c.entries.invariant.same.others.set h c.requires.held ∙ told in
          let size = (c.count-count.ensures.set set told).0 in
          let lt : i < length set = omega (arith, size, c.count-count.ensures.count, c.entries-test.true) in
          let names = subst (λ s. NamesStamp s c.in-Err.error) (adds.is set no_entry told' lt) (read_names adds.stamp c.in-Err.error adds.fails) in
          blames_entry set (get_or set i no_entry) c.in-Err.error (Contains-get_or set i no_entry lt) names
          (λ (given, whole). (c.in-Err.ensures.picks set no_entry told' lt given whole).ends),
    )

pub returns-in-Err-clause-reads : goal.returns-in-Err-clause-reads
returns-in-Err-clause-reads g c set told whole =
    let i = c.entries.i in
    let h = c.args.hold.now in
    let told' = c.entries.invariant.same.others.set h c.requires.held ∙ told in
    let size = (c.count-count.ensures.set set told).0 in
    let lt : i < length set = omega (arith, size, c.count-count.ensures.count, c.entries-test.true) in
    let (given, pair) = whole i no_entry lt in
    let one = c.in-Err.ensures.picks set no_entry told' lt given pair in
    let ps = c.entries.picked.items in
    let places = All-weaker (IsPlaced i) (λ (p : Picked). p.place < i) (λ p h. h.place) ps c.entries.invariant.placed in (
      ps ++ picks_of i (get_or set i no_entry).stamp one.xs,
      reads_more c.args.query.now c.args.now set i _ _ _ _ given one.xs ps (c.count-count.ensures.set set told).1 lt pair one.some places (c.entries.invariant.reads set told whole) one.reads_most one.asked_most,
    )

pub returns-in-Err-clause-files : goal.returns-in-Err-clause-files
returns-in-Err-clause-files g c =
    let e = c.entries.invariant.same.id in (
      subst (λ n. All (λ f. (g.S.Store.origin f).home ≡ n) c.gather_one.new.files.items) e (c.gather_one.ensures.file.at_home (subst (λ n. All (λ f. (g.S.Store.origin f).home ≡ n) c.entries.files.items) (sym e) c.entries.invariant.home)),
      c.gather_one.ensures.loans (g.S.Store.loans c.args.store.now) c.entries.invariant.loans,
    )

pub returns-in-Err-clause-stays : goal.returns-in-Err-clause-stays
returns-in-Err-clause-stays g c = store_trans (g.met.S.Store.becomes_later _ _ _) c.entries.invariant.same c.gather_one.ensures.stays

pub entries-preserved : goal.entries-preserved
entries-preserved g c =
    let i = c.entries.i in
    let h = c.args.hold.now in
    let q = c.args.query.now in
    let n = c.args.now in
    let ps = c.entries.picked.items in
    let same = c.entries.invariant.same in
    let adds = c.in-Ok.ensures.adds in
    let places = All-weaker (IsPlaced i) (λ (p : Picked). p.place < i) (λ p h. h.place) ps c.entries.invariant.placed in
    record {
      placed = placed_next i adds.stamp ps c.gather_one.new.picked.items adds.adds c.entries.invariant.placed;
      found = λ set told.
          let told' = same.others.set h c.requires.held ∙ told in
          let size = (c.count-count.ensures.set set told).0 in
          let lt : i < length set = omega (arith, size, c.count-count.ensures.count, c.entries-test.true) in
          found_next q n set i adds.stamp ps c.gather_one.new.picked.items lt (adds.is set no_entry told' lt) adds.adds (c.entries.invariant.found set told)
          (λ given pair. let one = c.in-Ok.ensures.picks set no_entry told' lt given pair in record { xs = one.xs; some = one.some; is = one.ends.1 });
      content = λ set told.
          let told' = same.others.set h c.requires.held ∙ told in
          let size = (c.count-count.ensures.set set told).0 in
          let lt : i < length set = omega (arith, size, c.count-count.ensures.count, c.entries-test.true) in
          blocks_next set i _ _ lt (c.entries.invariant.content set told) (c.in-Ok.ensures.file.last set no_entry told' lt);
      reads = λ set told whole.
          let told' = same.others.set h c.requires.held ∙ told in
          let size = (c.count-count.ensures.set set told).0 in
          let lt : i < length set = omega (arith, size, c.count-count.ensures.count, c.entries-test.true) in
          let (given, pair) = whole i no_entry lt in
          let one = c.in-Ok.ensures.picks set no_entry told' lt given pair in
          subst (λ z. Rattle.st_answer.specs.Picks.AreReadFor q n set (sum_by g.S.File.Reader.reads c.gather_one.new.files.items) (sum_by g.S.File.Reader.asked c.gather_one.new.files.items) z) (sym one.ends.1)
          (reads_more q n set i _ _ _ _ given one.xs ps (c.count-count.ensures.set set told).1 lt pair one.some places (c.entries.invariant.reads set told whole) one.reads_most one.asked_most);
      whole = λ set told whole.
          let told' = same.others.set h c.requires.held ∙ told in
          let size = (c.count-count.ensures.set set told).0 in
          let lt : i < length set = omega (arith, size, c.count-count.ensures.count, c.entries-test.true) in
          let (given, pair) = whole i no_entry lt in
          let one = c.in-Ok.ensures.picks set no_entry told' lt given pair in
          subst (λ z. HasAllOf q n set (take (i + 1) set) z) (sym one.ends.1)
          (has_more q n set i given one.xs ps lt pair one.some one.ends.0 (c.entries.invariant.whole set told whole));
      len = omega (arith, c.entries.invariant.len, c.in-Ok.ensures.file.more);
      home =
          let e = same.id in
          subst (λ n. All (λ f. (g.S.Store.origin f).home ≡ n) c.gather_one.new.files.items) e (c.gather_one.ensures.file.at_home (subst (λ n. All (λ f. (g.S.Store.origin f).home ≡ n) c.entries.files.items) (sym e) c.entries.invariant.home));
      later = omega (arith, c.entries.invariant.later, c.gather_one.ensures.cause.later);
      loans = c.gather_one.ensures.loans (g.S.Store.loans c.args.store.now) c.entries.invariant.loans;
      same = store_trans (g.met.S.Store.becomes_later _ _ _) same c.gather_one.ensures.stays;
    }

pub returns-clause-found : goal.returns-clause-found
returns-clause-found g c = (
  subst (λ n. All (IsPlaced n) c.entries.picked.items) (sym c.entries.invariant.len) c.entries.invariant.placed,
  λ set told.
      let size = (c.count-count.ensures.set set told).0 in
      let all : take c.entries.i set ≡ set = take_all c.entries.i set (omega (arith, size, c.count-count.ensures.count, c.entries-test.false)) in
      record {
        known = c.entries.invariant.content set told ∙ ap (λ z. map Some (blocks_of z)) all;
        found = c.entries.invariant.found set told;
      },
  λ set told whole.
      let size = (c.count-count.ensures.set set told).0 in
      let all : take c.entries.i set ≡ set = take_all c.entries.i set (omega (arith, size, c.count-count.ensures.count, c.entries-test.false)) in
      (c.entries.invariant.reads set told whole, subst (λ z. HasAllOf c.args.query.now c.args.now set z c.entries.picked.items) all (c.entries.invariant.whole set told whole)),
)
