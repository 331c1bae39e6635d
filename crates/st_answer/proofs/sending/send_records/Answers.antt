use Rattle.std.proofs.Common.{rules, arith, ◌≡◌, ◌<◌, length, get_or, take, map, sym, ◌∙◌, subst}
use Rattle.std.proofs.lemmas.List.{length-map, take_all}
use Rattle.std.proofs.lemmas.List.Sums.{sum_by_more}
use Rattle.st_base.specs.Outlets.{SentAll}
use Rattle.st_pcap.specs.Text.{record_pieces}
use Rattle.st_answer.specs.declared.picked.Picked.{Picked}
use Rattle.st_answer.specs.Heads.{NamesStamp}
use Rattle.st_answer.specs.Picks.{picked_records, packet_in}
use Rattle.st_answer.specs.Sending.{StopsAtOne, body_pieces}
use Rattle.st_answer.proofs.Files.{map_set_same, sum_set_le, sum_next_le}
use Rattle.st_answer.proofs.Sent.{goes_on, fails_at}
use Rattle.st_answer.proofs.Picking.{no_pick, entry_of, stands, whole_at, picked_at, blames_entry, stops_unhurt}
use Rattle.st_answer.proofs.sending.send_records.Goals as goal

pub returns-in-Err-clause-sends : goal.returns-in-Err-clause-sends
returns-in-Err-clause-sends g c q now set are whole =
    let content = g.F.Reader.content in
    let d = c.index-files-pick.result in
    let ps = c.args.picked.now in
    let i = c.records.pick-index in
    let p = get_or ps i no_pick in
    let at = entry_of content c.records.files d q now set (map content c.args.files.now) ps i (sym c.records.invariant.content) are c.records-test.true (search rules) in
    let st = stands content c.records.files d q now set p at (whole_at content c.records.files d q now set p at whole) in
    let lt : i < length (picked_records set ps) = omega (arith, length-map ps (λ p. (packet_in set p).packet), c.records-test.true) in
    let one = c.in-Err.ensures.sends (packet_in set p).packet st.there st.pick in
    let here = subst (λ r. StopsAtOne g.O.Outlet.after g.O.Outlet.gone (g.O.Outlet.state c.records.outlet) (g.O.Outlet.state c.send_one.new.outlet) (record_pieces c.args.unit r) c.in-Err.error) (sym (picked_at set ps i c.records-test.true)) one in
    fails_at g.O.Outlet.after g.O.Outlet.gone g.O.Outlet.grows (g.O.Outlet.state c.args.outlet.now) (g.O.Outlet.state c.records.outlet) _ c.args.unit (picked_records set ps) i c.in-Err.error lt
    (c.records.invariant.sends q now set are whole) here

pub returns-in-Err-clause-blames : goal.returns-in-Err-clause-blames
returns-in-Err-clause-blames g c q now set are =
    let content = g.F.Reader.content in
    let d = c.index-files-pick.result in
    let ps = c.args.picked.now in
    let i = c.records.pick-index in
    let p = get_or ps i no_pick in
    let at = entry_of content c.records.files d q now set (map content c.args.files.now) ps i (sym c.records.invariant.content) are c.records-test.true (search rules) in
    blames_entry set at.e c.in-Err.error at.there (subst (λ s. NamesStamp s c.in-Err.error) at.found.stamp c.in-Err.ensures.names)
    (λ whole.
    let st = stands content c.records.files d q now set p at whole in
    stops_unhurt g.O.Outlet.after g.O.Outlet.gone (g.O.Outlet.state c.records.outlet) (g.O.Outlet.state c.send_one.new.outlet) (record_pieces c.args.unit (packet_in set p).packet) c.in-Err.error
    (c.in-Err.ensures.sends (packet_in set p).packet st.there st.pick))

pub returns-in-Err-clause-asked : goal.returns-in-Err-clause-asked
returns-in-Err-clause-asked g c =
    let d = c.index-files-pick.result in
    let p = get_or c.args.picked.now c.records.pick-index no_pick in
    let next = sum_next_le (λ (p : Picked). p.len) c.args.picked.now c.records.pick-index no_pick c.records-test.true in
    let reads = sum_set_le g.F.Reader.reads c.records.files p.place d c.send_one.new.file 1 (search rules) c.send_one.ensures.asked.0 in
    let asked = sum_set_le g.F.Reader.asked c.records.files p.place d c.send_one.new.file p.len (search rules) c.send_one.ensures.asked.1 in
    (omega (arith, reads, c.records.invariant.reads, c.records-test.true), omega (arith, next, asked, c.records.invariant.asked))

pub returns-in-Err-clause-same : goal.returns-in-Err-clause-same
returns-in-Err-clause-same g c =
    let p = get_or c.args.picked.now c.records.pick-index no_pick in
    map_set_same g.F.Reader.beside c.records.files p.place c.index-files-pick.result c.send_one.new.file (search rules) c.send_one.ensures.same.beside ∙ c.records.invariant.same

pub records-preserved : goal.records-preserved
records-preserved g c =
    let content = g.F.Reader.content in
    let d = c.index-files-pick.result in
    let ps = c.args.picked.now in
    let i = c.records.pick-index in
    let p = get_or ps i no_pick in
    let next = sum_by_more (λ (p : Picked). p.len) ps i no_pick c.records-test.true in
    let set_asked = sum_set_le g.F.Reader.asked c.records.files p.place d c.send_one.new.file p.len (search rules) c.send_one.ensures.asked.1 in
    record {
      sends = λ q now set are whole.
          let at = entry_of content c.records.files d q now set (map content c.args.files.now) ps i (sym c.records.invariant.content) are c.records-test.true (search rules) in
          let st = stands content c.records.files d q now set p at (whole_at content c.records.files d q now set p at whole) in
          let lt : i < length (picked_records set ps) = omega (arith, length-map ps (λ p. (packet_in set p).packet), c.records-test.true) in
          let one = c.in-Ok.ensures.sends (packet_in set p).packet st.there st.pick in
          let here = subst (λ r. SentAll g.O.Outlet.after (g.O.Outlet.state c.records.outlet) (g.O.Outlet.state c.send_one.new.outlet) (record_pieces c.args.unit r)) (sym (picked_at set ps i c.records-test.true)) one in
          goes_on g.O.Outlet.after g.O.Outlet.gone g.O.Outlet.grows (g.O.Outlet.state c.args.outlet.now) (g.O.Outlet.state c.records.outlet) _ c.args.unit (picked_records set ps) i lt
          (c.records.invariant.sends q now set are whole) here;
      faults = search rules;
      content = map_set_same content c.records.files p.place d c.send_one.new.file (search rules) c.send_one.ensures.same.content ∙ c.records.invariant.content;
      same = map_set_same g.F.Reader.beside c.records.files p.place d c.send_one.new.file (search rules) c.send_one.ensures.same.beside ∙ c.records.invariant.same;
      rest = search rules;
      reads = let one = sum_set_le g.F.Reader.reads c.records.files p.place d c.send_one.new.file 1 (search rules) c.send_one.ensures.asked.0 in omega (arith, one, c.records.invariant.reads);
      asked = omega (arith, next, set_asked, c.records.invariant.asked);
    }

pub returns-clause-sends : goal.returns-clause-sends
returns-clause-sends g c q now set are whole =
    let rs = picked_records set c.args.picked.now in
    let count = length-map c.args.picked.now (λ p. (packet_in set p).packet) in
    let all : take c.records.pick-index rs ≡ rs = take_all c.records.pick-index rs (omega (arith, count, c.records-test.false)) in
    subst (λ z. SentAll g.O.Outlet.after (g.O.Outlet.state c.args.outlet.now) (g.O.Outlet.state c.records.outlet) (body_pieces c.args.unit z)) all (c.records.invariant.sends q now set are whole)
