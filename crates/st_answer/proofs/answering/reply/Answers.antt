use Rattle.std.proofs.Common.{arith, length, sym, ◌∙◌, subst}
use Rattle.st_answer.specs.Picks.{IsPlaced, IsFound, picked_records}
use Rattle.st_answer.specs.Order.{TellsPicks}
use Rattle.st_answer.proofs.Replying.{IsOwn, all_own, sent_all, reply_of, places_in, sent_count, sent_lens}
use Rattle.st_answer.proofs.Telling.{tells_of, breaks_off}
use Rattle.st_answer.proofs.answering.reply.Goals as goal

pub send_all-requires : goal.send_all-requires
send_all-requires g c = sent_all (IsPlaced (length c.args.files.now)) c.args.limits c.args.found.items c.in_order-picked.result.items c.as_slice-2.result.now c.in_order-picked.ensures c.as_slice-2.ensures.value c.requires

pub returns-in-Ok-clause-replies : goal.returns-in-Ok-clause-replies
returns-in-Ok-clause-replies g c q now set are whole distinct all =
    let found = c.args.found.items in
    let slice = c.as_slice-2.result.now in
    let ordered = c.in_order-picked.ensures in
    let is = c.as_slice-2.ensures.value in
    let places = places_in g.F.Reader.content c.args.files.now q now set found are c.requires in
    let mine = all_own q now set found whole places are.found in
    let sent = sent_all (IsFound q now set) c.args.limits found c.in_order-picked.result.items slice ordered is are.found in
    let told = subst (λ z. TellsPicks z c.told_of-told.result) (c.as_slice.ensures.value ∙ sym is) c.told_of-told.ensures in (
      picked_records set slice,
      reply_of q now set c.args.limits c.args.unit found c.in_order-picked.result.items slice ordered is mine distinct all,
      c.in-Ok.ensures.sends q now set (record { known = are.known; found = sent }) whole,
      tells_of c.args.unit q now set slice c.told_of-told.result (sent_all (IsOwn q now set) c.args.limits found c.in_order-picked.result.items slice ordered is mine) told,
    )

pub returns-clause-replies : goal.returns-clause-replies
returns-clause-replies g c q now set are whole distinct all =
    let found = c.args.found.items in
    let slice = c.as_slice-2.result.now in
    let ordered = c.in_order-picked.ensures in
    let is = c.as_slice-2.ensures.value in
    let places = places_in g.F.Reader.content c.args.files.now q now set found are c.requires in
    let mine = all_own q now set found whole places are.found in
    let sent = sent_all (IsFound q now set) c.args.limits found c.in_order-picked.result.items slice ordered is are.found in
    breaks_off g.O.Outlet.after g.O.Outlet.gone (g.O.Outlet.state c.args.outlet.now) (g.O.Outlet.state c.send_all.new.outlet) (record { node = q; now = now; limits = c.args.limits; unit = c.args.unit }) set (picked_records set slice) c.in-Err.error
    (reply_of q now set c.args.limits c.args.unit found c.in_order-picked.result.items slice ordered is mine distinct all)
    (c.in-Err.ensures.sends q now set (record { known = are.known; found = sent }) whole)

pub returns-clause-blames : goal.returns-clause-blames
returns-clause-blames g c q now set are =
    let slice = c.as_slice-2.result.now in
    let sent = sent_all (IsFound q now set) c.args.limits c.args.found.items c.in_order-picked.result.items slice c.in_order-picked.ensures c.as_slice-2.ensures.value are.found in
    c.in-Err.ensures.blames q now set (record { known = are.known; found = sent })

pub returns-in-Ok-clause-asked : goal.returns-in-Ok-clause-asked
returns-in-Ok-clause-asked g c =
    let count = sent_count c.args.limits c.args.found.items c.in_order-picked.result.items c.as_slice-2.result.now c.in_order-picked.ensures c.as_slice-2.ensures.value in
    let lens = sent_lens c.args.limits c.args.found.items c.in_order-picked.result.items c.as_slice-2.result.now c.in_order-picked.ensures c.as_slice-2.ensures.value in
    (omega (arith, count, c.send_all.ensures.asked.0), omega (arith, lens, c.send_all.ensures.asked.1))

pub returns-clause-asked : goal.returns-clause-asked
returns-clause-asked g c =
    let count = sent_count c.args.limits c.args.found.items c.in_order-picked.result.items c.as_slice-2.result.now c.in_order-picked.ensures c.as_slice-2.ensures.value in
    let lens = sent_lens c.args.limits c.args.found.items c.in_order-picked.result.items c.as_slice-2.result.now c.in_order-picked.ensures c.as_slice-2.ensures.value in
    (omega (arith, count, c.send_all.ensures.asked.0), omega (arith, lens, c.send_all.ensures.asked.1))
