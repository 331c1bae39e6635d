use Rattle.std.proofs.Common.{rules, ◌∷◌, []}
use Rattle.st_base.proofs.Sending.{SentPart-more}
use Rattle.st_pcap.specs.Text.{file_head}
use Rattle.st_answer.specs.Picks.{picked_records}
use Rattle.st_answer.specs.Sending.{body_pieces}
use Rattle.st_answer.proofs.Sent.{head_then}
use Rattle.st_answer.proofs.sending.send_all.Goals as goal

pub returns-in-Ok-clause-sends : goal.returns-in-Ok-clause-sends
returns-in-Ok-clause-sends g c q now set are whole =
    head_then g.O.Outlet.after g.O.Outlet.gone g.O.Outlet.grows (g.O.Outlet.state c.args.outlet.now) (g.O.Outlet.state c.piece.new.self) _ (file_head c.args.unit) (body_pieces c.args.unit) (picked_records set c.args.picked.now) c.send_records.result
    (search rules) (c.send_records.ensures.sends q now set are whole)

pub returns-in-Err-clause-sends : goal.returns-in-Err-clause-sends
returns-in-Err-clause-sends g c q now set are whole =
    SentPart-more g.O.Outlet.after g.O.Outlet.gone g.O.Outlet.grows (g.O.Outlet.state c.args.outlet.now) _ (file_head c.args.unit ∷ []) (body_pieces c.args.unit (picked_records set c.args.picked.now)) (search rules)
