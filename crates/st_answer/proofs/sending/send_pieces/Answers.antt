use Rattle.std.proofs.Common.{◌∷◌, []}
use Rattle.st_base.proofs.Sending.{Sends-then, SentPart-more}
use Rattle.st_pcap.specs.Text.{body_piece}
use Rattle.st_answer.proofs.sending.send_pieces.Goals as goal

pub returns-in-Ok-clause-sends : goal.returns-in-Ok-clause-sends
returns-in-Ok-clause-sends g c =
    Sends-then g.O.Outlet.after g.O.Outlet.gone g.O.Outlet.grows (g.O.Outlet.state c.args.outlet.now) (g.O.Outlet.state c.piece.new.self) _ (c.args.head.now ∷ []) (body_piece c.args.body.now) c.send_body.result
    c.in-Ok.ensures.sends c.send_body.ensures.sends

pub returns-in-Err-clause-sends : goal.returns-in-Err-clause-sends
returns-in-Err-clause-sends g c =
    SentPart-more g.O.Outlet.after g.O.Outlet.gone g.O.Outlet.grows (g.O.Outlet.state c.args.outlet.now) _ (c.args.head.now ∷ []) (body_piece c.args.body.now) c.in-Err.ensures.sends
