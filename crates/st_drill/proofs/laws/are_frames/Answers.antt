use Rattle.st_drill.proofs.Packets.{are_frames}
use Rattle.st_drill.proofs.laws.are_frames.Goals as goal

pub returns : goal.returns
returns c = are_frames
