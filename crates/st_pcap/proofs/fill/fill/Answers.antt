use Rattle.std.proofs.Common.{◌-◌, rules, sym, subst, length}
use Rattle.std.specs.Io.KnownBytes.{Consumes}
use Rattle.std.proofs.KnownBytes.{Consumes-trans}
use Rattle.st_pcap.proofs.Filling.{take-put_mid_more}
use Rattle.st_pcap.proofs.fill.fill.Goals as goal

pub reads-preserved : goal.reads-preserved
reads-preserved g c =
    let joined = take-put_mid_more c.reads.have c.in-Ok.count (length c.reads.out - c.reads.have) c.reads.out c.read.new.out c.reads.invariant.0 c.in-Ok.ensures.bound.0 in
    (search rules, subst (Consumes _ _) (sym joined) (Consumes-trans _ _ _ _ _ c.reads.invariant.1 c.in-Ok.ensures.bytes.0), search rules, search rules)
