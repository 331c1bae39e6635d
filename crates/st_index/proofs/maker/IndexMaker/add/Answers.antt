use Rattle.std.proofs.Common.{◌+◌, ◌<◌, ◌≤◌, ◌^◌, ◌++◌, ◌∷◌, [], Some, length, sym, subst, arith, refl}
use Rattle.std.proofs.lemmas.Result.{MatchResult-from_err}
use Rattle.st_base.specs.Records.{Rec}
use Rattle.st_walk.specs.Walk.{HasKey}
use Rattle.st_index.specs.PositionLists.{positions_at, count_in}
use Rattle.st_index.specs.Maker.{HasPackets}
use Rattle.st_index.proofs.Having.{packet_on, same_packets, below_on, few_on}
use Rattle.st_index.proofs.maker.IndexMaker.add.Goals as goal

pub returns-in_err-add-clause-records : goal.returns-in_err-add-clause-records
returns-in_err-add-clause-records c given h =
    MatchResult-from_err c.from_residual.result _ _ c.from_residual.ensures.0 (λ y. same_packets c.args.self.now.lists c.add.new.self c.args.self.now.summary c.args.self.now.end given c.in_err-add.ensures.same h)

pub invariant_of-self-2 : goal.invariant_of-self-2
invariant_of-self-2 c =
    let m = c.args.self.now in
    let frame = c.r.inside.body.now in
    let fits : c.args.position + (48 + length frame) ≤ 2 ^ 32 = subst (λ (x : Rec). c.args.position + (48 + length x.body) ≤ 2 ^ 32) (sym c.r.view_is) c.requires.fits in
    let after = c.requires.after in
    let n = c.from.ensures in
    record {
      below = λ k. below_on (positions_at m.lists k) (positions_at c.add.new.self k) c.args.position _ (HasKey frame c.r.inside.sec k)
          (λ i d less. let low = m.below k i d less in omega (arith, low, after)) (omega (arith, n)) (c.in_ok-add.ensures.gained k);
      few = λ ks apart. few_on frame (count_in m.lists ks) (count_in c.add.new.self ks) m.end c.args.position _ (m.few ks apart) after (omega (arith, n)) (c.in_ok-add.ensures.count ks apart);
      counted = let had = m.counted in let more = c.with_packet.ensures.packets in omega (arith, had, more, after, n);
      fits = omega (arith, fits, n);
    }

pub returns-clause-records : goal.returns-clause-records
returns-clause-records c given h =
    let m = c.args.self.now in
    let r0 : Rec = record { sec = c.r.inside.sec; nsec = c.r.inside.nsec; orig = c.r.inside.orig; body = c.r.inside.body.now } in
    let fits : c.args.position + (48 + length r0.body) ≤ 2 ^ 32 = subst (λ (x : Rec). c.args.position + (48 + length x.body) ≤ 2 ^ 32) (sym c.r.view_is) c.requires.fits in
    let after = c.requires.after in
    let n = c.from.ensures in
    let nsec : c.r.inside.nsec < 2 ^ 32 = (let i = c.r.invariant.nsec in omega (arith, i)) in
    subst (λ (x : Rec). HasPackets c.add.new.self (Some c.with_packet.result) (c.from.result + (48 + length c.r.inside.body.now)) (given ++ (c.args.position, x) ∷ [])) c.r.view_is
    (packet_on m.lists c.add.new.self m.summary c.with_packet.result m.end (c.from.result + (48 + length c.r.inside.body.now)) given r0 c.args.position
    (record { after = after; fits = fits; sec = c.r.invariant.sec; nsec = nsec; bytes = c.add.ensures.bytes })
    (omega (arith, n)) (λ k i d less. let low = m.below k i d less in omega (arith, low, after)) c.in_ok-add.ensures.gained
    (c.with_packet.ensures.summary given (c.args.position, r0) refl) h)
