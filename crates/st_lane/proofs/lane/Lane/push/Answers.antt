use Rattle.std.proofs.Common.{◌≡◌, ◌+◌, ◌<◌, ◌≤◌, Result, Ok, Err, List, length, refl, sym, ap, ◌∙◌, subst}
use Rattle.st_base.specs.Records.{Rec}
use Rattle.st_block.specs.BlockText.{room}
use Rattle.st_lane.specs.Filling.{FillingView, IsFull, Fills, IsPlace}
use Rattle.st_lane.specs.Cut.{EndsList}
use Rattle.st_lane.specs.Lane.{LaneView, Represents, Pushes}
use Rattle.st_lane.specs.declared.errors.Pushed.{Pushed}
use Rattle.st_lane.specs.declared.errors.Pushed.TheVariants.{Kept, Ready}
use Rattle.st_lane.specs.declared.errors.LaneErr.{LaneErr}
use Rattle.st_lane.specs.declared.errors.LaneErr.TheVariants as lane_err
use Rattle.st_lane.specs.declared.filling.Place.TheVariants as place
use Rattle.st_lane.proofs.Representing.{full_ends, here_goes_on, next_goes_on, represents_joined, represents_begun, represents_same}
use Rattle.st_lane.proofs.lane.Lane.push.Goals as goal
use Rattle.st_lane.proofs.lane.Lane.push.Goals.{in-Ok, in-Err}

pub begin_next-requires : goal.begin_next-requires
begin_next-requires g c = c.in-Next.ensures c.args.r (ap (λ (x : Rec). length x.body) (sym c.r.view_is))

pub returns-in-Nowhere-clause-ready : goal.returns-in-Nowhere-clause-ready
returns-in-Nowhere-clause-ready g c =
    let full : IsFull c.self.inside.filling c.args.r = c.in-Nowhere.ensures c.args.r (ap (λ (x : Rec). length x.body) (sym c.r.view_is)) in
    ((λ _. subst (λ (x : LaneView g.row.T.Denot). IsFull x.filling c.args.r) c.self.view_is full), (λ _. refl))

pub returns-in-Nowhere-clause-ends : goal.returns-in-Nowhere-clause-ends
returns-in-Nowhere-clause-ends g c rs h =
    let full : IsFull c.self.inside.filling c.args.r = c.in-Nowhere.ensures c.args.r (ap (λ (x : Rec). length x.body) (sym c.r.view_is)) in
    let now : IsFull c.args.self.now.filling c.args.r = subst (λ (x : LaneView g.row.T.Denot). IsFull x.filling c.args.r) c.self.view_is full in
    ((λ _. (now.short, full_ends c.args.self.now.filling rs c.args.r h.fills now)), (λ _. refl))

pub returns-after-join-clause-records : goal.returns-after-join-clause-records
returns-after-join-clause-records g c rs h =
    let L : Type 0 = LaneView g.row.T.Denot in
    let old : L = record { block = c.self.inside.block; index = c.self.inside.index; filling = c.self.inside.filling; broken = c.self.inside.broken } in
    let new : L = record { block = c.self.inside.block; index = c.self.inside.index; filling = c.join.new.self; broken = c.self.inside.broken } in
    let was : Represents g.T.Sink.written old rs = subst (λ (x : L). Represents g.T.Sink.written x rs) (sym c.self.view_is) h in
    let here = c.in-Here.ensures c.args.r (ap (λ (x : Rec). length x.body) (sym c.r.view_is)) in
    let P : Result Pushed LaneErr → Type 0 = λ x. Pushes g.T.Sink.written c.args.self.now new rs c.args.r x in
    elim c.match-join.branch [
      | in-Ok w ↦ subst P (sym w.result-is) (represents_joined g.T.Sink.written old new rs c.args.r was (w.in-Ok.ensures.adds rs was.fills) here.1 c.join.ensures.size.0 refl refl refl)
      | in-Err w ↦ subst P (sym w.result-is) (represents_same g.T.Sink.written old new rs was (w.in-Err.ensures.adds rs was.fills) c.join.ensures.size.0 refl refl refl)
    ]

kept_only : {X : Type 0} → ◌≡◌ {A = Result Pushed LaneErr} (Ok Kept) (Ok Ready) → X
kept_only e = cc

memory_only : {X : Type 0} → ◌≡◌ {A = Result Pushed LaneErr} (Err lane_err.NoMemory) (Ok Ready) → X
memory_only e = cc

pub returns-after-join-clause-ends : goal.returns-after-join-clause-ends
returns-after-join-clause-ends g c rs h =
    let L : Type 0 = LaneView g.row.T.Denot in
    let old : L = record { block = c.self.inside.block; index = c.self.inside.index; filling = c.self.inside.filling; broken = c.self.inside.broken } in
    let here = c.in-Here.ensures c.args.r (ap (λ (x : Rec). length x.body) (sym c.r.view_is)) in
    let goes_on : (f : FillingView) → Fills f rs → c.self.inside.filling ≡ f → EndsList f.size f.most rs c.args.r → ⊥ = λ f fills e. here_goes_on f rs c.args.r fills (subst (λ (x : FillingView). x.here.used + room c.args.r ≤ x.size) e here.1) (subst (λ (x : FillingView). x.done < x.most) e here.2) in
    let tie : c.self.inside.filling ≡ c.args.self.now.filling = ap (λ (x : L). x.filling) c.self.view_is in
    elim c.match-join.branch [
      | in-Ok w ↦ ((λ e. kept_only (sym w.result-is ∙ e)), (λ (short, ends). absurd (goes_on _ h.fills tie ends)))
      | in-Err w ↦ ((λ e. memory_only (sym w.result-is ∙ e)), (λ (short, ends). absurd (goes_on _ h.fills tie ends)))
    ]

pub returns-in-Ok-begin_next-clause-records : goal.returns-in-Ok-begin_next-clause-records
returns-in-Ok-begin_next-clause-records g c rs h =
    let L : Type 0 = LaneView g.row.T.Denot in
    let old : L = record { block = c.self.inside.block; index = c.self.inside.index; filling = c.self.inside.filling; broken = c.self.inside.broken } in
    let was : Represents g.T.Sink.written old rs = subst (λ (x : L). Represents g.T.Sink.written x rs) (sym c.self.view_is) h in
    let next = c.in-Next.ensures c.args.r (ap (λ (x : Rec). length x.body) (sym c.r.view_is)) in
    let begins = c.in-Ok-begin_next.ensures.begins rs was.fills in
    represents_begun g.T.Sink.written old _ rs c.args.r was begins.0 next.2 next.1 begins.1 c.begin_next.ensures.size.0 refl refl

-- where the next block takes the record, no list ends
goes_on : (f now : FillingView) (rs : List Rec) (r : Rec) → Fills now rs → f ≡ now → IsPlace f r place.Next → EndsList now.size now.most rs r → ⊥
goes_on f now rs r fills e next = let n = subst (λ (x : FillingView). IsPlace x r place.Next) e next in next_goes_on now rs r fills n.2 n.1 n.3

pub returns-in-Ok-begin_next-clause-ends : goal.returns-in-Ok-begin_next-clause-ends
returns-in-Ok-begin_next-clause-ends g c rs h =
    let next = c.in-Next.ensures c.args.r (ap (λ (x : Rec). length x.body) (sym c.r.view_is)) in
    ((λ e. cc), (λ (short, ends). absurd (goes_on c.self.inside.filling c.args.self.now.filling rs c.args.r h.fills (ap (λ (x : LaneView g.row.T.Denot). x.filling) c.self.view_is) next ends)))

pub returns-in-Err-NoMemory-clause-ends : goal.returns-in-Err-NoMemory-clause-ends
returns-in-Err-NoMemory-clause-ends g c rs h =
    let next = c.in-Next.ensures c.args.r (ap (λ (x : Rec). length x.body) (sym c.r.view_is)) in
    ((λ e. cc), (λ (short, ends). absurd (goes_on c.self.inside.filling c.args.self.now.filling rs c.args.r h.fills (ap (λ (x : LaneView g.row.T.Denot). x.filling) c.self.view_is) next ends)))

pub returns-in-Err-WriteFault-clause-ends : goal.returns-in-Err-WriteFault-clause-ends
returns-in-Err-WriteFault-clause-ends g c rs h =
    let next = c.in-Next.ensures c.args.r (ap (λ (x : Rec). length x.body) (sym c.r.view_is)) in
    ((λ e. cc), (λ (short, ends). absurd (goes_on c.self.inside.filling c.args.self.now.filling rs c.args.r h.fills (ap (λ (x : LaneView g.row.T.Denot). x.filling) c.self.view_is) next ends)))
