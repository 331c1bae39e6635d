-- Laws of passes as stores: what they become in no step, and in two.
use Rattle.std.proofs.Common.{refl, ◌∙◌}
use Rattle.st_seated.specs.Seats.{SeatView, Goes}

module _ {S : Type 0} where
  -- by no call a store over a pass becomes itself
  pub goes_same : (a : SeatView S) → Goes a a
  goes_same a = record {
    shared = refl;
    pass = record { same = (refl, refl, refl, refl); own = refl; stops = refl };
  }

  -- what it becomes by some calls, and then by others, it becomes by all of them
  pub goes_later : (a b c : SeatView S) → Goes a b → Goes b c → Goes a c
  goes_later a b c one two = record {
    shared = two.shared ∙ one.shared;
    pass = record {
      same = (
        two.pass.same.0 ∙ one.pass.same.0,
        two.pass.same.1 ∙ one.pass.same.1,
        two.pass.same.2 ∙ one.pass.same.2,
        two.pass.same.3 ∙ one.pass.same.3,
      );
      own = two.pass.own ∙ one.pass.own;
      stops = two.pass.stops ∙ one.pass.stops;
    };
  }
