-- Files that are lent and come back, in a store's counts.
use Rattle.std.proofs.Common.{ℕ, ◌<◌, refl, arith}
use Rattle.st_disk.specs.declared.naming.Kind.{Kind}
use Rattle.st_disk.specs.declared.naming.Kind.TheVariants as kind
use Rattle.st_shelf.specs.Loans.{LoansView, take_back}
use Rattle.st_answer.specs.Lending.{TakesBack, LendsMore, LendsNone}

-- one file came back
pub one_back : (k : Kind) (reads asked : ℕ) (l : LoansView) → 0 < l.lent → TakesBack 1 reads asked l (take_back k reads asked l)
one_back kind.Block reads asked l some = record { lent = omega (arith, some); peak = refl; reads_most = omega arith; asked_most = omega arith }
one_back kind.Index reads asked l some = record { lent = omega (arith, some); peak = refl; reads_most = omega arith; asked_most = omega arith }

-- what was lent and came back is out no more
pub lends_none : (n reads asked : ℕ) (a b c : LoansView) → LendsMore n a b → TakesBack n reads asked b c → LendsNone a c
lends_none n reads asked a b c more back = record {
  most = omega (arith, more.most, back.lent);
  exact = λ low. let same = more.exact (omega (arith, low, back.peak)) in omega (arith, same, back.lent);
}
