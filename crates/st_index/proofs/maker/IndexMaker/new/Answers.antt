use Rattle.std.proofs.Common.{ℕ, ◌<◌, List, All, sym, subst, arith}
use Rattle.st_index.proofs.Counting.{count_none}
use Rattle.st_index.proofs.maker.IndexMaker.new.Goals as goal

pub invariant_of-result : goal.invariant_of-result
invariant_of-result c = record {
  below = λ k. subst (λ (ps : List ℕ). All (λ p. p < 48) ps) (sym (c.new.ensures k)) (λ i d less. absurd (omega arith));
  few = λ ks apart. let none = count_none c.new.result ks c.new.ensures in omega (arith, none);
  counted = omega arith;
  fits = omega arith;
}
