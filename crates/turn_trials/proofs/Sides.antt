-- Two halves of a list of passes, done each by itself.
use Rattle.std.proofs.Common.{◌≡◌, ◌<◌, ◌≤◌, ℕ, length, ◌-◌, List, ◌++◌, refl, ◌⊎◌, ⊎_elim, arith, length-append}
use Rattle.std.specs.List.{slice_index_or}
use Rattle.std.proofs.lemmas.List.{get_or_append_left, get_or-append_right}
use Rattle.turn_trials.specs.Halves.{Done}

module _ {P Q : Type 0} (did : Q → Q → Type 0) (xs ys xs' ys' : List P) (cs ds cs' ds' : List Q) (len : length xs ≡ length cs) (one : Done did xs xs' cs cs') (two : Done did ys ys' ds ds') where
  at : (i : ℕ) (e : Q) → i < length cs → did (slice_index_or (cs ++ ds) i e) (slice_index_or (cs' ++ ds') i e)
  at i e lt =
      let there : i < length cs' = rw one.passes lt in
      rw (get_or_append_left cs ds e i lt) (rw (get_or_append_left cs' ds' e i there) (one.did_each i e lt))

  past : (i : ℕ) (e : Q) → length cs ≤ i → i - length cs < length ds → did (slice_index_or (cs ++ ds) i e) (slice_index_or (cs' ++ ds') i e)
  past i e le lt =
      rw (get_or-append_right cs ds (length cs) i e refl le) (rw (get_or-append_right cs' ds' (length cs) i e one.passes le) (two.did_each (i - length cs) e lt))

  pub joins : (js : List P) (ps : List Q) → js ≡ xs ++ ys → ps ≡ cs ++ ds → Done did js (xs' ++ ys') ps (cs' ++ ds')
  joins js ps f h =
      rw f
      (rw h
      (record {
        jobs = let a = one.jobs in let b = two.jobs in omega (arith, length-append xs ys, length-append xs' ys');
        passes = let a = one.passes in let b = two.passes in omega (arith, length-append cs ds, length-append cs' ds');
        did_each = λ i e lt.
            let both : (i < length cs) ⊎ ((length cs ≤ i) × (i - length cs < length ds)) = grind (arith, length-append cs ds) in
            ⊎_elim (λ a. at i e a) (λ b. past i e b.0 b.1) both;
      }))
