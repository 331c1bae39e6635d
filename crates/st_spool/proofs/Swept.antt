-- What is left after removals that may fail.
use Rattle.std.proofs.Common.{◌≡◌, ◌⊎◌, ◌<◌, ◌≤◌, ◌+◌, ℕ, List, Option, None, false, Result, Ok, Err, slice_index, refl, sym, ◌∙◌, subst, ⊎_elim, arith}
use Rattle.st_base.specs.Faults.{Rose}
use Rattle.st_disk.specs.declared.naming.Name.{Name}
use Rattle.st_disk.specs.declared.naming.Name.TheVariants.{Block, Parked}
use Rattle.st_disk.specs.Disks.{Log}
use Rattle.st_disk.specs.LoggedCalls.{Does, Reads, removal}
use Rattle.st_disk.proofs.Reading.{reads_looked}
use Rattle.st_spool.specs.States.{covers}
use Rattle.st_spool.specs.Holding.{IsGone}
use Rattle.st_spool.specs.declared.state.Span.{Span}
use Rattle.st_spool.proofs.Entering.{reads_removing}

-- a removal brings nothing back
pub still_none : {T E : Type 0} (old new : Option Log) (r : Result T E) (m n : Name) → Does old new r (λ _. removal old m) → Reads old n (λ v. v ≡ None) → Reads new n (λ v. v ≡ None)
still_none {T = T} {E = E} old new (Ok v) m n does none = reads_removing old new m n (λ v. v ≡ None) (λ same. refl) none does
still_none {T = T} {E = E} old new (Err e) m n does none = reads_looked old new n (λ v. v ≡ None) none does

-- a removal leaves what is read under another name
pub stays_read : {T E : Type 0} (old new : Option Log) (r : Result T E) (m n : Name) (v : Option (List ℕ)) → Does old new r (λ _. removal old m) → (n ≡ m → ⊥) → Reads old n (λ x. x ≡ v) → Reads new n (λ x. x ≡ v)
stays_read {T = T} {E = E} old new (Ok x) m n v does other read = reads_removing old new m n (λ x. x ≡ v) (λ same. absurd (other (sym same))) read does
stays_read {T = T} {E = E} old new (Err e) m n v does other read = reads_looked old new n (λ x. x ≡ v) read does

abbrev pub Still : Option Log → Option Log → Type 0
Still old new = (n : Name) → Reads old n (λ v. v ≡ None) → Reads new n (λ v. v ≡ None)

pub gone_still : (old new : Option Log) (s : ℕ) → Still old new → IsGone old s → IsGone new s
gone_still old new s still gone = (still (Block s) gone.0, still (Parked s) gone.1)

pub rose_from : (first mid now : ℕ) → first ≤ mid → Rose mid now → Rose first now
rose_from first mid now le rose = omega arith

pub rose_to : (first mid now : ℕ) → mid ≤ now → Rose first mid → Rose first now
rose_to first mid now le rose = omega arith

below_or_at : (k i : ℕ) → k < i + 1 → (k < i) ⊎ (k ≡ i)
below_or_at k i lt = grind arith

module _ (stamps : List ℕ) (holds : List Span) (old new : Option Log) (still : Still old new) (from i : ℕ) where
  pub all_gone : (to : ℕ) → ((n : ℕ) → from ≤ n → n < to → IsGone old (slice_index stamps n)) → (n : ℕ) → from ≤ n → n < to → IsGone new (slice_index stamps n)
  all_gone to gone n le lt = gone_still old new (slice_index stamps n) still (gone n le lt)

  pub one_more_gone : (to : ℕ) → i ≡ to → ((n : ℕ) → from ≤ n → n < to → IsGone old (slice_index stamps n)) → IsGone new (slice_index stamps i) → (n : ℕ) → from ≤ n → n < to + 1 → IsGone new (slice_index stamps n)
  one_more_gone to same gone here n le lt = ⊎_elim (λ (b : n < to). all_gone to gone n le b) (λ (e : n ≡ to). subst (λ (m : ℕ). IsGone new (slice_index stamps m)) (same ∙ sym e) here) (below_or_at n to lt)

  module _ (first mid now : ℕ) (le_mid : first ≤ mid) (le_now : mid ≤ now) where
    pub tried_more : ((Rose first mid → ⊥) → (n : ℕ) → from ≤ n → n < i → covers holds n ≡ false → IsGone old (slice_index stamps n)) → IsGone new (slice_index stamps i) → (Rose first now → ⊥) → (n : ℕ) → from ≤ n → n < i + 1 → covers holds n ≡ false → IsGone new (slice_index stamps n)
    tried_more tried here no_doubt n le lt out =
        ⊎_elim (λ (b : n < i). gone_still old new (slice_index stamps n) still (tried (λ rose. no_doubt (rose_to first mid now le_now rose)) n le b out))
        (λ (e : n ≡ i). subst (λ (m : ℕ). IsGone new (slice_index stamps m)) (sym e) here) (below_or_at n i lt)

    pub tried_failed : Rose mid now → (Rose first now → ⊥) → (n : ℕ) → from ≤ n → n < i + 1 → covers holds n ≡ false → IsGone new (slice_index stamps n)
    tried_failed rose no_doubt n le lt out = absurd (no_doubt (rose_from first mid now le_mid rose))
