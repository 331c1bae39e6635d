-- A store that stays what it is over two calls.
use Rattle.std.proofs.Common.{Option, ◌≡◌, ℕ, List, [], ◌++◌, Some, ◌<◌, inl, inr, sym, ap, ◌∙◌, append_assoc, append-nil, arith}
use Rattle.st_disk.specs.Pairs.{Entry}
use Rattle.st_disk.specs.Events.{Event}
use Rattle.st_answer.specs.Sets.{GoesOn}
use Rattle.st_answer.specs.Stores.{HoldsView, KeepsHolds, StayHeld, HoldsOneMore, HoldsOneLess, IsSameStore}

pub goes_on_refl : (a : Option (List Event)) → GoesOn a a
goes_on_refl a events is = ([], is ∙ ap Some (sym (append-nil events)))

pub goes_on_trans : {a b c : Option (List Event)} → GoesOn a b → GoesOn b c → GoesOn a c
goes_on_trans h k events is =
    let (more, e) = h events is in
    let (rest, f) = k (events ++ more) e in
    (more ++ rest, f ∙ ap Some (append_assoc events more rest))

pub keeps_trans : {a b c : HoldsView} → KeepsHolds a b → KeepsHolds b c → KeepsHolds a c
keeps_trans h k = record {
  asks = k.asks ∙ h.asks;
  held = k.held ∙ h.held;
  took = k.took ∙ h.took;
  seen = goes_on_trans h.seen k.seen;
  out = k.out ∙ h.out;
}

-- what is out stays out
pub still_held : {H : Type 0} {ta tb : H → ℕ} {sa sb : H → ℕ} {ea eb : H → Option (List Entry)} → StayHeld ta tb sa sb ea eb → (h : H) → 0 < ta h → 0 < tb h
still_held stay h out = omega (arith, stay.times h, out)

pub stay_trans : {H : Type 0} {ta tb tc : H → ℕ} {sa sb sc : H → ℕ} {ea eb ec : H → Option (List Entry)} → StayHeld ta tb sa sb ea eb → StayHeld tb tc sb sc eb ec → StayHeld ta tc sa sc ea ec
stay_trans h k = record {
  times = λ x. k.times x ∙ h.times x;
  size = λ x is. k.size x (still_held h x is) ∙ h.size x is;
  set = λ x is. k.set x (still_held h x is) ∙ h.set x is;
}

pub store_trans : {H : Type 0} {A B C : Type 0} → (A → B → C) → {i j k : ℕ} {a b c : HoldsView} {ta tb tc : H → ℕ} {sa sb sc : H → ℕ} {ea eb ec : H → Option (List Entry)}
    → IsSameStore A i j a b ta tb sa sb ea eb → IsSameStore B j k b c tb tc sb sc eb ec → IsSameStore C i k a c ta tc sa sc ea ec
store_trans later h k = record { became = later h.became k.became; id = k.id ∙ h.id; holds = keeps_trans h.holds k.holds; others = stay_trans h.others k.others }

-- what was held once more and then once less is held as before
pub held_back : {H : Type 0} (one : H) {ta tb tc td : H → ℕ} {sa sb sc sd : H → ℕ} {ea eb ec ed : H → Option (List Entry)}
    → HoldsOneMore one ta tb sa sb ea eb → StayHeld tb tc sb sc eb ec → HoldsOneLess one tc td sc sd ec ed → StayHeld ta td sa sd ea ed
held_back {H} one {ta} {tb} {tc} {td} more stay less =
    let times : (h : H) → td h ≡ ta h = λ h.
    elim (more.others h) [
      | inl is ↦
          let first = ap ta is in
          let last = ap td is in
          omega (arith, first, last, more.more, stay.times one, less.less)
      | inr same ↦ elim (less.others h) [
        | inl is ↦
            let first = ap ta is in
            let last = ap td is in
            omega (arith, first, last, more.more, stay.times one, less.less)
        | inr same' ↦ omega (arith, same, stay.times h, same')
      ]
    ] in
    let grew : (h : H) → 0 < ta h → 0 < tb h = λ h out.
    elim (more.others h) [
      | inl is ↦ let first = ap ta is in let now = ap tb is in omega (arith, first, now, more.more, out)
      | inr same ↦ omega (arith, same, out)
    ] in
    record {
      times = times;
      size = λ h out. less.size h (omega (arith, times h, out)) ∙ (stay.size h (grew h out) ∙ more.size h out);
      set = λ h out. less.set h (omega (arith, times h, out)) ∙ (stay.set h (grew h out) ∙ more.set h out);
    }
