-- A pass that saw more: what it knows of the holds that it has stays as it is.
use Rattle.std.proofs.Common.{◌≡◌, ◌≤◌, ◌-◌, ◌^◌, ℕ, List, [], ◌∷◌, ◌++◌, length, take, min, Option, None, Some, Contains, inl, inr, refl, sym, ◌∙◌, ap, subst, arith, length-append}
use Rattle.std.specs.Prelude.{option_map}
use Rattle.std.proofs.lemmas.List.Edits.{length-remove}
use Rattle.std.proofs.lemmas.List.Elements.{Contains-push_cases}
use Rattle.std.proofs.lemmas.List.{take_all}
use Rattle.st_disk.specs.Disks.{Log}
use Rattle.st_disk.specs.Events.{Event}
use Rattle.st_disk.specs.Pairs.{Entry}
use Rattle.st_spool.specs.History.{entries_of, set_of}
use Rattle.st_spool.specs.Holding.{size_of}
use Rattle.st_spool.specs.States.{held, IsWithin}
use Rattle.st_spool.specs.declared.state.Span.{Span}
use Rattle.st_base.specs.Faults.{next_count}
use Rattle.st_answer.specs.Sets.{GoesOn, AddsSet, DropsSet}
use Rattle.st_answer.specs.Spools.{sets_in, times_in}
use Rattle.st_answer.specs.Stores.{KeepsHolds, TakesHold, GivesBack, StayHeld, HoldsOneMore, HoldsOneLess}
use Rattle.st_answer.proofs.SpoolHolds.{is_out, holds_more, holds_less, adds_set, drops_set}
use Rattle.st_turn.specs.Calls.{Without}
use Rattle.st_turn.specs.Parts.{PassState}
use Rattle.st_seated.specs.Seats.{seen_by, taken_by, pass_holds, pass_set, SeesHolds}
use Rattle.st_seated.proofs.Grown.{take_first, still_in, held_on, sets_on}

-- the pass saw more, and all that its holds have is in what it saw before
pub record SeesMore {S : Type 0} (known : Option Log) (p q : PassState S Event Span) : Type 0 where
  pub more : List Event
  pub seen : q.card.seen ≡ p.card.seen ++ more
  pub entries : (log : Log) → known ≡ Some log → (rest : List Entry) × (entries_of q.card.seen ≡ entries_of p.card.seen ++ rest)

module _ {S : Type 0} (known : Option Log) (p q : PassState S Event Span) (on : SeesMore known p q) where
  pub longer : length p.card.seen ≤ length q.card.seen
  longer = let a = ap length on.seen in let b = length-append p.card.seen on.more in omega (arith, a, b)

  pub seen_on : GoesOn (seen_by known p) (seen_by known q)
  seen_on = by_log known
    where
      by_log : (o : Option Log) → GoesOn (seen_by o p) (seen_by o q)
      by_log None events is = absurd (cc)
      by_log (Some log) events is =
          let same : p.card.seen ≡ events = cc in
          (on.more, ap Some (on.seen ∙ ap (λ (z : List Event). z ++ on.more) same))

  module _ (sees : SeesHolds known p) where
    -- the set of a hold, and those of all
    pub set_kept : (k : Span) → Contains p.held k → pass_set known q k ≡ pass_set known p k
    set_kept k mine = by_log known (λ log is. let r = on.entries log is in held_on k p.card.seen q.card.seen r.0 r.1 (sees.held log is k mine))
      where
        by_log : (o : Option Log) → ((log : Log) → o ≡ Some log → held k q.card.seen ≡ held k p.card.seen) → pass_set o q k ≡ pass_set o p k
        by_log None each = refl
        by_log (Some log) each = ap Some (each log refl)

    pub sets_kept : option_map (sets_in p.held) (seen_by known q) ≡ option_map (sets_in p.held) (seen_by known p)
    sets_kept = by_log known (λ log is. let r = on.entries log is in sets_on p.held p.card.seen q.card.seen (λ k mine. held_on k p.card.seen q.card.seen r.0 r.1 (sees.held log is k mine)))
      where
        by_log : (o : Option Log) → ((log : Log) → o ≡ Some log → sets_in p.held q.card.seen ≡ sets_in p.held p.card.seen) → option_map (sets_in p.held) (seen_by o q) ≡ option_map (sets_in p.held) (seen_by o p)
        by_log None each = refl
        by_log (Some log) each = ap Some (each log refl)

    -- what the last hold took
    pub taken_kept : q.asked ≡ p.asked → taken_by known q ≡ taken_by known p
    taken_kept same = by_log known
      where
        by_log : (o : Option Log) → taken_by o q ≡ taken_by o p
        by_log None = refl
        by_log (Some log) =
            ap Some
            (ap (λ (a : List Event). take (length a) q.card.seen) same
            ∙ ap (take (length p.asked)) on.seen
            ∙ take_first (length p.asked) p.card.seen on.more sees.asked)

    -- holds that are fewer reach no further
    pub still_sees : q.asked ≡ p.asked → ((k : Span) → Contains q.held k → Contains p.held k) → SeesHolds known q
    still_sees same fewer = record {
      asked = let a = ap length same in let b = sees.asked in let c = longer in omega (arith, a, b, c);
      held = λ log is k mine.
          let r = on.entries log is in
          let within = sees.held log is k (fewer k mine) in
          let a = ap length r.1 in
          let b = length-append (entries_of p.card.seen) r.0 in
          (within.0, let high = within.1 in omega (arith, a, b, high));
    }

    -- no hold was taken or given back
    module _ (held_same : q.held ≡ p.held) (asks_same : q.asks ≡ p.asks) (asked_same : q.asked ≡ p.asked) where
      pub keeps : KeepsHolds (pass_holds known p) (pass_holds known q)
      keeps = record {
        asks = ap (λ (n : ℕ). min n (2 ^ 64 - 1)) asks_same;
        held = ap length held_same;
        took = taken_kept asked_same;
        seen = seen_on;
        out = ap (λ (hs : List Span). option_map (sets_in hs) (seen_by known q)) held_same ∙ sets_kept;
      }

      pub stay : StayHeld (times_in p.held) (times_in q.held) size_of size_of (pass_set known p) (pass_set known q)
      stay = record {
        times = λ k. ap (λ (hs : List Span). times_in hs k) held_same;
        size = λ k out. refl;
        set = λ k out. set_kept k (is_out k p.held out);
      }

      pub sees_still : SeesHolds known q
      sees_still = still_sees asked_same (λ k mine. subst (λ (hs : List Span). Contains hs k) held_same mine)

    -- a hold was given back
    module _ (one : Span) (held_less : Without one p.held q.held) (asks_same : q.asks ≡ p.asks) (asked_same : q.asked ≡ p.asked) where
      fewer : (k : Span) → Contains q.held k → Contains p.held k
      fewer k mine = still_in p.held held_less.0 k (subst (λ (hs : List Span). Contains hs k) held_less.3 mine)

      pub sees_less : SeesHolds known q
      sees_less = still_sees asked_same fewer

      pub gives_back : Contains p.held one → GivesBack (pass_set known p one) (pass_holds known p) (pass_holds known q)
      gives_back mine = record {
        asks = ap (λ (n : ℕ). min n (2 ^ 64 - 1)) asks_same;
        held = let shorter = length-remove p.held held_less.0 held_less.1 in let len = ap length held_less.3 in omega (arith, shorter, len);
        took = taken_kept asked_same;
        seen = seen_on;
        out = subst (λ (o : Option (List Entry)). DropsSet o (option_map (sets_in p.held) (seen_by known p)) (option_map (sets_in q.held) (seen_by known q))) (set_kept one mine)
            (subst (λ (o : Option (List (List Entry))). DropsSet (pass_set known q one) o (option_map (sets_in q.held) (seen_by known q))) sets_kept
            (drops_set p.held q.held one (seen_by known q) held_less));
      }

      pub one_less : HoldsOneLess one (times_in p.held) (times_in q.held) size_of size_of (pass_set known p) (pass_set known q)
      one_less =
          let less = holds_less p.held q.held one (seen_by known q) held_less in
          record {
            less = less.less;
            others = less.others;
            size = λ k out. refl;
            set = λ k out. set_kept k (fewer k (is_out k q.held out));
          }

    -- this hold was taken, of all that was seen at home
    module _ (one : Span) (held_more : q.held ≡ p.held ++ one ∷ []) (asks_more : q.asks ≡ next_count p.asks) (asked_all : q.asked ≡ q.card.seen) where
      taken_all : taken_by known q ≡ seen_by known q
      taken_all = by_log known
        where
          by_log : (o : Option Log) → taken_by o q ≡ seen_by o q
          by_log None = refl
          by_log (Some log) = ap Some (take_all (length q.asked) q.card.seen (let a = ap length asked_all in omega (arith, a)))

      pub takes : ((log : Log) → known ≡ Some log → held one q.card.seen ≡ set_of q.card.seen) → TakesHold (pass_set known q one) (pass_holds known p) (pass_holds known q)
      takes whole = record {
        asks = let a = asks_more in omega (arith, a);
        held = let a = ap length held_more in let b = length-append p.held (one ∷ []) in omega (arith, a, b);
        asked = by_log known whole ∙ ap (option_map set_of) (sym taken_all);
        took = subst (λ (o : Option (List Event)). GoesOn (seen_by known p) o) (sym taken_all) seen_on;
        seen = seen_on;
        out = subst (λ (o : Option (List (List Entry))). AddsSet (pass_set known q one) o (option_map (sets_in q.held) (seen_by known q))) sets_kept
            (subst (λ (hs : List Span). AddsSet (pass_set known q one) (option_map (sets_in p.held) (seen_by known q)) (option_map (sets_in hs) (seen_by known q))) (sym held_more)
            (adds_set p.held one (seen_by known q)));
      }
        where
          by_log : (o : Option Log) → ((log : Log) → o ≡ Some log → held one q.card.seen ≡ set_of q.card.seen) → pass_set o q one ≡ option_map set_of (seen_by o q)
          by_log None each = refl
          by_log (Some log) each = ap Some (each log refl)

      pub one_more : HoldsOneMore one (times_in p.held) (times_in q.held) size_of size_of (pass_set known p) (pass_set known q)
      one_more =
          let more = subst (λ (hs : List Span). HoldsOneMore one (times_in p.held) (times_in hs) size_of size_of (pass_set known q) (pass_set known q)) (sym held_more) (holds_more p.held one (seen_by known q)) in
          record {
            more = more.more;
            others = more.others;
            size = λ k out. refl;
            set = λ k out. set_kept k (is_out k p.held out);
          }

      pub sees_one : ((log : Log) → known ≡ Some log → IsWithin (length (entries_of q.card.seen)) one) → SeesHolds known q
      sees_one within = record {
        asked = let a = ap length asked_all in omega (arith, a);
        held = λ log is k mine.
            elim (Contains-push_cases p.held one k (subst (λ (hs : List Span). Contains hs k) held_more mine)) [
              | inl before ↦
                  let r = on.entries log is in
                  let old = sees.held log is k before in
                  let a = ap length r.1 in
                  let b = length-append (entries_of p.card.seen) r.0 in
                  (old.0, let high = old.1 in omega (arith, a, b, high))
              | inr same ↦ subst (λ (x : Span). IsWithin (length (entries_of q.card.seen)) x) same (within log is)
            ];
      }
