-- What every draft of a block keeps.
use Rattle.std.proofs.Common.{◌≡◌, ℕ, ◌+◌, ◌*◌, ◌<◌, ◌≤◌, ◌^◌, max, Bool, true, false, ◌&&◌, List, [], ◌∷◌, ◌++◌, length, length-append, take, drop, All, Option, Some, refl, sym, ap, ◌∙◌, subst, arith, rules}
use Rattle.std.specs.Prelude.{nat_eq, nat_lt, nat_le, IsTrue, if◌then◌else◌}
use Rattle.std.proofs.lemmas.Bool.Decides.{nat_tests}
use Rattle.std.proofs.lemmas.List.{length-take, take_all}
use Rattle.std.proofs.lemmas.List.Elements.{All-head, All-tail, All-weaker, All-push}
use Rattle.st_tblock.specs.Block.{begins, rises_from, key_or_empty}
use Rattle.st_tblock.specs.Builder.{EntryBlockView, block_view, empty, IsSound, added, since_of, restarts_of, shared_of, entry_text, block_size}
use Rattle.st_tblock.proofs.Adding.{shared_fits, entry_some, whole_key}

-- a draft without entries
pub empty_sound : (interval : ℕ) → 1 ≤ interval → IsSound (empty interval)
unfolding begins rises_from
empty_sound interval l =
    record {
      interval = l;
      begun = λ h. absurd (omega arith);
      first = λ h. refl;
      begins = refl;
      within = search rules;
      fit = search rules;
      count = omega arith;
    }

-- both tests of a pair that passes
both_pass : (x y : Bool) → (x && y) ≡ true → (x ≡ true) × (y ≡ true)
both_pass true y e = (refl, e)
both_pass false y e = cc

-- a number above all others rises behind them
rises_push : (n m : ℕ) (ns : List ℕ) → rises_from n ns ≡ true → n < m → All (λ k. k < m) ns → rises_from n (ns ++ m ∷ []) ≡ true
unfolding rises_from
rises_push n m [] h l a = grind (arith, nat_tests)
rises_push n m (k ∷ ns) h l a =
    let both = both_pass (nat_lt n k) (rises_from k ns) h in
    let tail = rises_push k m ns both.1 (All-head (λ j. j < m) k ns a) (All-tail (λ j. j < m) k ns a) in
    rw (both.0, tail) refl

-- and behind a 0 that begins them
begins_push : (m : ℕ) (ns : List ℕ) → begins ns ≡ true → All (λ k. k < m) ns → begins (ns ++ m ∷ []) ≡ true
unfolding begins
begins_push m [] h a = cc
begins_push m (k ∷ ns) h a =
    let both = both_pass (nat_eq k 0) (rises_from 0 ns) h in
    let head = All-head (λ j. j < m) k ns a in
    let tail = rises_push 0 m ns both.1 (omega arith) (All-tail (λ j. j < m) k ns a) in
    rw (both.0, tail) refl

-- the restarts with the next entry's
record IsPlaces (restarts : List ℕ) (size : ℕ) : Type 0 where
  begins : IsTrue (begins restarts)
  within : All (λ n. n < max 1 size) restarts
  fit : All (λ n. n < 2 ^ 32) restarts
  count : 4 * length restarts ≤ 2 ^ 32

places_sound : (d : EntryBlockView) (more : ℕ) → IsSound d → block_size d < 2 ^ 32 → 1 ≤ more → IsPlaces (restarts_of d) (length d.text + more)
places_sound d more sound room some = either (nat_le d.interval d.since) refl
  where
    either : (b : Bool) → nat_le d.interval d.since ≡ b → IsPlaces (if b then d.restarts ++ length d.text ∷ [] else d.restarts) (length d.text + more)
    either false e =
        record {
          begins = sound.begins;
          within = All-weaker (λ n. n < max 1 (length d.text)) (λ n. n < max 1 (length d.text + more)) (λ n l. omega arith) d.restarts sound.within;
          fit = sound.fit;
          count = sound.count;
        }
    either true e =
        let again : d.interval ≤ d.since = grind (arith, nat_tests) in
        let text = sound.begun (let i = sound.interval in omega arith) in
        let below = All-weaker (λ n. n < max 1 (length d.text)) (λ n. n < length d.text) (λ n l. omega arith) d.restarts sound.within in
        let weaker = All-weaker (λ n. n < max 1 (length d.text)) (λ n. n < max 1 (length d.text + more)) (λ n l. omega arith) d.restarts sound.within in
        record {
          begins = begins_push (length d.text) d.restarts sound.begins below;
          within = All-push (λ n. n < max 1 (length d.text + more)) d.restarts (length d.text) weaker (omega arith);
          fit = All-push (λ n. n < 2 ^ 32) d.restarts (length d.text) sound.fit (omega arith);
          count = omega (arith, length-append d.restarts (length d.text ∷ []));
        }

-- a draft is sound with one more entry
pub added_sound : (d : EntryBlockView) (key value : List ℕ) → IsSound d → length key < 2 ^ 32 → length value < 2 ^ 32 → block_size d < 2 ^ 32 → IsSound (added d key value)
added_sound d key value sound lk lv room =
    let ys = entry_text (shared_of d key) key value in
    let some = entry_some (shared_of d key) key value (shared_fits d key).1 lk lv in
    let size : length (d.text ++ ys) ≡ length d.text + length ys = length-append d.text ys in
    let restarts = places_sound d (length ys) sound room some in
    record {
      interval = sound.interval;
      begun = λ h. omega arith;
      first = λ h. absurd (omega arith);
      begins = restarts.begins;
      within = subst (λ (n : ℕ). All (λ k. k < max 1 n) (restarts_of d)) (sym size) restarts.within;
      fit = restarts.fit;
      count = restarts.count;
    }

-- the first restart is 0
pub begins_first : (ns : List ℕ) → begins ns ≡ true → take 1 ns ≡ 0 ∷ []
unfolding begins
begins_first [] h = cc
begins_first (n ∷ ns) h =
    let both = both_pass (nat_eq n 0) (rises_from 0 ns) h in
    let zero : n ≡ 0 = let e = both.0 in grind (arith, nat_tests) in
    ap (λ (k : ℕ). k ∷ []) zero

-- a draft with one more entry, part by part: no restart
pub added_within : (d : EntryBlockView) (key value text : List ℕ) (last : Option (List ℕ)) (shared : ℕ) → shared ≡ shared_of d key → d.since < d.interval → text ≡ d.text ++ entry_text shared key value → last ≡ Some (take shared (key_or_empty d.last) ++ drop shared key) → block_view d.interval (d.since + 1) text d.restarts last ≡ added d key value
added_within d key value text last shared s l t k =
    let within : nat_le d.interval d.since ≡ false = grind (arith, nat_tests) in
    let since : since_of d ≡ d.since + 1 = ap (λ (b : Bool). if b then 1 else d.since + 1) within in
    let restarts : restarts_of d ≡ d.restarts = ap (λ (b : Bool). if b then d.restarts ++ length d.text ∷ [] else d.restarts) within in
    let text_is : text ≡ d.text ++ entry_text (shared_of d key) key value = t ∙ ap (λ (n : ℕ). d.text ++ entry_text n key value) s in
    let last_is : last ≡ Some key = k ∙ ap (λ (n : ℕ). Some (take n (key_or_empty d.last) ++ drop n key)) s ∙ ap Some (whole_key d key) in
    λ i. record { interval = d.interval; since = sym since i; text = text_is i; restarts = sym restarts i; last = last_is i }

-- the same at a restart
pub added_again : (d : EntryBlockView) (key value text : List ℕ) (last : Option (List ℕ)) (shared : ℕ) → shared ≡ shared_of d key → d.interval ≤ d.since → text ≡ d.text ++ entry_text shared key value → last ≡ Some (take shared (key_or_empty d.last) ++ drop shared key) → block_view d.interval 1 text (d.restarts ++ length d.text ∷ []) last ≡ added d key value
added_again d key value text last shared s l t k =
    let again : nat_le d.interval d.since ≡ true = grind (arith, nat_tests) in
    let since : since_of d ≡ 1 = ap (λ (b : Bool). if b then 1 else d.since + 1) again in
    let restarts : restarts_of d ≡ d.restarts ++ length d.text ∷ [] = ap (λ (b : Bool). if b then d.restarts ++ length d.text ∷ [] else d.restarts) again in
    let text_is : text ≡ d.text ++ entry_text (shared_of d key) key value = t ∙ ap (λ (n : ℕ). d.text ++ entry_text n key value) s in
    let last_is : last ≡ Some key = k ∙ ap (λ (n : ℕ). Some (take n (key_or_empty d.last) ++ drop n key)) s ∙ ap Some (whole_key d key) in
    λ i. record { interval = d.interval; since = sym since i; text = text_is i; restarts = sym restarts i; last = last_is i }

-- how many bytes a front has
pub front_size : (n : ℕ) (text : List ℕ) → n ≤ length text → length (take n text) ≡ n
front_size n text l = simp length-take (omega arith)

-- what was put behind a front leaves it
pub kept_front : (n : ℕ) (text cut new : List ℕ) → n ≤ length text → cut ≡ take n text → take (length cut) new ≡ cut → take n new ≡ take n text
kept_front n text cut new l c k =
    let size : length cut ≡ n = ap length c ∙ front_size n text l in
    ap (λ (m : ℕ). take m new) (sym size) ∙ k ∙ c

-- what stands in a block's parts behind one more entry: no restart
pub appended_within : (d now : EntryBlockView) (key value unshared new restarts : List ℕ) (last : Option (List ℕ)) (n shared : ℕ) → d ≡ now → IsSound d → shared ≡ shared_of now key → length key < 2 ^ 32 → length value < 2 ^ 32 → block_size now < 2 ^ 32 → d.since < d.interval → n ≡ length new → new ≡ d.text ++ entry_text shared key value → restarts ≡ d.restarts → unshared ≡ drop shared key → last ≡ Some (take shared (key_or_empty d.last) ++ unshared) → (block_view d.interval (d.since + 1) (take n new) restarts last ≡ added now key value) × IsSound (block_view d.interval (d.since + 1) (take n new) restarts last)
appended_within d now key value unshared new restarts last n shared same sound s lk lv room within size t p f k =
    let shared_is : shared ≡ shared_of d key = s ∙ ap (λ (e : EntryBlockView). shared_of e key) (sym same) in
    let text : take n new ≡ d.text ++ entry_text shared key value = take_all n new (omega arith) ∙ t in
    let key_is : last ≡ Some (take shared (key_or_empty d.last) ++ drop shared key) = k ∙ ap (λ (xs : List ℕ). Some (take shared (key_or_empty d.last) ++ xs)) f in
    let room_is : block_size d < 2 ^ 32 = subst (λ (e : EntryBlockView). block_size e < 2 ^ 32) (sym same) room in
    let parts = added_within d key value (take n new) last shared shared_is within text key_is in
    let draft : block_view d.interval (d.since + 1) (take n new) restarts last ≡ added d key value = ap (λ (ps : List ℕ). block_view d.interval (d.since + 1) (take n new) ps last) p ∙ parts in
    (draft ∙ ap (λ (e : EntryBlockView). added e key value) same, subst IsSound (sym draft) (added_sound d key value sound lk lv room_is))

-- the same at a restart
pub appended_again : (d now : EntryBlockView) (key value unshared new restarts : List ℕ) (last : Option (List ℕ)) (n shared at : ℕ) → d ≡ now → IsSound d → shared ≡ shared_of now key → length key < 2 ^ 32 → length value < 2 ^ 32 → block_size now < 2 ^ 32 → d.interval ≤ d.since → n ≡ length new → new ≡ d.text ++ entry_text shared key value → restarts ≡ d.restarts ++ at ∷ [] → at ≡ length d.text → unshared ≡ drop shared key → last ≡ Some (take shared (key_or_empty d.last) ++ unshared) → (block_view d.interval 1 (take n new) restarts last ≡ added now key value) × IsSound (block_view d.interval 1 (take n new) restarts last)
appended_again d now key value unshared new restarts last n shared at same sound s lk lv room again size t p a f k =
    let shared_is : shared ≡ shared_of d key = s ∙ ap (λ (e : EntryBlockView). shared_of e key) (sym same) in
    let text : take n new ≡ d.text ++ entry_text shared key value = take_all n new (omega arith) ∙ t in
    let key_is : last ≡ Some (take shared (key_or_empty d.last) ++ drop shared key) = k ∙ ap (λ (xs : List ℕ). Some (take shared (key_or_empty d.last) ++ xs)) f in
    let room_is : block_size d < 2 ^ 32 = subst (λ (e : EntryBlockView). block_size e < 2 ^ 32) (sym same) room in
    let places_are : restarts ≡ d.restarts ++ length d.text ∷ [] = p ∙ ap (λ (m : ℕ). d.restarts ++ m ∷ []) a in
    let parts = added_again d key value (take n new) last shared shared_is again text key_is in
    let draft : block_view d.interval 1 (take n new) restarts last ≡ added d key value = ap (λ (ps : List ℕ). block_view d.interval 1 (take n new) ps last) places_are ∙ parts in
    (draft ∙ ap (λ (e : EntryBlockView). added e key value) same, subst IsSound (sym draft) (added_sound d key value sound lk lv room_is))
