-- Each primitive asks for a range of keys.
use Rattle.std.proofs.Common.{◌≡◌, ℕ, ◌-◌, ◌<◌, ◌≤◌, ◌↔◌, min, true, false, Some, None, ℤ, pos, negsuc, ◌<ℤ◌, ◌≤ℤ◌, inl, inr, refl, ap, subst, arith, nat_eq, nat_le, if◌then◌else◌, ltb→lt, lt→ltb, leb→le, le→leb}
use Rattle.std.proofs.lemmas.Bool.Decides.{nat_tests}
use Rattle.st_base.specs.Records.{Rec}
use Rattle.st_walk.specs.declared.text.Key.{Key}
use Rattle.st_walk.specs.declared.text.Key.TheVariants as key
use Rattle.st_walk.specs.KeyText.{Fits}
use Rattle.st_walk.specs.Walk.{HasKey}
use Rattle.st_walk.proofs.Seconds.{never}
use Rattle.st_query.specs.declared.addrs.Addr.{Addr}
use Rattle.st_query.specs.declared.addrs.Addr.TheVariants.{V4, V6}
use Rattle.st_query.specs.Words.{FitsAddr}
use Rattle.st_query.specs.declared.nodes.Primitive.TheVariants as prim
use Rattle.st_query.specs.Meaning.{addr_key, second_of}
use Rattle.st_eval.specs.declared.ranges.TheConstants.{LAST_SECOND}
use Rattle.st_eval.specs.Ranges.{seconds_before, seconds_from, HasIn, MatchesByRange, EndsFit, RangesFit}
use Rattle.st_eval.proofs.NetRanges.{lies_only, lies_itself, second_lies, within, nets, net_fits}

-- the record has a second in the range where its own lies there
has_second : (r : Rec) (a b : ℕ) → a ≤ r.sec → r.sec ≤ b → HasIn (Some (key.Second a, key.Second b)) r
has_second r a b h i = (key.Second r.sec, inl refl, within a b r.sec h i)

abbrev second_number : Key → ℕ
second_number (key.Second n) = n
second_number _ = 0

own_second : (r : Rec) (x : ℕ) → HasKey r.body r.sec (key.Second x) → x ≡ r.sec
own_second r x (inl e) = ap second_number e
own_second r x (inr f) = absurd (never _ _ _ x f)

second_in : (r : Rec) (a b : ℕ) → HasIn (Some (key.Second a, key.Second b)) r → (a ≤ r.sec) × (r.sec ≤ b)
second_in r a b (k, h, i) =
    let (x, e, low, high) = second_lies a b k i in
    let own = own_second r x (subst (λ (j : Key). HasKey r.body r.sec j) e h) in
    (omega arith, omega arith)

one_key : (k : Key) (r : Rec) → HasKey r.body r.sec k ↔ HasIn (Some (k, k)) r
one_key k r = (λ h. (k, h, lies_itself k), λ (j, h, i). subst (λ (j : Key). HasKey r.body r.sec j) (lies_only k j i) h)

less_from : (a b : ℕ) → (pos a <ℤ pos b) → a < b
less_from a b h = ltb→lt a b h.lt

less_to : (a b : ℕ) → a < b → pos a <ℤ pos b
less_to a b h = record { lt = lt→ltb a b h }

upto_from : (a b : ℕ) → (pos a ≤ℤ pos b) → a ≤ b
upto_from a b h = leb→le a b h.le

upto_to : (a b : ℕ) → a ≤ b → pos a ≤ℤ pos b
upto_to a b h = record { le = le→leb a b h }

before_pos : (t : ℕ) (r : Rec) → r.sec ≤ LAST_SECOND → (r.sec < t) ↔ HasIn (if nat_eq t 0 then None else Some (key.Second 0, key.Second (min (t - 1) LAST_SECOND))) r
before_pos t r small = elim (nat_eq t 0) as (λ b. nat_eq t 0 ≡ b → (r.sec < t) ↔ HasIn (if b then None else Some (key.Second 0, key.Second (min (t - 1) LAST_SECOND))) r) [
  | true ↦ λ e. (λ h. grind (arith, nat_tests), λ h. absurd h)
  | false ↦ λ e. (λ h. has_second r 0 (min (t - 1) LAST_SECOND) (omega arith) (omega arith), λ h. let i = second_in r 0 (min (t - 1) LAST_SECOND) h in grind (arith, nat_tests))
] refl

after_pos : (t : ℕ) (r : Rec) → r.sec ≤ LAST_SECOND → (t ≤ r.sec) ↔ HasIn (if nat_le t LAST_SECOND then Some (key.Second t, key.Second LAST_SECOND) else None) r
after_pos t r small = elim (nat_le t LAST_SECOND) as (λ b. nat_le t LAST_SECOND ≡ b → (t ≤ r.sec) ↔ HasIn (if b then Some (key.Second t, key.Second LAST_SECOND) else None) r) [
  | true ↦ λ e. (λ h. has_second r t LAST_SECOND h (omega arith), λ h. (second_in r t LAST_SECOND h).0)
  | false ↦ λ e. (λ h. grind (arith, nat_tests), λ h. absurd h)
] refl

before : (t : ℤ) (r : Rec) → r.sec ≤ LAST_SECOND → (pos r.sec <ℤ t) ↔ HasIn (seconds_before t) r
before (pos t) r small = let e = before_pos t r small in (λ h. e.0 (less_from _ _ h), λ h. less_to _ _ (e.1 h))
before (negsuc t) r small = (λ h. omega (arith, h), λ h. absurd h)

after : (t : ℤ) (r : Rec) → r.sec ≤ LAST_SECOND → (t ≤ℤ pos r.sec) ↔ HasIn (seconds_from t) r
after (pos t) r small = let e = after_pos t r small in (λ h. e.0 (upto_from _ _ h), λ h. upto_to _ _ (e.1 h))
after (negsuc t) r small = (λ h. has_second r 0 LAST_SECOND (omega arith) (omega arith), λ h. omega arith)

pub matches_by_range : MatchesByRange
matches_by_range (prim.Host a) now r small = one_key (addr_key a) r
matches_by_range (prim.Net a n) now r small = nets a n r
matches_by_range (prim.Port n) now r small = one_key (key.Port n) r
matches_by_range (prim.Proto n) now r small = one_key (key.Proto n) r
matches_by_range (prim.Vlan n) now r small = one_key (key.Vlan n) r
matches_by_range (prim.Mpls n) now r small = one_key (key.Mpls n) r
matches_by_range (prim.Before when) now r small = before (second_of when now) r small
matches_by_range (prim.After when) now r small = after (second_of when now) r small

before_fits : (t : ℤ) → EndsFit (seconds_before t)
before_fits (pos t) = elim (nat_eq t 0) as (λ b. EndsFit (if b then None else Some (key.Second 0, key.Second (min (t - 1) LAST_SECOND)))) [ true ↦ tt | false ↦ (omega arith, omega arith) ]
before_fits (negsuc t) = tt

after_fits : (t : ℤ) → EndsFit (seconds_from t)
after_fits (pos t) = elim (nat_le t LAST_SECOND) as (λ b. nat_le t LAST_SECOND ≡ b → EndsFit (if b then Some (key.Second t, key.Second LAST_SECOND) else None)) [ true ↦ λ e. (grind (arith, nat_tests), omega arith) | false ↦ λ e. tt ] refl
after_fits (negsuc t) = (omega arith, omega arith)

addr_fits : (a : Addr) → FitsAddr a → Fits (addr_key a)
addr_fits (V4 a) f = f
addr_fits (V6 a) f = f

pub ranges_fit : RangesFit
ranges_fit (prim.Host a) now f = (addr_fits a f, addr_fits a f)
ranges_fit (prim.Net a n) now f = net_fits a n f.0
ranges_fit (prim.Port n) now f = (omega arith, omega arith)
ranges_fit (prim.Proto n) now f = (omega arith, omega arith)
ranges_fit (prim.Vlan n) now f = (omega arith, omega arith)
ranges_fit (prim.Mpls n) now f = (omega arith, omega arith)
ranges_fit (prim.Before when) now f = before_fits (second_of when now)
ranges_fit (prim.After when) now f = after_fits (second_of when now)
