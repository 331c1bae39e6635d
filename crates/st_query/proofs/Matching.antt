-- What the keys of a frame say of a primitive.
use Rattle.std.proofs.Common.{◌≡◌, ℕ, ◌<◌, ◌↔◌, Bool, true, false, IsTrue, List, length, Contains, refl, sym, inl, inr, get_or, MatchBool, arith, subst, Option, Some, None, MatchOption, unwrap_or, is_some, take, ◌≤◌, ◌∙◌}
use Rattle.std.specs.Prelude.{⊤}
use Rattle.std.proofs.lemmas.List.{get_or_default}
use Rattle.std.specs.List.{HoldsAt, AllWithin}
use Rattle.st_base.specs.Records.{Rec}
use Rattle.st_walk.specs.Walk.{FrameHas, HasKey}
use Rattle.st_walk.specs.declared.text.Key.{Key}
use Rattle.st_walk.specs.declared.text.Key.TheVariants as key
use Rattle.st_query.specs.declared.addrs.Addr.{Addr}
use Rattle.st_query.specs.declared.addrs.Addr.TheVariants.{V4, V6}
use Rattle.st_query.specs.Words.{network}
use Rattle.st_query.specs.Meaning.{IsInNet}
use Rattle.st_query.specs.Matcher.{KeysAre, KeyIsIn, FrameIsIn}

-- a key that is no second is the frame's
pub frame_has : (body : List ℕ) (sec : ℕ) (k : Key) → ((s : ℕ) → k ≡ key.Second s → ⊥) → HasKey body sec k → FrameHas body k
frame_has body sec k lasts (inl h) = absurd (lasts sec h)
frame_has body sec k lasts (inr h) = h

pub has_by : (body : List ℕ) (sec : ℕ) (k : Key) (r : Bool) (ks : List Key) → ((s : ℕ) → k ≡ key.Second s → ⊥) → KeysAre body ks → IsTrue r ↔ Contains ks k → IsTrue r ↔ HasKey body sec k
has_by body sec k r ks lasts are e = (λ h. inr ((are k).0 (e.0 h)), λ h. e.1 ((are k).1 (frame_has body sec k lasts h)))

to : (a : Addr) (n : ℕ) (r : Rec) → FrameIsIn r.body (network a n) n → IsInNet a n r
to a n r (key.V4 x, h, f) = (V4 x, h, inr f)
to a n r (key.V6 x, h, f) = (V6 x, h, inr f)
to a n r (_, h, f) = absurd h

back : (a : Addr) (n : ℕ) (r : Rec) → IsInNet a n r → FrameIsIn r.body (network a n) n
back a n r (V4 x, h, f) = (key.V4 x, h, frame_has r.body r.sec (key.V4 x) (λ s e. cc) f)
back a n r (V6 x, h, f) = (key.V6 x, h, frame_has r.body r.sec (key.V6 x) (λ s e. cc) f)

-- the frame has an address in the net where one of its keys is
pub in_net : (a : Addr) (n : ℕ) (r : Rec) → FrameIsIn r.body (network a n) n ↔ IsInNet a n r
in_net a n r = (to a n r, back a n r)

pub in_net_by : (a : Addr) (n : ℕ) (p : Rec) (r : Bool) (ks : List Key) → KeysAre p.body ks → IsTrue r ↔ ((k : Key) × KeyIsIn (network a n) n k × Contains ks k) → IsTrue r ↔ IsInNet a n p
in_net_by a n p r ks are e = (
  λ h. let (k, i, c) = e.0 h in (in_net a n p).0 (k, i, (are k).0 c),
  λ h. let (k, i, f) = (in_net a n p).1 h in e.1 (k, i, (are k).1 f),
)

pub in_net_walked : (a : Addr) (n : ℕ) (p : Rec) (body : List ℕ) (r : Bool) → body ≡ p.body → IsTrue r ↔ FrameIsIn body (network a n) n → IsTrue r ↔ IsInNet a n p
in_net_walked a n p body r same e =
    let f : IsTrue r ↔ FrameIsIn p.body (network a n) n = rw same at e in
    (λ h. (in_net a n p).0 (f.0 h), λ h. f.1 ((in_net a n p).1 h))

-- what a search through all keys of the frame says
pub found_by : (frame : List ℕ) (P : Key → Type 0) (r : Bool) (ks : List Key) → KeysAre frame ks → MatchBool r ((i : ℕ) × (i < length ks) × HoldsAt P ks i) (AllWithin (λ k. P k → ⊥) ks 0 (length ks)) → IsTrue r ↔ ((k : Key) × P k × FrameHas frame k)
found_by frame P true ks are (i, inside, h) =
    let k = get_or ks i (key.Proto 0) in
    let there : Contains ks k = (i, inside, get_or_default ks i k (key.Proto 0) inside) in
    (λ e. (k, h (key.Proto 0), (are k).0 there), λ f. refl)
found_by frame P false ks are h = (
  λ e. let never : false ≡ true = e in cc,
  λ (k, i, f). let (j, inside, e) = (are k).1 f in absurd (h j k (omega arith) inside (subst P (sym e) i)),
)

-- what was gathered are the frame's keys
pub keys_by : (o : Option ℕ) (frame body : List ℕ) (room : List Key) (n : ℕ) (whole : Bool) → MatchOption o ⊤ (λ m. (m ≤ length room) × KeysAre frame (take m room)) → n ≡ unwrap_or o 0 → whole ≡ is_some o → frame ≡ body → IsTrue whole → KeysAre body (take n room)
keys_by None frame body room n whole h e some same t = let never : false ≡ true = sym some ∙ t in cc
keys_by (Some m) frame body room n whole h e some same t = rw (e, ← same) h.1
