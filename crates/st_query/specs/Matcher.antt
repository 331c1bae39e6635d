-- What the calls of the module `meaning` ensure.
use Rattle.std.specs.Prelude.{◌≡◌, ℕ, ◌≤◌, ◌↔◌, ⊤, List, length, take, Contains, IsTrue, Option, MatchOption}
use Rattle.st_walk.specs.Walk.{FrameHas}
use Rattle.st_walk.specs.declared.text.Key.{Key}
use Rattle.st_walk.specs.declared.text.Key.TheVariants as key
use Rattle.st_query.specs.declared.addrs.Addr.{Addr}
use Rattle.st_query.specs.declared.addrs.Addr.TheVariants.{V4, V6}
use Rattle.st_query.specs.declared.matcher.Packet.{Packet}
use Rattle.st_query.specs.Words.{network}

-- these are the keys of the frame
abbrev pub KeysAre : List ℕ → List Key → Type 0
KeysAre frame ks = (k : Key) → Contains ks k ↔ FrameHas frame k

-- the key is that of an address whose first n bits are this net
abbrev pub KeyIsIn : Addr → ℕ → Key → Type 0
KeyIsIn net n (key.V4 a) = network (V4 a) n ≡ net
KeyIsIn net n (key.V6 a) = network (V6 a) n ≡ net
KeyIsIn net n _ = ⊥

-- the frame has such a key
abbrev pub FrameIsIn : List ℕ → Addr → ℕ → Type 0
FrameIsIn frame net n = (k : Key) × KeyIsIn net n k × FrameHas frame k

-- some of these keys are of addresses whose first n bits are this net
abbrev pub AnyIsIn : Addr → ℕ → List Key → Type 0
AnyIsIn net n ks = (k : Key) × KeyIsIn net n k × Contains ks k

-- the keys of the frame are the first ones in the room, this many, or none are known
abbrev pub Gathers : List ℕ → List Key → Option ℕ → Type 0
Gathers frame room r = MatchOption r ⊤ (λ n. (n ≤ length room) × KeysAre frame (take n room))

-- if the packet's keys are whole, they are those of its frame
abbrev pub HasItsKeys : Packet → Type 0
HasItsKeys p = IsTrue p.whole → KeysAre p.record.now.body p.keys.now
