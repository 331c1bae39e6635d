-- What a spool keeps, and what a crash may leave by that.
use Rattle.std.specs.Prelude.{◌≡◌, ◌<◌, ◌≤◌, ◌+◌, ℕ, List, [], ◌∷◌, drop, take, ◌-◌, Contains, Option, None, Some, Bool, ◌&&◌, cond, nat_eq, nat_lt, nat_le, ⊤}
use Rattle.std.specs.List.{list_any}
use Rattle.st_disk.specs.Pairs.{Entry, Files, files_of}
use Rattle.st_disk.specs.Events.{Event}
use Rattle.st_spool.specs.Rows.{Row, Free, Half, Coming, Pair, Going, Held, Past, set_row}
use Rattle.st_spool.specs.History.{entries_of}
use Rattle.st_spool.specs.declared.state.Span.{Span}
use Rattle.st_spool.specs.declared.state.Doubt.{Doubt}
use Rattle.st_spool.specs.declared.state.Doubt.TheVariants.{Nothing, Unsettled, Settled, Unhidden, Hidden}

-- What a spool keeps: the limit in pairs; the stamps of all pairs that were found or published, in
-- order, and how many of them were found at the opening; how many of them, from the first on, were
-- removed, and how many of these, from the first on, have no file left; the greatest stamp; the
-- sets that are held; the doubt; the shelf's count of faults when a publication or an ageing
-- failed, if one did, and how many failed; how many holds were given, and the set of the last one.
pub record SpoolState : Type 0 where
  pub limit : ℕ
  pub stamps : List ℕ
  pub found : ℕ
  pub removed : ℕ
  pub swept : ℕ
  pub last : ℕ
  pub holds : List Span
  pub doubt : Doubt
  pub halted : Option ℕ
  pub halts : ℕ
  pub asks : ℕ
  pub asked : Span

-- what a spool keeps, by its parts
abbrev pub state_by :
    ℕ → List ℕ → ℕ → ℕ → ℕ → ℕ → List Span → Doubt → Option ℕ → ℕ → ℕ → Span → SpoolState
state_by limit stamps found removed swept last holds doubt halted halts asks asked = record {
  limit = limit;
  stamps = stamps;
  found = found;
  removed = removed;
  swept = swept;
  last = last;
  holds = holds;
  doubt = doubt;
  halted = halted;
  halts = halts;
  asks = asks;
  asked = asked;
}

-- what contracts see of a spool: its shelf, what it keeps, and for how many publications it has
-- room
pub record SpoolView (D : Type 0) : Type 0 where
  pub shelf : D
  pub state : SpoolState
  pub spare : ℕ

-- an entry's files and its place in the list of all
pub record Placement : Type 0 where
  pub place : ℕ
  pub files : Files

-- where the entry of a stamp is in a list whose first place has this number
abbrev pub place_in : ℕ → ℕ → List Entry → Option Placement
place_in n s [] = None
place_in n s (e ∷ es) =
    cond (nat_eq e.stamp s) (Some (record { place = n; files = files_of e }))
    (place_in (n + 1) s es)

-- some hold has the entry at this place
abbrev pub covers : List Span → ℕ → Bool
covers holds n = list_any (λ h. nat_le h.from n && nat_lt n h.to) holds

-- the row of a stamp, by the place and files of its entry, if one has it; of a stamp that none has,
-- by whether it is above the last one
abbrev pub row_at : ℕ → List Span → Bool → Option Placement → Row
row_at removed holds above None = cond above Free Past
row_at removed holds above (Some p) =
    cond (nat_le removed p.place) (Pair p.files) (cond (covers holds p.place) (Held p.files) Past)

-- The rows of a spool with no doubt. An entry of the set has its pair. One that was removed has its
-- block and its parked index if a hold has it, and else no index. Above the last stamp there is
-- nothing; a stamp up to it that no entry has has no index.
abbrev pub rows_of : ℕ → List Span → ℕ → List Entry → ℕ → Row
rows_of removed holds last all s = row_at removed holds (nat_lt last s) (place_in 0 s all)

-- the rows after a call that failed on a pair with these files
abbrev pub with_doubt : Doubt → Files → (ℕ → Row) → ℕ → Row
with_doubt Nothing f rows = rows
with_doubt (Unsettled t) f rows = set_row rows t (Half f)
with_doubt (Settled t) f rows = set_row rows t (Coming f)
with_doubt (Unhidden t) f rows = rows
with_doubt (Hidden t) f rows = set_row rows t (Going f)

-- what a crash may leave under the names of each stamp
abbrev pub rows_by : SpoolState → Files → List Entry → ℕ → Row
rows_by st f all = with_doubt st.doubt f (rows_of st.removed st.holds st.last all)

-- The rows of what is read after a call that failed on a pair with these files. If the block was
-- settled the pair is read, and if the index was hidden it is read under its parked name. If the
-- block was not settled, the index may be read or not.
abbrev pub with_read : Doubt → Files → (ℕ → Row) → ℕ → Row
with_read Nothing f rows = rows
with_read (Unsettled t) f rows = set_row rows t (Half f)
with_read (Settled t) f rows = set_row rows t (Pair f)
with_read (Unhidden t) f rows = rows
with_read (Hidden t) f rows = set_row rows t (Held f)

-- what is read under the names of each stamp
abbrev pub read_rows : SpoolState → Files → List Entry → ℕ → Row
read_rows st f all = with_read st.doubt f (rows_of st.removed st.holds st.last all)

-- the call that failed was a publication above all stamps, or the removal of the oldest pair, which
-- has these files
abbrev pub MayBe : Doubt → Files → ℕ → ℕ → List Entry → Type 0
MayBe Nothing f removed last all = ⊤
MayBe (Unsettled t) f removed last all = last < t
MayBe (Settled t) f removed last all = last < t
MayBe (Unhidden t) f removed last all =
    place_in 0 t all ≡ Some (record { place = removed; files = f })
MayBe (Hidden t) f removed last all =
    place_in 0 t all ≡ Some (record { place = removed; files = f })

-- no entry has a stamp above this
abbrev pub AreUpTo : ℕ → List Entry → Type 0
AreUpTo last [] = ⊤
AreUpTo last (e ∷ es) = (e.stamp ≤ last) × AreUpTo last es

-- a held set lies within a list of this length
abbrev pub IsWithin : ℕ → Span → Type 0
IsWithin n h = (h.from ≤ h.to) × (h.to ≤ n)

-- each held set lies within a list of this length
abbrev pub AreWithin : ℕ → List Span → Type 0
AreWithin n holds = (h : Span) → Contains holds h → IsWithin n h

-- the file set of a hold, from the history
abbrev pub held : Span → List Event → List Entry
held span h = take (span.to - span.from) (drop span.from (entries_of h))
