-- The names of a shelf's files: the folder of each, and their order.
use Rattle.std.specs.Prelude.{◌≡◌, ◌<◌, ◌⊎◌, ℕ, List, Bool, true, false, ◌&&◌, nat_eq, AllPairs}
use Rattle.st_disk.specs.declared.naming.Kind.{Kind}
use Rattle.st_disk.specs.declared.naming.Kind.TheVariants as kind
use Rattle.st_disk.specs.declared.naming.Name.{Name}
use Rattle.st_disk.specs.declared.naming.Name.TheVariants.{Block, Index, Parked, Draft}

-- a choice by kind
abbrev pub by_kind : {A : Type 0} → Kind → A → A → A
by_kind kind.Block a b = a
by_kind kind.Index a b = b

-- the two kinds are one
abbrev pub same_kind : Kind → Kind → Bool
same_kind kind.Block k = by_kind k true false
same_kind kind.Index k = by_kind k false true

-- the folder of a name: one folder is for blocks and their drafts, the other for the rest
abbrev pub kind_of : Name → Kind
kind_of (Block s) = kind.Block
kind_of (Index s) = kind.Index
kind_of (Parked s) = kind.Index
kind_of (Draft k d) = k

-- the stamp of a name, or the number of a draft's
abbrev pub number_of : Name → ℕ
number_of (Block s) = s
number_of (Index s) = s
number_of (Parked s) = s
number_of (Draft k d) = d

-- the name under which a file of this kind and stamp is published
abbrev pub published : Kind → ℕ → Name
published kind.Block s = Block s
published kind.Index s = Index s

-- the name is one under which a file of this kind is published
abbrev pub IsPublished : Kind → Name → Type 0
IsPublished k n = n ≡ published k (number_of n)

-- the two names are one
abbrev pub same_name : Name → Name → Bool
same_name (Block s) (Block t) = nat_eq s t
same_name (Index s) (Index t) = nat_eq s t
same_name (Parked s) (Parked t) = nat_eq s t
same_name (Draft j d) (Draft k e) = same_kind j k && nat_eq d e
same_name m n = false

-- the rank of a name: blocks, indexes, parked indexes, drafts of blocks, drafts of indexes
abbrev pub rank_of : Name → ℕ
rank_of (Block s) = 0
rank_of (Index s) = 1
rank_of (Parked s) = 2
rank_of (Draft kind.Block d) = 3
rank_of (Draft kind.Index d) = 4

-- the first name comes before the second: by rank, and then by stamp or number
abbrev pub Before : Name → Name → Type 0
Before m n = (rank_of m < rank_of n) ⊎ ((rank_of m ≡ rank_of n) × (number_of m < number_of n))

-- each name comes before all that follow it, so none is there twice
abbrev pub AreSorted : List Name → Type 0
AreSorted names = AllPairs Before names
