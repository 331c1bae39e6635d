-- Where a draft and a lent file come from, which stays with each from its making to its end.
use Rattle.std.specs.Prelude.{ℕ}
use Rattle.st_disk.specs.declared.naming.Kind.{Kind}
use Rattle.st_disk.specs.declared.naming.Name.{Name}
use Rattle.st_disk.specs.declared.naming.Name.TheVariants.{Draft}

-- a draft's kind, the number of its name, and the shelf that made it
pub record DraftOrigin : Type 0 where
  pub kind : Kind
  pub number : ℕ
  pub home : ℕ

-- the name of a draft
abbrev pub draft_name : DraftOrigin → Name
draft_name o = Draft o.kind o.number

-- a lent file's kind, and the shelf that lent it
pub record FileOrigin : Type 0 where
  pub kind : Kind
  pub home : ℕ
