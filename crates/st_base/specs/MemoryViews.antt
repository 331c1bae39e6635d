-- What the implementations in memory are seen as, and what each call of them does.
use Rattle.std.specs.Prelude.{ℕ, ◌+◌, ◌-◌, ◌^◌, ◌≡◌, min, List, [], length, drop, ◌++◌, Contains, Result, MatchResult}
use Rattle.st_base.specs.Faults.{next_count}

-- a source that gives at most this many bytes a call and fails at the calls of these numbers,
-- counted from 0: the bytes to come, the calls so far and the faults so far
pub record SourceView : Type 0 where
  pub left : List ℕ
  pub piece : ℕ
  pub fails : List ℕ
  pub calls : ℕ
  pub faults : ℕ

-- a sink that fails at the calls of these numbers: what was written, the calls so far and the
-- faults so far
pub record SinkView : Type 0 where
  pub written : List ℕ
  pub fails : List ℕ
  pub calls : ℕ
  pub faults : ℕ

-- a file that fails at the calls of these numbers: its bytes, the reads, the bytes that these asked
-- for, and the faults so far
pub record ReaderView : Type 0 where
  pub content : List ℕ
  pub fails : List ℕ
  pub reads : ℕ
  pub asked : ℕ
  pub faults : ℕ

-- a source of these bytes that gave none yet
abbrev pub unread_source : List ℕ → ℕ → List ℕ → SourceView
unread_source bytes piece fails =
    record { left = bytes; piece = piece; fails = fails; calls = 0; faults = 0 }

-- a sink that has nothing yet
abbrev pub empty_sink : List ℕ → SinkView
empty_sink fails = record { written = []; fails = fails; calls = 0; faults = 0 }

-- a file of these bytes, of which nothing was read
abbrev pub unread_file : List ℕ → List ℕ → ReaderView
unread_file bytes fails =
    record { content = bytes; fails = fails; reads = 0; asked = 0; faults = 0 }

-- the call gives as much as piece and room allow, or its number is listed and it fails
abbrev pub GivesOrFails : {E : Type 0} → SourceView → SourceView → List ℕ → Result ℕ E → Type 0
GivesOrFails old new out result =
    MatchResult result
    (λ n. (Contains old.fails old.calls → ⊥)
    × (n ≡ min (length old.left) (min (length out) old.piece))
    × (new ≡ record old { left = drop n old.left; calls = next_count old.calls }))
    (λ _. Contains old.fails old.calls
    × (new ≡ record old { calls = next_count old.calls; faults = next_count old.faults }))

-- the call takes all, or it fails, as it does if its number is listed or it is out of memory
abbrev pub TakesOrFails : {E : Type 0} → SinkView → SinkView → List ℕ → Result ℕ E → Type 0
TakesOrFails old new bytes result =
    MatchResult result
    (λ n. (Contains old.fails old.calls → ⊥)
    × (n ≡ length bytes)
    × (new ≡ record old { written = old.written ++ bytes; calls = next_count old.calls }))
    (λ _. new ≡ record old { calls = next_count old.calls; faults = next_count old.faults })

-- the call takes all, and the number of bytes taken so far rises by theirs, but stops at the
-- greatest number of a u64
abbrev pub TakesAll : {E : Type 0} → ℕ → ℕ → List ℕ → Result ℕ E → Type 0
TakesAll old new bytes result =
    MatchResult result
    (λ n. (n ≡ length bytes) × (new ≡ min (old + length bytes) (2 ^ 64 - 1)))
    (λ _. ⊥)

-- a file after a read that asked for this many bytes
abbrev pub read_once : ReaderView → ℕ → ReaderView
read_once r n = record r { reads = next_count r.reads; asked = min (r.asked + n) (2 ^ 64 - 1) }

-- the call counts itself and what it was asked for, and fails if and only if its number is listed
abbrev pub ReadsOrFails : {E : Type 0} → ReaderView → ReaderView → List ℕ → Result ℕ E → Type 0
ReadsOrFails old new out result =
    MatchResult result
    (λ n. (Contains old.fails old.reads → ⊥) × (new ≡ read_once old (length out)))
    (λ _. Contains old.fails old.reads
    × (new ≡ record (read_once old (length out)) { faults = next_count old.faults }))
