-- What the calls of the module `time_reader` ensure: how an instant is read, by its shape and by
-- numbers at offsets of the word.
use Rattle.std.specs.Prelude.{◌≡◌, ℕ, ◌+◌, ◌-◌, ◌*◌, ◌<◌, ◌≤◌, Bool, true, false, ◌&&◌, ◌==◌, if◌then◌else◌, List, [], ◌∷◌, length, take, slice_index, codes, Option, MatchOption, ℤ, pos, neg_ℤ, ◌+ℤ◌}
use Rattle.std.specs.Char.{is_ascii_digit}
use Rattle.jiff_core.specs.Calendar.{IsCivilDate, days_from_civil}
use Rattle.st_query.specs.Times.{IsOffset, IsSpan}
use Rattle.st_query.specs.declared.units.TheConstants.{MINUTE, HOUR, DAY}
use Rattle.st_query.specs.declared.time_reader.Zone.{Zone}
use Rattle.st_query.specs.declared.time_reader.Zone.TheVariants.{East, West}

-- the byte is the wanted one; a wanted `0` is any digit
abbrev pub fits_byte : ℕ → ℕ → Bool
fits_byte wanted found = if wanted == 48 then is_ascii_digit found else (found == wanted)

-- the text has the pattern's bytes
abbrev pub fits : List ℕ → List ℕ → Bool
fits [] [] = true
fits (p ∷ ps) (b ∷ bs) = fits_byte p b && fits ps bs
fits [] (b ∷ bs) = false
fits (p ∷ ps) [] = false

-- the number that two digits write there
abbrev pub two_at : ℕ → List ℕ → ℕ
two_at at text = (slice_index text at - 48) * 10 + (slice_index text (at + 1) - 48)

-- the year of the word
abbrev pub year_at : List ℕ → ℕ
year_at word = two_at 0 word * 100 + two_at 2 word

-- `YYYY-MM-DDThh:mm:ss` and more
abbrev pub HasShape : List ℕ → Type 0
HasShape word = (19 ≤ length word) × (fits (codes "0000-00-00T00:00:00") (take 19 word) ≡ true)

-- the word's date is one of the calendar
abbrev pub HasDate : List ℕ → Type 0
HasDate word = IsCivilDate (pos (year_at word)) (two_at 5 word) (two_at 8 word)

-- it is n days after -9999-01-01
abbrev pub IsDayOf : List ℕ → ℕ → Type 0
IsDayOf word n = HasDate word
    × (days_from_civil (pos (year_at word)) (two_at 5 word) (two_at 8 word) +ℤ pos 4_371_587
    ≡ pos n)

-- the word's time of day is one
abbrev pub HasClock : List ℕ → Type 0
HasClock word = (two_at 11 word < 24) × (two_at 14 word < 60) × (two_at 17 word < 60)

-- it is n seconds after midnight
abbrev pub IsClockOf : List ℕ → ℕ → Type 0
IsClockOf word n =
    HasClock word × (two_at 11 word * HOUR + two_at 14 word * MINUTE + two_at 17 word ≡ n)

-- by how many seconds local time is ahead of UTC
abbrev pub ahead : Zone → ℤ
ahead (East seconds) = pos seconds
ahead (West seconds) = neg_ℤ (pos seconds)

-- it is less than a day
abbrev pub IsWithinDay : Zone → Type 0
IsWithinDay (East seconds) = seconds < DAY
IsWithinDay (West seconds) = seconds < DAY

-- the offset that the text spells, or none if it spells none
abbrev pub ReadsOffset : List ℕ → Option Zone → Type 0
ReadsOffset text r =
    MatchOption r ((n : ℤ) → IsOffset text n → ⊥) (λ z. IsOffset text (ahead z) × IsWithinDay z)

-- the count and the unit of the span that the word spells, or none if it spells none
abbrev pub ReadsSpan : List ℕ → Option (ℕ × Bool) → Type 0
ReadsSpan word r =
    MatchOption r ((n : ℕ) (h : Bool) → IsSpan word n h → ⊥) (λ (x : ℕ × Bool). IsSpan word x.0 x.1)
