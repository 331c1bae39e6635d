-- What one word of a query says of time: an instant after RFC 3339, 5.6, and a span.
use Rattle.std.specs.Prelude.{◌≡◌, ℕ, ◌+◌, ◌*◌, ◌/◌, ◌%◌, ◌^◌, ◌<◌, ◌⊎◌, Bool, if◌then◌else◌, List, [], ◌∷◌, ◌++◌, codes, ℤ, pos, neg_ℤ, ◌+ℤ◌, ◌-ℤ◌, ◌*ℤ◌}
use Rattle.jiff_core.specs.Calendar.{IsBetween, IsCivilDate, days_from_civil}
use Rattle.st_query.specs.declared.limits.TheConstants.{NUMBER_DIGITS}
use Rattle.st_query.specs.declared.units.TheConstants.{MINUTE, HOUR, DAY}
use Rattle.st_query.specs.Words.{IsNumber}

-- a number below 100 in two digits
abbrev pub two : ℕ → List ℕ
two n = (48 + n / 10) ∷ (48 + n % 10) ∷ []

-- a number below 10,000 in four digits
abbrev pub four : ℕ → List ℕ
four n = two (n / 100) ++ two (n % 100)

-- `YYYY-MM-DD`
abbrev pub date_text : ℕ → ℕ → ℕ → List ℕ
date_text year month day = four year ++ codes "-" ++ two month ++ codes "-" ++ two day

-- `hh:mm`
abbrev pub minute_text : ℕ → ℕ → List ℕ
minute_text hour minute = two hour ++ codes ":" ++ two minute

-- `hh:mm:ss`
abbrev pub clock_text : ℕ → ℕ → ℕ → List ℕ
clock_text hour minute second = minute_text hour minute ++ codes ":" ++ two second

-- `Z`, or the hours and minutes by which local time is ahead of UTC or behind it, in seconds
abbrev pub IsOffset : List ℕ → ℤ → Type 0
IsOffset text seconds =
    ((text ≡ codes "Z") × (seconds ≡ pos 0))
    ⊎ ((hour minute : ℕ) × (hour < 24) × (minute < 60)
    × (((text ≡ codes "+" ++ minute_text hour minute)
    × (seconds ≡ pos (hour * HOUR + minute * MINUTE)))
    ⊎ ((text ≡ codes "-" ++ minute_text hour minute)
    × (seconds ≡ neg_ℤ (pos (hour * HOUR + minute * MINUTE))))))

-- the seconds since 1970 of the years 0000 to 9999 in UTC
abbrev pub IsInYears : ℤ → Type 0
IsInYears t = IsBetween (neg_ℤ (pos 62_167_219_200)) (pos 253_402_300_799) t

-- `YYYY-MM-DDThh:mm:ss` and an offset, of a date that the calendar has, in seconds since 1970
pub record IsInstant (word : List ℕ) (t : ℤ) : Type 0 where
  pub year : ℕ
  pub month : ℕ
  pub day : ℕ
  pub hour : ℕ
  pub minute : ℕ
  pub second : ℕ
  pub zone : List ℕ
  pub offset : ℤ
  pub spelled : word
      ≡ date_text year month day ++ codes "T" ++ clock_text hour minute second ++ zone
  pub date : IsCivilDate (pos year) month day
  pub clock : (hour < 24) × (minute < 60) × (second < 60)
  pub is_offset : IsOffset zone offset
  pub value : t
      ≡ ((days_from_civil (pos year) month day *ℤ pos DAY) +ℤ pos
      (hour * HOUR + minute * MINUTE + second)) -ℤ offset
  pub in_years : IsInYears t

-- one to ten digits below 2^32, and the unit, `m` for minutes or `h` for hours
abbrev pub IsSpan : List ℕ → ℕ → Bool → Type 0
IsSpan word count hours =
    (digits : List ℕ) × (word ≡ digits ++ (if hours then codes "h" else codes "m"))
    × IsNumber NUMBER_DIGITS digits count
    × (count < 2 ^ 32)
