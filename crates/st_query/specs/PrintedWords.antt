-- The printed form of one word.
use Rattle.std.specs.Prelude.{ℕ, false, ◌+◌, ◌-◌, ◌/◌, ◌%◌, List, [], ◌∷◌, ◌++◌, codes, decimal, flat_map, ℤ, pos, ◌+ℤ◌, unsigned_abs, nat_le, if◌then◌else◌, zero, suc}
use Rattle.std.specs.Fmt.{digits}
use Rattle.std.specs.Int.{w32, w128, to_be_bytes}
use Rattle.std.specs.Net.Addr.{segments_of}
use Rattle.std.specs.Net.Text.{ipv4_text}
use Rattle.jiff_core.specs.Calendar.{day_count}
use Rattle.st_query.specs.declared.addrs.Addr.{Addr}
use Rattle.st_query.specs.declared.addrs.Addr.TheVariants.{V4, V6}
use Rattle.st_query.specs.declared.units.TheConstants.{MINUTE, HOUR, DAY}
use Rattle.st_query.specs.Times.{date_text, clock_text}

-- 16 bits in lower-case hexadecimal without leading zeros
abbrev pub group_text : ℕ → List ℕ
group_text n = digits 16 false n

-- groups with a colon before each
abbrev pub colon_groups : List ℕ → List ℕ
colon_groups groups = flat_map (λ n. codes ":" ++ group_text n) groups

-- groups with colons between them
abbrev pub groups_text : List ℕ → List ℕ
groups_text [] = []
groups_text (n ∷ rest) = group_text n ++ colon_groups rest

-- four decimal numbers with dots between them, or eight groups with colons between them
abbrev pub address_text : Addr → List ℕ
address_text (V4 bits) = ipv4_text (to_be_bytes w32 bits)
address_text (V6 bits) = groups_text (segments_of (to_be_bytes w128 bits))

-- a net as one word
abbrev pub net_text : Addr → ℕ → List ℕ
net_text a n = address_text a ++ codes "/" ++ decimal n

-- the last year up to that one that begins by the day
unfoldable pub year_by : ℕ → ℕ → ℕ
year_by zero day = 0
year_by (suc year) day =
    if nat_le (day_count (pos (suc year)) 1 1) day then suc year else year_by year day

-- the year of a day in the years 0000 to 9999, where days are counted as the calendar counts them
unfoldable pub year_of : ℕ → ℕ
year_of day = year_by 9999 day

-- the last month of the year up to that one that begins by the day
unfoldable pub month_by : ℕ → ℕ → ℕ → ℕ
month_by year zero day = 0
month_by year (suc month) day =
    if nat_le (day_count (pos year) (suc month) 1) day then suc month else month_by year month day

-- the month of the day
unfoldable pub month_of : ℕ → ℕ
month_of day = month_by (year_of day) 12 day

-- the day's number in its month, from 1
unfoldable pub day_of_month : ℕ → ℕ
day_of_month day = day - day_count (pos (year_of day)) (month_of day) 1 + 1

-- the seconds since 1 January of the year -10000, from which the calendar counts its days
abbrev pub calendar_second : ℤ → ℕ
calendar_second t = unsigned_abs (t +ℤ pos 377_736_739_200)

-- a date and a second of that day
abbrev pub date_time_text : ℕ → ℕ → ℕ → ℕ → List ℕ
date_time_text year month day second =
    date_text year month day ++ codes "T"
    ++ clock_text (second / HOUR) (second / MINUTE % 60) (second % MINUTE)

-- a day and a second of that day
abbrev pub stamp_text : ℕ → ℕ → List ℕ
stamp_text day second = date_time_text (year_of day) (month_of day) (day_of_month day) second

-- `YYYY-MM-DDThh:mm:ssZ`, in UTC
abbrev pub instant_text : ℤ → List ℕ
instant_text t = stamp_text (calendar_second t / DAY) (calendar_second t % DAY) ++ codes "Z"
