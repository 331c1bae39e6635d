-- The year, the month and the place of a day that the calendar has.
use Rattle.std.proofs.Common.{◌≡◌, ℕ, zero, suc, ◌+◌, ◌-◌, ◌<◌, ◌≤◌, refl, sym, ap, ◌∙◌, subst, arith, inl, inr, ℤ, pos, negsuc, ◌+ℤ◌, le-leb}
use Rattle.std.proofs.lemmas.Int.{ints}
use Rattle.std.proofs.lemmas.Bool.{cases_lt, cases_eq, lt-leb}
use Rattle.jiff_core.specs.declared.civil.date.Date.{Date}
use Rattle.jiff_core.specs.Calendar.{IsCivilDate, day_count}
use Rattle.jiff_core.specs.Date.{epoch_day}
use Rattle.jiff_core.proofs.CalendarLemmas.{days_from_civil-day_count, day_count-lt_year, day_count-lt_month, day_count-day, day_count-day_of_year, day_count-end, day_count-next_year, day_count-last_of_year, day_count-next_month}
use Rattle.jiff_core.proofs.MarchLemmas.{day_count-early}
use Rattle.jiff_core.proofs.DateLemmas.{civil}
use Rattle.st_query.specs.PrintedWords.{year_by, year_of, month_by, month_of, day_of_month}

-- the year 0000 begins there
pub year_zero : day_count (pos 0) 1 1 ≡ 3_652_425
year_zero = day_count-early (pos 0) 9999 1 1 refl (omega arith) (omega arith) (omega arith)

-- a day that does not lie before it has a year that is no negative number
pub no_negative : (y : ℤ) (m d : ℕ) → IsCivilDate y m d → 3_652_425 ≤ day_count y m d → (n : ℕ) × (y ≡ pos n)
no_negative (pos n) m d h late = (n, refl)
no_negative (negsuc n) m d h late =
    let before = day_count-lt_year (negsuc n) m d (pos 0) 1 1 h (omega arith) (omega (arith, ints)) in
    absurd (omega (arith, year_zero))

-- the first day of a year or a month does not lie behind its others
first_of_month : (y : ℤ) (m d : ℕ) → 1 ≤ d → day_count y m 1 ≤ day_count y m d
first_of_month y m d some = omega (arith, day_count-day y m d 1 some (omega arith))

first_of_year : (y : ℤ) (m d : ℕ) → 1 ≤ d → day_count y 1 1 ≤ day_count y m d
first_of_year y m d some = omega (arith, day_count-day_of_year y m d some)

year_by_is : (k y m d day : ℕ) → IsCivilDate (pos y) m d → day_count (pos y) m d ≡ day → y ≤ k → year_by k day ≡ y
unfolding year_by
year_by_is zero y m d day civil is below = omega arith
year_by_is (suc k) y m d day civil is below =
    elim (cases_eq y (suc k)) [
      | inl same ↦
          let begins : day_count (pos (suc k)) 1 1 ≤ day = subst (λ n. day_count (pos n) 1 1 ≤ day) same (subst (λ n. day_count (pos y) 1 1 ≤ n) is (first_of_year (pos y) m d civil.2.0)) in
          rw (le-leb _ day begins) (sym same)
      | inr other ↦
          let later = day_count-lt_year (pos y) m d (pos (suc k)) 1 1 civil (omega arith) (omega (arith, ints)) in
          let before : day < day_count (pos (suc k)) 1 1 = subst (λ n. n < day_count (pos (suc k)) 1 1) is later in
          rw (lt-leb _ day before) (year_by_is k y m d day civil is (omega arith))
    ]

pub year_is : (y m d day : ℕ) → IsCivilDate (pos y) m d → day_count (pos y) m d ≡ day → year_of day ≡ y
unfolding year_of
year_is y m d day civil is = year_by_is 9999 y m d day civil is (omega (arith, ints, civil.0.1))

month_by_is : (k y m d day : ℕ) → IsCivilDate (pos y) m d → day_count (pos y) m d ≡ day → m ≤ k → month_by y k day ≡ m
unfolding month_by
month_by_is zero y m d day civil is below = absurd (omega (arith, civil.1.0))
month_by_is (suc k) y m d day civil is below =
    elim (cases_eq m (suc k)) [
      | inl same ↦
          let begins : day_count (pos y) (suc k) 1 ≤ day = subst (λ n. day_count (pos y) n 1 ≤ day) same (subst (λ n. day_count (pos y) m 1 ≤ n) is (first_of_month (pos y) m d civil.2.0)) in
          rw (le-leb _ day begins) (sym same)
      | inr other ↦
          let later = day_count-lt_month (pos y) m d (suc k) 1 civil (omega arith) (omega arith) in
          let before : day < day_count (pos y) (suc k) 1 = subst (λ n. n < day_count (pos y) (suc k) 1) is later in
          rw (lt-leb _ day before) (month_by_is k y m d day civil is (omega arith))
    ]

pub month_is : (y m d day : ℕ) → IsCivilDate (pos y) m d → day_count (pos y) m d ≡ day → month_of day ≡ m
unfolding month_of
month_is y m d day civil is = ap (λ n. month_by n 12 day) (year_is y m d day civil is) ∙ month_by_is 12 y m d day civil is civil.1.1

pub day_is : (y m d day : ℕ) → IsCivilDate (pos y) m d → day_count (pos y) m d ≡ day → day_of_month day ≡ d
unfolding day_of_month
day_is y m d day civil is =
    let year = year_is y m d day civil is in
    let month = month_is y m d day civil is in
    ap (λ n. day - day_count (pos n) (month_of day) 1 + 1) year ∙ ap (λ n. day - day_count (pos y) n 1 + 1) month
    ∙ omega (arith, day_count-day (pos y) m d 1 civil.2.0 (omega arith), civil.2.0, first_of_month (pos y) m d civil.2.0)

-- the parts of a date of those years
pub record Parts (date : Date) (day : ℕ) : Type 0 where
  pub year : ℕ
  pub is : date.year ≡ pos year
  pub year_found : year ≡ year_of day
  pub month_found : date.month ≡ month_of day
  pub day_found : date.day ≡ day_of_month day
  pub civil : IsCivilDate (pos year) date.month date.day

pub parts : (date : Date) (n : ℕ) → epoch_day date +ℤ pos 4_371_587 ≡ pos n → 3_652_059 ≤ n → Parts date (n + 366)
parts date n h late =
    let count : day_count date.year date.month date.day ≡ n + 366 = omega (arith, ints, days_from_civil-day_count date.year date.month date.day) in
    let (year, is) = no_negative date.year date.month date.day (civil date) (omega arith) in
    let known : IsCivilDate (pos year) date.month date.day = subst (λ y. IsCivilDate y date.month date.day) is (civil date) in
    let at : day_count (pos year) date.month date.day ≡ n + 366 = subst (λ y. day_count y date.month date.day ≡ n + 366) is count in
    record {
      year = year;
      is = is;
      year_found = sym (year_is year date.month date.day (n + 366) known at);
      month_found = sym (month_is year date.month date.day (n + 366) known at);
      day_found = sym (day_is year date.month date.day (n + 366) known at);
      civil = known;
    }

-- what is found is a date of the calendar

pub record IsYearOf (last day year : ℕ) : Type 0 where
  pub most : year ≤ last
  pub begins : day_count (pos year) 1 1 ≤ day
  pub ends : year < last → day < day_count (pos (suc year)) 1 1

year_found : (k day : ℕ) → 3_652_425 ≤ day → IsYearOf k day (year_by k day)
unfolding year_by
year_found zero day late = record { most = omega arith; begins = omega (arith, year_zero); ends = λ less. absurd (omega arith) }
year_found (suc k) day late =
    elim (cases_lt day (day_count (pos (suc k)) 1 1)) [
      | inr begins ↦ rw (le-leb _ day begins) (record { most = omega arith; begins = begins; ends = λ less. absurd (omega arith) })
      | inl before ↦
          let later = year_found k day late in
          rw (lt-leb _ day before) (record { most = omega (arith, later.most); begins = later.begins; ends = λ less. year_ends k day (year_by k day) later before })
    ]
  where
    year_ends : (k day year : ℕ) → IsYearOf k day year → day < day_count (pos (suc k)) 1 1 → day < day_count (pos (suc year)) 1 1
    year_ends k day year later before =
        elim (cases_lt year k) [
          | inl less ↦ later.ends less
          | inr last ↦ let same : k ≡ year = omega (arith, later.most) in subst (λ n. day < day_count (pos (suc n)) 1 1) same before
        ]

pub record IsMonthOf (year last day month : ℕ) : Type 0 where
  pub least : 1 ≤ month
  pub most : month ≤ last
  pub begins : day_count (pos year) month 1 ≤ day
  pub ends : month < last → day < day_count (pos year) (month + 1) 1

month_found : (year k day : ℕ) → day_count (pos year) 1 1 ≤ day → IsMonthOf year (suc k) day (month_by year (suc k) day)
unfolding month_by
month_found year zero day late = rw (le-leb _ day late) (record { least = omega arith; most = omega arith; begins = late; ends = λ less. absurd (omega arith) })
month_found year (suc k) day late =
    elim (cases_lt day (day_count (pos year) (suc (suc k)) 1)) [
      | inr begins ↦ rw (le-leb _ day begins) (record { least = omega arith; most = omega arith; begins = begins; ends = λ less. absurd (omega arith) })
      | inl before ↦
          let later = month_found year k day late in
          rw (lt-leb _ day before) (record {
            least = later.least;
            most = omega (arith, later.most);
            begins = later.begins;
            ends = λ less. month_ends year (suc k) day (month_by year (suc k) day) later before;
          })
    ]
  where
    month_ends : (year k day month : ℕ) → IsMonthOf year k day month → day < day_count (pos year) (suc k) 1 → day < day_count (pos year) (month + 1) 1
    month_ends year k day month later before =
        elim (cases_lt month k) [
          | inl less ↦ later.ends less
          | inr last ↦ let same : suc k ≡ month + 1 = omega (arith, later.most) in subst (λ n. day < day_count (pos year) n 1) same before
        ]

year_ends_in : (day year : ℕ) → IsYearOf 9999 day year → day ≤ 7_304_849 → day < day_count (pos (suc year)) 1 1
year_ends_in day year y early =
    elim (cases_lt year 9999) [
      | inl less ↦ y.ends less
      | inr last ↦
          let same : 9999 ≡ year = omega (arith, y.most) in
          subst (λ n. day < day_count (pos (suc n)) 1 1) same (omega (arith, day_count-end))
    ]

month_ends_in : (day year month : ℕ) → IsMonthOf year 12 day month → day < day_count (pos (suc year)) 1 1 → day < day_count (pos year) (month + 1) 1
month_ends_in day year month m in_year =
    elim (cases_lt month 12) [
      | inl less ↦ m.ends less
      | inr last ↦
          let same : 12 ≡ month = omega (arith, m.most) in
          let next = day_count-next_year (pos year) (pos (suc year)) (omega (arith, ints)) (omega (arith, ints)) in
          let end = day_count-last_of_year (pos year) in
          let over = day_count-next_month (pos year) 12 (omega arith) in
          let days = day_count-day (pos year) 12 1 31 (omega arith) (omega arith) in
          subst (λ n. day < day_count (pos year) (n + 1) 1) same (omega arith)
    ]

found_from : (day year month place : ℕ) → IsYearOf 9999 day year → IsMonthOf year 12 day month → day ≤ 7_304_849 → place ≡ day - day_count (pos year) month 1 + 1
    → IsCivilDate (pos year) month place × (day_count (pos year) month place ≡ day)
found_from day year month place y m early is =
    let ends = month_ends_in day year month m (year_ends_in day year y early) in
    let over = day_count-next_month (pos year) month m.least in
    let some : 1 ≤ place = omega arith in
    let count = day_count-day (pos year) month 1 place (omega arith) some in
    let begins = m.begins in
    (((omega (arith, ints, y.most), omega (arith, ints, y.most)), (m.least, m.most), (some, omega arith)), omega arith)

-- the day of the calendar that is found
pub record IsFound (day : ℕ) : Type 0 where
  pub civil : IsCivilDate (pos (year_of day)) (month_of day) (day_of_month day)
  pub count : day_count (pos (year_of day)) (month_of day) (day_of_month day) ≡ day

pub found : (day : ℕ) → 3_652_425 ≤ day → day ≤ 7_304_849 → IsFound day
unfolding year_of month_of day_of_month
found day late early =
    let y = year_found 9999 day late in
    let m = month_found (year_of day) 11 day y.begins in
    let (civil, count) = found_from day (year_of day) (month_of day) (day_of_month day) y m early refl in
    record { civil = civil; count = count }
