-- An instant as it is read against how it is written.
use Rattle.std.proofs.Common.{◌≡◌, ℕ, ◌+◌, ◌*◌, ◌/◌, ◌%◌, ◌<◌, true, List, [], ◌∷◌, ◌++◌, length, take, drop, get_or, codes, refl, sym, ap, ◌∙◌, subst, arith, inl, inr, ℤ, pos, neg_ℤ, ◌+ℤ◌, ◌-ℤ◌, ◌*ℤ◌, take-append-drop}
use Rattle.std.proofs.lemmas.Int.{ints}
use Rattle.jiff_core.specs.Calendar.{IsCivilDate, days_from_civil}
use Rattle.jiff_core.proofs.CalendarLemmas.{days_in_month_bounds}
use Rattle.st_query.specs.Times.{two, minute_text, IsOffset, IsInstant, IsInYears}
use Rattle.st_query.specs.TimeReader.{fits, two_at, year_at, HasShape, HasDate, HasClock, IsDayOf, IsClockOf}
use Rattle.st_query.proofs.TimeShape.{fits_two, fits_mark, fits_end, two_fits, two_back}

-- `YYYY-MM-DDThh:mm:ss` of pairs of digits, and more
abbrev pub stamp : ℕ → ℕ → ℕ → ℕ → ℕ → ℕ → ℕ → List ℕ → List ℕ
stamp century year month day hour minute second rest =
    two century ++ (two year ++ (45 ∷ (two month ++ (45 ∷ (two day ++ (84 ∷ (two hour ++ (58 ∷ (two minute ++ (58 ∷ (two second ++ rest)))))))))))

joined : (w r₁ r₂ r₃ r₄ r₅ r₆ r₇ r₈ r₉ r₁₀ r₁₁ r₁₂ : List ℕ) (a b c d e f g : ℕ)
    → w ≡ two a ++ r₁ → r₁ ≡ two b ++ r₂ → r₂ ≡ 45 ∷ r₃ → r₃ ≡ two c ++ r₄ → r₄ ≡ 45 ∷ r₅ → r₅ ≡ two d ++ r₆ → r₆ ≡ 84 ∷ r₇ → r₇ ≡ two e ++ r₈
    → r₈ ≡ 58 ∷ r₉ → r₉ ≡ two f ++ r₁₀ → r₁₀ ≡ 58 ∷ r₁₁ → r₁₁ ≡ two g ++ r₁₂ → r₁₂ ≡ [] → w ≡ stamp a b c d e f g []
joined w r₁ r₂ r₃ r₄ r₅ r₆ r₇ r₈ r₉ r₁₀ r₁₁ r₁₂ a b c d e f g p₁ p₂ p₃ p₄ p₅ p₆ p₇ p₈ p₉ p₁₀ p₁₁ p₁₂ p₁₃ =
    p₁ ∙ ap (λ t. two a ++ t) (p₂ ∙ ap (λ t. two b ++ t) (p₃ ∙ ap (λ t. 45 ∷ t) (p₄ ∙ ap (λ t. two c ++ t) (p₅ ∙ ap (λ t. 45 ∷ t)
    (p₆ ∙ ap (λ t. two d ++ t) (p₇ ∙ ap (λ t. 84 ∷ t) (p₈ ∙ ap (λ t. two e ++ t) (p₉ ∙ ap (λ t. 58 ∷ t) (p₁₀ ∙ ap (λ t. two f ++ t)
    (p₁₁ ∙ ap (λ t. 58 ∷ t) (p₁₂ ∙ ap (λ t. two g ++ t) p₁₃)))))))))))

-- the pairs of digits of a word of that shape
pub record Stamped (word : List ℕ) : Type 0 where
  pub century : ℕ
  pub year : ℕ
  pub month : ℕ
  pub day : ℕ
  pub hour : ℕ
  pub minute : ℕ
  pub second : ℕ
  pub small : (century < 100) × (year < 100) × (month < 100) × (day < 100) × (hour < 100) × (minute < 100) × (second < 100)
  pub is : word ≡ stamp century year month day hour minute second (drop 19 word)

pub stamped : (word : List ℕ) → HasShape word → Stamped word
stamped word h =
    let a = fits_two (codes "00-00-00T00:00:00") (take 19 word) h.1 in
    let b = fits_two (codes "-00-00T00:00:00") a.rest a.on in
    let c = fits_mark 45 (codes "00-00T00:00:00") b.rest refl b.on in
    let d = fits_two (codes "-00T00:00:00") c.rest c.on in
    let e = fits_mark 45 (codes "00T00:00:00") d.rest refl d.on in
    let f = fits_two (codes "T00:00:00") e.rest e.on in
    let g = fits_mark 84 (codes "00:00:00") f.rest refl f.on in
    let i = fits_two (codes ":00:00") g.rest g.on in
    let j = fits_mark 58 (codes "00:00") i.rest refl i.on in
    let k = fits_two (codes ":00") j.rest j.on in
    let l = fits_mark 58 (codes "00") k.rest refl k.on in
    let m = fits_two [] l.rest l.on in
    let n = fits_end m.rest m.on in
    let front = joined (take 19 word) a.rest b.rest c.rest d.rest e.rest f.rest g.rest i.rest j.rest k.rest l.rest m.rest a.n b.n d.n f.n i.n k.n m.n a.is b.is c.is d.is e.is f.is g.is i.is j.is k.is l.is m.is n in
    record {
      century = a.n;
      year = b.n;
      month = d.n;
      day = f.n;
      hour = i.n;
      minute = k.n;
      second = m.n;
      small = (a.small, b.small, d.small, f.small, i.small, k.small, m.small);
      is = sym (take-append-drop 19 word) ∙ ap (λ t. t ++ drop 19 word) front;
    }

-- the numbers that are read there
pub record Numbers (word : List ℕ) (century year month day hour minute second : ℕ) : Type 0 where
  pub year_is : year_at word ≡ century * 100 + year
  pub month_is : two_at 5 word ≡ month
  pub day_is : two_at 8 word ≡ day
  pub hour_is : two_at 11 word ≡ hour
  pub minute_is : two_at 14 word ≡ minute
  pub second_is : two_at 17 word ≡ second

pub numbers : (word rest : List ℕ) (century year month day hour minute second : ℕ)
    → century < 100 → year < 100 → month < 100 → day < 100 → hour < 100 → minute < 100 → second < 100
    → word ≡ stamp century year month day hour minute second rest → Numbers word century year month day hour minute second
numbers word rest c y m d h mi s c< y< m< d< h< mi< s< is = record {
  year_is = ap year_at is ∙ (let a = two_back c c< in let b = two_back y y< in rw (a, b) refl);
  month_is = ap (two_at 5) is ∙ two_back m m<;
  day_is = ap (two_at 8) is ∙ two_back d d<;
  hour_is = ap (two_at 11) is ∙ two_back h h<;
  minute_is = ap (two_at 14) is ∙ two_back mi mi<;
  second_is = ap (two_at 17) is ∙ two_back s s<;
}

hour_of : (sign hour minute : ℕ) (text : List ℕ) → hour < 24 → text ≡ sign ∷ minute_text hour minute → two_at 1 text ≡ hour
hour_of sign hour minute text h is = ap (two_at 1) is ∙ two_back hour (omega arith)

minute_of : (sign hour minute : ℕ) (text : List ℕ) → minute < 60 → text ≡ sign ∷ minute_text hour minute → two_at 4 text ≡ minute
minute_of sign hour minute text m is = ap (two_at 4) is ∙ two_back minute (omega arith)

-- hours and minutes after a sign have one reading
seconds_unique : (sign h₁ m₁ h₂ m₂ : ℕ) (text : List ℕ) → h₁ < 24 → m₁ < 60 → h₂ < 24 → m₂ < 60 → text ≡ sign ∷ minute_text h₁ m₁ → text ≡ sign ∷ minute_text h₂ m₂
    → h₁ * 3600 + m₁ * 60 ≡ h₂ * 3600 + m₂ * 60
seconds_unique sign h₁ m₁ h₂ m₂ text a b c d p q =
    let hours : h₁ ≡ h₂ = sym (hour_of sign h₁ m₁ text a p) ∙ hour_of sign h₂ m₂ text c q in
    let minutes : m₁ ≡ m₂ = sym (minute_of sign h₁ m₁ text b p) ∙ minute_of sign h₂ m₂ text d q in
    omega arith

heads : (text us vs : List ℕ) (a b : ℕ) → text ≡ a ∷ us → text ≡ b ∷ vs → a ≡ b
heads text us vs a b p q = ap (λ t. get_or t 0 0) (sym p ∙ q)

-- an offset has one value
pub offset_unique : (text : List ℕ) (m n : ℤ) → IsOffset text m → IsOffset text n → m ≡ n
offset_unique text m n (inl h) (inl k) = h.1 ∙ sym k.1
offset_unique text m n (inl h) (inr (hour, minute, a, b, inl k)) = absurd (omega (arith, heads text _ _ 90 43 h.0 k.0))
offset_unique text m n (inl h) (inr (hour, minute, a, b, inr k)) = absurd (omega (arith, heads text _ _ 90 45 h.0 k.0))
offset_unique text m n (inr (hour, minute, a, b, inl k)) (inl h) = absurd (omega (arith, heads text _ _ 90 43 h.0 k.0))
offset_unique text m n (inr (hour, minute, a, b, inr k)) (inl h) = absurd (omega (arith, heads text _ _ 90 45 h.0 k.0))
offset_unique text m n (inr (h₁, m₁, a, b, inl p)) (inr (h₂, m₂, c, d, inl q)) =
    p.1 ∙ ap pos (seconds_unique 43 h₁ m₁ h₂ m₂ text a b c d p.0 q.0) ∙ sym q.1
offset_unique text m n (inr (h₁, m₁, a, b, inl p)) (inr (h₂, m₂, c, d, inr q)) = absurd (omega (arith, heads text _ _ 43 45 p.0 q.0))
offset_unique text m n (inr (h₁, m₁, a, b, inr p)) (inr (h₂, m₂, c, d, inl q)) = absurd (omega (arith, heads text _ _ 45 43 p.0 q.0))
offset_unique text m n (inr (h₁, m₁, a, b, inr p)) (inr (h₂, m₂, c, d, inr q)) =
    p.1 ∙ ap (λ k. neg_ℤ (pos k)) (seconds_unique 45 h₁ m₁ h₂ m₂ text a b c d p.0 q.0) ∙ sym q.1

-- what a word that is an instant has where it is read
pub record ReadsAs (word : List ℕ) (t : ℤ) : Type 0 where
  pub shape : HasShape word
  pub date : HasDate word
  pub clock : HasClock word
  pub offset : ℤ
  pub is_offset : IsOffset (drop 19 word) offset
  pub value : t ≡ ((days_from_civil (pos (year_at word)) (two_at 5 word) (two_at 8 word) *ℤ pos 86400)
      +ℤ pos (two_at 11 word * 3600 + two_at 14 word * 60 + two_at 17 word)) -ℤ offset
  pub in_years : IsInYears t

stamp_fits : (c y m d h mi s : ℕ) → c < 100 → y < 100 → m < 100 → d < 100 → h < 100 → mi < 100 → s < 100
    → fits (codes "0000-00-00T00:00:00") (stamp c y m d h mi s []) ≡ true
stamp_fits c y m d h mi s c< y< m< d< h< mi< s< =
    two_fits c (codes "00-00-00T00:00:00") (two y ++ (45 ∷ (two m ++ (45 ∷ (two d ++ (84 ∷ (two h ++ (58 ∷ (two mi ++ (58 ∷ two s)))))))))) c<
    ∙ two_fits y (codes "-00-00T00:00:00") (45 ∷ (two m ++ (45 ∷ (two d ++ (84 ∷ (two h ++ (58 ∷ (two mi ++ (58 ∷ two s))))))))) y<
    ∙ two_fits m (codes "-00T00:00:00") (45 ∷ (two d ++ (84 ∷ (two h ++ (58 ∷ (two mi ++ (58 ∷ two s))))))) m<
    ∙ two_fits d (codes "T00:00:00") (84 ∷ (two h ++ (58 ∷ (two mi ++ (58 ∷ two s))))) d<
    ∙ two_fits h (codes ":00:00") (58 ∷ (two mi ++ (58 ∷ two s))) h<
    ∙ two_fits mi (codes ":00") (58 ∷ two s) mi<
    ∙ two_fits s [] [] s<

-- a year of the calendar that is no negative number has four digits, and months and days have two
pub year_small : (year month day : ℕ) → IsCivilDate (pos year) month day → (year < 10000) × (month < 100) × (day < 100)
year_small year month day date =
    let days = days_in_month_bounds (pos year) month in
    (omega (arith, ints), omega arith, omega arith)

same_value : (y y' m m' d d' h h' mi mi' s s' : ℕ) (o : ℤ) → y ≡ y' → m ≡ m' → d ≡ d' → h ≡ h' → mi ≡ mi' → s ≡ s'
    → ((days_from_civil (pos y) m d *ℤ pos 86400) +ℤ pos (h * 3600 + mi * 60 + s)) -ℤ o ≡ ((days_from_civil (pos y') m' d' *ℤ pos 86400) +ℤ pos (h' * 3600 + mi' * 60 + s')) -ℤ o
same_value y y' m m' d d' h h' mi mi' s s' o e₁ e₂ e₃ e₄ e₅ e₆ =
    λ i. ((days_from_civil (pos (e₁ i)) (e₂ i) (e₃ i) *ℤ pos 86400) +ℤ pos (e₄ i * 3600 + e₅ i * 60 + e₆ i)) -ℤ o

same_stamp : (c c' y y' m m' d d' h h' mi mi' s s' : ℕ) (z : List ℕ) → c ≡ c' → y ≡ y' → m ≡ m' → d ≡ d' → h ≡ h' → mi ≡ mi' → s ≡ s'
    → stamp c y m d h mi s z ≡ stamp c' y' m' d' h' mi' s' z
same_stamp c c' y y' m m' d d' h h' mi mi' s s' z e₀ e₁ e₂ e₃ e₄ e₅ e₆ = λ i. stamp (e₀ i) (e₁ i) (e₂ i) (e₃ i) (e₄ i) (e₅ i) (e₆ i) z

-- an instant is read as it is written
pub read_back : (word : List ℕ) (t : ℤ) → IsInstant word t → ReadsAs word t
read_back word t h =
    let small = year_small h.year h.month h.day h.date in
    let is : word ≡ stamp (h.year / 100) (h.year % 100) h.month h.day h.hour h.minute h.second h.zone = h.spelled in
    let n = numbers word h.zone (h.year / 100) (h.year % 100) h.month h.day h.hour h.minute h.second (omega arith) (omega arith) small.1 small.2 (omega arith) (omega arith) (omega arith) is in
    let year : year_at word ≡ h.year = n.year_is ∙ omega arith in
    let zone : drop 19 word ≡ h.zone = ap (drop 19) is in
    let date : HasDate word =
    subst (λ k. IsCivilDate (pos k) (two_at 5 word) (two_at 8 word)) (sym year)
    (subst (λ k. IsCivilDate (pos h.year) k (two_at 8 word)) (sym n.month_is) (subst (IsCivilDate (pos h.year) h.month) (sym n.day_is) h.date)) in
    record {
      shape = (
        omega (arith, ap length is),
        ap (λ w. fits (codes "0000-00-00T00:00:00") (take 19 w)) is
            ∙ stamp_fits (h.year / 100) (h.year % 100) h.month h.day h.hour h.minute h.second (omega arith) (omega arith) small.1 small.2 (omega arith) (omega arith) (omega arith),
      );
      date = date;
      clock = (subst (λ k. k < 24) (sym n.hour_is) h.clock.0, subst (λ k. k < 60) (sym n.minute_is) h.clock.1, subst (λ k. k < 60) (sym n.second_is) h.clock.2);
      offset = h.offset;
      is_offset = subst (λ z. IsOffset z h.offset) (sym zone) h.is_offset;
      value = h.value ∙ same_value h.year (year_at word) h.month (two_at 5 word) h.day (two_at 8 word) h.hour (two_at 11 word) h.minute (two_at 14 word) h.second (two_at 17 word) h.offset
          (sym year) (sym n.month_is) (sym n.day_is) (sym n.hour_is) (sym n.minute_is) (sym n.second_is);
      in_years = h.in_years;
    }

-- and written as it is read
pub written : (word : List ℕ) (t : ℤ) → ReadsAs word t → IsInstant word t
written word t r =
    let s = stamped word r.shape in
    let n = numbers word (drop 19 word) s.century s.year s.month s.day s.hour s.minute s.second s.small.0 s.small.1 s.small.2 s.small.3 s.small.4 s.small.5 s.small.6 s.is in
    let century : s.century ≡ year_at word / 100 = omega (arith, s.small, n.year_is) in
    let year : s.year ≡ year_at word % 100 = omega (arith, s.small, n.year_is) in
    record {
      year = year_at word;
      month = two_at 5 word;
      day = two_at 8 word;
      hour = two_at 11 word;
      minute = two_at 14 word;
      second = two_at 17 word;
      zone = drop 19 word;
      offset = r.offset;
      spelled = s.is ∙ same_stamp s.century (year_at word / 100) s.year (year_at word % 100) s.month (two_at 5 word) s.day (two_at 8 word) s.hour (two_at 11 word) s.minute (two_at 14 word)
          s.second (two_at 17 word) (drop 19 word) century year (sym n.month_is) (sym n.day_is) (sym n.hour_is) (sym n.minute_is) (sym n.second_is);
      date = r.date;
      clock = r.clock;
      is_offset = r.is_offset;
      value = r.value;
      in_years = r.in_years;
    }

-- a word is one instant at most
pub instant_unique : (word : List ℕ) (s t : ℤ) → IsInstant word s → IsInstant word t → s ≡ t
instant_unique word s t h k =
    let a = read_back word s h in
    let b = read_back word t k in
    let same = offset_unique (drop 19 word) a.offset b.offset a.is_offset b.is_offset in
    a.value ∙ ap (λ o. ((days_from_civil (pos (year_at word)) (two_at 5 word) (two_at 8 word) *ℤ pos 86400)
    +ℤ pos (two_at 11 word * 3600 + two_at 14 word * 60 + two_at 17 word)) -ℤ o) same ∙ sym b.value

-- the second that is counted from 1970
pub value_is : (days offset t : ℤ) (day clock second : ℕ) → days +ℤ pos 4_371_587 ≡ pos day → pos second ≡ pos (day * 86_400 + clock) -ℤ offset
    → t ≡ ((days *ℤ pos 86400) +ℤ pos clock) -ℤ offset → t ≡ pos second -ℤ pos 377_705_116_800
value_is days offset t day clock second h k e = omega (arith, ints)

value_back : (days offset t : ℤ) (day clock second : ℕ) → days +ℤ pos 4_371_587 ≡ pos day → pos second ≡ pos (day * 86_400 + clock) -ℤ offset
    → t ≡ pos second -ℤ pos 377_705_116_800 → t ≡ ((days *ℤ pos 86400) +ℤ pos clock) -ℤ offset
value_back days offset t day clock second h k e = omega (arith, ints)

-- what was read is an instant
pub found : (word : List ℕ) (day clock second : ℕ) (offset t : ℤ) → HasShape word → IsDayOf word day → IsClockOf word clock → IsOffset (drop 19 word) offset
    → pos second ≡ pos (day * 86_400 + clock) -ℤ offset → t ≡ pos second -ℤ pos 377_705_116_800 → IsInYears t → IsInstant word t
found word day clock second offset t shape days seconds zone sum value years =
    written word t (record {
      shape = shape;
      date = days.0;
      clock = seconds.0;
      offset = offset;
      is_offset = zone;
      value = value_back (days_from_civil (pos (year_at word)) (two_at 5 word) (two_at 8 word)) offset t day _ second days.1 (sum ∙ ap (λ k. pos (day * 86_400 + k) -ℤ offset) (sym seconds.1)) value;
      in_years = years;
    })

-- and none where it lies outside the years
pub none_outside : (word : List ℕ) (day clock second : ℕ) (offset : ℤ) → IsDayOf word day → IsClockOf word clock → IsOffset (drop 19 word) offset
    → pos second ≡ pos (day * 86_400 + clock) -ℤ offset → (IsInYears (pos second -ℤ pos 377_705_116_800) → ⊥) → (t : ℤ) → IsInstant word t → ⊥
none_outside word day clock second offset days seconds zone sum outside t h =
    let r = read_back word t h in
    let same = offset_unique (drop 19 word) r.offset offset r.is_offset zone in
    let value = value_is (days_from_civil (pos (year_at word)) (two_at 5 word) (two_at 8 word)) offset t day _ second days.1 (sum ∙ ap (λ k. pos (day * 86_400 + k) -ℤ offset) (sym seconds.1))
    (r.value ∙ ap (λ o. ((days_from_civil (pos (year_at word)) (two_at 5 word) (two_at 8 word) *ℤ pos 86400)
    +ℤ pos (two_at 11 word * 3600 + two_at 14 word * 60 + two_at 17 word)) -ℤ o) same) in
    outside (subst IsInYears value r.in_years)
