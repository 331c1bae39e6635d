-- The forms of a pcap file: the order of the bytes of its numbers, and the unit of its fractions
-- of seconds. The libpcap savefile format, "File Header", "Packet Record".
use Rattle.std.specs.Prelude.{ℕ, ◌*◌, ◌/◌, List, drop}
use Rattle.byteorder.specs.Endian.{big_number, little_number}
use Rattle.st_pcap.specs.declared.forms.Order.{Order}
use Rattle.st_pcap.specs.declared.forms.Order.TheVariants.{Little, Big}
use Rattle.st_pcap.specs.declared.forms.Unit as unit
use Rattle.st_pcap.specs.declared.forms.Unit.TheVariants.{Micro, Nano}
use Rattle.st_pcap.specs.declared.numbers.TheConstants.{NUMBER_SIZE, SHORT_SIZE, LITTLE_MICRO, BIG_MICRO, LITTLE_NANO, BIG_NANO, MICROS, NANOS, NANOS_IN_MICRO}

-- the number of four bytes from this offset on
abbrev pub number_at : Order → ℕ → List ℕ → ℕ
number_at Little at bytes = little_number NUMBER_SIZE (drop at bytes)
number_at Big at bytes = big_number NUMBER_SIZE (drop at bytes)

-- the number of two bytes from this offset on
abbrev pub short_at : Order → ℕ → List ℕ → ℕ
short_at Little at bytes = little_number SHORT_SIZE (drop at bytes)
short_at Big at bytes = big_number SHORT_SIZE (drop at bytes)

-- the first four bytes of a file of this form, as a little-endian number
abbrev pub magic : Order → unit.Unit → ℕ
magic Little Micro = LITTLE_MICRO
magic Big Micro = BIG_MICRO
magic Little Nano = LITTLE_NANO
magic Big Nano = BIG_NANO

-- how many fractions a second has
abbrev pub fractions : unit.Unit → ℕ
fractions Micro = MICROS
fractions Nano = NANOS

-- a fraction in nanoseconds
abbrev pub nanoseconds : unit.Unit → ℕ → ℕ
nanoseconds Micro fraction = fraction * NANOS_IN_MICRO
nanoseconds Nano fraction = fraction

-- the fraction that this many nanoseconds are, cut off
abbrev pub fraction_of : unit.Unit → ℕ → ℕ
fraction_of Micro nanos = nanos / NANOS_IN_MICRO
fraction_of Nano nanos = nanos
