-- The limits of the rules and of the format, each by one name; src/limits.rt and src/figures/counts.rt have the same numbers.
use Rattle.std.specs.Prelude.{ℕ}

-- a ring has at most so many stations
abbrev pub most_stations : ℕ
most_stations = 10

-- the numbers of clients begin here
abbrev pub first_client : ℕ
first_client = 1000

-- a keyring has places for so many clients
abbrev pub most_clients : ℕ
most_clients = 16

-- views run from 0 to the last one; the last that can fail has one after it
abbrev pub last_view : ℕ
last_view = 1000000

abbrev pub last_failed_view : ℕ
last_failed_view = 999999

-- a view state has at most so many prepared certificates
abbrev pub most_prepared : ℕ
most_prepared = 8

-- the bytes of the longest certificate, view state, record and statement: those of a ring of ten
abbrev pub longest_certificate : ℕ
longest_certificate = 96

abbrev pub longest_state : ℕ
longest_state = 881

abbrev pub longest_record : ℕ
longest_record = 6183

abbrev pub longest_statement : ℕ
longest_statement = 6175
