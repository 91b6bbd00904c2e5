-- Where the parts of certificates and view states stand, each place counted from the first byte.
use Rattle.std.specs.Prelude.{ℕ, ◌+◌, ◌*◌, length, Some, None, Option}
use Rattle.records.specs.Lists.{listed}
use Rattle.records.specs.Reading.{certificate_size}
use Rattle.records.specs.declared.certificate.Certificate.{Certificate}
use Rattle.records.specs.declared.arrivals.ViewState.{ViewState}
use Rattle.records.specs.declared.places.StatePlaces.{StatePlaces}

-- the place after a certificate
abbrev pub after_certificate : ℕ → ℕ → ℕ
after_certificate n at = at + certificate_size n

-- the place after none or one commit certificate whose count stands at a place
abbrev pub after_commit : ℕ → ℕ → Option Certificate → ℕ
after_commit n at None = at + 1
after_commit n at (Some c) = after_certificate n (at + 1)

-- in a view state at a place: its commit certificate, behind the count of it
abbrev pub commit_place : ℕ → ℕ
commit_place at = at + 8

-- the first prepared certificate, behind the count of them
abbrev pub prepared_place : ℕ → ℕ → ViewState → ℕ
prepared_place n at s = after_commit n (at + 7) s.commit + 1

-- its own seal
abbrev pub state_seal_place : ℕ → ℕ → ViewState → ℕ
state_seal_place n at s = prepared_place n at s + length (listed s.prepared) * certificate_size n

-- the place after it
abbrev pub state_end : ℕ → ℕ → ViewState → ℕ
state_end n at s = state_seal_place n at s + 8

abbrev pub places_of : ℕ → ℕ → ViewState → StatePlaces
places_of n at s = record {
  commit = commit_place at;
  prepared = prepared_place n at s;
  seal = state_seal_place n at s;
  end = state_end n at s;
}
