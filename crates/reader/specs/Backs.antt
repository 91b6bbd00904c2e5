-- Every record that is read is in range and writes back as its bytes.
use Rattle.std.specs.Prelude.{◌≡◌, ℕ, ◌≤◌, List, length, take, IfOk, Result}
use Rattle.quorum.specs.declared.refusal.Fault.{Fault}
use Rattle.records.specs.Range.{RightRequest, RightInform, RightArrival, RightRecord}
use Rattle.records.specs.Writing.{arrival_bytes, record_bytes}
use Rattle.records.specs.declared.request.Request.{Request}
use Rattle.records.specs.declared.arrivals.Inform.{Inform}
use Rattle.records.specs.declared.arrivals.Arrival.{Arrival}
use Rattle.records.specs.declared.arrivals.Record.{Record}
use Rattle.records.specs.declared.arrivals.Record.TheVariants as rec

abbrev pub RequestFrom : List ℕ → Result Request Fault → Type 0
RequestFrom bs r = IfOk r (λ x. RightRequest x × (record_bytes (rec.Request x) ≡ bs))

abbrev pub InformFrom : List ℕ → Result Inform Fault → Type 0
InformFrom bs r = IfOk r (λ x. RightInform x × (record_bytes (rec.Inform x) ≡ bs))

abbrev pub ArrivalFrom : ℕ → List ℕ → Result Arrival Fault → Type 0
ArrivalFrom n bs r = IfOk r (λ x. RightArrival n x × (arrival_bytes x ≡ bs))

abbrev pub RecordFrom : ℕ → List ℕ → Result Record Fault → Type 0
RecordFrom n bs r = IfOk r (λ x. RightRecord n x × (record_bytes x ≡ bs))

-- the first record of the bytes, with the place after it
abbrev pub FirstFrom : ℕ → List ℕ → Result (Record × ℕ) Fault → Type 0
FirstFrom n bs r =
    IfOk r (λ p.
    RightRecord n p.0 × (record_bytes p.0 ≡ take p.1 bs) × (p.1 ≡ length (record_bytes p.0)) × (p.1 ≤ length bs))
