-- The laws of the wire format: what is written reads back, what is read writes back, what a seal covers says one thing,
-- and the figures. Every ring has 1 to 10 stations.
use Rattle.std.specs.Prelude.{◌≡◌, ℕ, ◌≤◌, List, ◌++◌, length, take, Ok}
use Rattle.quorum.specs.Figures.{faults_of, quorum_of}
use Rattle.records.specs.Range.{Bytes, RightRequest, RightInform, RightCertificate, RightNewView, RightArrival, RightRecord}
use Rattle.records.specs.Reading.{request_of, inform_of, arrival_of, record_of, first_of, certificate_size}
use Rattle.records.specs.Statements.{Statement, statement_of, said_bytes, covered, RightStatement}
use Rattle.records.specs.Writing.{certificate_bytes, arrival_bytes, record_bytes}
use Rattle.records.specs.declared.request.Request.{Request}
use Rattle.records.specs.declared.certificate.Certificate.{Certificate}
use Rattle.records.specs.declared.arrivals.CheckCommit.{CheckCommit}
use Rattle.records.specs.declared.arrivals.Inform.{Inform}
use Rattle.records.specs.declared.arrivals.NewView.{NewView}
use Rattle.records.specs.declared.arrivals.Arrival.{Arrival}
use Rattle.records.specs.declared.arrivals.Arrival.TheVariants as arrival
use Rattle.records.specs.declared.arrivals.Record.{Record}
use Rattle.records.specs.declared.arrivals.Record.TheVariants as rec

-- the first record that bytes begin with is in range, and those bytes are its bytes
abbrev pub FirstBack : Type 0
FirstBack =
    (n : ℕ) → 1 ≤ n → n ≤ 10 → (bs : List ℕ) → Bytes bs → (r : Record) (end : ℕ) → first_of n bs ≡ Ok (r, end) → RightRecord n r × (record_bytes r ≡ take end bs) × (end ≡ length (record_bytes r)) × (end ≤ length bs)

-- bytes that are exactly one record are that record's bytes
abbrev pub RecordBack : Type 0
RecordBack =
    (n : ℕ) → 1 ≤ n → n ≤ 10 → (bs : List ℕ) → Bytes bs → (r : Record) → record_of n bs ≡ Ok r → RightRecord n r × (record_bytes r ≡ bs)

abbrev pub ArrivalBack : Type 0
ArrivalBack =
    (n : ℕ) → 1 ≤ n → n ≤ 10 → (bs : List ℕ) → Bytes bs → (a : Arrival) → arrival_of n bs ≡ Ok a → RightArrival n a × (arrival_bytes a ≡ bs)

abbrev pub RequestBack : Type 0
RequestBack =
    (bs : List ℕ) → Bytes bs → (r : Request) → request_of bs ≡ Ok r → RightRequest r × (record_bytes (rec.Request r) ≡ bs)

abbrev pub InformBack : Type 0
InformBack =
    (bs : List ℕ) → Bytes bs → (i : Inform) → inform_of bs ≡ Ok i → RightInform i × (record_bytes (rec.Inform i) ≡ bs)

-- a record in range reads back from its bytes, whatever comes after them
abbrev pub FirstReads : Type 0
FirstReads =
    (n : ℕ) → 1 ≤ n → n ≤ 10 → (r : Record) (rest : List ℕ) → RightRecord n r → first_of n (record_bytes r ++ rest) ≡ Ok (r, length (record_bytes r))

abbrev pub RecordReads : Type 0
RecordReads = (n : ℕ) → 1 ≤ n → n ≤ 10 → (r : Record) → RightRecord n r → record_of n (record_bytes r) ≡ Ok r

abbrev pub ArrivalReads : Type 0
ArrivalReads = (n : ℕ) → 1 ≤ n → n ≤ 10 → (a : Arrival) → RightArrival n a → arrival_of n (arrival_bytes a) ≡ Ok a

abbrev pub RequestReads : Type 0
RequestReads = (r : Request) → RightRequest r → request_of (record_bytes (rec.Request r)) ≡ Ok r

abbrev pub InformReads : Type 0
InformReads = (i : Inform) → RightInform i → inform_of (record_bytes (rec.Inform i)) ≡ Ok i

-- two statements in range with the same bytes are the same
abbrev pub SaysOne : Type 0
SaysOne =
    (n : ℕ) → 1 ≤ n → n ≤ 10 → (s t : Statement) → RightStatement n s → RightStatement n t → said_bytes s ≡ said_bytes t → s ≡ t

-- what the seal of a record in range says is in range
abbrev pub RightSaid : Type 0
RightSaid = (n : ℕ) (r : Record) → RightRecord n r → RightStatement n (statement_of r)

-- what a seal covers is the first part of its record
abbrev pub CoveredFirst : Type 0
CoveredFirst = (r : Record) → take (length (covered r)) (record_bytes r) ≡ covered r

abbrev pub CoveredLength : Type 0
CoveredLength =
    ((n : ℕ) (c : CheckCommit) → RightArrival n (arrival.CheckCommit c) → length (covered (rec.Arrival (arrival.CheckCommit c))) ≡ 41)
    × ((r : Request) → RightRequest r → length (covered (rec.Request r)) ≡ 24)

-- how many faults a ring survives, and how many stations make a quorum
abbrev pub FiguresAre : Type 0
FiguresAre =
    (faults_of 1 ≡ 0) × (quorum_of 1 ≡ 1) × (faults_of 4 ≡ 1) × (quorum_of 4 ≡ 3) × (faults_of 10 ≡ 3) × (quorum_of 10 ≡ 7)

abbrev pub CertificateSizeFour : Type 0
CertificateSizeFour = certificate_size 4 ≡ 64

abbrev pub CertificateLength : Type 0
CertificateLength =
    (n : ℕ) (c : Certificate) → RightCertificate n c → length (certificate_bytes c) ≡ certificate_size n

-- a new view as bytes
abbrev pub view_bytes : NewView → List ℕ
view_bytes v = record_bytes (rec.Arrival (arrival.NewView v))

-- no new view has more bytes than this, and one has as many
abbrev pub ViewMost : Type 0
ViewMost = (n : ℕ) → 1 ≤ n → n ≤ 10 → (v : NewView) → RightNewView n v → length (view_bytes v) ≤ 6183

abbrev pub ViewLargest : Type 0
ViewLargest = (v : NewView) × RightNewView 10 v × (length (view_bytes v) ≡ 6183)
