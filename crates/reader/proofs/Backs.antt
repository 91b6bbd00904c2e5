-- What the laws of the format say of a reader's answer. Assumes nothing.
use Rattle.std.proofs.Common.{◌≡◌, ℕ, suc, ◌-◌, ◌≤◌, true, ◌&&◌, leb, List, [], ◌∷◌, get_or, take, Ok, Err, Result, sym, ap, ◌∙◌, subst, arith, w8}
use native.Mathlib.Nat.{sub-zero}
use Rattle.std.proofs.lemmas.Bool.{cond-true}
use Rattle.std.proofs.lemmas.Bool.Decides.{nat_tests}
use Rattle.quorum.specs.Rings.{made_of}
use Rattle.quorum.specs.declared.refusal.Fault.TheVariants.{WrongSender}
use mir.Val as val
use Rattle.quorum.specs.declared.refusal.Fault.{Fault}
use Rattle.records.specs.Range.{Bytes}
use Rattle.records.specs.Reading.{request_of, inform_of, arrival_of, record_of, first_of, frame_of, ◌then◌}
use Rattle.records.specs.declared.request.Request.{Request}
use Rattle.records.specs.declared.arrivals.Inform.{Inform}
use Rattle.records.specs.declared.arrivals.Arrival.{Arrival}
use Rattle.records.specs.declared.arrivals.Record.{Record}
use Rattle.codec.proofs.Laws.{request_back, inform_back, arrival_back, record_back, first_back}
use Rattle.reader.specs.Backs.{RequestFrom, InformFrom, ArrivalFrom, RecordFrom, FirstFrom}

-- the elements of a slice of bytes are bytes
pub all_bytes : (bs : List ℕ) → ((i : ℕ) → val.Fits w8 (get_or bs i 0)) → Bytes bs
all_bytes [] h = tt
all_bytes (b ∷ bs) h = ((h 0).fits, all_bytes bs (λ i. h (suc i)))

pub request_from : (bs : List ℕ) → Bytes bs → (r : Result Request Fault) → r ≡ request_of bs → RequestFrom bs r
request_from bs h (Ok x) e = request_back bs h x (sym e)
request_from bs h (Err f) e = tt

pub inform_from : (bs : List ℕ) → Bytes bs → (r : Result Inform Fault) → r ≡ inform_of bs → InformFrom bs r
inform_from bs h (Ok x) e = inform_back bs h x (sym e)
inform_from bs h (Err f) e = tt

module _ (n : ℕ) (some : 1 ≤ n) (few : n ≤ 10) (bs : List ℕ) (h : Bytes bs) where
  pub arrival_from : (r : Result Arrival Fault) → r ≡ arrival_of n bs → ArrivalFrom n bs r
  arrival_from (Ok x) e = arrival_back n some few bs h x (sym e)
  arrival_from (Err f) e = tt

  pub record_from : (r : Result Record Fault) → r ≡ record_of n bs → RecordFrom n bs r
  record_from (Ok x) e = record_back n some few bs h x (sym e)
  record_from (Err f) e = tt

  pub first_from : (r : Result (Record × ℕ) Fault) → r ≡ first_of n bs → FirstFrom n bs r
  first_from (Ok p) e = first_back n some few bs h p.0 p.1 (sym e)
  first_from (Err f) e = tt

-- a ring that was made is of the number of stations that was asked for
pub frame_made : (stations n : ℕ) (bs : List ℕ) (x : Record) (end : ℕ) → Ok n ≡ made_of stations → first_of n bs ≡ Ok (x, end) → Ok (take (end - 0) bs) ≡ frame_of stations bs
frame_made stations n bs x end m f =
    let inside : (leb 1 stations && leb stations 10) ≡ true = grind (arith, nat_tests) in
    let same : n ≡ stations = grind (arith, nat_tests) in
    let here : first_of stations bs ≡ Ok (x, end) = subst (λ k. first_of k bs ≡ Ok (x, end)) same f in
    let part : Result (Record × ℕ) Fault → Result (List ℕ) Fault = λ r. r then (λ got. Ok (take got.1 bs)) in
    ap (λ k. Ok (take k bs)) (sub-zero end)
    ∙ sym (ap part here)
    ∙ sym (cond-true (leb 1 stations && leb stations 10) (part (first_of stations bs)) (Err (WrongSender 0)) inside)
