-- What the calls of a counter rest on. Assumes nothing.
use Rattle.std.proofs.Common.{◌≡◌, ℕ, ◌+◌, ◌<◌, ◌≤◌, Bool, true, false, cond, ltb, leb, List, ◌++◌, length, take, set, Some, None, Ok, Err, Option, Result, sym, refl, ap, ◌∙◌, subst, arith, length-append}
use Rattle.std.proofs.lemmas.Bool.{cond-true, le-leb}
use Rattle.std.proofs.lemmas.Bool.Decides.{nat_tests}
use Rattle.quorum.specs.declared.refusal.Fault.{Fault}
use Rattle.quorum.specs.declared.refusal.Fault.TheVariants.{WrongSender, NotGenuine, NotNow}
use Rattle.records.specs.Numbers.{put}
use Rattle.records.specs.Reading.{inform_of, ◌then◌}
use Rattle.records.specs.Statements.{covered, rest_bytes}
use Rattle.records.specs.Writing.{record_bytes}
use Rattle.records.specs.declared.arrivals.Inform.{Inform}
use Rattle.records.specs.declared.arrivals.Record.TheVariants as rec
use Rattle.records.specs.declared.request.Request.{Request}
use Rattle.records.specs.Writing.{request_bytes, asked_bytes, mark_bytes}
use Rattle.records.proofs.Covered.{split_own}
use Rattle.codec.proofs.Numbers.{put_length}
use Rattle.informs.specs.Agreed.{placed, agreed_by}
use Rattle.informs.specs.ProofsOfExecution.{Seals, Genuine, Sound}
use Rattle.informs.specs.declared.agreed.Release.{Release}
use Rattle.informs.specs.Sameness.{request_decides}
use Rattle.informs.proofs.Executions.{proof_of, placed_more, placed_set, sound_set}
use Rattle.outbox.specs.Trays.{SentInto}
use Rattle.outbox.specs.declared.tray.Tray.{Tray}
use Rattle.seals.specs.Tried.{first_false, seals_of_inform}
use Rattle.counter.specs.Opening.{PostedInto}
use Rattle.counter.specs.Standing.{Core, placed_in}
use Rattle.counter.specs.Hearing.{about, wanted, taken, SoundIn}
use Rattle.counter.specs.Closing.{served, Released}
use Rattle.counter.specs.declared.parts.Asked.{Asked}
use Rattle.counter.specs.declared.parts.Ticket.{Ticket}

-- a record as what its seal covers, and the seal
request_split : (r : Request) → record_bytes (rec.Request r) ≡ covered (rec.Request r) ++ put 8 r.seal
unfolding rest_bytes
request_split r = split_own (rec.Request r)

pub request_long : (r : Request) → length r.payload.bytes ≡ 16 → length (record_bytes (rec.Request r)) ≡ 32
unfolding record_bytes request_bytes asked_bytes mark_bytes
request_long r e = simp (length-append, put_length) (omega arith)

pub covered_long : (r : Request) → length r.payload.bytes ≡ 16 → length (covered (rec.Request r)) ≡ 24
covered_long r e =
    let l = request_long r e in
    let s = ap length (request_split r) in
    let a = length-append (covered (rec.Request r)) (put 8 r.seal) in
    let p = put_length 8 r.seal in
    omega arith

-- what an inform that was taken in has passed
pub record Passed (genuine : Seals) (n : ℕ) (current : Option Asked) (i : Inform) : Type 0 where
  pub low : i.sender < n
  pub sealed : Genuine genuine i
  pub apt : about current i ≡ true

picked : (x y : Bool) (z : Inform → Bool) (j i : Inform) → (cond x (cond {0} y (Ok (tt {0})) (Err (NotGenuine 49)) then (λ u. Ok j)) (Err (WrongSender 2)) then (λ k. cond (z k) (Ok k) (Err (NotNow 3)))) ≡ Ok i → (j ≡ i) × ((x ≡ true) × ((y ≡ true) × (z j ≡ true)))
picked true true z j i e = (grind (arith, nat_tests), (refl, (refl, grind (arith, nat_tests))))
picked true false z j i e = absurd (grind arith)
picked false y z j i e = absurd (grind arith)

passed : (genuine : Seals) (n : ℕ) (current : Option Asked) (bs : List ℕ) (i : Inform) → Ok i ≡ taken genuine n current bs → Passed genuine n current i
passed genuine n current bs i e = go (inform_of bs) (sym e)
  where
    go : (r : Result Inform Fault) → ((r then (λ j. cond (ltb j.sender n) (first_false genuine (seals_of_inform j) then (λ _. Ok j)) (Err (WrongSender 2)))) then (λ j. wanted current j)) ≡ Ok i → Passed genuine n current i
    go (Err f) q = absurd (grind arith)
    go (Ok j) q =
        let p = picked (ltb j.sender n) (genuine j.sender (covered (rec.Inform j)) j.seal) (about current) j i q in
        let here : Passed genuine n current j = record { low = let l = p.1.0 in grind (arith, nat_tests); sealed = p.1.1.0; apt = p.1.1.1 } in
        subst (λ k. Passed genuine n current k) p.0 here

-- an inform that was taken in, at its place
module _ (genuine : Seals) (held seen : Core) (view : held ≡ seen) (bs : List ℕ) (a : Asked) (i : Inform) (k : ℕ) (e : Ok i ≡ taken genuine seen.stations seen.current bs) (is : held.current ≡ Some a) (at : k ≡ i.sender) where
  good : Passed genuine held.stations held.current i
  good = subst (λ c. Passed genuine c.stations c.current i) (sym view) (passed genuine seen.stations seen.current bs i e)

  pub still_placed : placed_in held.stations held.current ≡ true → placed held.stations (set a.heard k (Some i)) ≡ true
  still_placed h =
      let l = good.low in
      placed_set held.stations 0 k a.heard i (sym (ap (placed_in held.stations) is) ∙ h) (omega arith) (omega arith)

  pub still_sound : SoundIn genuine seen.current → Sound genuine a.request (set a.heard k (Some i))
  still_sound s =
      let same : a.request ≡ i.proposal.request = (request_decides a.request i.proposal.request).0 (sym (ap (λ o. about o i) is) ∙ good.apt) in
      let sound : SoundIn genuine held.current = subst (λ c. SoundIn genuine c.current) (sym view) s in
      sound_set genuine a.request a.heard k i (subst (SoundIn genuine) is sound) good.sealed (sym same)

pub placed_open : (n : ℕ) (current : Option Asked) (a : Asked) → n ≤ 10 → placed_in n current ≡ true → current ≡ Some a → placed 10 a.heard ≡ true
placed_open n current a l p is = placed_more n 10 0 a.heard l (sym (ap (placed_in n) is) ∙ p)

-- a ticket's request is the one that is open
served_is : (current : Option Asked) (t : Ticket) (a : Asked) → Some a ≡ served current t → current ≡ Some a
served_is None t a e = absurd (grind arith)
served_is (Some b) t a e = grind (arith, nat_tests)

pub closed_proof : (held seen : Core) (t : Ticket) (a : Asked) (release : Release) → held ≡ seen → placed_in held.stations held.current ≡ true → Some a ≡ served seen.current t → agreed_by held.stations a.heard ≡ Some release → (genuine : Seals) → SoundIn genuine seen.current → Released genuine seen.stations seen.current (Ok release)
closed_proof held seen t a release view p s e genuine sound =
    let is = served_is seen.current t a s in
    let here : placed_in seen.stations seen.current ≡ true = subst (λ c. placed_in c.stations c.current ≡ true) view p in
    let agreed : agreed_by seen.stations a.heard ≡ Some release = subst (λ c. agreed_by c.stations a.heard ≡ Some release) view e in
    let proof = proof_of genuine seen.stations a.request a.heard release (sym (ap (placed_in seen.stations) is) ∙ here) (subst (SoundIn genuine) is sound) agreed in
    subst (λ o. Released genuine seen.stations o (Ok release)) (sym is) proof

-- a request sent into a tray that has the room
pub posted : (r : Request) (before after : Tray) (answer : Result (Unit {0}) Fault) → length r.payload.bytes ≡ 16 → before.fill.used + 32 ≤ length before.memory.now → SentInto before after (record_bytes (rec.Request r)) answer → PostedInto before after (Ok r)
posted r before after answer e b s =
    let used = before.fill.used in
    let size = length before.memory.now in
    let bytes = record_bytes (rec.Request r) in
    let l = request_long r e in
    let end : used + length bytes ≡ used + 32 = omega arith in
    let fits : used + length bytes ≤ size = omega arith in
    record {
      same = s.same;
      long = s.long;
      posted = (
        s.sent.filled ∙ cond-true (leb (used + length bytes) size) (used + length bytes) used (le-leb (used + length bytes) size fits) ∙ end,
        subst (λ k. take k after.memory.now ≡ take used before.memory.now ++ bytes) end (s.sent.added fits),
      );
    }
