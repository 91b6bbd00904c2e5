-- What seals cover: the bytes of a statement say one thing, and they come first in their record. Assumes nothing.
use Rattle.std.proofs.Common.{◌≡◌, ℕ, ◌+◌, ◌≤◌, List, ◌++◌, length, take, Ok, Result, sym, refl, ap, ◌∙◌, arith, length-append}
use Rattle.std.specs.List.{flat_map, AllByRecursion}
use Rattle.std.proofs.lemmas.List.{take_at}
use Rattle.quorum.specs.declared.refusal.Fault.{Fault}
use Rattle.quorum.specs.Figures.{quorum_of}
use Rattle.records.specs.Numbers.{put}
use Rattle.records.specs.Range.{Byte, RightProposal, RightCertificate, RightCommit, RightState}
use Rattle.records.specs.Reading.{◌then◌, part_at, number_at, proposal_at, several, listed_at, commit_at, member_at, mark_at}
use Rattle.records.specs.Statements.{Statement, asks, proposes, prepares, checks, informs, alerts, leaves, begins, said_bytes, covered, rest_bytes, own_seal, RightStatement}
use Rattle.records.proofs.Covered.{split_own}
use Rattle.records.specs.Writing.{mark_bytes, head_bytes, proposal_bytes, certificate_bytes, commit_bytes, prepared_bytes, state_bytes, claim_bytes, states_bytes}
use Rattle.records.specs.declared.marks.Mark.{Mark}
use Rattle.records.specs.declared.marks.Mark.TheVariants as mark
use Rattle.records.specs.declared.request.Proposal.{Proposal}
use Rattle.codec.specs.Standing.{Stands}
use Rattle.codec.specs.Laws.{SaysOne, CoveredFirst, CoveredLength}
use Rattle.codec.proofs.Numbers.{put_length}
use Rattle.codec.proofs.Standing.{stands_whole, stands_split, put_split, stands_same}
use Rattle.codec.proofs.Steps.{ok_same, then_on, part_on, number_on}
use Rattle.codec.proofs.Rows.{several_on, all_row}
use Rattle.codec.proofs.Marks.{mark_on, mark_length, head_split}
use Rattle.codec.proofs.Requests.{proposal_on}
use Rattle.codec.proofs.Certificates.{listed_on}
use Rattle.codec.proofs.States.{commit_on, member_on}
use Rattle.codec.proofs.Records.{claim_length}

-- how a statement would be read behind its mark
abbrev said_in : ℕ → List ℕ → Mark → Result Statement Fault
said_in n bs mark.Request =
    number_at 2 bs 2 then (λ client.
    number_at 4 bs 4 then (λ sequence.
    part_at 16 bs 8 then (λ payload. Ok (asks client sequence payload))))
said_in n bs mark.Propose = number_at 1 bs 2 then (λ i. proposal_at bs 3 then (λ p. Ok (proposes i p)))
said_in n bs mark.Prepare = number_at 1 bs 2 then (λ i. proposal_at bs 3 then (λ p. Ok (prepares i p)))
said_in n bs mark.CheckCommit = number_at 1 bs 2 then (λ i. proposal_at bs 3 then (λ p. Ok (checks i p)))
said_in n bs mark.Inform =
    number_at 1 bs 2 then (λ i. proposal_at bs 3 then (λ p. number_at 8 bs 41 then (λ result. Ok (informs i p result))))
said_in n bs mark.Failure = number_at 1 bs 2 then (λ i. number_at 4 bs 3 then (λ view. Ok (alerts i view)))
said_in n bs mark.ViewState =
    number_at 1 bs 2 then (λ i.
    number_at 4 bs 3 then (λ view.
    commit_at n bs 7 then (λ commit.
    number_at 1 bs commit.1 then (λ count.
    several (listed_at n bs) (commit.1 + 1) count then (λ cs. Ok (leaves i view commit.0 cs.0))))))
said_in n bs mark.NewView =
    number_at 1 bs 2 then (λ i.
    number_at 4 bs 3 then (λ view.
    number_at 1 bs 7 then (λ count.
    several (member_at n bs) 8 count then (λ ss. Ok (begins i view ss.0)))))

abbrev said_of : ℕ → List ℕ → Result Statement Fault
said_of n bs = mark_at bs then (λ m. said_in n bs m)

-- a claim of a sender about a proposal
claim_parts : {bs : List ℕ} (m : Mark) (i : ℕ) (p : Proposal) → Byte i → RightProposal p → Stands bs 0 (claim_bytes m i p) → (mark_at bs ≡ Ok m) × (number_at 1 bs 2 ≡ Ok i) × (proposal_at bs 3 ≡ Ok p)
unfolding claim_bytes
claim_parts {bs} m i p h k s =
    let t = head_split m i (proposal_bytes p) s in
    (mark_on bs m t.0, number_on 1 bs 2 i h t.1, proposal_on bs 3 p k t.2)

-- every statement in range would be read back
said_on : (n : ℕ) → n ≤ 10 → (bs : List ℕ) (s : Statement) → RightStatement n s → Stands bs 0 (said_bytes s) → said_of n bs ≡ Ok s
unfolding said_bytes prepared_bytes states_bytes
said_on n ten bs (asks client sequence payload) h s =
    let t = stands_split (mark_bytes mark.Request) (put 2 client ++ (put 4 sequence ++ payload)) 2 (omega (arith, mark_length mark.Request)) s in
    let a = put_split 2 client (put 4 sequence ++ payload) 4 refl t.1 in
    let b = put_split 4 sequence payload 8 refl a.1 in
    then_on _ (mark_on bs mark.Request t.0)
    (then_on _ (number_on 2 bs 2 client h.0 a.0)
    (then_on _ (number_on 4 bs 4 sequence h.1.0 b.0)
    (then_on _ (part_on 16 bs 8 payload h.1.1.0 b.1) refl)))
said_on n ten bs (proposes i p) h s =
    let c = claim_parts mark.Propose i p h.0 h.1 s in then_on _ c.0 (then_on _ c.1 (then_on _ c.2 refl))
said_on n ten bs (prepares i p) h s =
    let c = claim_parts mark.Prepare i p h.0 h.1 s in then_on _ c.0 (then_on _ c.1 (then_on _ c.2 refl))
said_on n ten bs (checks i p) h s =
    let c = claim_parts mark.CheckCommit i p h.0 h.1 s in then_on _ c.0 (then_on _ c.1 (then_on _ c.2 refl))
said_on n ten bs (informs i p result) h s =
    let t = stands_split (claim_bytes mark.Inform i p) (put 8 result) 41 (omega (arith, claim_length mark.Inform i p h.1.0)) s in
    let c = claim_parts mark.Inform i p h.0 h.1.0 t.0 in
    then_on _ c.0 (then_on _ c.1 (then_on _ c.2 (then_on _ (number_on 8 bs 41 result h.1.1 t.1) refl)))
said_on n ten bs (alerts i view) h s =
    let t = head_split mark.Failure i (put 4 view) s in
    then_on _ (mark_on bs mark.Failure t.0)
    (then_on _ (number_on 1 bs 2 i h.0 t.1)
    (then_on _ (number_on 4 bs 3 view h.1 t.2) refl))
said_on n ten bs (leaves i view commit cs) h s = go h.1.1.0 h.1.1.1.0 h.1.1.1.1 s
  where
    go : RightCommit n commit → length cs ≤ 8 → AllByRecursion (RightCertificate n) cs → Stands bs 0 (head_bytes mark.ViewState i ++ (put 4 view ++ (commit_bytes commit ++ prepared_bytes cs))) → said_of n bs ≡ Ok (leaves i view commit cs)
    go right few all st =
        let c : List ℕ = commit_bytes commit in
        let js : List ℕ = flat_map certificate_bytes cs in
        let tail : List ℕ = put 1 (length cs) ++ js in
        let mid : ℕ = 7 + length c in
        let t = head_split mark.ViewState i (put 4 view ++ (c ++ tail)) st in
        let v = put_split 4 view (c ++ tail) 7 refl t.2 in
        let k = stands_split c tail mid refl v.1 in
        let b = put_split 1 (length cs) js (mid + 1) refl k.1 in
        let row = all_row (RightCertificate n) (length cs) cs refl all in
        then_on _ (mark_on bs mark.ViewState t.0)
        (then_on _ (number_on 1 bs 2 i h.0 t.1)
        (then_on _ (number_on 4 bs 3 view h.1.0 v.0)
        (then_on _ (commit_on n ten bs 7 commit right k.0)
        (then_on _ (number_on 1 bs mid (length cs) (omega arith) b.0)
        (then_on _ (several_on bs (listed_at n bs) certificate_bytes (λ j. RightCertificate n) (listed_on n ten bs) (length cs) (mid + 1) cs row b.1)
        refl)))))
said_on n ten bs (begins i view ss) h s =
    let js : List ℕ = flat_map state_bytes ss in
    let tail : List ℕ = put 1 (length ss) ++ js in
    let many : length ss ≡ quorum_of n = h.1.1.0 in
    let t = head_split mark.NewView i (put 4 view ++ tail) s in
    let v = put_split 4 view tail 7 refl t.2 in
    let b = put_split 1 (length ss) js 8 refl v.1 in
    let row = all_row (RightState n) (length ss) ss refl h.1.1.1 in
    then_on _ (mark_on bs mark.NewView t.0)
    (then_on _ (number_on 1 bs 2 i h.0 t.1)
    (then_on _ (number_on 4 bs 3 view h.1.0 v.0)
    (then_on _ (number_on 1 bs 7 (length ss) (omega arith) b.0)
    (then_on _ (several_on bs (member_at n bs) state_bytes (λ j. RightState n) (member_on n ten bs) (length ss) 8 ss row b.1)
    refl))))

pub says_one : SaysOne
says_one n low ten s t right-s right-t e =
    let here = stands_whole (said_bytes s) in
    let one = said_on n ten (said_bytes s) s right-s here in
    let other = said_on n ten (said_bytes s) t right-t (stands_same e here) in
    ok_same (sym one ∙ other)

pub covered_first : CoveredFirst
covered_first r =
    ap (take (length (covered r))) (split_own r)
    ∙ take_at (covered r) (rest_bytes r ++ put 8 (own_seal r)) (length (covered r)) refl

covered_check : (i : ℕ) (p : Proposal) → RightProposal p → length (said_bytes (checks i p)) ≡ 41
unfolding said_bytes states_bytes
covered_check i p h = claim_length mark.CheckCommit i p h

covered_asked : (client sequence : ℕ) (payload : List ℕ) → length payload ≡ 16 → length (said_bytes (asks client sequence payload)) ≡ 24
unfolding said_bytes states_bytes
covered_asked client sequence payload h = simp (length-append, mark_length, put_length) (omega arith)

pub covered_length : CoveredLength
covered_length = (
  (λ n c h. let p = h.prepared_right in covered_check c.sender c.prepared.proposal p.proposal_right),
  (λ r h. covered_asked r.client r.sequence r.payload.bytes h.payload_long),
)
