-- Sameness of requests is equality, and informs are alike just where four of their parts are equal. Assumes nothing.
use Rattle.std.specs.Prelude.{◌≡◌, ℕ, true, List, Decides, refl}
use Rattle.std.proofs.Common.{sym, ap, ◌∙◌}
use Rattle.std.proofs.lemmas.Bool.Decides.{Decides-eqb, Decides-and, Decides-like}
use Rattle.std.proofs.lemmas.Slice.Eq.{bytes_eq-Decides}
use Rattle.records.specs.declared.request.Request.{Request}
use Rattle.records.specs.declared.arrivals.Inform.{Inform}
use Rattle.informs.specs.Alike.{same_request, alike}

make : ℕ → ℕ → ℕ → List ℕ → Request
make client sequence seal bytes = record { client = client; sequence = sequence; payload = record { bytes = bytes }; seal = seal }

made_same : (a b : Request) → a.client ≡ b.client → a.sequence ≡ b.sequence → a.seal ≡ b.seal → a.payload.bytes ≡ b.payload.bytes → a ≡ b
unfolding make
made_same a b c s z p =
    ap (λ x. make x a.sequence a.seal a.payload.bytes) c
    ∙ ap (λ x. make b.client x a.seal a.payload.bytes) s
    ∙ ap (λ x. make b.client b.sequence x a.payload.bytes) z
    ∙ ap (λ x. make b.client b.sequence b.seal x) p

pub request_decides : (a b : Request) → Decides (same_request a b) (a ≡ b)
request_decides a b =
    Decides-like (same_request a b)
    (λ h. made_same a b h.0 h.1.0 h.1.1.0 h.1.1.1)
    (λ e. (ap (λ r. r.client) e, (ap (λ r. r.sequence) e, (ap (λ r. r.seal) e, ap (λ r. r.payload.bytes) e))))
    (Decides-and _ _ (Decides-eqb a.client b.client)
    (Decides-and _ _ (Decides-eqb a.sequence b.sequence)
    (Decides-and _ _ (Decides-eqb a.seal b.seal) (bytes_eq-Decides a.payload.bytes b.payload.bytes))))

-- what alike informs share
abbrev pub Shares : Inform → Inform → Type 0
Shares a b =
    (a.proposal.view ≡ b.proposal.view)
    × ((a.proposal.round ≡ b.proposal.round)
    × ((a.result ≡ b.result) × (a.proposal.request ≡ b.proposal.request)))

pub alike_decides : (a b : Inform) → Decides (alike a b) (Shares a b)
alike_decides a b =
    Decides-and _ _ (Decides-eqb a.proposal.view b.proposal.view)
    (Decides-and _ _ (Decides-eqb a.proposal.round b.proposal.round)
    (Decides-and _ _ (Decides-eqb a.result b.result) (request_decides a.proposal.request b.proposal.request)))

pub alike_itself : (a : Inform) → alike a a ≡ true
alike_itself a = (alike_decides a a).1 (refl, (refl, (refl, refl)))

pub alike_back : (a b : Inform) → alike a b ≡ true → alike b a ≡ true
alike_back a b e =
    let h = (alike_decides a b).0 e in
    (alike_decides b a).1 (sym h.0, (sym h.1.0, (sym h.1.1.0, sym h.1.1.1)))

pub alike_on : (a b c : Inform) → alike a b ≡ true → alike b c ≡ true → alike a c ≡ true
alike_on a b c e f =
    let h = (alike_decides a b).0 e in
    let k = (alike_decides b c).0 f in
    (alike_decides a c).1 (h.0 ∙ k.0, (h.1.0 ∙ k.1.0, (h.1.1.0 ∙ k.1.1.0, h.1.1.1 ∙ k.1.1.1)))
