-- What a quorum says alike, from a row of genuine informs, is a proof of execution. Assumes nothing.
use Rattle.std.proofs.Common.{◌≡◌, ℕ, zero, suc, ◌+◌, ◌<◌, ◌≤◌, Bool, true, false, cond, leb, List, [], ◌∷◌, set, Some, None, Option, sym, refl, ◌∙◌, subst, arith}
use Rattle.std.proofs.lemmas.Bool.{cond-true, cond-false}
use Rattle.std.proofs.lemmas.Bool.Decides.{nat_tests}
use Rattle.quorum.specs.Figures.{quorum_of}
use Rattle.records.specs.declared.request.Request.{Request}
use Rattle.records.specs.declared.arrivals.Inform.{Inform}
use Rattle.informs.specs.Alike.{alike}
use Rattle.informs.specs.Agreed.{placed_from, placed, supporters, backers, first_backed, said_by, released, agreed_by}
use Rattle.informs.specs.ProofsOfExecution.{Seals, Genuine, Tells, Rising, Every, ProofOfExecution, Sound}
use Rattle.informs.specs.declared.agreed.Release.{Release}
use Rattle.informs.specs.Sameness.{alike_decides}
use Rattle.informs.proofs.Rows.{first_of}

earlier : (n k : ℕ) (is : List Inform) → Rising n (suc k) is → Rising n k is
earlier n k [] r = tt
earlier n k (i ∷ is) r = let l = r.0 in (omega arith, r.1)

rise : (b : Bool) (n k : ℕ) (i : Inform) (is : List Inform) → i.sender ≡ k → k < n → Rising n (suc k) is → Rising n k (cond b (i ∷ is) is)
rise true n k i is e l r = (omega arith, (omega arith, subst (λ x. Rising n (suc x) is) (sym e) r))
rise false n k i is e l r = earlier n k is r

-- supporters come from different stations
rising : (n k : ℕ) (w : Inform) (h : List (Option Inform)) → placed_from n k h ≡ true → Rising n k (supporters h w)
rising n k w [] p = tt
rising n k w (None ∷ h) p = earlier n k (supporters h w) (rising n (suc k) w h p)
rising n k w (Some i ∷ h) p =
    let f = first_of n k i h p in
    rise (alike i w) n k i (supporters h w) f.0 f.1.0 (rising n (suc k) w h f.1.1)

every_on : (P : Inform → Type 0) (b : Bool) (i : Inform) (is : List Inform) → (b ≡ true → P i) → Every P is → Every P (cond b (i ∷ is) is)
every_on P true i is p e = (p refl, e)
every_on P false i is p e = e

sealed : (genuine : Seals) (request : Request) (w : Inform) (h : List (Option Inform)) → Sound genuine request h → Every (Genuine genuine) (supporters h w)
sealed genuine request w [] s = tt
sealed genuine request w (None ∷ h) s = sealed genuine request w h s
sealed genuine request w (Some i ∷ h) s =
    every_on (Genuine genuine) (alike i w) i (supporters h w) (λ _. s.0) (sealed genuine request w h s.1.1)

tells_of : (genuine : Seals) (request : Request) (w : Inform) (h : List (Option Inform)) → Sound genuine request h → Every (Tells request (said_by w)) (supporters h w)
tells_of genuine request w [] s = tt
tells_of genuine request w (None ∷ h) s = tells_of genuine request w h s
tells_of genuine request w (Some i ∷ h) s =
    every_on (Tells request (said_by w)) (alike i w) i (supporters h w)
    (λ e. let a = (alike_decides i w).0 e in record { view = a.0; round = a.1.0; result = a.1.1.0; request = s.1.0 })
    (tells_of genuine request w h s.1.1)

backed : (m : ℕ) (all h : List (Option Inform)) (w : Inform) → first_backed m all h ≡ Some w → m ≤ backers all w
backed m all [] w e = absurd (grind arith)
backed m all (None ∷ h) w e = backed m all h w e
backed m all (Some i ∷ h) w e = go (leb m (backers all i)) refl (backed m all h w)
  where
    go : (b : Bool) → leb m (backers all i) ≡ b → (first_backed m all h ≡ Some w → m ≤ backers all w) → m ≤ backers all w
    go true r ih =
        let same : Some i ≡ Some w = sym (cond-true (leb m (backers all i)) (Some i) (first_backed m all h) r) ∙ e in
        let is : i ≡ w = grind arith in
        let here : m ≤ backers all i = grind (arith, nat_tests) in
        subst (λ x. m ≤ backers all x) is here
    go false r ih = ih (sym (cond-false (leb m (backers all i)) (Some i) (first_backed m all h) r) ∙ e)

pub proof_of : (genuine : Seals) (n : ℕ) (request : Request) (h : List (Option Inform)) (release : Release) → placed n h ≡ true → Sound genuine request h → agreed_by n h ≡ Some release → ProofOfExecution genuine n request release
proof_of genuine n request h release p s e = go (first_backed (quorum_of n) h h) refl e
  where
    go : (o : Option Inform) → first_backed (quorum_of n) h h ≡ o → released o ≡ Some release → ProofOfExecution genuine n request release
    go None r q = absurd (grind arith)
    go (Some w) r q =
        let is : said_by w ≡ release = grind arith in
        record {
          informs = supporters h w;
          enough = backed (quorum_of n) h h w r;
          different = rising n 0 w h p;
          sealed = sealed genuine request w h s;
          agree = subst (λ x. Every (Tells request x) (supporters h w)) is (tells_of genuine request w h s);
        }

-- a row of a ring is a row of a larger one
pub placed_more : (n m k : ℕ) (h : List (Option Inform)) → n ≤ m → placed_from n k h ≡ true → placed_from m k h ≡ true
placed_more n m k [] l p = refl
placed_more n m k (None ∷ h) l p = placed_more n m (suc k) h l p
placed_more n m k (Some i ∷ h) l p =
    let f = first_of n k i h p in
    let low = f.1.0 in
    let ih = placed_more n m (suc k) h l f.1.1 in
    grind (arith, nat_tests)

-- an inform in its place keeps a row placed, and a genuine one about the request keeps it sound
pub placed_set : (n k j : ℕ) (h : List (Option Inform)) (i : Inform) → placed_from n k h ≡ true → i.sender ≡ k + j → k + j < n → placed_from n k (set h j (Some i)) ≡ true
placed_set n k j [] i p e b = refl
placed_set n k zero (None ∷ h) i p e b = grind (arith, nat_tests)
placed_set n k (suc j) (None ∷ h) i p e b = placed_set n (suc k) j h i p (omega arith) (omega arith)
placed_set n k zero (Some x ∷ h) i p e b = let f = first_of n k x h p in grind (arith, nat_tests)
placed_set n k (suc j) (Some x ∷ h) i p e b =
    let f = first_of n k x h p in
    let ih = placed_set n (suc k) j h i f.1.1 (omega arith) (omega arith) in
    grind (arith, nat_tests)

pub sound_set : (genuine : Seals) (request : Request) (h : List (Option Inform)) (j : ℕ) (i : Inform) → Sound genuine request h → Genuine genuine i → i.proposal.request ≡ request → Sound genuine request (set h j (Some i))
sound_set genuine request [] j i s g e = tt
sound_set genuine request (None ∷ h) zero i s g e = (g, (e, s))
sound_set genuine request (None ∷ h) (suc j) i s g e = sound_set genuine request h j i s g e
sound_set genuine request (Some x ∷ h) zero i s g e = (g, (e, s.1.1))
sound_set genuine request (Some x ∷ h) (suc j) i s g e = (s.0, (s.1.0, sound_set genuine request h j i s.1.1 g e))
