-- One list of requests holds a run together: the first lines of the log that reaches furthest with chosen requests.
-- Which Informs are of chosen requests can be decided, since good stations are finitely many and sealed finitely much.
use Rattle.std.proofs.Common.{◌≡◌, ℕ, zero, suc, ◌+◌, ◌<◌, ◌≤◌, Bool, true, false, ◌||◌, ◌⊎◌, List, [], ◌∷◌, Some, sym, refl, ap, ◌∙◌, subst, inl, inr, ⊎_elim, arith}
use Rattle.agreement.proofs.Agreement.{chosen_agree, kept_since, sound_ever, commit_chosen}
use Rattle.agreement.proofs.Kept.{chosen_round, committed_chosen}
use Rattle.agreement.specs.Promises.{at_round, Holds, OneList}
use Rattle.agreement.specs.Runs.{Good, Run, Chosen}
use Rattle.agreement.specs.Statements.{Statement, Prepare, Inform, CheckCommit, ViewState, Has}
use Rattle.quorum.proofs.Sets.{count_grows, quorums_share}
use Rattle.quorum.specs.Figures.{quorum_of}
use Rattle.quorum.specs.Sets.{count, Stands}
use Rattle.std.proofs.lemmas.Bool.{both_ways, cases_lt}
use native.Mathlib.Decide.{dec_le, ℕ_discrete}

-- A list from a function of the round ---------------------------------------------------------------------------------

-- the values after k, so many
abbrev after : {Request : Type 0} → (ℕ → Request) → ℕ → ℕ → List Request
after f k zero = []
after f k (suc c) = f (suc k) ∷ after f (suc k) c

at_after :
    {Request : Type 0} (f : ℕ → Request) (k c j : ℕ) → j < c → at_round (after f k c) (suc j) ≡ Some (f (suc (k + j)))
at_after f k zero j l = absurd (omega arith)
at_after f k (suc c) zero l = let e : suc k ≡ suc (k + 0) = omega arith in ap (λ (i : ℕ). Some (f i)) e
at_after f k (suc c) (suc j) l =
    let e : suc (suc k + j) ≡ suc (k + suc j) = omega arith in
    at_after f (suc k) c j (omega arith) ∙ ap (λ (i : ℕ). Some (f i)) e

-- the values at the rounds 1 to c
pub firsts : {Request : Type 0} → (ℕ → Request) → ℕ → List Request
firsts f c = after f 0 c

pub at_firsts :
    {Request : Type 0} (f : ℕ → Request) (c k : ℕ) → 0 < k → k ≤ c → at_round (firsts f c) k ≡ Some (f k)
unfolding firsts
at_firsts f c zero pos l = absurd (omega arith)
at_firsts f c (suc j) pos l =
    let e : suc (0 + j) ≡ suc j = omega arith in at_after f 0 c j (omega arith) ∙ ap (λ (i : ℕ). Some (f i)) e

-- Deciding --------------------------------------------------------------------------------------------------------------

either : {A B : Type 0} → Dec A → Dec B → Dec (A ⊎ B)
either (yes a) b = yes (inl a)
either (no a) (yes b) = yes (inr b)
either (no a) (no b) = no (⊎_elim a b)

-- the statement is an Inform
abbrev IsInform : {Request : Type 0} → Statement Request → Type 0
IsInform (Prepare v r x) = ⊥
IsInform (Inform v r x) = Unit {0}
IsInform (CheckCommit v r x) = ⊥
IsInform (ViewState x report) = ⊥

same_inform :
    {Request : Type 0} (v w r k : ℕ) (x y : Request) → Dec (v ≡ w) → Dec (r ≡ k) → Dec (x ≡ y) →
    Dec (Inform v r x ≡ Inform w k y)
same_inform v w r k x y (yes a) (yes b) (yes c) = yes (cc)
same_inform v w r k x y (no a) b c = no (λ (e : Inform v r x ≡ Inform w k y). a (cc))
same_inform v w r k x y (yes a) (no b) c = no (λ (e : Inform v r x ≡ Inform w k y). b (cc))
same_inform v w r k x y (yes a) (yes b) (no c) = no (λ (e : Inform v r x ≡ Inform w k y). c (cc))

is_inform :
    {Request : Type 0} → Discrete Request → (v r : ℕ) (x : Request) (st : Statement Request) →
    Dec (Inform v r x ≡ st)
is_inform same v r x (Prepare w k y) = no (λ e. subst IsInform e tt)
is_inform same v r x (Inform w k y) = same_inform v w r k x y (ℕ_discrete v w) (ℕ_discrete r k) (same x y)
is_inform same v r x (CheckCommit w k y) = no (λ e. subst IsInform e tt)
is_inform same v r x (ViewState w report) = no (λ e. subst IsInform e tt)

has_inform :
    {Request : Type 0} → Discrete Request → (v r : ℕ) (x : Request) (said : List (Statement Request)) →
    Dec (Has (Inform v r x) said)
has_inform same v r x [] = no (λ e. e)
has_inform same v r x (st ∷ said) = either (is_inform same v r x st) (has_inform same v r x said)

-- a decision as a test
abbrev test : {A : Type 0} → Dec A → Bool
test (yes a) = true
test (no a) = false

test_true : {A : Type 0} (d : Dec A) → test d ≡ true → A
test_true (yes a) e = a
test_true (no a) e = absurd (both_ways false refl e)

true_test : {A : Type 0} (d : Dec A) → A → test d ≡ true
true_test (yes a) x = refl
true_test (no a) x = absurd (a x)

module _ {Request : Type 0} (same : Discrete Request) (n : ℕ) (sealed : ℕ → Statement Request → Type 0) (bad : ℕ → Bool)
    (stands : Stands n bad) (run : Run n sealed bad) where
  -- those that are bad or informed
  informers : ℕ → ℕ → Request → ℕ → Bool
  informers v r x i = bad i || test (has_inform same v r x (run.last i).said)

  -- it can be decided whether a request is chosen: those that are bad or informed are a quorum, or no set is
  pub chosen_or_not : (v r : ℕ) (x : Request) → Dec (Chosen n sealed run v r x)
  unfolding informers
  chosen_or_not v r x = decide (dec_le (quorum_of n) (count (informers v r x) n))
    where
      told :
          (i : ℕ) → Good n bad i → (b : Bool) → bad i ≡ b →
          (b || test (has_inform same v r x (run.last i).said)) ≡ true → Has (Inform v r x) (run.last i).said
      told i good true eb e = absurd (both_ways (bad i) good.1 eb)
      told i good false eb e = test_true (has_inform same v r x (run.last i).said) e

      counted :
          (c : Chosen n sealed run v r x) (i : ℕ) → i < n → c.0 i ≡ true → (b : Bool) → bad i ≡ b →
          (b || test (has_inform same v r x (run.last i).said)) ≡ true
      counted c i l m true eb = refl
      counted c i l m false eb = true_test (has_inform same v r x (run.last i).said) (c.2 i (l, eb) m)

      decide : Dec (quorum_of n ≤ count (informers v r x) n) → Dec (Chosen n sealed run v r x)
      decide (yes q) = yes (informers v r x, q, λ i good m. told i good (bad i) refl m)
      decide (no q) =
          no
          (λ c.
          let grows : count c.0 n ≤ count (informers v r x) n =
          count_grows c.0 (informers v r x) n (λ i l m. counted c i l m (bad i) refl) in
          q (omega (arith, c.1)))

  -- The furthest reach -----------------------------------------------------------------------------------------------------

  -- requests for the rounds 1 to `length`, all of them chosen
  pub record Reach : Type 0 where
    pub length : ℕ
    pub line : ℕ → Request
    pub chosen : (k : ℕ) → 0 < k → k ≤ length → (u : ℕ) × Chosen n sealed run u k (line k)

  -- it reaches the round of the statement, if that is an Inform of a chosen request
  abbrev ReachOf : ℕ → Statement Request → Type 0
  ReachOf length (Prepare v r x) = Unit {0}
  ReachOf length (Inform v r x) = Chosen n sealed run v r x → r ≤ length
  ReachOf length (CheckCommit v r x) = Unit {0}
  ReachOf length (ViewState x report) = Unit {0}

  reach_more : (a b : ℕ) → a ≤ b → (st : Statement Request) → ReachOf a st → ReachOf b st
  reach_more a b l (Prepare v r x) h = tt
  reach_more a b l (Inform v r x) h = λ c. let d = h c in omega arith
  reach_more a b l (CheckCommit v r x) h = tt
  reach_more a b l (ViewState x report) h = tt

  -- one statement of a good station more
  reach_one :
      (i : ℕ) → Good n bad i → (st : Statement Request) → Has st (run.last i).said → (from : Reach) →
      (to : Reach) × (from.length ≤ to.length) × ReachOf to.length st
  reach_one i good (Prepare v r x) g from = (from, omega arith, tt)
  reach_one i good (CheckCommit v r x) g from = (from, omega arith, tt)
  reach_one i good (ViewState x report) g from = (from, omega arith, tt)
  reach_one i good (Inform v r x) g from = longer (chosen_or_not v r x) (cases_lt from.length r)
    where
      longer :
          Dec (Chosen n sealed run v r x) → (from.length < r) ⊎ (r ≤ from.length) →
          (to : Reach) × (from.length ≤ to.length) × (Chosen n sealed run v r x → r ≤ to.length)
      longer (no d) o = (from, omega arith, λ c. absurd (d c))
      longer (yes c) (inr l) = (from, omega arith, λ _. l)
      longer (yes c) (inl l) =
          let kept = kept_since n sealed bad stands run i (run.last i) good (inl refl) v r x g c in (
            record {
              length = r;
              line = λ k. ((run.last i).log.line k).request;
              chosen =
                  λ k pos le. let a = kept.anchored k pos le in (a.0, a.2);
            },
            omega arith,
            λ _. omega arith,
          )

  -- all that a good station sealed
  reach_said :
      (i : ℕ) → Good n bad i → (said : List (Statement Request)) →
      ((st : Statement Request) → Has st said → Has st (run.last i).said) → (from : Reach) →
      (to : Reach) × (from.length ≤ to.length) × ((st : Statement Request) → Has st said → ReachOf to.length st)
  reach_said i good [] sub from = (from, omega arith, λ st g. absurd g)
  reach_said i good (st ∷ said) sub from =
      let a = reach_said i good said (λ u g. sub u (inr g)) from in
      let b = reach_one i good st (sub st (inl refl)) a.0 in (
        b.0,
        omega (arith, a.1, b.1),
        λ u.
            ⊎_elim
            (λ (e : u ≡ st). subst (ReachOf b.0.length) (sym e) b.2)
            (λ (g : Has u said). reach_more a.0.length b.0.length b.1 u (a.2 u g)),
      )

  -- all good stations below k
  reach_all :
      (k : ℕ) →
      (to : Reach) ×
      ((i : ℕ) → i < k → Good n bad i → (st : Statement Request) → Has st (run.last i).said →
      ReachOf to.length st)
  reach_all zero = (
    record {
      length = 0;
      line = λ k. ((run.last 0).log.line k).request;
      chosen = λ k pos l. absurd (omega arith);
    },
    λ i l. absurd (omega arith),
  )
  reach_all (suc k) = let h = reach_all k in one_more h (cases_lt k n) (bad k) refl
    where
      Covers : Reach → ℕ → Type 0
      Covers to j =
          (i : ℕ) → i < j → Good n bad i → (st : Statement Request) → Has st (run.last i).said →
          ReachOf to.length st

      skips : (to : Reach) → Covers to k → (Good n bad k → ⊥) → Covers to (suc k)
      skips to h not i l good st g =
          ⊎_elim
          (λ (lt : i < k). h i lt good st g)
          (λ (ge : k ≤ i). let e : i ≡ k = omega arith in absurd (not (subst (Good n bad) e good)))
          (cases_lt i k)

      one_more :
          (to : Reach) × Covers to k → (k < n) ⊎ (n ≤ k) → (b : Bool) → bad k ≡ b → (to : Reach) × Covers to (suc k)
      one_more h (inr out) b eb = (h.0, skips h.0 h.1 (λ good. omega (arith, good.0)))
      one_more h (inl l) true eb = (h.0, skips h.0 h.1 (λ good. both_ways (bad k) good.1 eb))
      one_more h (inl l) false eb =
          let a = reach_said k (l, eb) (run.last k).said (λ st g. g) h.0 in (
            a.0,
            λ i o good st g.
                ⊎_elim
                (λ (lt : i < k). reach_more h.0.length a.0.length a.1 st (h.1 i lt good st g))
                (λ (ge : k ≤ i).
                let e : i ≡ k = omega arith in
                a.2 st (subst (λ (j : ℕ). Has st (run.last j).said) e g))
                (cases_lt i k),
          )

  -- The list ---------------------------------------------------------------------------------------------------------------

  pub the_list : List Request
  the_list = let h = reach_all n in firsts h.0.line h.0.length

  -- it has what is chosen
  pub list_has :
      (v r : ℕ) (x : Request) → Chosen n sealed run v r x → at_round the_list r ≡ Some x
  unfolding the_list
  list_has v r x c =
      let h = reach_all n in
      let i = quorums_share n bad c.0 c.0 stands c.1 c.1 in
      let good : Good n bad i.0 = (i.1, i.2) in
      let pos : 0 < r = chosen_round n sealed bad stands run v r x c in
      let l : r ≤ h.0.length = h.1 i.0 i.1 good (Inform v r x) (c.2 i.0 good i.3) c in
      let a = h.0.chosen r pos l in
      at_firsts h.0.line h.0.length r pos l ∙
      ap Some (chosen_agree n sealed bad stands run a.0 v r (h.0.line r) x a.1 c)

  pub holds : Holds Request sealed n bad run the_list
  holds =
      record {
        committed =
            λ i s good was.
            record {
              there = (sound_ever n sealed bad stands run i s good was).in_order;
              same =
                  λ k pos l.
                  let a = commit_chosen n sealed bad stands run i s good was k pos l in
                  list_has a.0 k (s.log.line k).request a.1;
            };
        chosen = list_has;
        held =
            λ v r x c i s good was g.
            let kept = kept_since n sealed bad stands run i s good was v r x g c in
            record {
              there = kept.there;
              same =
                  λ k pos l.
                  let a = kept.anchored k pos l in list_has a.0 k (s.log.line k).request a.2;
            };
        certified = λ v r x c. list_has v r x (committed_chosen n sealed bad stands run v r x c);
      }

-- The promise --------------------------------------------------------------------------------------------------------------

pub one_list_holds :
    (Request : Type 0) → Discrete Request → (sealed : ℕ → Statement Request → Type 0) → OneList Request sealed
one_list_holds Request same sealed n bad stands run =
    (the_list same n sealed bad stands run, holds same n sealed bad stands run)
