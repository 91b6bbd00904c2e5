-- What holds of a good replica by itself, in every state that it comes to, whatever the others do.
use Rattle.std.proofs.Common.{◌≡◌, ℕ, ◌+◌, ◌<◌, ◌≤◌, ◌⊎◌, List, [], ◌∷◌, Some, Option, sym, refl, ◌∙◌, subst, inl, inr, ⊎_elim, arith}
use Rattle.agreement.specs.Certificates.{Prepared, Committed, NewView, Basis}
use Rattle.agreement.specs.Runs.{Trace}
use Rattle.agreement.specs.States.{Line, Log, State, New, says, logs, without, entering, Puts}
use Rattle.agreement.specs.Statements.{Statement, Prepare, Inform, CheckCommit, ViewState, Report, Has}
use Rattle.agreement.specs.Steps.{Executes, Commits, Undoes, Step, prepares, executes, informs_again, checks, commits, leaves, enters, undoes}
use Rattle.std.proofs.lemmas.Bool.{cases_lt, cases_order}

-- a Prepare tells its request
pub prepare_request : {Request : Type 0} (v r : ℕ) (x y : Request) → Prepare v r x ≡ Prepare v r y → y ≡ x
prepare_request v r x y e = cc

-- Lines of a log after a round was put -------------------------------------------------------------------------------

-- the round is there afterwards
pub puts_top : {Request : Type 0} {old new : Log Request} {r : ℕ} {x : Request} → Puts old new r x → r ≤ new.top
puts_top {old = old} {new = new} {r = r} {x = x} p =
    ⊎_elim
    (λ (a : (r ≤ old.top) × ((old.line r).request ≡ x) × (new.top ≡ old.top) ×
    ((k : ℕ) → r < k → k ≤ old.top → new.line k ≡ old.line k)).
    omega (arith, a.0, a.2))
    (λ (a : (r ≤ old.top → (old.line r).request ≡ x → ⊥) × (new.top ≡ r)). omega (arith, a.1))
    p.above

-- the lines of other rounds are as they were
pub puts_other :
    {Request : Type 0} {old new : Log Request} {r : ℕ} {x : Request} → Puts old new r x →
    (k : ℕ) → 0 < k → (k ≡ r → ⊥) → k ≤ new.top → (new.line k ≡ old.line k) × (r < k → k ≤ old.top)
puts_other {old = old} {new = new} {r = r} {x = x} p k pos other l =
    ⊎_elim
    (λ (below : k < r). (p.below k pos below, λ (c : r < k). omega arith))
    (λ (over : r ≤ k).
    ⊎_elim
    (λ (a : (r ≤ old.top) × ((old.line r).request ≡ x) × (new.top ≡ old.top) ×
    ((j : ℕ) → r < j → j ≤ old.top → new.line j ≡ old.line j)).
    let e : new.top ≡ old.top = a.2 in
    let lt : r < k = omega (arith, other) in
    let le : k ≤ old.top = omega arith in
    (a.3 k lt le, λ (c : r < k). le))
    (λ (a : (r ≤ old.top → (old.line r).request ≡ x → ⊥) × (new.top ≡ r)).
    absurd (omega (arith, a.1, other)))
    p.above)
    (cases_lt k r)

module _ {Request : Type 0} (n : ℕ) (sealed : ℕ → Statement Request → Type 0) where
  -- how a replica came to the base and ledger of its view
  abbrev pub Standing : ℕ → ℕ → (ℕ → Option Request) → Type 0
  Standing view base ledger =
      (view ≡ 0) ⊎ ((x : ℕ) × (new : NewView n sealed x) × (view ≡ x + 1) × Basis n sealed new base ledger)

  -- the grounds on which a request is prepared: base and ledger of a new view of that view
  pub record Grounded (view round : ℕ) (request : Request) : Type 0 where
    pub base : ℕ
    pub ledger : ℕ → Option Request
    pub standing : Standing view base ledger
    pub above_base : base < round
    pub by_ledger : (other : Request) → ledger round ≡ Some other → other ≡ request

  -- a round below one that was informed in the view: informed in that view too, or committed by a certificate up to it
  abbrev pub Below : List (Statement Request) → ℕ → ℕ → Type 0
  Below said view k =
      ((y : Request) × Has (Inform view k y) said) ⊎
      ((u : ℕ) × (y : Request) × (u ≤ view) × Committed n sealed u k y)

  -- what stands behind an Inform
  pub record Told (said : List (Statement Request)) (last view round : ℕ) (request : Request) : Type 0 where
    pub from_one : 0 < round
    pub up_to : view ≤ last
    pub certified : Prepared n sealed view round request
    pub below : (k : ℕ) → 0 < k → k < round → Below said view k

  -- the local invariant
  pub record Sound (s : State Request) : Type 0 where
    pub standing : Standing s.view s.base s.ledger
    pub in_order : s.log.commit ≤ s.log.top
    pub committed :
        (r : ℕ) → 0 < r → r ≤ s.log.commit →
        (u : ℕ) × (u ≤ s.view) × Committed n sealed u r (s.log.line r).request
    pub executed :
        (r : ℕ) → s.log.commit < r → r ≤ s.log.top →
        ((s.log.line r).view ≤ s.view) × Has (Inform (s.log.line r).view r (s.log.line r).request) s.said
    pub informed : (v r : ℕ) (x : Request) → Has (Inform v r x) s.said → Told s.said s.view v r x
    pub checked : (v r : ℕ) (x : Request) → Has (CheckCommit v r x) s.said → Has (Inform v r x) s.said
    pub prepared :
        (v r : ℕ) (x : Request) → Has (Prepare v r x) s.said →
        Grounded v r x × ((y : Request) → Has (Prepare v r y) s.said → y ≡ x)
    pub left : (x : ℕ) (report : Report Request) → Has (ViewState x report) s.said → x < s.left

  -- what a replica may seal, for the invariant's sake
  abbrev pub MaySay : State Request → Statement Request → Type 0
  MaySay s (Prepare v r x) = Grounded v r x × ((y : Request) → Has (Prepare v r y) s.said → y ≡ x)
  MaySay s (Inform v r x) = Told s.said s.view v r x
  MaySay s (CheckCommit v r x) = Has (Inform v r x) s.said
  MaySay s (ViewState x report) = x < s.left

  told_more :
      {said : List (Statement Request)} {last v r : ℕ} {x : Request} (st : Statement Request) →
      Told said last v r x → Told (st ∷ said) last v r x
  told_more {said = said} {last = last} {v = v} {r = r} {x = x} st t =
      record {
        from_one = t.from_one;
        up_to = t.up_to;
        certified = t.certified;
        below =
            λ k pos l.
            ⊎_elim
            (λ (a : (y : Request) × Has (Inform v k y) said). inl (a.0, inr a.1))
            (λ (b : (u : ℕ) × (y : Request) × (u ≤ v) × Committed n sealed u k y). inr b)
            (t.below k pos l);
      }

  told_later :
      {said : List (Statement Request)} {last v r : ℕ} {x : Request} (later : ℕ) → last ≤ later →
      Told said last v r x → Told said later v r x
  told_later later l t =
      record { from_one = t.from_one; up_to = omega arith; certified = t.certified; below = t.below }

  -- The invariant, over each way in which a state changes -------------------------------------------------------------

  pub sound_new : (s : State Request) → New s → Sound s
  sound_new s new =
      let none : (st : Statement Request) → Has st s.said → ⊥ =
      λ st h. subst (λ (l : List (Statement Request)). Has st l) new.nothing_said h in
      record {
        standing = inl new.first_view;
        in_order = omega arith;
        committed = λ r pos l. absurd (omega arith);
        executed = λ r pos l. absurd (omega arith);
        informed = λ v r x h. absurd (none (Inform v r x) h);
        checked = λ v r x h. absurd (none (CheckCommit v r x) h);
        prepared = λ v r x h. absurd (none (Prepare v r x) h);
        left = λ x report h. absurd (none (ViewState x report) h);
      }

  pub sound_says : (s : State Request) (st : Statement Request) → Sound s → MaySay s st → Sound (says st s)
  sound_says s st h ok =
      record {
        standing = h.standing;
        in_order = h.in_order;
        committed = h.committed;
        executed = λ r a b. ((h.executed r a b).0, inr (h.executed r a b).1);
        informed =
            λ v r x.
            ⊎_elim
            (λ (e : Inform v r x ≡ st). told_more st (subst (MaySay s) (sym e) ok))
            (λ (g : Has (Inform v r x) s.said). told_more st (h.informed v r x g));
        checked =
            λ v r x.
            ⊎_elim
            (λ (e : CheckCommit v r x ≡ st). inr (subst (MaySay s) (sym e) ok))
            (λ (g : Has (CheckCommit v r x) s.said). inr (h.checked v r x g));
        prepared =
            λ v r x.
            ⊎_elim
            (λ (e : Prepare v r x ≡ st).
            let may : MaySay s (Prepare v r x) = subst (MaySay s) (sym e) ok in (
              may.0,
              λ y.
                  ⊎_elim
                  (λ (d : Prepare v r y ≡ st). prepare_request v r x y (e ∙ sym d))
                  (λ (g : Has (Prepare v r y) s.said). may.1 y g),
            ))
            (λ (g : Has (Prepare v r x) s.said). (
              (h.prepared v r x g).0,
              λ y.
                  ⊎_elim
                  (λ (d : Prepare v r y ≡ st).
                  let may : MaySay s (Prepare v r y) = subst (MaySay s) (sym d) ok in sym (may.1 x g))
                  (λ (k : Has (Prepare v r y) s.said). (h.prepared v r x g).1 y k),
            ));
        left =
            λ x report.
            ⊎_elim
            (λ (e : ViewState x report ≡ st). subst (MaySay s) (sym e) ok)
            (λ (g : Has (ViewState x report) s.said). h.left x report g);
      }

  -- what the invariant asks of a log
  pub record SoundLog (s : State Request) (log : Log Request) : Type 0 where
    pub in_order : log.commit ≤ log.top
    pub committed :
        (r : ℕ) → 0 < r → r ≤ log.commit → (u : ℕ) × (u ≤ s.view) × Committed n sealed u r (log.line r).request
    pub executed :
        (r : ℕ) → log.commit < r → r ≤ log.top →
        ((log.line r).view ≤ s.view) × Has (Inform (log.line r).view r (log.line r).request) s.said

  pub sound_logs : (s : State Request) (log : Log Request) → Sound s → SoundLog s log → Sound (logs log s)
  sound_logs s log h ok =
      record {
        standing = h.standing;
        in_order = ok.in_order;
        committed = ok.committed;
        executed = ok.executed;
        informed = h.informed;
        checked = h.checked;
        prepared = h.prepared;
        left = h.left;
      }

  pub sound_without : (s : State Request) (x : ℕ) → Sound s → Sound (without x s)
  sound_without s x h =
      record {
        standing = h.standing;
        in_order = h.in_order;
        committed = h.committed;
        executed = h.executed;
        informed = h.informed;
        checked = h.checked;
        prepared = h.prepared;
        left = λ y report g. omega (arith, h.left y report g);
      }

  pub sound_entering :
      (s : State Request) (view base : ℕ) (ledger : ℕ → Option Request) → s.view ≤ view → Standing view base ledger →
      Sound s → Sound (entering view base ledger s)
  sound_entering s view base ledger l standing h =
      record {
        standing = standing;
        in_order = h.in_order;
        committed =
            λ r pos c. let a = h.committed r pos c in (a.0, omega (arith, a.1), a.2);
        executed = λ r pos c. let a = h.executed r pos c in (omega (arith, a.0), a.1);
        informed = λ v r x g. told_later view l (h.informed v r x g);
        checked = h.checked;
        prepared = h.prepared;
        left = h.left;
      }

  -- The invariant, step by step ---------------------------------------------------------------------------------------

  -- the lines below an executed round, as the Inform needs them
  told_below :
      (s : State Request) → Sound s → (v r : ℕ) → v ≡ s.view →
      ((k : ℕ) → s.log.commit < k → k < r → (k ≤ s.log.top) × ((s.log.line k).view ≡ s.view)) →
      (k : ℕ) → 0 < k → k < r → Below s.said v k
  told_below s h v r e turn k pos l =
      ⊎_elim
      (λ (c : s.log.commit < k).
      let t = turn k c l in
      let a = (h.executed k c t.0).1 in
      inl (
        (s.log.line k).request,
        subst
            (λ (u : ℕ). Has (Inform u k (s.log.line k).request) s.said)
            (t.1 ∙ sym e)
            a,
      ))
      (λ (c : k ≤ s.log.commit).
      let a = h.committed k pos c in
      inr (a.0, (s.log.line k).request, omega (arith, a.1), a.2))
      (cases_lt s.log.commit k)

  -- an executed round is at most one above the end
  pub next_line :
      {s t : State Request} → Sound s → (e : Executes n sealed s t) → e.round ≤ s.log.top + 1
  next_line {s = s} h e =
      ⊎_elim
      (λ (c : s.log.commit + 1 < e.round).
      let k : ℕ = s.log.top + 1 in
      ⊎_elim
      (λ (d : k < e.round).
      let o : s.log.commit ≤ s.log.top = h.in_order in
      let a : k ≤ s.log.top = (e.in_turn k (omega arith) d).0 in
      absurd (omega arith))
      (λ (d : e.round ≤ k). d)
      (cases_lt k e.round))
      (λ (c : e.round ≤ s.log.commit + 1). omega (arith, h.in_order))
      (cases_lt (s.log.commit + 1) e.round)

  sound_executes : (s t : State Request) → Executes n sealed s t → Sound s → Sound t
  sound_executes s t e h =
      let st : Statement Request = Inform s.view e.round e.request in
      let o : s.log.commit ≤ s.log.top = h.in_order in
      let next : e.round ≤ s.log.top + 1 = next_line h e in
      let told : Told s.said s.view s.view e.round e.request =
      record {
        from_one = omega (arith, e.above_commit);
        up_to = omega arith;
        certified = e.prepared;
        below = told_below s h s.view e.round refl e.in_turn;
      } in
      let top : e.round ≤ e.log.top = puts_top e.puts in
      subst
      Sound
      (sym e.after)
      (sound_logs
      (says st s)
      e.log
      (sound_says s st h told)
      (record {
        in_order = omega (arith, e.same_commit, e.above_commit);
        committed =
            λ r pos c.
            let l : r ≤ s.log.commit = omega (arith, e.same_commit) in
            subst
            (λ (z : Line Request). (u : ℕ) × (u ≤ s.view) × Committed n sealed u r z.request)
            (sym (e.puts.below r pos (omega (arith, e.above_commit))))
            (h.committed r pos l);
        executed = λ r c l. line_of o next r c l (cases_order r e.round);
      }))
    where
      line_of :
          s.log.commit ≤ s.log.top → e.round ≤ s.log.top + 1 →
          (r : ℕ) → e.log.commit < r → r ≤ e.log.top → (r ≡ e.round) ⊎ ((r < e.round) ⊎ (e.round < r)) →
          ((e.log.line r).view ≤ s.view) ×
          Has
          (Inform (e.log.line r).view r (e.log.line r).request)
          (Inform s.view e.round e.request ∷ s.said)
      line_of o next r c l (inl same) =
          let v : (e.log.line r).view ≡ s.view =
          subst (λ (k : ℕ). (e.log.line k).view ≡ s.view) (sym same) e.of_view in
          let x : (e.log.line r).request ≡ e.request =
          subst (λ (k : ℕ). (e.log.line k).request ≡ e.request) (sym same) e.puts.here in
          (omega arith, inl (cc))
      line_of o next r c l (inr (inl lt)) =
          let k : s.log.commit < r = omega (arith, e.same_commit) in
          let was = puts_other e.puts r (omega arith) (omega arith) l in
          let a = h.executed r k (omega arith) in
          subst
          (λ (z : Line Request).
          (z.view ≤ s.view) ×
          Has (Inform z.view r z.request) (Inform s.view e.round e.request ∷ s.said))
          (sym was.0)
          (a.0, inr a.1)
      line_of o next r c l (inr (inr gt)) =
          let k : s.log.commit < r = omega (arith, e.same_commit) in
          let was = puts_other e.puts r (omega arith) (omega arith) l in
          let a = h.executed r k (was.1 gt) in
          subst
          (λ (z : Line Request).
          (z.view ≤ s.view) ×
          Has (Inform z.view r z.request) (Inform s.view e.round e.request ∷ s.said))
          (sym was.0)
          (a.0, inr a.1)

  sound_commits : (s t : State Request) → Commits n sealed s t → Sound s → Sound t
  sound_commits s t e h =
      let o : s.log.commit ≤ s.log.top = h.in_order in
      let top : s.log.commit + 1 ≤ e.log.top = puts_top e.puts in
      subst
      Sound
      (sym e.after)
      (sound_logs
      s
      e.log
      h
      (record {
        in_order = omega (arith, e.one_more);
        committed = λ r pos c. commit_of r pos c (cases_order r (s.log.commit + 1));
        executed =
            λ r c l.
            let k : s.log.commit + 1 < r = omega (arith, e.one_more) in
            let was = puts_other e.puts r (omega arith) (omega arith) l in
            let a = h.executed r (omega arith) (was.1 k) in
            subst
            (λ (z : Line Request). (z.view ≤ s.view) × Has (Inform z.view r z.request) s.said)
            (sym was.0)
            a;
      }))
    where
      commit_of :
          (r : ℕ) → 0 < r → r ≤ e.log.commit →
          (r ≡ s.log.commit + 1) ⊎ ((r < s.log.commit + 1) ⊎ (s.log.commit + 1 < r)) →
          (u : ℕ) × (u ≤ s.view) × Committed n sealed u r (e.log.line r).request
      commit_of r pos c (inl same) = (
        e.view,
        e.known_view,
        subst
            (λ (k : ℕ). Committed n sealed e.view k (e.log.line k).request)
            (sym same)
            (subst
            (λ (x : Request). Committed n sealed e.view (s.log.commit + 1) x)
            (sym e.puts.here)
            e.certified),
      )
      commit_of r pos c (inr (inl lt)) =
          subst
          (λ (z : Line Request). (u : ℕ) × (u ≤ s.view) × Committed n sealed u r z.request)
          (sym (e.puts.below r pos lt))
          (h.committed r pos (omega arith))
      commit_of r pos c (inr (inr gt)) = absurd (omega (arith, e.one_more))

  sound_undoes : (s t : State Request) → Undoes s t → Sound s → Sound t
  sound_undoes s t e h =
      subst
      Sound
      (sym e.after)
      (sound_logs
      s
      e.log
      h
      (record {
        in_order = omega (arith, e.above_commit, e.cuts.ends, e.cuts.commit);
        committed =
            λ r pos c.
            let l : r ≤ s.log.commit = omega (arith, e.cuts.commit) in
            subst
            (λ (z : Line Request). (u : ℕ) × (u ≤ s.view) × Committed n sealed u r z.request)
            (sym (e.cuts.below r pos (omega (arith, e.above_commit))))
            (h.committed r pos l);
        executed =
            λ r c l.
            let k : r ≤ e.kept = omega (arith, e.cuts.ends) in
            subst
            (λ (z : Line Request). (z.view ≤ s.view) × Has (Inform z.view r z.request) s.said)
            (sym (e.cuts.below r (omega arith) k))
            (h.executed r (omega (arith, e.cuts.commit)) (omega (arith, e.there)));
      }))

  -- every step keeps the invariant
  pub sound_step : (s t : State Request) → Step n sealed s t → Sound s → Sound t
  sound_step s t (prepares e) h =
      subst
      Sound
      (sym e.after)
      (sound_says
      s
      (Prepare s.view e.round e.request)
      h (
        record {
          base = s.base;
          ledger = s.ledger;
          standing = h.standing;
          above_base = e.above_base;
          by_ledger = e.by_ledger;
        },
        e.once,
      ))
  sound_step s t (executes e) h = sound_executes s t e h
  sound_step s t (informs_again e) h =
      subst
      Sound
      (sym e.after)
      (sound_says
      s
      (Inform s.view e.round (s.log.line e.round).request)
      h
      (record {
        from_one = e.from_one;
        up_to = omega arith;
        certified = e.prepared;
        below =
            told_below s h s.view e.round refl (λ k c l. absurd (omega (arith, e.committed)));
      }))
  sound_step s t (checks e) h =
      subst
      Sound
      (sym e.after)
      (sound_says s (CheckCommit s.view e.round e.request) h e.executed)
  sound_step s t (commits e) h = sound_commits s t e h
  sound_step s t (leaves e) h =
      subst
      Sound
      (sym e.after)
      (sound_says (without e.x s) (ViewState e.x e.report) (sound_without s e.x h) (omega arith))
  sound_step s t (enters e) h =
      subst
      Sound
      (sym e.after)
      (sound_entering
      s
      (e.x + 1)
      e.base
      e.ledger
      (omega (arith, e.above_view))
      (inr (e.x, e.new, refl, e.basis))
      h)
  sound_step s t (undoes e) h = sound_undoes s t e h

  -- so it holds in every state that a good replica comes to
  pub sound : (s : State Request) (past : List (State Request)) → Trace n sealed s past → Sound s
  sound s [] new = sound_new s new
  sound s (before ∷ earlier) (step, trace) = sound_step before s step (sound before earlier trace)
