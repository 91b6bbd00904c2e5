-- What a good replica informed of with a quorum stays in its log, and so its view states list it.
-- All of this is up to a view m: it rests on `Settled m`, that below m chosen requests have no rivals.
use Rattle.std.proofs.Common.{◌≡◌, ℕ, zero, suc, ◌+◌, ◌<◌, ◌≤◌, Bool, true, false, ◌⊎◌, List, [], ◌∷◌, Some, Option, sym, refl, ap, ◌∙◌, subst, inl, inr, ⊎_elim, arith}
use Rattle.agreement.proofs.Sound.{Standing, Sound, sound, sound_step, puts_top, puts_other}
use Rattle.agreement.specs.Certificates.{commit_round, Prepared, Committed, NewView, Basis}
use Rattle.agreement.specs.Runs.{Good, Trace, Run, Chosen}
use Rattle.agreement.specs.States.{Line, Log, State, says, logs, without, Puts, Cuts}
use Rattle.agreement.specs.Statements.{Proposal, Report, Statement, Prepare, Inform, CheckCommit, ViewState, Has}
use Rattle.agreement.specs.Steps.{Executes, InformsAgain, Commits, Leaves, Undoes, Step, prepares, executes, informs_again, checks, commits, leaves, enters, undoes}
use Rattle.quorum.proofs.Sets.{quorums_share}
use Rattle.quorum.specs.Sets.{Stands}
use Rattle.std.proofs.lemmas.Bool.{both_ways, cases_eq, cases_lt}

-- of finitely many stations one gives A, or all give B
pub some_or_all :
    {A : Type 0} {B : ℕ → Type 0} (n : ℕ) → ((i : ℕ) → i < n → A ⊎ B i) → A ⊎ ((i : ℕ) → i < n → B i)
some_or_all zero f = inr (λ i l. absurd (omega arith))
some_or_all {A = A} {B = B} (suc n) f =
    ⊎_elim
    (λ (a : A). inl a)
    (λ (b : B n).
    ⊎_elim
    (λ (a : A). inl a)
    (λ (all : (i : ℕ) → i < n → B i).
    inr
    (λ i l.
    ⊎_elim
    (λ (lt : i < n). all i lt)
    (λ (ge : n ≤ i). let e : n ≡ i = omega arith in subst B e b)
    (cases_lt i n)))
    (some_or_all n (λ i l. f i (omega arith))))
    (f n (omega arith))

module _ {Request : Type 0} (n : ℕ) (sealed : ℕ → Statement Request → Type 0) (bad : ℕ → Bool)
    (stands : Stands n bad) (run : Run n sealed bad) where
  -- Certificates and choices ------------------------------------------------------------------------------------------

  -- every good station is sound in the end
  pub sound_last : (i : ℕ) → Good n bad i → Sound n sealed (run.last i)
  sound_last i good = sound n sealed (run.last i) (run.past i) (run.trace i good)

  -- two prepared certificates of one view and round have one request: a good station sealed both
  pub prepared_once :
      (v r : ℕ) (x y : Request) → Prepared n sealed v r x → Prepared n sealed v r y → x ≡ y
  prepared_once v r x y p q =
      let i = quorums_share n bad p.0 q.0 stands p.1 q.1 in
      let good : Good n bad i.0 = (i.1, i.2) in
      let a = run.unforged i.0 good (Prepare v r x) (p.2 i.0 i.1 i.3) in
      let b = run.unforged i.0 good (Prepare v r y) (q.2 i.0 i.1 i.4) in
      ((sound_last i.0 good).prepared v r y b).1 x a

  -- what is chosen has a prepared certificate: a good station informed of it
  pub chosen_prepared : (v r : ℕ) (x : Request) → Chosen n sealed run v r x → Prepared n sealed v r x
  chosen_prepared v r x c =
      let i = quorums_share n bad c.0 c.0 stands c.1 c.1 in
      let good : Good n bad i.0 = (i.1, i.2) in
      ((sound_last i.0 good).informed v r x (c.2 i.0 good i.3)).certified

  -- its round is not 0
  pub chosen_round : (v r : ℕ) (x : Request) → Chosen n sealed run v r x → 0 < r
  chosen_round v r x c =
      let i = quorums_share n bad c.0 c.0 stands c.1 c.1 in
      let good : Good n bad i.0 = (i.1, i.2) in
      ((sound_last i.0 good).informed v r x (c.2 i.0 good i.3)).from_one

  -- what has a commit certificate is chosen: good stations check what they informed of
  pub committed_chosen : (v r : ℕ) (x : Request) → Committed n sealed v r x → Chosen n sealed run v r x
  committed_chosen v r x c = (
    c.0,
    c.1,
    λ i good m.
        (sound_last i good).checked v r x (run.unforged i good (CheckCommit v r x) (c.2 i good.0 m)),
  )

  -- Below view m, what is chosen has no rival ---------------------------------------------------------------------------

  pub record Settled (m : ℕ) : Type 0 where
    pub prepared :
        (v w r : ℕ) (x y : Request) → w < m → v ≤ w → Chosen n sealed run v r x → Prepared n sealed w r y → y ≡ x
    pub ledgers :
        (w : ℕ) (new : NewView n sealed w) (base : ℕ) (ledger : ℕ → Option Request) → w + 1 < m →
        Basis n sealed new base ledger → (v r : ℕ) (x : Request) → v ≤ w → Chosen n sealed run v r x → base < r →
        ledger r ≡ Some x

  -- so two that are chosen are the same
  pub chosen_same :
      (m : ℕ) → Settled m → (v w r : ℕ) (x y : Request) → v < m → w < m →
      Chosen n sealed run v r x → Chosen n sealed run w r y → x ≡ y
  chosen_same m h v w r x y lv lw c d =
      ⊎_elim
      (λ (l : v < w). sym (h.prepared v w r x y lw (omega arith) c (chosen_prepared w r y d)))
      (λ (l : w ≤ v). h.prepared w v r y x lv l d (chosen_prepared v r x c))
      (cases_lt v w)

  -- What stays in a log -----------------------------------------------------------------------------------------------

  -- a chosen request in a log: it and the lines below it are there, each of them is chosen, and those above the commit
  -- were executed in that view or later
  pub record Kept (log : Log Request) (v r : ℕ) (x : Request) : Type 0 where
    pub from_one : 0 < r
    pub there : r ≤ log.top
    pub same : (log.line r).request ≡ x
    pub recent : (k : ℕ) → 0 < k → k ≤ r → log.commit < k → v ≤ (log.line k).view
    pub anchored :
        (k : ℕ) → 0 < k → k ≤ r → (u : ℕ) × (u ≤ v) × Chosen n sealed run u k (log.line k).request

  -- it is kept where a round is put that agrees with it
  kept_puts :
      (old new : Log Request) (r : ℕ) (x : Request) → Puts old new r x → old.commit ≤ new.commit →
      (v k : ℕ) (y : Request) → (new.commit < r → v ≤ (new.line r).view) →
      (r ≤ k → (old.line r).request ≡ x) → Kept old v k y → Kept new v k y
  kept_puts old new r x p grows v k y of_view fits kept =
      let there : k ≤ new.top = above p.above (cases_lt k r) in
      record {
        from_one = kept.from_one;
        there = there;
        same = request_as there k kept.from_one (omega arith) ∙ kept.same;
        recent = λ j pos l c. view_as there j pos l c (cases_eq j r);
        anchored =
            λ j pos l.
            subst
            (λ (z : Request). (u : ℕ) × (u ≤ v) × Chosen n sealed run u j z)
            (sym (request_as there j pos l))
            (kept.anchored j pos l);
      }
    where
      above :
          ((r ≤ old.top) × ((old.line r).request ≡ x) × (new.top ≡ old.top) ×
          ((j : ℕ) → r < j → j ≤ old.top → new.line j ≡ old.line j)) ⊎
          ((r ≤ old.top → (old.line r).request ≡ x → ⊥) × (new.top ≡ r)) →
          (k < r) ⊎ (r ≤ k) → k ≤ new.top
      above (inl a) o = omega (arith, a.2, kept.there)
      above (inr a) (inl l) = omega (arith, a.1)
      above (inr a) (inr l) = absurd (a.0 (omega (arith, kept.there)) (fits l))

      request_as :
          k ≤ new.top → (j : ℕ) → 0 < j → j ≤ k → (new.line j).request ≡ (old.line j).request
      request_as there j pos l =
          ⊎_elim
          (λ (e : j ≡ r).
          subst
          (λ (i : ℕ). (new.line i).request ≡ (old.line i).request)
          (sym e)
          (p.here ∙ sym (fits (omega arith))))
          (λ (d : j ≡ r → ⊥). ap (λ (z : Line Request). z.request) (puts_other p j pos d (omega arith)).0)
          (cases_eq j r)

      view_as :
          k ≤ new.top → (j : ℕ) → 0 < j → j ≤ k → new.commit < j → (j ≡ r) ⊎ (j ≡ r → ⊥) → v ≤ (new.line j).view
      view_as there j pos l c (inl e) =
          subst (λ (i : ℕ). v ≤ (new.line i).view) (sym e) (of_view (omega arith))
      view_as there j pos l c (inr d) =
          subst
          (λ (z : Line Request). v ≤ z.view)
          (sym (puts_other p j pos d (omega arith)).0)
          (kept.recent j pos l (omega arith))

  -- it is kept where lines above it are undone
  kept_cuts :
      (old new : Log Request) (last : ℕ) → Cuts old new last → (v k : ℕ) (y : Request) → k ≤ last →
      Kept old v k y → Kept new v k y
  kept_cuts old new last c v k y l kept =
      record {
        from_one = kept.from_one;
        there = omega (arith, c.ends);
        same = ap (λ (z : Line Request). z.request) (c.below k kept.from_one l) ∙ kept.same;
        recent =
            λ j pos b d.
            subst
            (λ (z : Line Request). v ≤ z.view)
            (sym (c.below j pos (omega arith)))
            (kept.recent j pos b (omega (arith, c.commit)));
        anchored =
            λ j pos b.
            subst
            (λ (z : Line Request). (u : ℕ) × (u ≤ v) × Chosen n sealed run u j z.request)
            (sym (c.below j pos (omega arith)))
            (kept.anchored j pos b);
      }

  -- a round that a good replica informed of in its view, below one that is chosen there, is chosen too: either a good
  -- member has it committed, or all good members informed of it
  anchored_below :
      (m : ℕ) → Settled m → (v r k : ℕ) (x y : Request) → v < m → 0 < k → k < r →
      Chosen n sealed run v r x → Prepared n sealed v k y → (u : ℕ) × (u ≤ v) × Chosen n sealed run u k y
  anchored_below m h v r k x y lt pos l c p =
      ⊎_elim
      (λ (a : (u : ℕ) × (z : Request) × (u ≤ v) × Committed n sealed u k z).
      let d = committed_chosen a.0 k a.1 a.3 in (
        a.0,
        a.2,
        subst
            (λ (z : Request). Chosen n sealed run a.0 k z)
            (sym (h.prepared a.0 v k a.1 y lt a.2 d p))
            d,
      ))
      (λ (all : (i : ℕ) → i < n → bad i ≡ false → c.0 i ≡ true → Has (Inform v k y) (run.last i).said).
      (v, omega arith, (c.0, c.1, λ i good member. all i good.0 good.1 member)))
      (some_or_all n (λ i b. each i b (bad i) refl (c.0 i) refl))
    where
      each :
          (i : ℕ) → i < n → (b : Bool) → bad i ≡ b → (o : Bool) → c.0 i ≡ o →
          ((u : ℕ) × (z : Request) × (u ≤ v) × Committed n sealed u k z) ⊎
          (bad i ≡ false → c.0 i ≡ true → Has (Inform v k y) (run.last i).said)
      each i b true eb o eo = inr (λ good member. absurd (both_ways (bad i) good eb))
      each i b false eb false eo = inr (λ good member. absurd (both_ways (c.0 i) eo member))
      each i b false eb true eo =
          let good : Good n bad i = (b, eb) in
          let sure = sound_last i good in
          ⊎_elim
          (λ (a : (z : Request) × Has (Inform v k z) (run.last i).said).
          inr
          (λ _ _.
          subst
          (λ (z : Request). Has (Inform v k z) (run.last i).said)
          (prepared_once v k a.0 y (sure.informed v k a.0 a.1).certified p)
          a.1))
          (λ (a : (u : ℕ) × (z : Request) × (u ≤ v) × Committed n sealed u k z). inl a)
          ((sure.informed v r x (c.2 i good eo)).below k pos l)

  -- a chosen request is kept right after its Inform
  kept_fresh :
      (m : ℕ) → Settled m → (t : State Request) → Sound n sealed t → t.view < m →
      (r : ℕ) (x : Request) → 0 < r → r ≤ t.log.top → (t.log.line r).request ≡ x →
      ((k : ℕ) → 0 < k → k ≤ r → t.log.commit < k → (t.log.line k).view ≡ t.view) →
      Chosen n sealed run t.view r x → Kept t.log t.view r x
  kept_fresh m h t sure lt r x pos there same of_view c =
      record {
        from_one = pos;
        there = there;
        same = same;
        recent = λ k p l d. omega (arith, of_view k p l d);
        anchored = λ k p l. anchor k p l (cases_lt t.log.commit k) (cases_lt k r);
      }
    where
      anchor :
          (k : ℕ) → 0 < k → k ≤ r → (t.log.commit < k) ⊎ (k ≤ t.log.commit) → (k < r) ⊎ (r ≤ k) →
          (u : ℕ) × (u ≤ t.view) × Chosen n sealed run u k (t.log.line k).request
      anchor k p l (inr d) o =
          let a = sure.committed k p d in
          (a.0, a.1, committed_chosen a.0 k (t.log.line k).request a.2)
      anchor k p l (inl d) (inl o) =
          let y : Request = (t.log.line k).request in
          let told =
          subst
          (λ (u : ℕ). Has (Inform u k y) t.said)
          (of_view k p l d)
          (sure.executed k d (omega arith)).1 in
          anchored_below m h t.view r k x y lt p o c (sure.informed t.view k y told).certified
      anchor k p l (inl d) (inr o) =
          let e : r ≡ k = omega arith in (
            t.view,
            omega arith,
            subst
                (λ (j : ℕ). Chosen n sealed run t.view j (t.log.line j).request)
                e
                (subst (λ (z : Request). Chosen n sealed run t.view r z) (sym same) c),
          )

  -- what is asked of a log for each statement that its replica sealed: what it informed of is kept, if it is chosen
  abbrev pub KeptOf : Log Request → Statement Request → Type 0
  KeptOf log (Prepare v r x) = Unit {0}
  KeptOf log (Inform v r x) = Chosen n sealed run v r x → Kept log v r x
  KeptOf log (CheckCommit v r x) = Unit {0}
  KeptOf log (ViewState x report) = Unit {0}

  abbrev pub Keeps : ℕ → State Request → Type 0
  Keeps m s = s.view < m → (st : Statement Request) → Has st s.said → KeptOf s.log st

  keeps_says :
      (m : ℕ) (s : State Request) (st : Statement Request) → Keeps m s → (s.view < m → KeptOf s.log st) →
      Keeps m (says st s)
  keeps_says m s st h ok lt u =
      ⊎_elim
      (λ (e : u ≡ st). subst (KeptOf s.log) (sym e) (ok lt))
      (λ (g : Has u s.said). h lt u g)

  keeps_logs :
      (m : ℕ) (s : State Request) (log : Log Request) → Sound n sealed s → Keeps m s →
      ((v r : ℕ) (x : Request) → s.view < m → v ≤ s.view → Kept s.log v r x → Kept log v r x) →
      Keeps m (logs log s)
  keeps_logs m s log sure h ok lt st g = each st g (h lt st g)
    where
      each : (u : Statement Request) → Has u s.said → KeptOf s.log u → KeptOf log u
      each (Prepare v r x) k o = tt
      each (Inform v r x) k o = λ c. ok v r x lt (sure.informed v r x k).up_to (o c)
      each (CheckCommit v r x) k o = tt
      each (ViewState x report) k o = tt

  keeps_executes :
      (m : ℕ) → Settled m → (s t : State Request) → Executes n sealed s t → Sound n sealed s → Keeps m s → Keeps m t
  keeps_executes m h s t e sure keeps =
      let z : State Request = says (Inform s.view e.round e.request) (logs e.log s) in
      let sure-z : Sound n sealed z = subst (Sound n sealed) e.after (sound_step n sealed s t (executes e) sure) in
      subst
      (Keeps m)
      (sym e.after)
      (keeps_says
      m
      (logs e.log s)
      (Inform s.view e.round e.request)
      (keeps_logs
      m
      s
      e.log
      sure
      keeps
      (λ v r x lt up kept.
      kept_puts
      s.log
      e.log
      e.round
      e.request
      e.puts
      (omega (arith, e.same_commit))
      v
      r
      x
      (λ _. omega (arith, e.of_view))
      (λ l.
      let a = kept.anchored e.round (omega (arith, e.above_commit)) l in
      sym
      (h.prepared
      a.0
      s.view
      e.round
      (s.log.line e.round).request
      e.request
      lt
      (omega (arith, a.1))
      a.2
      e.prepared))
      kept))
      (λ lt.
      kept_fresh
      m
      h
      z
      sure-z
      lt
      e.round
      e.request
      (omega (arith, e.above_commit))
      (puts_top e.puts)
      e.puts.here
      (λ k p l d. of_view k p l d (cases_lt k e.round))))
    where
      of_view :
          (k : ℕ) → 0 < k → k ≤ e.round → e.log.commit < k → (k < e.round) ⊎ (e.round ≤ k) →
          (e.log.line k).view ≡ s.view
      of_view k p l d (inl o) =
          ap (λ (z : Line Request). z.view) (e.puts.below k p o) ∙
          (e.in_turn k (omega (arith, e.same_commit)) o).1
      of_view k p l d (inr o) =
          let same : e.round ≡ k = omega arith in
          subst (λ (j : ℕ). (e.log.line j).view ≡ s.view) same e.of_view

  keeps_informs_again :
      (m : ℕ) → Settled m → (s t : State Request) → InformsAgain n sealed s t → Sound n sealed s → Keeps m s →
      Keeps m t
  keeps_informs_again m h s t e sure keeps =
      let st : Statement Request = Inform s.view e.round (s.log.line e.round).request in
      let z : State Request = says st s in
      let sure-z : Sound n sealed z = subst (Sound n sealed) e.after (sound_step n sealed s t (informs_again e) sure) in
      subst
      (Keeps m)
      (sym e.after)
      (keeps_says
      m
      s
      st
      keeps
      (λ lt.
      kept_fresh
      m
      h
      z
      sure-z
      lt
      e.round
      (s.log.line e.round).request
      e.from_one
      (omega (arith, e.committed, sure.in_order))
      refl
      (λ k p l d. absurd (omega (arith, e.committed)))))

  keeps_commits :
      (m : ℕ) → Settled m → (s t : State Request) → Commits n sealed s t → Sound n sealed s → Keeps m s → Keeps m t
  keeps_commits m h s t e sure keeps =
      subst
      (Keeps m)
      (sym e.after)
      (keeps_logs
      m
      s
      e.log
      sure
      keeps
      (λ v r x lt up kept.
      kept_puts
      s.log
      e.log
      (s.log.commit + 1)
      e.request
      e.puts
      (omega (arith, e.one_more))
      v
      r
      x
      (λ (c : e.log.commit < s.log.commit + 1). absurd (omega (arith, e.one_more)))
      (λ l.
      let a = kept.anchored (s.log.commit + 1) (omega arith) l in
      chosen_same
      m
      h
      a.0
      e.view
      (s.log.commit + 1)
      (s.log.line (s.log.commit + 1)).request
      e.request
      (omega (arith, a.1))
      (omega (arith, e.known_view))
      a.2
      (committed_chosen e.view (s.log.commit + 1) e.request e.certified))
      kept))

  keeps_undoes :
      (m : ℕ) → Settled m → (s t : State Request) → Undoes s t → Sound n sealed s → Keeps m s → Keeps m t
  keeps_undoes m h s t e sure keeps =
      subst
      (Keeps m)
      (sym e.after)
      (keeps_logs
      m
      s
      e.log
      sure
      keeps
      (λ v r x lt up kept.
      kept_cuts
      s.log
      e.log
      e.kept
      e.cuts
      v
      r
      x
      (⊎_elim
      (λ (over : e.kept < r). absurd (in_ledger lt kept over sure.standing))
      (λ (l : r ≤ e.kept). l)
      (cases_lt e.kept r))
      kept))
    where
      in_ledger :
          s.view < m → {v r : ℕ} {x : Request} → Kept s.log v r x → e.kept < r →
          Standing n sealed s.view s.base s.ledger → ⊥
      in_ledger lt {v = v} {r = r} kept over standing =
          let k : ℕ = e.kept + 1 in
          let a = kept.anchored k (omega arith) (omega arith) in
          let b : v ≤ (s.log.line k).view = kept.recent k (omega arith) (omega arith) e.above_commit in
          let c : a.0 < s.view = omega (arith, a.1, b, e.not_of_view) in
          ⊎_elim
          (λ (z : s.view ≡ 0). omega arith)
          (λ (w : (x : ℕ) × (new : NewView n sealed x) × (s.view ≡ x + 1) ×
          Basis n sealed new s.base s.ledger).
          e.not_in_ledger
          (h.ledgers
          w.0
          w.1
          s.base
          s.ledger
          (omega (arith, w.2))
          w.3
          a.0
          k
          (s.log.line k).request
          (omega (arith, w.2))
          a.2
          e.above_base))
          standing

  keeps_step :
      (m : ℕ) → Settled m → (s t : State Request) → Step n sealed s t → Sound n sealed s → Keeps m s → Keeps m t
  keeps_step m h s t (prepares e) sure keeps =
      subst
      (Keeps m)
      (sym e.after)
      (keeps_says m s (Prepare s.view e.round e.request) keeps (λ _. tt))
  keeps_step m h s t (executes e) sure keeps = keeps_executes m h s t e sure keeps
  keeps_step m h s t (informs_again e) sure keeps = keeps_informs_again m h s t e sure keeps
  keeps_step m h s t (checks e) sure keeps =
      subst
      (Keeps m)
      (sym e.after)
      (keeps_says m s (CheckCommit s.view e.round e.request) keeps (λ _. tt))
  keeps_step m h s t (commits e) sure keeps = keeps_commits m h s t e sure keeps
  keeps_step m h s t (leaves e) sure keeps =
      subst
      (Keeps m)
      (sym e.after)
      (keeps_says m (without e.x s) (ViewState e.x e.report) keeps (λ _. tt))
  keeps_step m h s t (enters e) sure keeps =
      subst (Keeps m) (sym e.after) (λ lt. keeps (omega (arith, e.above_view)))
  keeps_step m h s t (undoes e) sure keeps = keeps_undoes m h s t e sure keeps

  -- in every state of view below m, a good replica keeps what it informed of, if it is chosen
  pub keeps_trace :
      (m : ℕ) → Settled m → (s : State Request) (past : List (State Request)) → Trace n sealed s past → Keeps m s
  keeps_trace m h s [] new lt st g =
      absurd (subst (λ (l : List (Statement Request)). Has st l) new.nothing_said g)
  keeps_trace m h s (before ∷ earlier) (step, trace) lt st g =
      keeps_step m h before s step (sound n sealed before earlier trace) (keeps_trace m h before earlier trace) lt st g

  -- What view states list ----------------------------------------------------------------------------------------------

  -- the report covers the round by its commit, or lists the request there, from this view or a later one
  abbrev pub Listed : Report Request → ℕ → ℕ → Request → Type 0
  Listed report v r x =
      (r ≤ commit_round report.commit) ⊎
      ((p : Proposal Request) × Has p report.lines × (p.round ≡ r) × (p.request ≡ x) × (v ≤ p.view))

  -- what is asked of a view state: it lists what its replica informed of up to its view, if that is chosen
  abbrev pub ReportOf : ℕ → List (Statement Request) → Statement Request → Type 0
  ReportOf m said (Prepare v r x) = Unit {0}
  ReportOf m said (Inform v r x) = Unit {0}
  ReportOf m said (CheckCommit v r x) = Unit {0}
  ReportOf m said (ViewState x report) =
      x < m → (v r : ℕ) (y : Request) → v ≤ x → Has (Inform v r y) said → Chosen n sealed run v r y →
      Listed report v r y

  abbrev pub Reports : ℕ → List (Statement Request) → Type 0
  Reports m said = (st : Statement Request) → Has st said → ReportOf m said st

  -- an Inform after a view state of view x is of a later view
  abbrev pub Late : ℕ → Statement Request → Type 0
  Late x (Prepare v r y) = Unit {0}
  Late x (Inform v r y) = x < v
  Late x (CheckCommit v r y) = Unit {0}
  Late x (ViewState y report) = Unit {0}

  reports_says :
      (m : ℕ) (said : List (Statement Request)) (new : Statement Request) → Reports m said → ReportOf m said new →
      ((x : ℕ) (report : Report Request) → Has (ViewState x report) (new ∷ said) → Late x new) →
      Reports m (new ∷ said)
  reports_says m said new h fresh late st g =
      each
      st
      g
      (⊎_elim
      (λ (e : st ≡ new). subst (ReportOf m said) (sym e) fresh)
      (λ (o : Has st said). h st o)
      g)
    where
      each : (u : Statement Request) → Has u (new ∷ said) → ReportOf m said u → ReportOf m (new ∷ said) u
      each (Prepare v r x) o p = tt
      each (Inform v r x) o p = tt
      each (CheckCommit v r x) o p = tt
      each (ViewState x report) o p =
          λ lt v r y le i c.
          ⊎_elim
          (λ (e : Inform v r y ≡ new).
          let after : x < v = subst (Late x) (sym e) (late x report o) in absurd (omega arith))
          (λ (j : Has (Inform v r y) said). p lt v r y le j c)
          i

  -- what is kept in the log is listed
  kept_listed :
      (s t : State Request) → (e : Leaves s t) → (v r : ℕ) (y : Request) → Kept s.log v r y →
      Listed e.report v r y
  kept_listed s t e v r y kept =
      ⊎_elim
      (λ (c : s.log.commit < r).
      inr (
        record { view = (s.log.line r).view; round = r; request = (s.log.line r).request },
        e.lines_above r c kept.there,
        refl,
        kept.same,
        kept.recent r kept.from_one (omega arith) c,
      ))
      (λ (c : r ≤ s.log.commit). inl (omega (arith, e.last_commit)))
      (cases_lt s.log.commit r)

  reports_step :
      (m : ℕ) → (s t : State Request) → Step n sealed s t → Sound n sealed s → Keeps m s → Reports m s.said →
      Reports m t.said
  reports_step m s t (prepares e) sure keeps h =
      subst
      (λ (z : State Request). Reports m z.said)
      (sym e.after)
      (reports_says m s.said (Prepare s.view e.round e.request) h tt (λ _ _ _. tt))
  reports_step m s t (executes e) sure keeps h =
      let sure-t = subst (Sound n sealed) e.after (sound_step n sealed s t (executes e) sure) in
      subst
      (λ (z : State Request). Reports m z.said)
      (sym e.after)
      (reports_says
      m
      s.said
      (Inform s.view e.round e.request)
      h
      tt
      (λ x report g. omega (arith, sure-t.left x report g, e.is_open)))
  reports_step m s t (informs_again e) sure keeps h =
      let sure-t = subst (Sound n sealed) e.after (sound_step n sealed s t (informs_again e) sure) in
      subst
      (λ (z : State Request). Reports m z.said)
      (sym e.after)
      (reports_says
      m
      s.said
      (Inform s.view e.round (s.log.line e.round).request)
      h
      tt
      (λ x report g. omega (arith, sure-t.left x report g, e.is_open)))
  reports_step m s t (checks e) sure keeps h =
      subst
      (λ (z : State Request). Reports m z.said)
      (sym e.after)
      (reports_says m s.said (CheckCommit s.view e.round e.request) h tt (λ _ _ _. tt))
  reports_step m s t (commits e) sure keeps h =
      subst (λ (z : State Request). Reports m z.said) (sym e.after) h
  reports_step m s t (leaves e) sure keeps h =
      subst
      (λ (z : State Request). Reports m z.said)
      (sym e.after)
      (reports_says
      m
      s.said
      (ViewState e.x e.report)
      h
      (λ lt v r y le g c.
      kept_listed s t e v r y (keeps (omega (arith, e.not_below)) (Inform v r y) g c))
      (λ _ _ _. tt))
  reports_step m s t (enters e) sure keeps h =
      subst (λ (z : State Request). Reports m z.said) (sym e.after) h
  reports_step m s t (undoes e) sure keeps h =
      subst (λ (z : State Request). Reports m z.said) (sym e.after) h

  -- a good replica's view states of views below m list what it informed of, if it is chosen
  pub reports_trace :
      (m : ℕ) → Settled m → (s : State Request) (past : List (State Request)) → Trace n sealed s past →
      Reports m s.said
  reports_trace m h s [] new st g =
      absurd (subst (λ (l : List (Statement Request)). Has st l) new.nothing_said g)
  reports_trace m h s (before ∷ earlier) (step, trace) st g =
      reports_step
      m
      before
      s
      step
      (sound n sealed before earlier trace)
      (keeps_trace m h before earlier trace)
      (reports_trace m h before earlier trace)
      st
      g
