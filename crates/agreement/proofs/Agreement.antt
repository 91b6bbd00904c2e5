-- The safety of the protocol: by induction on the view, what is chosen has no rival, and so logs agree.
use Rattle.std.proofs.Common.{◌≡◌, ℕ, zero, suc, ◌+◌, ◌<◌, ◌≤◌, Bool, List, [], ◌∷◌, Some, None, Option, sym, refl, ap, ◌∙◌, subst, inl, inr, ⊎_elim, arith}
use Rattle.agreement.proofs.Kept.{sound_last, prepared_once, chosen_prepared, chosen_round, committed_chosen, Settled, chosen_same, Kept, keeps_trace, reports_trace}
use Rattle.agreement.proofs.Sound.{Grounded, Sound, sound}
use Rattle.agreement.specs.Certificates.{commit_round, Prepared, NewView, Lists, LedgerAt, Basis}
use Rattle.agreement.specs.Promises.{PreparedOnce, Fixed, ChosenFixed, Agree, LogsAgree}
use Rattle.agreement.specs.Runs.{Good, Trace, Run, Was, Chosen}
use Rattle.agreement.specs.States.{State}
use Rattle.agreement.specs.Statements.{Proposal, Statement, Prepare, Inform, ViewState, Has}
use Rattle.quorum.proofs.Sets.{quorums_share}
use Rattle.quorum.specs.Sets.{Stands}
use Rattle.std.proofs.lemmas.Bool.{cases_lt}

-- every state that a station was in has a trace of its own
pub trace_of :
    {Request : Type 0} (n : ℕ) (sealed : ℕ → Statement Request → Type 0) (s : State Request)
    (past : List (State Request)) → Trace n sealed s past → (u : State Request) → Has u (s ∷ past) →
    (earlier : List (State Request)) × Trace n sealed u earlier
trace_of n sealed s [] t u (inl e) = ([], subst (λ (z : State _). Trace n sealed z []) (sym e) t)
trace_of n sealed s [] t u (inr g) = absurd g
trace_of n sealed s (before ∷ earlier) t u (inl e) =
    (before ∷ earlier, subst (λ (z : State _). Trace n sealed z (before ∷ earlier)) (sym e) t)
trace_of n sealed s (before ∷ earlier) (step, t) u (inr g) = trace_of n sealed before earlier t u g

module _ {Request : Type 0} (n : ℕ) (sealed : ℕ → Statement Request → Type 0) (bad : ℕ → Bool)
    (stands : Stands n bad) (run : Run n sealed bad) where
  -- One view more ------------------------------------------------------------------------------------------------------

  -- a ledger of view w + 1 that covers the round has the chosen request: a good station informed of it and sent one of
  -- the view states, which lists it; and no listed line of that view or a later one has another request
  ledger_has :
      (m : ℕ) → Settled n sealed bad stands run m →
      (w : ℕ) (new : NewView n sealed w) (base : ℕ) (ledger : ℕ → Option Request) → w < m →
      Basis n sealed new base ledger → (v r : ℕ) (x : Request) → v ≤ w → Chosen n sealed run v r x → base < r →
      ledger r ≡ Some x
  ledger_has m h w new base ledger lt basis v r x le c over =
      let i = quorums_share n bad c.0 new.senders stands c.1 new.enough in
      let good : Good n bad i.0 = (i.1, i.2) in
      let sent =
      run.unforged i.0 good (ViewState w (new.report i.0)) (new.genuine i.0 i.1 i.4) in
      ⊎_elim
      (λ (covered : r ≤ commit_round (new.report i.0).commit).
      absurd (omega (arith, basis.is_base.highest i.0 i.1 i.4)))
      (λ (p : (p : Proposal Request) × Has p (new.report i.0).lines × (p.round ≡ r) × (p.request ≡ x) ×
      (v ≤ p.view)).
      highest p.0 (i.0, i.1, i.4, p.1) p.2 p.4 (ledger r) refl (basis.is_ledger r over))
      (reports_trace
      n
      sealed
      bad
      stands
      run
      m
      h
      (run.last i.0)
      (run.past i.0)
      (run.trace i.0 good)
      (ViewState w (new.report i.0))
      sent
      lt
      v
      r
      x
      le
      (c.2 i.0 good i.3)
      c)
    where
      highest :
          (p : Proposal Request) → Lists n sealed new p → p.round ≡ r → v ≤ p.view →
          (o : Option Request) → ledger r ≡ o → LedgerAt n sealed new r o → ledger r ≡ Some x
      highest p listed round late None e none = absurd (none p listed round)
      highest p listed round late (Some z) e (top, lists, at, is, most) =
          let above : p.view ≤ top.view = most p listed round in
          let proven = (new.proven lists.0 lists.1 lists.2).lines top lists.3 in
          let same : top.request ≡ x =
          h.prepared
          v
          top.view
          r
          x
          top.request
          (omega (arith, proven.0))
          (omega arith)
          c
          (subst (λ (k : ℕ). Prepared n sealed top.view k top.request) at proven.1) in
          e ∙ ap Some (sym is ∙ same)

  -- a prepared certificate of view m has the chosen request of an earlier view, or of this one
  prepared_has :
      (m : ℕ) → Settled n sealed bad stands run m → (v r : ℕ) (x y : Request) → v ≤ m →
      Chosen n sealed run v r x → Prepared n sealed m r y → y ≡ x
  prepared_has m h v r x y le c p =
      ⊎_elim
      (λ (lt : v < m).
      let i = quorums_share n bad p.0 p.0 stands p.1 p.1 in
      let good : Good n bad i.0 = (i.1, i.2) in
      let told = run.unforged i.0 good (Prepare m r y) (p.2 i.0 i.1 i.3) in
      grounds lt ((sound_last n sealed bad stands run i.0 good).prepared m r y told).0)
      (λ (ge : m ≤ v).
      let e : v ≡ m = omega arith in
      prepared_once
      n
      sealed
      bad
      stands
      run
      m
      r
      y
      x
      p
      (subst
      (λ (u : ℕ). Prepared n sealed u r x)
      e
      (chosen_prepared n sealed bad stands run v r x c)))
      (cases_lt v m)
    where
      grounds : v < m → Grounded n sealed m r y → y ≡ x
      grounds lt g =
          ⊎_elim
          (λ (zero-view : m ≡ 0). absurd (omega arith))
          (λ (w : (w : ℕ) × (new : NewView n sealed w) × (m ≡ w + 1) × Basis n sealed new g.base g.ledger).
          sym
          (g.by_ledger
          x
          (ledger_has
          m
          h
          w.0
          w.1
          g.base
          g.ledger
          (omega (arith, w.2))
          w.3
          v
          r
          x
          (omega (arith, w.2))
          c
          g.above_base)))
          g.standing

  -- so no view has a rival of what is chosen up to it
  pub settled : (m : ℕ) → Settled n sealed bad stands run m
  settled zero =
      record {
        prepared = λ v w r x y lt le c p. absurd (omega arith);
        ledgers = λ w new base ledger lt basis v r x le c over. absurd (omega arith);
      }
  settled (suc m) = let h = settled m in
      record {
        prepared =
            λ v w r x y lt le c p.
            ⊎_elim
            (λ (l : w < m). h.prepared v w r x y l le c p)
            (λ (l : m ≤ w).
            let e : w ≡ m = omega arith in
            prepared_has m h v r x y (omega arith) c (subst (λ (u : ℕ). Prepared n sealed u r y) e p))
            (cases_lt w m);
        ledgers =
            λ w new base ledger lt basis v r x le c over.
            ledger_has m h w new base ledger (omega arith) basis v r x le c over;
      }

  -- What follows ---------------------------------------------------------------------------------------------------------

  -- two that are chosen at a round are the same
  pub chosen_agree :
      (v w r : ℕ) (x y : Request) → Chosen n sealed run v r x → Chosen n sealed run w r y → x ≡ y
  chosen_agree v w r x y c d =
      chosen_same
      n
      sealed
      bad
      stands
      run
      (v + w + 1)
      (settled (v + w + 1))
      v
      w
      r
      x
      y
      (omega arith)
      (omega arith)
      c
      d

  -- a chosen request is fixed from its view on
  pub chosen_fixes :
      (u v r : ℕ) (x : Request) → u ≤ v → Chosen n sealed run u r x → Fixed Request sealed n v r x
  chosen_fixes u v r x l c =
      record {
        prepared = λ later y le p. (settled (later + 1)).prepared u later r x y (omega arith) (omega arith) c p;
        ledgers =
            λ w new base ledger le basis over.
            (settled (w + 2)).ledgers w new base ledger (omega arith) basis u r x (omega arith) c over;
      }

  -- a good station keeps what it informed of, if it is chosen, in all states since
  pub kept_since :
      (i : ℕ) (s : State Request) → Good n bad i → Was n sealed run i s → (v r : ℕ) (x : Request) →
      Has (Inform v r x) s.said → Chosen n sealed run v r x → Kept n sealed bad stands run s.log v r x
  kept_since i s good was v r x g c =
      let t = trace_of n sealed (run.last i) (run.past i) (run.trace i good) s was in
      keeps_trace
      n
      sealed
      bad
      stands
      run
      (s.view + 1)
      (settled (s.view + 1))
      s
      t.0
      t.1
      (omega arith)
      (Inform v r x)
      g
      c

  -- it is sound in all its states
  pub sound_ever : (i : ℕ) (s : State Request) → Good n bad i → Was n sealed run i s → Sound n sealed s
  sound_ever i s good was =
      let t = trace_of n sealed (run.last i) (run.past i) (run.trace i good) s was in sound n sealed s t.0 t.1

  -- what it committed is chosen
  pub commit_chosen :
      (i : ℕ) (s : State Request) → Good n bad i → Was n sealed run i s → (r : ℕ) → 0 < r → r ≤ s.log.commit →
      (u : ℕ) × Chosen n sealed run u r (s.log.line r).request
  commit_chosen i s good was r pos l =
      let a = (sound_ever i s good was).committed r pos l in
      (a.0, committed_chosen n sealed bad stands run a.0 r (s.log.line r).request a.2)

  -- a chosen request is fixed, and so are those below it
  pub fixed_below :
      (v r : ℕ) (x : Request) → Chosen n sealed run v r x →
      Fixed Request sealed n v r x ×
      ((k : ℕ) → 0 < k → k < r →
      (y : Request) × Fixed Request sealed n v k y ×
      ((i : ℕ) (s : State Request) → Good n bad i → Was n sealed run i s →
      Has (Inform v r x) s.said → (k ≤ s.log.top) × ((s.log.line k).request ≡ y)))
  fixed_below v r x c = (
    chosen_fixes v v r x (omega arith) c,
    λ k pos l.
        let i = quorums_share n bad c.0 c.0 stands c.1 c.1 in
        let good : Good n bad i.0 = (i.1, i.2) in
        let s : State Request = run.last i.0 in
        let a =
        (kept_since i.0 s good (inl refl) v r x (c.2 i.0 good i.3) c).anchored k pos (omega arith) in (
          (s.log.line k).request,
          chosen_fixes a.0 v k (s.log.line k).request a.1 a.2,
          λ j t fine was g.
              let kept = kept_since j t fine was v r x g c in
              let b = kept.anchored k pos (omega arith) in (
                omega (arith, kept.there),
                chosen_agree b.0 a.0 k (t.log.line k).request (s.log.line k).request b.2 a.2,
              ),
        ),
  )

  pub agree : Agree Request sealed n bad run
  agree =
      record {
        logs =
            λ i j s t good fine was been r pos l k.
            let a = commit_chosen i s good was r pos l in
            let b = commit_chosen j t fine been r pos k in
            chosen_agree a.0 b.0 r (s.log.line r).request (t.log.line r).request a.1 b.1;
        chosen_logs =
            λ i s good was v r x c l.
            let a = commit_chosen i s good was r (chosen_round n sealed bad stands run v r x c) l in
            chosen_agree a.0 v r (s.log.line r).request x a.1 c;
        chosen = chosen_agree;
      }

-- The promises -----------------------------------------------------------------------------------------------------------

pub prepared_once_holds :
    (Request : Type 0) (sealed : ℕ → Statement Request → Type 0) → PreparedOnce Request sealed
prepared_once_holds Request sealed n bad stands run v r x y p q = prepared_once n sealed bad stands run v r x y p q

pub chosen_fixed_holds :
    (Request : Type 0) (sealed : ℕ → Statement Request → Type 0) → ChosenFixed Request sealed
chosen_fixed_holds Request sealed n bad stands run v r x c = fixed_below n sealed bad stands run v r x c

pub logs_agree_holds : (Request : Type 0) (sealed : ℕ → Statement Request → Type 0) → LogsAgree Request sealed
logs_agree_holds Request sealed n bad stands run = agree n sealed bad stands run
