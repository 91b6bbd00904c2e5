-- The two sample runs of four stations. Round k has the request k + 6, and station 3 is bad.
use Rattle.std.proofs.Common.{◌≡◌, ℕ, zero, suc, ◌+◌, ◌<◌, ◌≤◌, Bool, true, false, ltb, List, [], ◌∷◌, Some, None, Option, sym, refl, ap, subst, inl, inr, ⊎_elim, arith, lit<, lit≤}
use Rattle.agreement.specs.Certificates.{commit_round, Prepared, Proven, NewView, LedgerAt, Basis}
use Rattle.agreement.specs.Runs.{Good, Trace, Run}
use Rattle.agreement.specs.Samples.{third, within, SampleCommit, SampleChange}
use Rattle.agreement.specs.States.{Log, State, New, says, logs, without, entering}
use Rattle.agreement.specs.Statements.{Proposal, Report, Statement, Prepare, Inform, CheckCommit, ViewState, Has}
use Rattle.agreement.specs.Steps.{prepares, executes, checks, commits, leaves, enters, undoes}
use Rattle.quorum.specs.Sets.{Quorum, Stands}
use Rattle.std.proofs.lemmas.Bool.{both_ways}

-- a log whose round k has the request k + 6, executed in view 0
abbrev log_to : ℕ → ℕ → Log ℕ
log_to top commit = record { line = λ k. record { view = 0; request = k + 6 }; top = top; commit = commit }

-- nothing has happened
abbrev fresh : State ℕ
fresh = record { view = 0; left = 0; base = 0; ledger = λ _. None; log = log_to 0 0; said = [] }

fresh_new : New fresh
fresh_new =
    record {
      first_view = refl;
      none_left = refl;
      no_base = refl;
      no_ledger = λ _. refl;
      no_line = refl;
      no_commit = refl;
      nothing_said = refl;
    }

-- an empty ledger binds to nothing
unbound : (x other : ℕ) → None ≡ Some other → other ≡ x
unbound x other e = cc

stands : Stands 4 third
stands = (lit< tt, lit≤ tt)

-- A request is chosen and committed -----------------------------------------------------------------------------------------

abbrev prepared_1 : State ℕ
prepared_1 = says (Prepare 0 1 7) fresh

abbrev executed_1 : State ℕ
executed_1 = says (Inform 0 1 7) (logs (log_to 1 0) prepared_1)

abbrev checked_1 : State ℕ
checked_1 = says (CheckCommit 0 1 7) executed_1

abbrev committed_1 : State ℕ
committed_1 = logs (log_to 1 1) checked_1

-- all stations sealed the same
abbrev alike : ℕ → List (Statement ℕ)
alike i = checked_1.said

everybody : Quorum 4 (λ _. true)
everybody = lit≤ tt

trace_commit : Trace 4 (within alike) committed_1 (checked_1 ∷ executed_1 ∷ prepared_1 ∷ fresh ∷ [])
trace_commit = (
  commits
      (record {
        view = 0;
        request = 7;
        certified = (λ _. true, everybody, λ i l m. inl refl);
        known_view = lit≤ tt;
        log = log_to 1 1;
        puts =
            record {
              here = refl;
              below = λ k pos l. refl;
              above = inl (lit≤ tt, refl, refl, λ k a b. refl);
            };
        one_more = refl;
        after = refl;
      }),
  (
    checks
        (record
        { round = 1; request = 7; is_open = lit≤ tt; executed = inl refl; in_turn = lit≤ tt; after = refl }),
    (
      executes
          (record {
            round = 1;
            request = 7;
            is_open = lit≤ tt;
            above_commit = lit< tt;
            prepared = (λ _. true, everybody, λ i l m. inr (inr (inl refl)));
            in_turn = λ k a b. absurd (omega arith);
            log = log_to 1 0;
            puts =
                record {
                  here = refl;
                  below = λ k pos l. refl;
                  above = inr (λ l e. omega arith, refl);
                };
            of_view = refl;
            same_commit = refl;
            after = refl;
          }),
      (
        prepares
            (record {
              round = 1;
              request = 7;
              is_open = lit≤ tt;
              above_base = lit< tt;
              by_ledger = unbound 7;
              once = λ other h. absurd h;
              after = refl;
            }),
        fresh_new,
      ),
    ),
  ),
)

run_commit : Run 4 (within alike) third
run_commit =
    record {
      last = λ i. committed_1;
      past = λ i. checked_1 ∷ executed_1 ∷ prepared_1 ∷ fresh ∷ [];
      trace = λ i good. trace_commit;
      unforged = λ i good st h. h;
    }

pub sample_commit : SampleCommit
unfolding run_commit
sample_commit = (
  stands,
  (alike, run_commit, (λ _. true, everybody, λ i good m. inr (inl refl)), λ i good. (refl, refl)),
)

-- A change of view undoes a line and keeps a chosen one -------------------------------------------------------------------------

-- all good stations prepare 7 and 8 and execute 7
abbrev prepared_2 : State ℕ
prepared_2 = says (Prepare 0 2 8) prepared_1

abbrev first_line : State ℕ
first_line = says (Inform 0 1 7) (logs (log_to 1 0) prepared_2)

-- station 0 executes 8 too, enters view 1 and undoes it
abbrev second_line : State ℕ
second_line = says (Inform 0 2 8) (logs (log_to 2 0) first_line)

-- the line of 7, as view states list it, and what stations 1 and 2 report; station 3 reports nothing
abbrev seven : Proposal ℕ
seven = record { view = 0; round = 1; request = 7 }

abbrev report_of : ℕ → Report ℕ
report_of zero = record { commit = None; lines = [] }
report_of (suc zero) = record { commit = None; lines = seven ∷ [] }
report_of (suc (suc zero)) = record { commit = None; lines = seven ∷ [] }
report_of (suc (suc (suc i))) = record { commit = None; lines = [] }

abbrev left_0 : State ℕ
left_0 = says (ViewState 0 (report_of 1)) (without 0 first_line)

-- the ledger of view 1 has 7 at round 1, and no more
abbrev ledger_1 : ℕ → Option ℕ
ledger_1 zero = None
ledger_1 (suc zero) = Some 7
ledger_1 (suc (suc k)) = None

abbrev entered_1 : State ℕ
entered_1 = entering 1 0 ledger_1 second_line

abbrev undone : State ℕ
undone = logs (log_to 1 0) entered_1

-- the seals that exist
abbrev seals : ℕ → List (Statement ℕ)
seals zero = undone.said
seals (suc zero) = left_0.said
seals (suc (suc zero)) = left_0.said
seals (suc (suc (suc i))) = ViewState 0 (report_of 3) ∷ []

-- the three good stations, and the three whose view states make the new view
abbrev good_ones : ℕ → Bool
good_ones i = ltb i 3

abbrev senders_1 : ℕ → Bool
senders_1 i = ltb 0 i

prepared_7 : Prepared 4 (within seals) 0 1 7
prepared_7 = (good_ones, lit≤ tt, each)
  where
    each : (i : ℕ) → i < 4 → good_ones i ≡ true → Has (Prepare 0 1 7) (seals i)
    each zero l m = inr (inr (inr (inl refl)))
    each (suc zero) l m = inr (inr (inr (inl refl)))
    each (suc (suc zero)) l m = inr (inr (inr (inl refl)))
    each (suc (suc (suc zero))) l m = absurd (both_ways false refl m)
    each (suc (suc (suc (suc i)))) l m = absurd (omega arith)

prepared_8 : Prepared 4 (within seals) 0 2 8
prepared_8 = (good_ones, lit≤ tt, each)
  where
    each : (i : ℕ) → i < 4 → good_ones i ≡ true → Has (Prepare 0 2 8) (seals i)
    each zero l m = inr (inr (inl refl))
    each (suc zero) l m = inr (inr (inl refl))
    each (suc (suc zero)) l m = inr (inr (inl refl))
    each (suc (suc (suc zero))) l m = absurd (both_ways false refl m)
    each (suc (suc (suc (suc i)))) l m = absurd (omega arith)

-- what the reports list is proven
proven_seven :
    (p : Proposal ℕ) → p ≡ seven → (p.view ≤ 0) × Prepared 4 (within seals) p.view p.round p.request
proven_seven p e =
    subst
    (λ (z : Proposal ℕ). (z.view ≤ 0) × Prepared 4 (within seals) z.view z.round z.request)
    (sym e)
    (lit≤ tt, prepared_7)

nothing : {A : Type 0} (p : Proposal ℕ) → None ≡ Some p → A
nothing p e = absurd (let z : ◌≡◌ {A = ℕ} 0 1 = cc in omega arith)

proven_of : (i : ℕ) → Proven 4 (within seals) 0 (report_of i)
proven_of zero = record { commit = λ p e. nothing p e; lines = λ p h. absurd h }
proven_of (suc zero) =
    record
    { commit = λ p e. nothing p e; lines = λ p. ⊎_elim (λ (e : p ≡ seven). proven_seven p e) (λ (h : ⊥). absurd h) }
proven_of (suc (suc zero)) =
    record
    { commit = λ p e. nothing p e; lines = λ p. ⊎_elim (λ (e : p ≡ seven). proven_seven p e) (λ (h : ⊥). absurd h) }
proven_of (suc (suc (suc i))) = record { commit = λ p e. nothing p e; lines = λ p h. absurd h }

genuine_of : (i : ℕ) → i < 4 → senders_1 i ≡ true → Has (ViewState 0 (report_of i)) (seals i)
genuine_of zero l m = absurd (both_ways false refl m)
genuine_of (suc zero) l m = inl refl
genuine_of (suc (suc zero)) l m = inl refl
genuine_of (suc (suc (suc i))) l m = inl refl

abbrev new_1 : NewView 4 (within seals) 0
new_1 =
    record {
      senders = senders_1;
      enough = lit≤ tt;
      report = report_of;
      genuine = genuine_of;
      proven = λ i l m. proven_of i;
    }

-- it lists no other line
only_seven : (i : ℕ) (p : Proposal ℕ) → Has p (report_of i).lines → p ≡ seven
only_seven zero p h = absurd h
only_seven (suc zero) p h = ⊎_elim (λ (e : p ≡ seven). e) (λ (k : ⊥). absurd k) h
only_seven (suc (suc zero)) p h = ⊎_elim (λ (e : p ≡ seven). e) (λ (k : ⊥). absurd k) h
only_seven (suc (suc (suc i))) p h = absurd h

no_commits : (i : ℕ) → commit_round (report_of i).commit ≤ 0
no_commits zero = lit≤ tt
no_commits (suc zero) = lit≤ tt
no_commits (suc (suc zero)) = lit≤ tt
no_commits (suc (suc (suc i))) = lit≤ tt

ledger_of : (round : ℕ) → 0 < round → LedgerAt 4 (within seals) new_1 round (ledger_1 round)
ledger_of zero l = absurd (omega arith)
ledger_of (suc zero) l = (
  seven,
  (1, lit< tt, refl, inl refl),
  refl,
  refl,
  λ other lists e.
      let v : other.view ≡ 0 = ap (λ (z : Proposal ℕ). z.view) (only_seven lists.0 other lists.3) in omega arith,
)
ledger_of (suc (suc k)) l =
    λ p lists e.
    let r : p.round ≡ 1 = ap (λ (z : Proposal ℕ). z.round) (only_seven lists.0 p lists.3) in omega arith

basis_1 : Basis 4 (within seals) new_1 0 ledger_1
basis_1 =
    record {
      is_base = record { highest = λ i l m. no_commits i; listed = inl refl };
      is_ledger = ledger_of;
    }

-- the steps that all good stations share
trace_first : Trace 4 (within seals) first_line (prepared_2 ∷ prepared_1 ∷ fresh ∷ [])
trace_first = (
  executes
      (record {
        round = 1;
        request = 7;
        is_open = lit≤ tt;
        above_commit = lit< tt;
        prepared = prepared_7;
        in_turn = λ k a b. absurd (omega arith);
        log = log_to 1 0;
        puts =
            record { here = refl; below = λ k pos l. refl; above = inr (λ l e. omega arith, refl) };
        of_view = refl;
        same_commit = refl;
        after = refl;
      }),
  (
    prepares
        (record {
          round = 2;
          request = 8;
          is_open = lit≤ tt;
          above_base = lit< tt;
          by_ledger = unbound 8;
          once =
              λ other. ⊎_elim (λ (e : Prepare 0 2 other ≡ Prepare 0 1 7). cc) (λ (h : ⊥). absurd h);
          after = refl;
        }),
    (
      prepares
          (record {
            round = 1;
            request = 7;
            is_open = lit≤ tt;
            above_base = lit< tt;
            by_ledger = unbound 7;
            once = λ other h. absurd h;
            after = refl;
          }),
      fresh_new,
    ),
  ),
)

abbrev past_of : ℕ → List (State ℕ)
past_of zero = entered_1 ∷ second_line ∷ first_line ∷ prepared_2 ∷ prepared_1 ∷ fresh ∷ []
past_of (suc i) = first_line ∷ prepared_2 ∷ prepared_1 ∷ fresh ∷ []

abbrev last_of : ℕ → State ℕ
last_of zero = undone
last_of (suc i) = left_0

trace_of : (i : ℕ) → Trace 4 (within seals) (last_of i) (past_of i)
trace_of zero = (
  undoes
      (record {
        kept = 1;
        there = lit≤ tt;
        above_base = lit< tt;
        above_commit = lit< tt;
        not_of_view = lit< tt;
        not_in_ledger = λ e. absurd (let z : ◌≡◌ {A = ℕ} 0 1 = cc in omega arith);
        log = log_to 1 0;
        cuts = record { below = λ k pos l. refl; ends = refl; commit = refl };
        after = refl;
      }),
  (
    enters
        (record {
          x = 0;
          new = new_1;
          base = 0;
          ledger = ledger_1;
          basis = basis_1;
          above_view = lit< tt;
          above_left = lit≤ tt;
          after = refl;
        }),
    (
      executes
          (record {
            round = 2;
            request = 8;
            is_open = lit≤ tt;
            above_commit = lit< tt;
            prepared = prepared_8;
            in_turn = λ k a b. (omega arith, refl);
            log = log_to 2 0;
            puts =
                record { here = refl; below = λ k pos l. refl; above = inr (λ l e. omega arith, refl) };
            of_view = refl;
            same_commit = refl;
            after = refl;
          }),
      trace_first,
    ),
  ),
)
trace_of (suc i) = (
  leaves
      (record {
        x = 0;
        report = report_of 1;
        not_below = lit≤ tt;
        last_commit = refl;
        lines_above = listed;
        after = refl;
      }),
  trace_first,
)
  where
    listed :
        (round : ℕ) → 0 < round → round ≤ 1 →
        Has (record { view = 0; round = round; request = round + 6 }) (report_of 1).lines
    listed round a b =
        let e : round ≡ 1 = omega arith in
        subst (λ (k : ℕ). Has (record { view = 0; round = k; request = k + 6 }) (report_of 1).lines) (sym e) (inl refl)

sealed_by : (i : ℕ) → Good 4 third i → (st : Statement ℕ) → Has st (seals i) → Has st (last_of i).said
sealed_by zero good st h = h
sealed_by (suc zero) good st h = h
sealed_by (suc (suc zero)) good st h = h
sealed_by (suc (suc (suc zero))) good st h = absurd (both_ways true good.1 refl)
sealed_by (suc (suc (suc (suc i)))) good st h = absurd (omega (arith, good.0))

run_change : Run 4 (within seals) third
run_change =
    record { last = last_of; past = past_of; trace = λ i good. trace_of i; unforged = sealed_by }

informed_of : (i : ℕ) → Has (Inform 0 1 7) (last_of i).said
informed_of zero = inr (inl refl)
informed_of (suc i) = inr (inl refl)

pub sample_change : SampleChange
unfolding run_change
sample_change = (
  stands,
  (
    seals,
    run_change,
    (good_ones, lit≤ tt, λ i good m. informed_of i),
    (second_line, inr (inr (inl refl)), refl, refl, refl),
    refl,
    refl,
    refl,
  ),
)
