-- More seals take nothing away: a step, and so a trace, that rests on some seals rests on any greater set of them.
-- So the steps of a series, each resting on the seals of its time, make a trace over the seals that exist in the end.
use Rattle.std.proofs.Common.{ℕ, List, [], ◌∷◌, Some, None, Option}
use Rattle.agreement.specs.Certificates.{Certified, Proven, NewView, LedgerAt, Basis}
use Rattle.agreement.specs.Runs.{Trace}
use Rattle.agreement.specs.States.{State}
use Rattle.agreement.specs.Statements.{Report, Statement}
use Rattle.agreement.specs.Steps.{
  Step,
  prepares,
  executes,
  informs_again,
  checks,
  commits,
  leaves,
  enters,
  undoes,
}

module _ {Request : Type 0} (n : ℕ) (some all : ℕ → Statement Request → Type 0)
    (more : (i : ℕ) (st : Statement Request) → some i st → all i st) where
  pub certified_grows : (st : Statement Request) → Certified n some st → Certified n all st
  certified_grows st c = (c.0, c.1, λ i l m. more i st (c.2 i l m))

  pub proven_grows : (x : ℕ) (report : Report Request) → Proven n some x report → Proven n all x report
  proven_grows x report p =
      record {
        commit = λ q e. let a = p.commit q e in (a.0, certified_grows _ a.1);
        lines = λ q h. let a = p.lines q h in (a.0, certified_grows _ a.1);
      }

  abbrev pub new_grows : {x : ℕ} → NewView n some x → NewView n all x
  new_grows {x} new =
      record {
        senders = new.senders;
        enough = new.enough;
        report = new.report;
        genuine = λ i l m. more i _ (new.genuine i l m);
        proven = λ i l m. proven_grows x (new.report i) (new.proven i l m);
      }

  ledger_grows :
      {x : ℕ} (new : NewView n some x) (round : ℕ) (o : Option Request) → LedgerAt n some new round o →
      LedgerAt n all (new_grows new) round o
  ledger_grows new round None h = h
  ledger_grows new round (Some request) h = h

  pub basis_grows :
      {x : ℕ} (new : NewView n some x) (base : ℕ) (ledger : ℕ → Option Request) → Basis n some new base ledger →
      Basis n all (new_grows new) base ledger
  basis_grows new base ledger b =
      record {
        is_base = record { highest = b.is_base.highest; listed = b.is_base.listed };
        is_ledger = λ round l. ledger_grows new round (ledger round) (b.is_ledger round l);
      }

  pub step_grows : {s t : State Request} → Step n some s t → Step n all s t
  step_grows (prepares e) = prepares e
  step_grows (executes e) =
      executes
      (record {
        round = e.round;
        request = e.request;
        is_open = e.is_open;
        above_commit = e.above_commit;
        prepared = certified_grows _ e.prepared;
        in_turn = e.in_turn;
        log = e.log;
        puts = e.puts;
        of_view = e.of_view;
        same_commit = e.same_commit;
        after = e.after;
      })
  step_grows (informs_again e) =
      informs_again
      (record {
        round = e.round;
        is_open = e.is_open;
        from_one = e.from_one;
        committed = e.committed;
        prepared = certified_grows _ e.prepared;
        after = e.after;
      })
  step_grows (checks e) = checks e
  step_grows (commits e) =
      commits
      (record {
        view = e.view;
        request = e.request;
        certified = certified_grows _ e.certified;
        known_view = e.known_view;
        log = e.log;
        puts = e.puts;
        one_more = e.one_more;
        after = e.after;
      })
  step_grows (leaves e) = leaves e
  step_grows (enters e) =
      enters
      (record {
        x = e.x;
        new = new_grows e.new;
        base = e.base;
        ledger = e.ledger;
        basis = basis_grows e.new e.base e.ledger e.basis;
        above_view = e.above_view;
        above_left = e.above_left;
        after = e.after;
      })
  step_grows (undoes e) = undoes e

  pub trace_grows : (s : State Request) (past : List (State Request)) → Trace n some s past → Trace n all s past
  trace_grows s [] new = new
  trace_grows s (before ∷ earlier) (step, trace) = (step_grows step, trace_grows before earlier trace)
