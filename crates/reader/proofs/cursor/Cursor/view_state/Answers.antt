-- Each part is read at its place, counted from where the view state begins.
use Rattle.std.proofs.Common.{◌≡◌, ◌+◌, Ok, Err, refl, ◌∙◌, arith, rules}
use Rattle.std.proofs.lemmas.Bool.{eq-eqb}
use Rattle.quorum.specs.Rings.{stations_of}
use Rattle.records.specs.Reading.{number_at, view_at, commit_at, prepared_at, state_at}
use Rattle.codec.proofs.Steps.{then_on, check_on}
use Rattle.reader.proofs.Cursors.{value_ok, read_ok, read_err, then_err}
use Rattle.reader.proofs.cursor.Cursor.view_state.Goals.{In_ok-view}
use Rattle.reader.proofs.cursor.Cursor.view_state.Goals as goal

-- where the commit certificate begins
commit_place : (c : In_ok-view) → (c.view.new.self.bytes ≡ c.args.self.now.bytes) × (c.view.new.self.at ≡ c.args.self.now.at + 7)
commit_place c = (
  c.view.ensures.same ∙ c.u8.ensures.same ∙ c.u16.ensures.same,
  omega (arith, c.in_ok-u16.ensures.moved, c.in_ok-sender.ensures.moved, c.in_ok-view.ensures.moved),
)

-- what was read before it
head : (c : In_ok-view) → (number_at 2 c.args.self.now.bytes.now c.args.self.now.at ≡ Ok c.in_ok-u16.field-0) × (number_at 1 c.args.self.now.bytes.now (c.args.self.now.at + 2) ≡ Ok c.in_ok-sender.sender) × (view_at 0 999999 c.args.self.now.bytes.now (c.args.self.now.at + 3) ≡ Ok c.in_ok-view.view)
head c = (
  value_ok (number_at 2) refl refl c.u16.ensures c.in_ok-u16.was,
  value_ok (number_at 1) c.u16.ensures.same (omega (arith, c.in_ok-u16.ensures.moved)) c.u8.ensures c.in_ok-sender.was,
  value_ok (view_at 0 999999) (c.u8.ensures.same ∙ c.u16.ensures.same) (omega (arith, c.in_ok-u16.ensures.moved, c.in_ok-sender.ensures.moved)) c.view.ensures c.in_ok-view.was,
)

pub returns-in_err-commit : goal.returns-in_err-commit
returns-in_err-commit c =
    let view = (goal.at.returns-in_err-commit c).In_ok-view in
    let before = commit_place view in
    let h = head view in
    let commit = read_err (commit_at (stations_of c.args.ring)) before.0 before.1 c.commit.ensures c.in_err-commit.was in
    let all : state_at (stations_of c.args.ring) c.args.self.now.bytes.now c.args.self.now.at ≡ Err c.in_err-commit.field-0.0 =
    then_on _ h.0 (check_on c.args.self.now.at (eq-eqb c.in_ok-u16.field-0 _ c.if-branch-ne-VS.false) (then_on _ h.1 (then_on _ h.2 (then_err _ commit)))) in
    search rules

pub returns-in_err-prepared : goal.returns-in_err-prepared
returns-in_err-prepared c =
    let before = commit_place (goal.at.returns-in_err-prepared c).In_ok-view in
    let commit = read_ok (commit_at (stations_of c.args.ring)) before.0 before.1 c.commit.ensures c.in_ok-commit.was in
    let prepared = read_err (prepared_at (stations_of c.args.ring)) (c.commit.ensures.same ∙ before.0) refl c.prepared.ensures c.in_err-prepared.was in
    search rules

pub returns-in_err-seal : goal.returns-in_err-seal
returns-in_err-seal c =
    let before = commit_place (goal.at.returns-in_err-seal c).In_ok-view in
    let commit = read_ok (commit_at (stations_of c.args.ring)) before.0 before.1 c.commit.ensures c.in_ok-commit.was in
    let prepared = read_ok (prepared_at (stations_of c.args.ring)) (c.commit.ensures.same ∙ before.0) refl c.prepared.ensures c.in_ok-prepared.was in
    search rules

pub returns : goal.returns
returns c =
    let view = (goal.at.returns c).In_ok-view in
    let before = commit_place view in
    let h = head view in
    let commit = read_ok (commit_at (stations_of c.args.ring)) before.0 before.1 c.commit.ensures c.in_ok-commit.was in
    let prepared = read_ok (prepared_at (stations_of c.args.ring)) (c.commit.ensures.same ∙ before.0) refl c.prepared.ensures c.in_ok-prepared.was in
    let seal = value_ok (number_at 8) (c.prepared.ensures.same ∙ c.commit.ensures.same ∙ before.0) refl c.u64.ensures c.in_ok-seal.was in
    let all : state_at (stations_of c.args.ring) c.args.self.now.bytes.now c.args.self.now.at ≡ Ok (record { sender = c.in_ok-sender.sender; view = c.in_ok-view.view; commit = c.in_ok-commit.commit; prepared = c.in_ok-prepared.prepared; seal = c.in_ok-seal.seal }, c.prepared.new.self.at + 8) =
    then_on _ h.0 (check_on c.args.self.now.at (eq-eqb c.in_ok-u16.field-0 _ c.if-branch-ne-VS.false) (then_on _ h.1 (then_on _ h.2 (then_on _ commit (then_on _ prepared (then_on _ seal refl)))))) in
    search rules
