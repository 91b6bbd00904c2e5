-- The view states stand behind their count, one after another, as the closure reads each.
use Rattle.std.proofs.Common.{◌≡◌, ◌∙◌, subst, arith, rules}
use Rattle.quorum.specs.Rings.{stations_of}
use Rattle.records.specs.Blanks.{blank_state}
use Rattle.records.specs.Reading.{state_at, members_at}
use Rattle.reader.specs.Cursor.{list_of, with_place}
use Rattle.reader.proofs.Cursors.{value_on}
use Rattle.reader.proofs.cursor.Cursor.new_view.Goals.{After-several}
use Rattle.reader.proofs.cursor.Cursor.new_view.Goals as goal

states_read : (c : After-several) → c.args.self.now.at ≡ 2 → (c.several.new.self.bytes ≡ c.args.self.now.bytes) × (with_place c.several.result c.several.new.self.at ≡ members_at (stations_of c.args.ring) c.args.self.now.bytes.now 8 c.in_ok-count.count)
states_read c e =
    let at : c.u8-2.new.self.at ≡ 8 = omega (arith, e, c.in_ok-sender.ensures.moved, c.in_ok-view.ensures.moved, c.in_ok-count.ensures.moved) in
    let same : c.u8-2.new.self.bytes ≡ c.args.self.now.bytes = c.u8-2.ensures.same ∙ c.view.ensures.same ∙ c.u8.ensures.same in
    let read = c.several.ensures (state_at (stations_of c.args.ring)) (λ p q r h. search rules) in (
      read.same ∙ same,
      subst (λ k. with_place c.several.result c.several.new.self.at ≡ members_at (stations_of c.args.ring) c.args.self.now.bytes.now 8 k) c.from.ensures
          (value_on (list_of blank_state 7 (state_at (stations_of c.args.ring)) c.from.result) same at read),
    )

pub returns-in_err-states : goal.returns-in_err-states
returns-in_err-states c e = let s = states_read (goal.at.returns-in_err-states c).After-several e in search rules

pub returns-in_err-seal : goal.returns-in_err-seal
returns-in_err-seal c e = let s = states_read (goal.at.returns-in_err-seal c).After-several e in search rules

pub returns : goal.returns
returns c e = let s = states_read (goal.at.returns c).After-several e in search rules
