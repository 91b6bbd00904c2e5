-- The words that are gathered and those of the informs to come are the words of the row.
use Rattle.std.proofs.Common.{length, ap, ◌∙◌, arith, rules}
use Rattle.std.proofs.lemmas.Iterator.{YieldsList-from_slice}
use Rattle.std.proofs.lemmas.Iterator.Adapters.{YieldsList-from_flatten}
use Rattle.records.specs.Lists.{listed}
use Rattle.informs.proofs.Pushed.{room_left, pushed_behind}
use Rattle.informs.proofs.Rows.{option_yields, all_come, come_end, come_room, come_next}
use Rattle.informs.proofs.agreed.gathered.Goals as goal

pub loop-inform-init : goal.loop-inform-init
loop-inform-init c = record {
  come =
      all_come _ _ c.args.heard.now _ (ap listed c.new-words.ensures)
      (YieldsList-from_flatten _ _ _ _ (λ x j b. option_yields x.now b.0 b.1) (YieldsList-from_slice c.args.heard.now (search rules)) (search rules) (search rules) (search rules));
  long = ap (λ words. length words.items) c.new-words.ensures;
  few = omega (arith, ap (λ words. words.len) c.new-words.ensures);
}

pub loop-inform-preserved : goal.loop-inform-preserved
loop-inform-preserved c =
    let before = c.loop-inform.invariant in
    let few = come_room _ _ _ _ _ c.in-Some.inform c.in-Some.ensures.steps before.come in
    let room = room_left c.loop-inform.words before.long before.few (omega arith) in
    let p = pushed_behind c.loop-inform.words c.push.new.self _ before.long room c.push.ensures in
    record {
      come = come_next _ _ _ _ _ c.in-Some.inform c.in-Some.ensures.steps _ p.values before.come;
      long = p.long ∙ before.long;
      few = omega (arith, p.len, room);
    }

pub returns : goal.returns
returns c = come_end _ _ _ _ _ c.loop-inform.invariant.come c.in-None.ensures.steps
