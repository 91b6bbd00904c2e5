-- The two letters that each record begins with, as the number that they write.
use Rattle.std.specs.Prelude.{ℕ, cond, Some, None, Option, ◌==◌}
use Rattle.records.specs.declared.marks.Mark.{Mark}
use Rattle.records.specs.declared.marks.Mark.TheVariants.{Request, Propose, Prepare, CheckCommit, Inform, Failure, ViewState, NewView}

-- RQ, PP, PE, CC, IN, FA, VS, NV
abbrev pub letters : Mark → ℕ
letters Request = 0x5251
letters Propose = 0x5050
letters Prepare = 0x5045
letters CheckCommit = 0x4343
letters Inform = 0x494e
letters Failure = 0x4641
letters ViewState = 0x5653
letters NewView = 0x4e56

-- the mark that two letters make, if they make one
abbrev pub mark_of : ℕ → Option Mark
mark_of n =
    cond (n == 0x5251) (Some Request)
    (cond (n == 0x5050) (Some Propose)
    (cond (n == 0x5045) (Some Prepare)
    (cond (n == 0x4343) (Some CheckCommit)
    (cond (n == 0x494e) (Some Inform)
    (cond (n == 0x4641) (Some Failure)
    (cond (n == 0x5653) (Some ViewState)
    (cond (n == 0x4e56) (Some NewView) None)))))))
