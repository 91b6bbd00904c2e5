-- After i values the list holds what the closure read, with blanks behind it, and the cursor stands behind it.
use Rattle.std.proofs.Common.{◌≡◌, ℕ, List, Result}
use Rattle.quorum.specs.declared.refusal.Fault.{Fault}
use Rattle.records.proofs.Several.{Gathered}
use Rattle.reader.specs.Cursor.{AlwaysReadsOn}
use Rattle.reader.proofs.cursor.Cursor.several.Given as goal

abbrev pub invariant-loop-i : goal.invariant-loop-i
invariant-loop-i g l = (item : List ℕ → ℕ → Result (g.row.T.Denot × ℕ) Fault) → AlwaysReadsOn (goal.F-post g l.read) item
    → (l.self.bytes ≡ l.fn.self.bytes)
    × Gathered (λ i. item l.fn.self.bytes.now) l.fn.blank g.row.N l.fn.self.at l._i l.values.items l.self.at
    × (l.values.len ≡ l._i)
