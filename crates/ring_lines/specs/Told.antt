-- What a line tells of a ring.
use Rattle.std.specs.Prelude.{◌≡◌, ◌≢◌, ℕ, List, ◌++◌, codes, Ok, []}
use Rattle.std.specs.Str.Parse.{ParsesUnsigned}
use Rattle.std.specs.Fmt.{decimal}
use Rattle.ring_lines.specs.Lines.{IsKeyLine, IsNoKeyLine}
use Rattle.ring_lines.specs.declared.RingLine.{RingLine}
use Rattle.ring_lines.specs.declared.RingLine.TheVariants.{Stations, Key}
use Rattle.ring_lines.specs.declared.NoRingLine.{NoRingLine}
use Rattle.ring_lines.specs.declared.NoRingLine.TheVariants.{NoStations, NoKey, Other}

-- the text is a number of stations
abbrev pub IsStations : List ℕ → ℕ → Type 0
IsStations text n = ParsesUnsigned {E = ℕ} 64 10 text (Ok n)

abbrev pub Tells : List ℕ → RingLine → Type 0
Tells line (Stations n) = (text : List ℕ) × (line ≡ codes "ring " ++ text) × IsStations text n
Tells line (Key s) = (text : List ℕ) × (line ≡ codes "key " ++ text) × IsKeyLine text s.number s.key.0

abbrev pub TellsNone : List ℕ → NoRingLine → Type 0
TellsNone line (NoStations text) = (line ≡ codes "ring " ++ text.now) × ((n : ℕ) → IsStations text.now n → ⊥)
TellsNone line (NoKey text) = (line ≡ codes "key " ++ text.now) × IsNoKeyLine text.now
TellsNone line Other = (text : List ℕ) → (line ≢ codes "ring " ++ text) × (line ≢ codes "key " ++ text)

-- what a program answers to a line
abbrev pub answer_to : RingLine → List ℕ
answer_to (Stations n) = codes "ring of " ++ decimal n
answer_to (Key s) = codes "key of " ++ decimal s.number

abbrev pub answer_to_none : NoRingLine → List ℕ
answer_to_none (NoStations text) = codes "no number of stations: " ++ text.now
answer_to_none (NoKey text) = codes "no key: " ++ text.now
answer_to_none Other = []
