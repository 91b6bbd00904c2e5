-- What informs say together. There is a row of places, one for each station's latest inform.
use Rattle.std.specs.Prelude.{ℕ, suc, max, Bool, true, cond, ◌&&◌, List, [], ◌∷◌, length, Some, None, Option, ◌==◌, nat_le, nat_lt}
use Rattle.quorum.specs.Figures.{quorum_of}
use Rattle.records.specs.declared.arrivals.Inform.{Inform}
use Rattle.informs.specs.Alike.{alike}
use Rattle.informs.specs.declared.alike.Told.{Told}
use Rattle.informs.specs.declared.agreed.Release.{Release}

-- the informs of a row, as words
abbrev pub told_by : Inform → Told
told_by i = record { inform = i }

abbrev pub told : List (Option Inform) → List Told
told [] = []
told (None ∷ heard) = told heard
told (Some i ∷ heard) = told_by i ∷ told heard

-- from place k on, each inform stands at its sender's place, and no place at n or above has one
abbrev pub placed_from : ℕ → ℕ → List (Option Inform) → Bool
placed_from n k [] = true
placed_from n k (None ∷ heard) = placed_from n (suc k) heard
placed_from n k (Some i ∷ heard) = i.sender == k && (nat_lt k n && placed_from n (suc k) heard)

abbrev pub placed : ℕ → List (Option Inform) → Bool
placed n heard = placed_from n 0 heard

-- the informs that are alike with one, by rising station
abbrev pub supporters : List (Option Inform) → Inform → List Inform
supporters [] w = []
supporters (None ∷ heard) w = supporters heard w
supporters (Some i ∷ heard) w = cond (alike i w) (i ∷ supporters heard w) (supporters heard w)

-- how many stations' informs are alike with one
abbrev pub backers : List (Option Inform) → Inform → ℕ
backers heard w = length (supporters heard w)

-- the first inform of a row that m stations' informs are alike with, of all
abbrev pub first_backed : ℕ → List (Option Inform) → List (Option Inform) → Option Inform
first_backed m all [] = None
first_backed m all (None ∷ heard) = first_backed m all heard
first_backed m all (Some i ∷ heard) = cond (nat_le m (backers all i)) (Some i) (first_backed m all heard)

-- what an inform says to a client
abbrev pub said_by : Inform → Release
said_by i = record { view = i.proposal.view; round = i.proposal.round; result = i.result }

abbrev pub released : Option Inform → Option Release
released None = None
released (Some i) = Some (said_by i)

-- what a quorum of n stations says alike
abbrev pub agreed_by : ℕ → List (Option Inform) → Option Release
agreed_by n heard = released (first_backed (quorum_of n) heard heard)

-- how many stations' informs are alike, at the most
abbrev pub most_from : List (Option Inform) → List (Option Inform) → ℕ
most_from all [] = 0
most_from all (None ∷ heard) = most_from all heard
most_from all (Some i ∷ heard) = max (backers all i) (most_from all heard)

abbrev pub most_alike : List (Option Inform) → ℕ
most_alike heard = most_from heard heard
