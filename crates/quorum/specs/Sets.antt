-- Sets of stations, as tests of a station's number, how many stations a set has, and the law of quorums.
use Rattle.std.specs.Prelude.{◌≡◌, ℕ, zero, suc, ◌+◌, ◌<◌, ◌≤◌, Bool, true, false, cond}
use Rattle.quorum.specs.Figures.{faults_of, quorum_of}

-- how many of the stations 0 to n - 1 are in the set
abbrev pub count : (ℕ → Bool) → ℕ → ℕ
count members zero = 0
count members (suc n) = cond (members n) 1 0 + count members n

-- the set is a quorum of a ring of n
abbrev pub Quorum : ℕ → (ℕ → Bool) → Type 0
Quorum n members = quorum_of n ≤ count members n

-- a ring of n stands these bad stations: it has a station, and they are at most f
abbrev pub Stands : ℕ → (ℕ → Bool) → Type 0
Stands n bad = (0 < n) × (count bad n ≤ faults_of n)

-- any two quorums share a station that is not bad
abbrev pub QuorumsShare : Type 0
QuorumsShare =
    (n : ℕ) (bad one other : ℕ → Bool) → Stands n bad → Quorum n one → Quorum n other →
    (i : ℕ) × (i < n) × (bad i ≡ false) × (one i ≡ true) × (other i ≡ true)
