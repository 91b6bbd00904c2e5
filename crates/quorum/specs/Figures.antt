-- The figures of a ring of n replicas: how many may be faulty, how many make a quorum, who leads a view.
use Rattle.std.specs.Prelude.{ℕ, ◌-◌, ◌/◌, ◌%◌}

-- f, the number of faulty replicas that a ring of n survives
abbrev pub faults_of : ℕ → ℕ
faults_of n = (n - 1) / 3

-- q, the number of replicas that make a quorum
abbrev pub quorum_of : ℕ → ℕ
quorum_of n = n - faults_of n

-- the replica that leads a view
abbrev pub primary_of : ℕ → ℕ → ℕ
primary_of n view = view % n
