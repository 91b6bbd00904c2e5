-- What a box of secrets means: a signer's genuine tag of a statement is the one that the signer's secret gives it.
use Rattle.std.specs.Prelude.{ℕ, Bool, false, List, Some, None, Ok, Err, Option, Result, ◌==◌}
use Rattle.quorum.specs.declared.refusal.Fault.{Fault}
use Rattle.signers.specs.declared.table.Table.{Table}
use Rattle.signers.specs.declared.secret_box.SecretBox.{SecretBox}
use Rattle.signers.specs.Signing.{own_of, table_of}

-- the number that a box seals under
abbrev pub own_number : {S : Type 0} → SecretBox S → ℕ
own_number box = own_of box.signers

-- the table of a box's secrets
abbrev pub secrets_of : {S : Type 0} → SecretBox S → Table S
secrets_of box = table_of box.signers

-- a box by its own number and its secrets
abbrev pub box_seen : {S : Type 0} → Result (SecretBox S) Fault → Result (ℕ × Table S) Fault
box_seen (Ok box) = Ok (own_number box, secrets_of box)
box_seen (Err e) = Err e

-- the tag of a statement under a secret, by the tag that each secret gives (a box always has its own)
abbrev pub tag_under : {S : Type 0} → (S → List ℕ → ℕ) → Option S → List ℕ → ℕ
tag_under tag None statement = 0
tag_under tag (Some secret) statement = tag secret statement

-- is it the tag of the statement under the secret? Without a secret nothing is
abbrev pub genuine_under : {S : Type 0} → (S → List ℕ → ℕ) → Option S → List ℕ → ℕ → Bool
genuine_under tag None statement seal = false
genuine_under tag (Some secret) statement seal = seal == tag secret statement
