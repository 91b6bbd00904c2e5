-- A borrowed statement as the statement that it is.
use Rattle.std.specs.Prelude.{ℕ}
use Rattle.records.specs.Lists.{listed}
use Rattle.records.specs.Statements.{Statement, asks, proposes, prepares, checks, informs, alerts, leaves, begins}
use Rattle.records.specs.declared.request.Proposal.{Proposal}
use Rattle.records.specs.declared.statement.Said.{Said}
use Rattle.records.specs.declared.statement.Said.TheVariants as said
use Rattle.records.specs.declared.statement.Support.{Support}
use Rattle.records.specs.declared.statement.Support.TheVariants as support

abbrev pub meaning_of : Said → Statement
meaning_of (said.Asks r) = asks r.now.client r.now.sequence r.now.payload.bytes
meaning_of (said.Proposes i p) = proposes i p.now
meaning_of (said.Prepares i p) = prepares i p.now
meaning_of (said.Checks i p) = checks i p.now
meaning_of (said.Informs i) = informs i.now.sender i.now.proposal i.now.result
meaning_of (said.Alerts f) = alerts f.now.sender f.now.view
meaning_of (said.Leaves s) = leaves s.now.sender s.now.view s.now.commit (listed s.now.prepared)
meaning_of (said.Begins v) = begins v.now.sender v.now.view (listed v.now.states)

-- what a station's seal in a certificate says
abbrev pub says : Support → ℕ → Proposal → Statement
says support.Prepared = prepares
says support.Committed = checks
