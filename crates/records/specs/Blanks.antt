-- What fills the places of a short list that hold no value yet.
use Rattle.std.specs.Prelude.{replicate, None}
use Rattle.records.specs.Lists.{bare}
use Rattle.records.specs.declared.request.Proposal.{Proposal}
use Rattle.records.specs.declared.certificate.Certificate.{Certificate}
use Rattle.records.specs.declared.arrivals.ViewState.{ViewState}

abbrev pub blank_proposal : Proposal
blank_proposal = record {
  view = 0;
  round = 0;
  request = record { client = 0; sequence = 0; payload = record { bytes = replicate 16 0 }; seal = 0 };
}

abbrev pub blank_certificate : Certificate
blank_certificate = record { proposal = blank_proposal; seals = replicate 10 None }

abbrev pub blank_state : ViewState
blank_state = record { sender = 0; view = 0; commit = None; prepared = bare blank_certificate 8; seal = 0 }
