-- Which requests are the same, and which informs are alike.
use Rattle.std.specs.Prelude.{Bool, ◌&&◌, ◌==◌}
use Rattle.std.specs.Str.{bytes_eq}
use Rattle.records.specs.declared.request.Request.{Request}
use Rattle.records.specs.declared.arrivals.Inform.{Inform}

-- two requests are the same in every byte
abbrev pub same_request : Request → Request → Bool
same_request a b =
    (a.client == b.client)
    && (a.sequence == b.sequence && (a.seal == b.seal && bytes_eq a.payload.bytes b.payload.bytes))

-- informs are alike in view, round, result and request, whoever sent them
abbrev pub alike : Inform → Inform → Bool
alike a b =
    (a.proposal.view == b.proposal.view)
    && (a.proposal.round == b.proposal.round
    && (a.result == b.result && same_request a.proposal.request b.proposal.request))
