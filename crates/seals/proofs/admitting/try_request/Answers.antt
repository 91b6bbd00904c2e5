-- What the seal of a request covers is short.
use Rattle.seals.proofs.Short.{request_short}
use Rattle.seals.proofs.admitting.try_request.Goals as goal

pub try_seal-requires : goal.try_seal-requires
try_seal-requires g c = request_short c.args.request.now c.requires
