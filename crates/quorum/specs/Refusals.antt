-- What a refusal means: its number, its layer and its place.
use Rattle.std.specs.Prelude.{ℕ}
use Rattle.quorum.specs.declared.refusal.Fault.{Fault}
use Rattle.quorum.specs.declared.refusal.Fault.TheVariants.{NoRoom, Unreadable, WrongSender, BrokenChain, NotGenuine, NotNow, OutOfRange, AgainstLedger, Conflict, TooEarly}
use Rattle.quorum.specs.declared.refusal.Layer.{Layer}
use Rattle.quorum.specs.declared.refusal.Layer.TheVariants.{Record, Seal, Call}

-- the number by which a refusal is known; checks run by rising number
abbrev pub number_of : Fault → ℕ
number_of NoRoom = 1
number_of (Unreadable at) = 2
number_of (WrongSender at) = 3
number_of (BrokenChain at) = 4
number_of (NotGenuine at) = 5
number_of (NotNow at) = 6
number_of (OutOfRange at) = 7
number_of (AgainstLedger at) = 8
number_of (Conflict at) = 9
number_of TooEarly = 10

-- what found the fault: the reading of the record, the trying of who sent it, or the call itself
abbrev pub layer_of : Fault → Layer
layer_of NoRoom = Call
layer_of (Unreadable at) = Record
layer_of (WrongSender at) = Seal
layer_of (BrokenChain at) = Record
layer_of (NotGenuine at) = Seal
layer_of (NotNow at) = Call
layer_of (OutOfRange at) = Call
layer_of (AgainstLedger at) = Call
layer_of (Conflict at) = Call
layer_of TooEarly = Call

-- the first byte of the field at fault, 0 where there is no such field
abbrev pub place_of : Fault → ℕ
place_of NoRoom = 0
place_of (Unreadable at) = at
place_of (WrongSender at) = at
place_of (BrokenChain at) = at
place_of (NotGenuine at) = at
place_of (NotNow at) = at
place_of (OutOfRange at) = at
place_of (AgainstLedger at) = at
place_of (Conflict at) = at
place_of TooEarly = 0
