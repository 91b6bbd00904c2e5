-- How the store reads a payload of sixteen bytes: mark (1; 3 in, 4 out), part (1; 0 to 31), quantity (2; highest byte
-- first; 1 or more), twelve zero bytes. Any other payload is wrong.
use Rattle.std.specs.Prelude.{ℕ, ◌+◌, ◌*◌, Bool, cond, ◌&&◌, take, drop, Some, None, Option, ◌==◌, nat_lt, slice_index}
use Rattle.payload.specs.declared.payload.Payload.{Payload}
use Rattle.services.specs.Zeros.{all_zero}
use Rattle.spares_store.specs.declared.movement.Direction.{Direction}
use Rattle.spares_store.specs.declared.movement.Direction.TheVariants.{In, Out}
use Rattle.spares_store.specs.declared.movement.Movement.{Movement}

abbrev pub direction_of : ℕ → Option Direction
direction_of mark = cond (mark == 3) (Some In) (cond (mark == 4) (Some Out) None)

abbrev pub part_in : Payload → ℕ
part_in p = slice_index p.bytes 1

abbrev pub quantity_in : Payload → ℕ
quantity_in p = slice_index p.bytes 2 * 256 + slice_index p.bytes 3

-- part, quantity and the empty rest are as they should be
abbrev pub well_formed : Payload → Bool
well_formed p = nat_lt (part_in p) 32 && (nat_lt 0 (quantity_in p) && all_zero (take 12 (drop 4 p.bytes)))

abbrev pub moving : Payload → Option Direction → Option Movement
moving p None = None
moving p (Some d) = Some (record { direction = d; part = part_in p; quantity = quantity_in p })

abbrev pub movement_of : Payload → Option Movement
movement_of p = cond (well_formed p) (moving p (direction_of (slice_index p.bytes 0))) None
