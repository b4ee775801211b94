-- Where an interval goes among the rows of a cell.
use Rattle.std.specs.Prelude.{◌+◌, cond, Option, None, Some}
use Rattle.journeys.specs.declared.Interval.{Interval}
use Rattle.journeys.specs.Cell.{Cell, has_inside}
use Rattle.cells.specs.Stored.{departure_end, arrival_end, front_below}
use Rattle.entering.specs.declared.places.Slot.{Slot}

-- The rows from the first that arrives at or after i to the last that departs at or before it; nothing where a row lies inside i.
unfoldable pub slot_of : Interval → Cell → Option Slot
slot_of i c = cond (has_inside i c) None (Some (record { lo = front_below arrival_end i.arrival c; hi = front_below departure_end (i.departure + 1) c }))
