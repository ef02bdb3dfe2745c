-- There is room for the words of all lines.
use Rattle.std.proofs.Common.{◌≡◌, ℕ, ◌+◌, ◌-◌, ◌*◌, ◌^◌, ◌<◌, ◌≤◌, arith}
use Rattle.alm_lines.specs.Spots.{start, HasRoomForLines, IsOneLineFurther}
use Rattle.alm_lines.specs.SpotFields.{LocationCounter}

-- before the first line
begins : (lines : ℕ) → lines < 2 ^ 32 → 0 + lines * 2 ^ 64 ≤ 2 ^ 96 - 2 ^ 64
begins lines few = omega (arith, few)

pub room_start : (lines : ℕ) → lines < 2 ^ 32 → HasRoomForLines lines start
room_start lines few = let room = begins lines few in record { text = room; inner = room; outer = room }

-- before the lines that are left, for the first of them
next : (lines at : ℕ) → 0 < lines → at + lines * 2 ^ 64 ≤ 2 ^ 96 - 2 ^ 64 → at + 1 * 2 ^ 64 ≤ 2 ^ 96 - 2 ^ 64
next lines at some room = omega (arith, some, room)

pub room_next : (lines : ℕ) (spot : LocationCounter) → 0 < lines → HasRoomForLines lines spot → HasRoomForLines 1 spot
room_next lines spot some room =
    record {
      text = next lines spot.text some room.text;
      inner = next lines spot.inner some room.inner;
      outer = next lines spot.outer some room.outer;
    }

-- after it, for the others
next_line_spot : (lines more at after : ℕ) → lines ≡ more + 1 → at + lines * 2 ^ 64 ≤ 2 ^ 96 - 2 ^ 64 → after ≤ at + 2 ^ 64 → after + more * 2 ^ 64 ≤ 2 ^ 96 - 2 ^ 64
next_line_spot lines more at after e room near = omega (arith, e, room, near)

pub room_below : (lines more : ℕ) (spot after : LocationCounter) → lines ≡ more + 1 → HasRoomForLines lines spot → IsOneLineFurther spot after → HasRoomForLines more after
room_below lines more spot after e room near =
    record {
      text = next_line_spot lines more spot.text after.text e room.text near.text;
      inner = next_line_spot lines more spot.inner after.inner e room.inner near.inner;
      outer = next_line_spot lines more spot.outer after.outer e room.outer near.outer;
    }

pub ruleset rooms = (room_start, room_next, room_below)
