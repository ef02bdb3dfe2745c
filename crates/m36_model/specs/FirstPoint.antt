-- The first point of an address chain, which is that of the instruction.
-- Multics Processor Manual AL39, "Machine instruction format" and "Address appending", on bit 29
-- and pointer registers.
use Rattle.std.specs.Prelude.{◌+◌, ◌%◌, ◌^◌, max, Bool, true, false, None}
use Rattle.m36_inst.specs.Fields.{InstFields}
use Rattle.m36_inst.specs.Instruction.{pr_number, pr_offset}
use Rattle.m36_model.specs.Registers.{RegsFields}
use Rattle.m36_model.specs.Modification.{Point, here, ptr}

-- Without bit 29, the first point is in the procedure segment and the procedure ring, at the
-- address of the instruction. With bit 29, the address is a pointer register number and a signed
-- offset: the point is in the segment of that register, at its word number plus the offset, with
-- its bit number, and in the greater of its ring and the procedure ring.
abbrev pub first_point_by : Bool → RegsFields → InstFields → Point
first_point_by false g i =
    record {
      seg = g.ppr.psr;
      ring = g.ppr.prr;
      y = i.y;
      bit = 0;
      tag = i.tag;
      held = None;
      carrier = here g;
    }
first_point_by true g i =
    let p = ptr g (pr_number i) in
    record {
      seg = p.seg;
      ring = max g.ppr.prr p.ring;
      y = (p.word + pr_offset i) % 2 ^ 18;
      bit = p.bit;
      tag = i.tag;
      held = None;
      carrier = record { seg = g.ppr.psr; word = g.ppr.ic; ring = max g.ppr.prr p.ring };
    }

-- the first point of the instruction i
unfoldable pub first_point : RegsFields → InstFields → Point
first_point g i = first_point_by i.by_pr g i
