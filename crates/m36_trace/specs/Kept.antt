-- A trace line made of the kept parts and the other values of a step.
use Rattle.std.specs.Prelude.{ℕ, ◌≡◌, List, ◌++◌, ◌+◌, ◌-◌, Option, codes}
use Rattle.m36_text.specs.Digits.{decimal_text, word_text}
use Rattle.m36_text.specs.Lines.{as_line}
use Rattle.m36_model.specs.Fields.{FinalFields, PprFields}
use Rattle.m36_model.specs.Registers.{RegsFields}
use Rattle.m36_model.specs.declared.outcome.Outcome.{Outcome}
use Rattle.m36_model.specs.declared.outcome.Outcome.TheVariants.{Next}
use Rattle.m36_model.specs.declared.registers.Ind.{Ind}
use Rattle.m36_trace.specs.Spaced.{with_space, kept_place, kept_final, HasRingSegment}
use Rattle.m36_trace.specs.TraceLine.{instruction_text, indicators_text}
use Rattle.m36_trace.specs.declared.text.TraceText.{TraceText}

-- a line whose outcome is Next, from its number, the ring and segment number of the instruction
-- and of the address, A, Q, and the values that are not kept
unfoldable pub kept_line_of_values :
    ℕ → ℕ → ℕ → ℕ → ℕ → ℕ → ℕ → ℕ → Option ℕ → Option FinalFields → Ind
    → List ℕ
kept_line_of_values n ring seg address_ring address_seg a q ic word at ind =
    with_space (decimal_text n)
    ++ with_space (kept_place ring 32 seg ic)
    ++ with_space (instruction_text word)
    ++ with_space (kept_final address_ring address_seg at)
    ++ with_space (word_text a)
    ++ with_space (word_text q)
    ++ as_line (indicators_text ind ++ codes " next")

-- the line made of the kept parts and the other values of a step
abbrev pub kept_line : TraceText → PprFields → Option ℕ → Option FinalFields → RegsFields → List ℕ
kept_line text ppr word at after =
    kept_line_of_values (text.number.next - 1) text.place.ring text.place.seg
    text.address.ring text.address.seg text.a.of text.q.of ppr.ic word at after.ind

-- The kept parts are those of the line of step n, and its outcome is Next.
pub record CanBeUsed (text : TraceText) (n : ℕ) (ppr : PprFields) (at : Option FinalFields)
    (outcome : Outcome) (after : RegsFields) : Type 0 where
  pub number : text.number.next ≡ n + 1
  pub ring : text.place.ring ≡ ppr.prr
  pub seg : text.place.seg ≡ ppr.psr
  pub front : HasRingSegment text.address.ring text.address.seg at
  pub a : text.a.of ≡ after.a
  pub q : text.q.of ≡ after.q
  pub next : outcome ≡ Next
