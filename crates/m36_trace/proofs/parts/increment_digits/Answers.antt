-- A nine becomes a zero; any other digit is increased by 1.
use Rattle.std.proofs.Common.{◌≡◌, ◌+◌, ◌-◌, ◌<◌, List, ℕ, take, get_or, sym, subst, ◌∙◌, arith}
use Rattle.std.proofs.lemmas.List.{get_or-take}
use Rattle.std.proofs.Math.Seq.{take-set-lt}
use Rattle.m36_trace.proofs.Numbers.{Carries, carry_more, carry_end}
use Rattle.m36_trace.proofs.parts.increment_digits.Goals as goal

pub nines-preserved : goal.nines-preserved
nines-preserved c =
    let s = c.nines in
    let size = c.args.last + 2 in
    let within : s.place < c.args.last + 2 = omega arith in
    record {
      within = omega arith;
      carries =
          subst (λ (l : List ℕ). Carries l (s.place - 1) c.args._n) (sym (take-set-lt size s.bytes s.place 48 within))
          (carry_more (take size s.bytes) s.place c.args._n s.invariant.carries c.nines-test.true (get_or-take size s.bytes s.place 0 within ∙ c.if-bytes-place-eq57.true));
    }

pub returns : goal.returns
returns c =
    let s = c.nines in
    let size = c.args.last + 2 in
    let within : s.place < c.args.last + 2 = omega arith in
    take-set-lt size s.bytes s.place (get_or s.bytes s.place 0 + 1) within
    ∙ carry_end (take size s.bytes) s.place c.args._n (get_or s.bytes s.place 0) s.invariant.carries (sym (get_or-take size s.bytes s.place 0 within)) c.if-bytes-place-ge57.false
