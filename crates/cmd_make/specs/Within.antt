-- A program that writes no file and takes no input, as a program of a type that may. It has the
-- same steps.
use Rattle.std.specs.Prelude.{Bool, true, false}
use Rattle.std.proofs.Common.{subst}
use Rattle.m36_program.specs.Program.{May, quiet, Program}
use Rattle.m36_program.specs.Program.{done, stops, reads, writes, puts, takes, some, wants}

-- The Boolean is false. With this, a proof that a quiet program may write or take input is absurd.
abbrev IsFalse : Bool → Type 0
IsFalse true = ⊥
IsFalse false = Unit {0}

-- a quiet program with a type that may also write files or take input; it has the same steps
unfoldable pub widen : {may : May} {A : Type 0} → Program quiet A → Program may A
widen (done a) = done a
widen (stops status own) = stops status own
widen (reads name go) = reads name (λ found. widen (go found))
widen (writes allowed name content rest) = absurd (subst IsFalse allowed tt)
widen (puts piece rest) = puts piece (widen rest)
widen (takes allowed go) = absurd (subst IsFalse allowed tt)
widen (some Is go) = some Is (λ b. widen (go b))
widen (wants rest) = wants (widen rest)
