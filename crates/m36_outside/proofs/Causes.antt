-- Answers that need no cause.
use Rattle.std.proofs.Common.{◌≡◌, ℕ, refl}
use Rattle.m36_outside.specs.ReadAnswer.{ReadHasCause, IsNoFault}
use Rattle.m36_outside.specs.declared.folder.ReadAnswer.{ReadAnswer}
use Rattle.m36_outside.specs.declared.folder.ReadAnswer.TheVariants.{Read, Absent, TooLarge, Failed, NoMemory}

-- A read that did not fail leaves the count unchanged.
pub read_without_fault : (answer : ReadAnswer) (count : ℕ) → (answer ≡ Failed → ⊥) → ReadHasCause answer count count
read_without_fault (Read bytes) count sure = refl
read_without_fault Absent count sure = refl
read_without_fault TooLarge count sure = refl
read_without_fault Failed count sure = absurd (sure refl)
read_without_fault NoMemory count sure = refl

pub sure_read : (answer : ReadAnswer) (count : ℕ) → IsNoFault answer → ReadHasCause answer count count
sure_read (Read bytes) count sure = refl
sure_read Absent count sure = refl
sure_read TooLarge count sure = refl
sure_read Failed count sure = absurd sure
sure_read NoMemory count sure = refl
