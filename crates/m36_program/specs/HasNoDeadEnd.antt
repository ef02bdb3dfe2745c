-- Programs without a dead end: at each choice it is impossible that no value has the property.
use Rattle.std.specs.Prelude.{ℕ, ⊤, List}
use Rattle.m36_program.specs.Program.{Found, May, Program}
use Rattle.m36_program.specs.Program.{done, stops, reads, writes, puts, takes, some, wants}

-- It is impossible that no value has the property `Is`, and `holds` is true of each that has it.
pub record HasValue {B : Type 0} (Is holds : B → Type 0) : Type 0 where
  pub value : ¬ ((b : B) → ¬ Is b)
  pub each : (b : B) → Is b → holds b

-- Each choice that the program can reach has a value.
unfoldable pub HasNoDeadEnd : {may : May} {A : Type 0} → Program may A → Type 0
HasNoDeadEnd (done a) = ⊤
HasNoDeadEnd (stops status own) = ⊤
HasNoDeadEnd (reads name go) = (found : Found) → HasNoDeadEnd (go found)
HasNoDeadEnd (writes allowed name content rest) = HasNoDeadEnd rest
HasNoDeadEnd (puts piece rest) = HasNoDeadEnd rest
HasNoDeadEnd (takes allowed go) = (piece : List ℕ) → HasNoDeadEnd (go piece)
HasNoDeadEnd (some Is go) = HasValue Is (λ b. HasNoDeadEnd (go b))
HasNoDeadEnd (wants rest) = HasNoDeadEnd rest
