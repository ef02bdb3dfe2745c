-- Two states that look the same from a ring.
use Rattle.std.specs.Prelude.{◌≡◌, ℕ}
use Rattle.m36_model.specs.Store.{Store, State}
use Rattle.m36_model.specs.Sight.{InSight, content, tables_of}

-- The registers are equal, the tables are equal except for marks, and every segment that ring r can
-- see has equal content.
pub record Agree {S : Type 0} (o : Store S) (r : ℕ) (a b : State S) : Type 0 where
  pub regs : a.regs ≡ b.regs
  pub tables : tables_of o a ≡ tables_of o b
  pub contents : (seg w : ℕ) → InSight o a r seg → content o a seg w ≡ content o b seg w
