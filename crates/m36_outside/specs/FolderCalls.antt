-- The log of the calls of a folder, with their answers.
use Rattle.std.specs.Prelude.{ℕ, List}
use Rattle.m36_outside.specs.declared.folder.ReadAnswer.{ReadAnswer}
use Rattle.m36_outside.specs.declared.folder.WriteAnswer.{WriteAnswer}

-- one read: the name and the answer
abbrev pub Asked : Type 0
Asked = List ℕ × ReadAnswer

-- one write: the name, the content and the answer
abbrev pub Wrote : Type 0
Wrote = List ℕ × List ℕ × WriteAnswer
