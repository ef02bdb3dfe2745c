-- A step as a program: what it asks of the store, and what it does with each answer. A program
-- depends only on the registers; nothing here refers to core.
use Rattle.std.specs.Prelude.{ℕ, List, Result, Ok, Err}
use Rattle.m36_desc.specs.Fields.{SdwFields}
use Rattle.m36_model.specs.Fields.{AtFields}
use Rattle.m36_model.specs.declared.outcome.Fault.{Fault}
use Rattle.m36_model.specs.declared.outcome.Halt.{Halt}
use Rattle.m36_model.specs.declared.outcome.Halt.TheVariants as halt

-- the purpose of a request
pub data RequestKind : Type 0 where
  Fetch : RequestKind
  Indirect : RequestKind
  -- the second word of an indirect pair
  Odd : RequestKind
  Read : RequestKind
  Write : RequestKind
  -- the target of a transfer
  Transfer : RequestKind
  -- the target of CALL6
  Call : RequestKind
  -- the core address of a word, for ABSA
  Locate : RequestKind

-- the part of a word that is written; the other part is kept
pub data Part : Type 0 where
  Whole : Part
  Left : Part
  Right : Part

-- A value for a word that this step has claimed under a number, or for a half of that word. A half
-- is right-justified in the value.
pub record Put : Type 0 where
  pub claim : ℕ
  pub part : Part
  pub value : ℕ

-- a reference to `count` words that begin at a place
pub record Request : Type 0 where
  pub kind : RequestKind
  pub at : AtFields
  pub count : ℕ
  pub pending : List Put  -- writes of this step that the words read must show

-- The answer to a request: the descriptor of the segment and, if the request reads, the words.
pub record Answer : Type 0 where
  pub sdw : SdwFields
  pub words : List ℕ
  pub first : ℕ  -- for a Write, the number of its first claim
  pub place : ℕ  -- for a Locate, the core address

-- a program with a result in A: it is done, or makes a request and continues with the reply
pub data Act (A : Type 0) : Type 0 where
  done : A → Act A
  ask : Request → (Result Answer Fault → Act A) → Act A

-- runs one program, and then another with its result
unfoldable pub and_then : {A B : Type 0} → Act A → (A → Act B) → Act B
and_then (done a) k = k a
and_then (ask q next) k = ask q (λ reply. and_then (next reply) k)

-- a refused reference ends the program; otherwise it continues with the answer
abbrev pub answered :
    {A : Type 0} → (Answer → Act (Result A Halt)) → Result Answer Fault → Act (Result A Halt)
answered k (Ok a) = k a
answered k (Err f) = done (Err (halt.Fault f))

-- makes a reference, and continues with the answer unless it is refused
abbrev pub refer : {A : Type 0} → Request → (Answer → Act (Result A Halt)) → Act (Result A Halt)
refer q k = ask q (answered k)

-- continues with a value, or with the halt
abbrev pub either : {A B : Type 0} → (A → Act B) → (Halt → Act B) → Result A Halt → Act B
either k halted (Ok a) = k a
either k halted (Err h) = halted h

-- runs a program and continues with its value, or with the halt that ended it
abbrev pub otherwise : {A B : Type 0} → Act (Result A Halt) → (A → Act B) → (Halt → Act B) → Act B
otherwise m k halted = and_then m (either k halted)
