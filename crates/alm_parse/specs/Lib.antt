-- Read first: `Sources`, where `source_of_text` is the lines of a text or its first refusal, and
-- `Lines`, which defines one line by its head, its operation and its operand. The other modules
-- define the tokens and the forms of operands from bytes up. `Deeds` has the effects of operations,
-- and `Spans` the properties of each line that was parsed.
pub mod Refusals
pub mod Bodies
pub mod Operands
pub mod Members
pub mod Pairs
pub mod Characters
pub mod Operations
pub mod Deeds
pub mod Lines
pub mod Spans
pub mod SourceFields
pub mod Sources
