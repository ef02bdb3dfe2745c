-- From bytes up: the tokens, the pieces and terms of an operand, the names of registers and
-- modifiers, the numbers of words, and lists. `Heads` divides a line into labels, operation and
-- operand, and `Rows` divides a text into lines.
pub mod Bytes
pub mod Tokens
pub mod Pieces
pub mod Expressions
pub mod Modifiers
pub mod Numerals
pub mod Lists
pub mod Heads
pub mod Rows
