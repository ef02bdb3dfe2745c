-- The modules in the order in which they are built: integers and sums, symbols, arguments, the
-- places of lines, the sums of expressions, refusals of these, values; and `Layout`, the symbols
-- that lines define.
pub mod Sums
pub mod Symbols
pub mod Arguments
pub mod SpotFields
pub mod Spots
pub mod Expressions
pub mod Refusals
pub mod ValueFields
pub mod Values
pub mod Layout
