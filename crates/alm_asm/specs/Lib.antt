-- Read first: `Assembles`, the relation of lines and their object, by what is where in it; and
-- `Assembly`, where `assembled` is this object or the first refusal. What they use is below: sums
-- and symbols (of `alm_lines`), then each part of the object, then the refusals of lines and of
-- lengths. `Laws` has what follows for all sources.
pub use Rattle.alm_lines.specs.Sums
pub use Rattle.alm_lines.specs.Symbols
pub use Rattle.alm_lines.specs.Arguments
pub use Rattle.alm_lines.specs.Spots
pub use Rattle.alm_lines.specs.Expressions
pub use Rattle.alm_lines.specs.Refusals
pub use Rattle.alm_lines.specs.Layout
pub mod Links
pub mod LineValues
pub mod Words
pub mod Relocations
pub mod Definitions
pub mod LineRefusals
pub mod Growth
pub mod Parts
pub mod Assembly
pub mod Laws
pub mod Assembles
