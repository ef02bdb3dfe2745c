-- Read `BareImage` first, which has the grammar, and `ImageState`, which has the state that an
-- image describes. The other modules say how the code reads it.
pub mod PlacedWords
pub mod Several
pub mod BareImage
pub mod ImageState
pub mod ImageResult
pub mod LineByLine
pub mod HeaderFields
