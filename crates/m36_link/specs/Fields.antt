-- The models of what link services have made known, and of their answers.
use Rattle.std.specs.Prelude.{ℕ, List, Option}
use Rattle.m36_word.specs.declared.pair.Pair.{Pair}
use Rattle.obj36_parts.specs.Fields.{LinkFields}

-- a reference name in a ring
pub record RingNameFields : Type 0 where
  pub ring : ℕ
  pub name : List ℕ

-- A section in its place: the ring in whose linkage segment it is, the segment that it belongs to,
-- the word number of its first word there, and the number of its words.
pub record PlacedSectionFields : Type 0 where
  pub ring : ℕ
  pub seg : ℕ
  pub base : ℕ
  pub size : ℕ

-- The names that are initiated, each with its segment number, and the sections that are laid, each
-- in the order of the services.
pub record KnownFields : Type 0 where
  pub names : List (RingNameFields × ℕ)
  pub laid : List PlacedSectionFields

-- the target of a link: the pair, the number of the segment, and the section that has to be laid
pub record TargetFields : Type 0 where
  pub pair : Pair
  pub target : ℕ
  pub lay : Option PlacedSectionFields

-- a section that has to be laid: its place, and its words
pub record NewSectionFields : Type 0 where
  pub ring : ℕ
  pub seg : ℕ
  pub base : ℕ
  pub words : List ℕ

-- The answer to a link: the pair that replaces it, the ring of the link, the number of the target
-- segment, the link itself, and the section that is laid for it.
pub record SnapFields : Type 0 where
  pub pair : Pair
  pub ring : ℕ
  pub target : ℕ
  pub link : LinkFields
  pub lay : Option NewSectionFields
