-- The places of the words of components in the bound object.
--
-- The texts follow one another, each from the next even word on, and so do the static words. The
-- links follow in the order of the components. A place of a component denotes a word of its text,
-- one of its static words, a word of its links, or a word of the head of its linkage section. The
-- layout maps each of these to a place of the bound object.
use Rattle.std.specs.Prelude.{ℕ, ◌≡◌, ◌+◌, ◌-◌, ◌%◌, ◌^◌, ◌<◌, nat_lt, if◌then◌else◌, length}
use Rattle.obj36_parts.specs.PartsFields.{PartsFields}
use Rattle.obj36_parts.specs.ObjectSegment.{is_newer, rounded_up_to_even, head_words, first_link_at}
use Rattle.obj36_parts.specs.ObjectSegment.{first_link_in_version, linkage_length, link_offset}
use Rattle.obj36_parts.specs.ObjectSegment.{first_link as first_link_of}
use Rattle.obj36_parts.specs.declared.section.Section.{Section}
use Rattle.obj36_parts.specs.declared.section.Section.TheVariants.{Text, Linkage, Symbol, Static}
use Rattle.m36_relocate.specs.Fields.{ShapeFields, BasesFields}
use Rattle.m36_relocate.specs.declared.layout.Denoted.{Denoted}
use Rattle.m36_relocate.specs.declared.layout.Denoted.TheVariants.{TextWord, StaticWord, LinkWord}
use Rattle.m36_relocate.specs.declared.layout.Denoted.TheVariants.{HeadWord}
use Rattle.m36_relocate.specs.declared.layout.BoundPlace.{BoundPlace}
use Rattle.m36_relocate.specs.declared.layout.Relocation.{Relocation}

-- the version of an object, and the numbers of its static words and links
abbrev pub shape_of : PartsFields → ShapeFields
shape_of p = record { newer = is_newer p; statics = length p.statics; links = length p.links }

-- ---- the words that places of an object denote

-- what an offset of the linkage section past its head denotes in version 1, where the static words
-- are before the links
abbrev pub denoted_in_version_1 : ℕ → ℕ → Denoted
denoted_in_version_1 statics v =
    if nat_lt v (first_link_at statics)
    then StaticWord (v - head_words) else LinkWord (v - first_link_at statics)

-- the offset from the head of the linkage section at which static words are placed after the links
abbrev pub statics_after_links : ℕ → ℕ
statics_after_links links = linkage_length 0 links

-- What an offset of the linkage section past its head denotes in version 2: a word of a link, or
-- past the links a static word. There the static words have a section of their own, which is placed
-- after the linkage section.
abbrev pub denoted_in_version_2 : ℕ → ℕ → Denoted
denoted_in_version_2 links v =
    if nat_lt v (statics_after_links links)
    then LinkWord (v - head_words) else StaticWord (v - statics_after_links links)

-- what an offset of the linkage section past its head denotes
abbrev pub denoted_past_head : ShapeFields → ℕ → Denoted
denoted_past_head s v =
    if s.newer then denoted_in_version_2 s.links v else denoted_in_version_1 s.statics v

-- what an offset of the linkage section denotes
abbrev pub denoted_in_linkage : ShapeFields → ℕ → Denoted
denoted_in_linkage s v = if nat_lt v head_words then HeadWord v else denoted_past_head s v

-- the word at an offset in a section; nothing refers to the symbol section
unfoldable pub denoted : ShapeFields → Section → ℕ → Denoted
denoted s Text v = TextWord v
denoted s Linkage v = denoted_in_linkage s v
denoted s Static v = StaticWord v
denoted s Symbol v = HeadWord v

-- the number of the word is below n
abbrev pub IsBelow : ℕ → Denoted → Type 0
IsBelow n (TextWord v) = v < n
IsBelow n (StaticWord v) = v < n
IsBelow n (LinkWord v) = v < n
IsBelow n (HeadWord v) = v < n

-- ---- where the words of a component begin

-- the first component begins at word 0 of each section
abbrev pub first_bases : BasesFields
first_bases = record { text = 0; statics = 0; links = 0 }

-- where the words of the next component begin
abbrev pub next_bases : BasesFields → PartsFields → BasesFields
next_bases b c =
    record {
      text = rounded_up_to_even (b.text + length c.text);
      statics = rounded_up_to_even (b.statics + length c.statics);
      links = b.links + length c.links;
    }

-- ---- the layout

-- the offset of the first link of an object of this shape
abbrev pub first_link : ShapeFields → ℕ
first_link f = first_link_in_version f.newer f.statics

-- the offset of the first static word of an object of this shape, from the head of the linkage
-- section; in version 2 it is after the links
abbrev pub first_static : ShapeFields → ℕ
first_static f = if f.newer then statics_after_links f.links else head_words

-- a place of a section, with the offset modulo 2^18
abbrev pub section_place : Section → ℕ → BoundPlace
section_place section offset = record { section = section; offset = offset % 2 ^ 18 }

-- the place of a word of the text of a component
abbrev pub text_word_place : BasesFields → ℕ → BoundPlace
text_word_place b v = section_place Text (b.text + v)

-- the place of a static word of the bound object
abbrev pub static_word_place : ShapeFields → ℕ → BoundPlace
static_word_place f w =
    if f.newer then section_place Static w else section_place Linkage (head_words + w)

-- the place in the bound object of a word of a component
abbrev pub bound_place_of : ShapeFields → BasesFields → Denoted → BoundPlace
bound_place_of f b (TextWord v) = text_word_place b v
bound_place_of f b (StaticWord w) = static_word_place f (b.statics + w)
bound_place_of f b (LinkWord k) = section_place Linkage (link_offset (first_link f) b.links + k)
bound_place_of f b (HeadWord v) = section_place Linkage v

-- the place in the bound object of a place of a component
unfoldable pub relocated_place : Relocation → Section → ℕ → BoundPlace
relocated_place m section v = bound_place_of m.frame m.bases (denoted m.shape section v)

-- The number of a static word in a relocated part. It is counted from the head of the linkage
-- section, unless the part is an offset in the static section.
abbrev pub static_number : ShapeFields → Section → ℕ → ℕ
static_number f Static w = w
static_number f Text w = first_static f + w
static_number f Linkage w = first_static f + w
static_number f Symbol w = first_static f + w

-- the number by which a relocated part with this target refers to a word of a component in the
-- bound object
abbrev pub bound_number_of : ShapeFields → BasesFields → Section → Denoted → ℕ
bound_number_of f b target (TextWord v) = b.text + v
bound_number_of f b target (StaticWord w) = static_number f target (b.statics + w)
bound_number_of f b target (LinkWord k) = link_offset (first_link f) b.links + k
bound_number_of f b target (HeadWord v) = v

-- the number for the bound object of a number in a relocated part
unfoldable pub relocated_number : Relocation → Section → ℕ → ℕ
relocated_number m target v = bound_number_of m.frame m.bases target (denoted m.shape target v)

-- The first link of an object has the same offset by its shape as by its parts.
abbrev pub FirstLinkAgrees : Type 0
FirstLinkAgrees = (p : PartsFields) → first_link (shape_of p) ≡ first_link_of p

-- Link i of a component is relocated to link i after the links of the components before it.
abbrev pub LinksAreRelocated : Type 0
LinksAreRelocated =
    (m : Relocation) (i : ℕ) → i < m.shape.links
    → relocated_number m Linkage (link_offset (first_link m.shape) i)
    ≡ link_offset (first_link m.frame) (m.bases.links + i)
