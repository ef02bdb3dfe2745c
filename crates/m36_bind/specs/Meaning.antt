-- The relation of the bound object and its components: what is where in it, and to what each
-- relocated part refers.
--
-- Relocated parts of words, links to places, and definitions refer in the bound object to the words
-- to which they referred in their component, if there are such words there. All else is unchanged,
-- and nothing else is there but the zero words before components that would begin at an odd word.
use Rattle.std.specs.Prelude.{ℕ, ◌≡◌, ◌+◌, ◌*◌, ◌%◌, ◌^◌, ◌<◌, ◌≤◌, ◌⊎◌, Bool}
use Rattle.std.specs.Prelude.{true, false, nat_lt, if◌then◌else◌, List, []}
use Rattle.std.specs.Prelude.{◌∷◌, length, slice_index, slice_get, Some, None, Ok}
use Rattle.std.specs.List.{Contains}
use Rattle.obj36_parts.specs.Fields.{DefFields, RelocFields, LinkFields}
use Rattle.obj36_parts.specs.PartsFields.{PartsFields}
use Rattle.obj36_parts.specs.Sections.{later_section}
use Rattle.obj36_parts.specs.ObjectSegment.{is_well_formed, definition_names}
use Rattle.obj36_parts.specs.ObjectSegment.{version_of, head_words, left_part}
use Rattle.obj36_parts.specs.ObjectSegment.{to_section, to_segment, to_entry, to_own_entry}
use Rattle.obj36_parts.specs.ObjectSegment.{right_part, offset_part, part_of}
use Rattle.obj36_parts.specs.declared.definition.Named.{Named}
use Rattle.m36_word.specs.Field.{field, offset_limit}
use Rattle.obj36_parts.specs.declared.section.Section.{Section}
use Rattle.m36_bindfile.specs.declared.line.BindLine.{BindLine}
use Rattle.m36_bindfile.specs.BindFile.{bind_lines, has_version_line, retained_names}
use Rattle.m36_relocate.specs.Fields.{BasesFields}
use Rattle.m36_relocate.specs.Layout.{shape_of, first_bases, next_bases, denoted, text_word_place}
use Rattle.m36_relocate.specs.declared.layout.Denoted.{Denoted}
use Rattle.m36_relocate.specs.declared.layout.Denoted.TheVariants.{TextWord, StaticWord, LinkWord}
use Rattle.m36_relocate.specs.declared.layout.Denoted.TheVariants.{HeadWord}
use Rattle.m36_relocate.specs.Words.{relocated_negative, is_relocation_in, word_index_of, words_in}
use Rattle.m36_relocate.specs.Exports.{export_named, is_symbol}
use Rattle.m36_bind.specs.Components.{PlacedComponentFields, component_named, components_of_lines}
use Rattle.m36_bind.specs.Links.{own_link, offset_by}
use Rattle.m36_bind.specs.Bound.{links_end, first_entry_bound, is_newer_bound_object}
use Rattle.m36_relocate.specs.declared.layout.BoundPlace.{BoundPlace}
use Rattle.m36_relocate.specs.declared.exports.Export.{Export}

-- ---- words to which numbers refer

-- the word of the bound object that is this word of a component
abbrev pub image : BasesFields → Denoted → Denoted
image b (TextWord v) = TextWord (b.text + v)
image b (StaticWord w) = StaticWord (b.statics + w)
image b (LinkWord k) = LinkWord (2 * b.links + k)
image b (HeadWord v) = HeadWord v

-- whether a component has this word
abbrev pub has_word : PlacedComponentFields → Denoted → Bool
has_word p (TextWord v) = nat_lt v (length p.parts.text)
has_word p (StaticWord w) = nat_lt w p.shape.statics
has_word p (LinkWord k) = nat_lt k (2 * p.shape.links)
has_word p (HeadWord v) = nat_lt v head_words

-- The number `new` in the section `target` of the bound object refers to the word to which `old`
-- refers in the component, if there is such a word.
abbrev pub RefersToSameWord :
    PartsFields → PlacedComponentFields → Section → ℕ → Section → ℕ → Type 0
RefersToSameWord bound p section old target new =
    has_word p (denoted p.shape section old) ≡ true
    → denoted (shape_of bound) target new ≡ image p.bases (denoted p.shape section old)

-- ---- words

-- A relocation of the component, of a part of word i of its text or of its static words.
pub record IsRelocationAt (p : PlacedComponentFields) (statics : Bool) (i : ℕ)
    (r : RelocFields) : Type 0 where
  pub among : Contains p.parts.relocations r
  pub stands : is_relocation_in statics r ≡ true
  pub place : word_index_of p.shape statics r ≡ i

-- The word of the bound object that is word i of a component. Each relocated part refers to the
-- word to which it referred, except that bits 3 to 17 that are below zero count from where the
-- words of the component begin. The other bits are unchanged: bits 0 to 2 unless the left half is
-- relocated, also if bits 3 to 17 are; bits 3 to 17 unless they or the left half are relocated; and
-- the right half unless it is relocated.
pub record IsRelocatedWord (bound : PartsFields) (p : PlacedComponentFields) (statics : Bool)
    (i old new : ℕ) : Type 0 where
  pub names : (r : RelocFields) → IsRelocationAt p statics i r
      → (r.part ≡ offset_part → part_of offset_part old < offset_limit)
      → RefersToSameWord bound p r.target (part_of r.part old) r.target (part_of r.part new)
  pub below : (r : RelocFields) → IsRelocationAt p statics i r → r.part ≡ offset_part
      → offset_limit ≤ part_of offset_part old
      → part_of offset_part new ≡ relocated_negative p.bases r.target
      (part_of offset_part old) % 2 ^ 15
  pub first_bits : ((r : RelocFields) → IsRelocationAt p statics i r → r.part ≡ left_part → ⊥)
      → field new 0 3 ≡ field old 0 3
  pub offset_bits : ((r : RelocFields) → IsRelocationAt p statics i r → r.part ≡ right_part)
      → field new 3 15 ≡ field old 3 15
  pub right_bits : ((r : RelocFields) → IsRelocationAt p statics i r → r.part ≡ right_part → ⊥)
      → field new 18 18 ≡ field old 18 18

-- ---- the places of components

-- Each component has the shape of its parts, and begins where the one before it ends, from an even
-- word on.
unfoldable pub AreInOrder : BasesFields → List PlacedComponentFields → Type 0
AreInOrder b [] = Unit {0}
AreInOrder b (p ∷ all) =
    (p.bases ≡ b) × (p.shape ≡ shape_of p.parts) × AreInOrder (next_bases b p.parts) all

-- where the text of a component begins, or its static words
abbrev pub start_in : Bool → BasesFields → ℕ
start_in statics b = if statics then b.statics else b.text

-- Word j of the bound object is not one of this component, among its text or its static words.
abbrev pub IsOutside : Bool → PlacedComponentFields → ℕ → Type 0
IsOutside statics p j = (j < start_in statics p.bases)
    ⊎ (start_in statics p.bases + length (words_in statics p.parts) ≤ j)

-- the end of the words of components, of the texts or of the static words
unfoldable pub words_end : Bool → ℕ → List PlacedComponentFields → ℕ
words_end statics n [] = n
words_end statics n (p ∷ all) =
    words_end statics (start_in statics p.bases + length (words_in statics p.parts)) all

-- The words of a component are in the bound object one after another, from where the component
-- begins, each relocated. A word has 36 bits.
abbrev pub HasWords : PartsFields → PlacedComponentFields → Bool → Type 0
HasWords bound p statics =
    (i : ℕ) → i < length (words_in statics p.parts)
    → slice_index (words_in statics p.parts) i < 2 ^ 36
    → IsRelocatedWord bound p statics i (slice_index (words_in statics p.parts) i)
    (slice_index (words_in statics bound) (start_in statics p.bases + i))

-- ---- relocations

-- The new relocation is that of the same part of the same word, with the same target.
pub record IsRelocationOfSameWord (bound : PartsFields) (p : PlacedComponentFields)
    (old new : RelocFields) : Type 0 where
  pub place : RefersToSameWord bound p old.section old.offset new.section new.offset
  pub part : new.part ≡ old.part
  pub target : new.target ≡ old.target

-- the relocation of the bound object for one of a component
pub record RelocatedRelocation (bound : PartsFields) (p : PlacedComponentFields)
    (old : RelocFields) : Type 0 where
  pub new : RelocFields
  pub among : Contains bound.relocations new
  pub moved : IsRelocationOfSameWord bound p old new

-- the relocation of a component for one of the bound object
pub record RelocationSource (bound : PartsFields) (all : List PlacedComponentFields)
    (new : RelocFields) : Type 0 where
  pub component : PlacedComponentFields
  pub one : Contains all component
  pub old : RelocFields
  pub among : Contains component.parts.relocations old
  pub moved : IsRelocationOfSameWord bound component old new

-- ---- links

-- A link to a place of the bound object: that of a place of a component, plus the number of the
-- link. The modifier is unchanged.
pub record LinksTo (bound : PartsFields) (p : PlacedComponentFields) (section : Section) (value : ℕ)
    (old new : LinkFields) : Type 0 where
  pub place : BoundPlace
  pub names : RefersToSameWord bound p section value place.section place.offset
  pub is : new ≡ own_link old (offset_by place old.expr)

-- a link to a place of the bound object, without a number that is added
pub record LinksAt (bound : PartsFields) (p : PlacedComponentFields)
    (old new : LinkFields) : Type 0 where
  pub place : BoundPlace
  pub names : RefersToSameWord bound p old.section old.expr place.section place.offset
  pub is : new ≡ own_link old place

-- The name of a link is that of no component, or the component does not define its entry.
abbrev pub IsUndefined : List PlacedComponentFields → LinkFields → Type 0
IsUndefined all l =
    (q : PlacedComponentFields) → component_named l.name all ≡ Some q
    → export_named l.entry q.entries ≡ None

-- The link of the bound object that replaces a link of a component, by its type. A link to no
-- component, or to a name that the component does not define, is unchanged.
pub record ReplacesLink (bound : PartsFields) (all : List PlacedComponentFields)
    (p : PlacedComponentFields)
    (old new : LinkFields) : Type 0 where
  pub own : old.kind ≡ to_section → LinksAt bound p old new
  pub segment : (q : PlacedComponentFields) → old.kind ≡ to_segment → component_named old.name all
      ≡ Some q
      → new ≡ own_link old (text_word_place q.bases old.expr)
  pub outer : (q : PlacedComponentFields) (e : Export) → old.kind ≡ to_entry
      → component_named old.name all ≡ Some q → export_named old.entry q.entries ≡ Some e
      → LinksTo bound q e.def.section e.def.value old new
  pub inner : (e : Export) → old.kind ≡ to_own_entry → export_named old.entry p.entries ≡ Some e
      → LinksTo bound p (later_section old.section e.def.section) e.def.value old new
  pub far_segment : old.kind ≡ to_segment → component_named old.name all ≡ None → new ≡ old
  pub far_entry : old.kind ≡ to_entry → IsUndefined all old → new ≡ old
  pub no_entry : old.kind ≡ to_own_entry → export_named old.entry p.entries ≡ None → new ≡ old

-- The links of a component are in the bound object one after another, from its first on.
abbrev pub HasLinks : PartsFields → List PlacedComponentFields → PlacedComponentFields → Type 0
HasLinks bound all p =
    (i : ℕ) (old : LinkFields) → slice_get p.parts.links i ≡ Some old
    → (new : LinkFields) × (slice_get bound.links (p.bases.links + i) ≡ Some new)
    × ReplacesLink bound all p old new

-- ---- definitions

-- The definition of a component for one of the bound object: it has the same name, its class is not
-- symbol, and both refer to the same word.
pub record DefinitionSource (bound : PartsFields) (all : List PlacedComponentFields) (name : List ℕ)
    (new : DefFields) : Type 0 where
  pub component : PlacedComponentFields
  pub one : Contains all component
  pub old : Named
  pub among : Contains component.parts.definitions old
  pub name_is : old.name ≡ name
  pub counts : is_symbol old.def.section ≡ false
  pub names : RefersToSameWord bound component old.def.section old.def.value new.section new.value
  pub is_entry : new.is_entry ≡ old.def.is_entry

-- ---- the whole

-- The object is the bound object of the components of a bind file.
pub record BoundMeaning (text : List ℕ) (names : List (List ℕ)) (objects : List PartsFields)
    (bound : PartsFields) : Type 0 where
  pub lines : List BindLine
  pub read : bind_lines text ≡ Ok lines
  pub components : List PlacedComponentFields
  pub components_of : components_of_lines (record { names = names; objects = objects }) lines
      ≡ Ok components
  -- what is in the bound object
  pub order : AreInOrder first_bases components
  pub texts : (p : PlacedComponentFields) → Contains components p → HasWords bound p false
  pub statics : (p : PlacedComponentFields) → Contains components p → HasWords bound p true
  pub links : (p : PlacedComponentFields) → Contains components p → HasLinks bound components p
  pub relocations : (p : PlacedComponentFields) → Contains components p → (r : RelocFields)
      → Contains p.parts.relocations r → RelocatedRelocation bound p r
  pub retained : definition_names bound.definitions ≡ retained_names lines
  pub definitions : (d : Named) → Contains bound.definitions d
      → DefinitionSource bound components d.name d.def
  -- and there is nothing else
  pub text_length : length bound.text ≡ words_end false 0 components
  pub statics_length : length bound.statics ≡ words_end true 0 components
  pub gaps : (statics : Bool) (j : ℕ)
      → ((p : PlacedComponentFields) → Contains components p → IsOutside statics p j)
      → slice_index (words_in statics bound) j ≡ 0
  pub links_length : length bound.links ≡ links_end 0 components
  pub no_other_relocations : (r : RelocFields) → Contains bound.relocations r
      → RelocationSource bound components r
  pub entry_bound : bound.entry_bound ≡ first_entry_bound components
  pub version : bound.version ≡ version_of
      (is_newer_bound_object (has_version_line lines) components)

-- Each of these is the parts of an object.
abbrev pub AreObjects : List PartsFields → Type 0
AreObjects objects = (o : PartsFields) → Contains objects o → is_well_formed o ≡ true
