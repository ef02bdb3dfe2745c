-- Object segments: the one list of words for the parts of an object. Version 1 has its static words
-- in the linkage section, version 2 in a section of their own.
use Rattle.std.specs.Prelude.{ℕ, zero, suc, ◌≡◌, ◌+◌, ◌-◌, ◌*◌, ◌%◌, ◌^◌, Bool, true, false, ◌&&◌}
use Rattle.std.specs.Prelude.{◌||◌, not, nat_eq, nat_lt, nat_le, if◌then◌else◌, List, [], ◌∷◌, ◌++◌}
use Rattle.std.specs.Prelude.{length, Option, Some, None}
use Rattle.std.specs.List.{list_any, list_all}
use Rattle.m36_text.specs.Once.{are_distinct_by}
use Rattle.obj36_parts.specs.Fields.{DefFields, LinkFields, RelocFields}
use Rattle.obj36_parts.specs.PartsFields.{PartsFields}
use Rattle.obj36_parts.specs.Halves.{left, right, bits_3_to_17, word_with_halves}
use Rattle.obj36_parts.specs.Names.{same, is_name, with_names, name_offset, all_name_words}
use Rattle.obj36_parts.specs.Sections.{class_number, entry_mark, section_number}
use Rattle.obj36_parts.specs.declared.section.Section.{Section}
use Rattle.obj36_parts.specs.declared.section.Section.TheVariants.{Text, Linkage, Symbol, Static}
use Rattle.obj36_parts.specs.declared.definition.Named.{Named}

-- ---- constants and lengths

-- the version number: 2 for the newer version, 1 for the other
abbrev pub version_of : Bool → ℕ
version_of newer = if newer then 2 else 1

-- whether objects of a version have a static section of their own
abbrev pub is_newer_version : ℕ → Bool
is_newer_version version = nat_eq version (version_of true)

-- whether the object of these parts has a static section of its own
abbrev pub is_newer : PartsFields → Bool
is_newer p = is_newer_version p.version

-- the least even number that is not below n
abbrev pub rounded_up_to_even : ℕ → ℕ
rounded_up_to_even n = n + n % 2

-- words with a zero word added if their number is odd
abbrev pub padded_to_even : List ℕ → List ℕ
padded_to_even words = if nat_eq (length words % 2) 0 then words else words ++ 0 ∷ []

-- the static words of the linkage section
abbrev pub inner_statics : PartsFields → List ℕ
inner_statics p = if is_newer p then [] else p.statics

-- the words of the static section, which only version 2 has
abbrev pub outer_statics : PartsFields → List ℕ
outer_statics p = if is_newer p then p.statics else []

-- the number of words of the head of a linkage section
abbrev pub head_words : ℕ
head_words = 8

-- the number of words of the head of a definition section
abbrev pub definition_head_words : ℕ
definition_head_words = 2

-- the number of words of the head of a symbol section
abbrev pub symbol_head_words : ℕ
symbol_head_words = 1

-- the offset of the first expression of a link, after the head and the definitions
abbrev pub first_expression_at : ℕ → ℕ
first_expression_at definitions = definition_head_words + 2 * definitions

-- the type of a link to a section of the own object
abbrev pub to_section : ℕ
to_section = 1

-- the type of a link to a segment
abbrev pub to_segment : ℕ
to_segment = 3

-- the type of a link to an entry of a segment
abbrev pub to_entry : ℕ
to_entry = 4

-- the type of a link to an entry of the own object
abbrev pub to_own_entry : ℕ
to_own_entry = 5

-- whether a link of this type has the name of a segment
abbrev pub has_name : ℕ → Bool
has_name kind = nat_eq kind to_segment || nat_eq kind to_entry

-- whether a link of this type has the name of an entry
abbrev pub has_entry : ℕ → Bool
has_entry kind = nat_eq kind to_entry || nat_eq kind to_own_entry

-- whether a link of this type has a section
abbrev pub has_section : ℕ → Bool
has_section kind = nat_eq kind to_section || nat_eq kind to_own_entry

-- an offset, or 0 if the count is 0
unfoldable pub offset_if_any : ℕ → ℕ → ℕ
offset_if_any zero at = 0
offset_if_any (suc count) at = at

-- ---- the definition section

-- the name of a segment that a link uses, if it uses one
unfoldable pub name_used : LinkFields → List (List ℕ)
name_used l = if has_name l.kind then l.name ∷ [] else []

-- the name of an entry that a link uses, if it uses one
unfoldable pub entry_used : LinkFields → List (List ℕ)
entry_used l = if has_entry l.kind then l.entry ∷ [] else []

-- the names that a link uses, in order
unfoldable pub link_names : LinkFields → List (List ℕ)
link_names l = name_used l ++ entry_used l

-- the names of definitions, in order
unfoldable pub definition_names : List Named → List (List ℕ)
definition_names [] = []
definition_names (d ∷ ds) = d.name ∷ definition_names ds

-- the names that links use, in order
unfoldable pub all_link_names : List LinkFields → List (List ℕ)
all_link_names [] = []
all_link_names (l ∷ ls) = link_names l ++ all_link_names ls

-- the class of a definition: the number of its section, with a mark if it is an entry
unfoldable pub class_of : DefFields → ℕ
class_of d = class_number d.section + (if d.is_entry then entry_mark else 0)

-- The words of definitions. The first is at the offset `at`, and the names begin at `base`. A
-- definition has the offset of the next one and its class, then its value and the offset of its
-- name.
unfoldable pub definition_words : List (List ℕ) → ℕ → List Named → ℕ → List ℕ
definition_words names base [] at = []
definition_words names base (d ∷ ds) at =
    word_with_halves (offset_if_any (length ds) (at + 2)) (class_of d.def)
    ∷ word_with_halves d.def.value (name_offset d.name names base)
    ∷ definition_words names base ds (at + 2)

-- the right half of the first word of an expression: the section, or the offset of the name
unfoldable pub section_or_name_offset : List (List ℕ) → ℕ → LinkFields → ℕ
section_or_name_offset names base l =
    if has_name l.kind then name_offset l.name names base else section_number l.section

-- the offset of the name of the entry of a link; 0 if it has none
unfoldable pub entry_name_offset : List (List ℕ) → ℕ → LinkFields → ℕ
entry_name_offset names base l = if has_entry l.kind then name_offset l.entry names base else 0

-- The expressions of links, two words each: the type, the section or the offset of the name; the
-- offset of the entry, and the number that is added.
unfoldable pub expression_words : List (List ℕ) → ℕ → List LinkFields → List ℕ
expression_words names base [] = []
expression_words names base (l ∷ ls) =
    word_with_halves l.kind (section_or_name_offset names base l) ∷ word_with_halves
    (entry_name_offset names base l) l.expr
    ∷ expression_words names base ls

-- the words of a definition section: its head, the definitions, the expressions of the links, and
-- the names, each once, in order of first use
unfoldable pub definition_part : List Named → List LinkFields → List ℕ
definition_part ds ls =
    let names = with_names [] (definition_names ds ++ all_link_names ls) in
    let expressions = first_expression_at (length ds) in
    let base = expressions + 2 * length ls in
    word_with_halves (offset_if_any (length ds) definition_head_words) (length ds)
    ∷ word_with_halves (offset_if_any (length ls) expressions) (length ls)
    ∷ definition_words names base ds definition_head_words
    ++ expression_words names base ls
    ++ all_name_words names

-- the words of the definition section of the object of these parts
unfoldable pub definition_section : PartsFields → List ℕ
definition_section p = definition_part p.definitions p.links

-- ---- the linkage section

-- the first word of a link that is not snapped: 2^18 minus its offset, with tag 46 (octal), which
-- is fault tag 2
abbrev pub link_head : ℕ → ℕ
link_head at = word_with_halves (2 ^ 18 - at) 0o46

-- The pointer register of references to links. It points to the linkage section of the segment that
-- is executed.
abbrev pub linkage_register : ℕ
linkage_register = 4

-- The words of links, two each: the first word, then the offset of the expression and the modifier.
-- The first link is at the offset `at`, and its expression at `expression`.
unfoldable pub link_words : List LinkFields → ℕ → ℕ → List ℕ
link_words [] at expression = []
link_words (l ∷ ls) at expression =
    link_head at ∷ word_with_halves expression l.modifier ∷ link_words ls (at + 2) (expression + 2)

-- the offset of the first link after this many static words in the linkage section
abbrev pub first_link_at : ℕ → ℕ
first_link_at statics = head_words + statics

-- the offset of the first link by the version; in the newer one no static words are before it
abbrev pub first_link_in_version : Bool → ℕ → ℕ
first_link_in_version newer statics = if newer then head_words else first_link_at statics

-- the offset of link i, counted from 0, if the first one is at `first`
abbrev pub link_offset : ℕ → ℕ → ℕ
link_offset first i = first + 2 * i

-- the number of words of a linkage section with this many static words and links
abbrev pub linkage_length : ℕ → ℕ → ℕ
linkage_length statics links = first_link_at statics + 2 * links

-- the words of a linkage section: its head, the static words, and the links, whose expressions
-- begin at the offset `expressions` of the definition section
unfoldable pub linkage_part : List ℕ → List LinkFields → ℕ → List ℕ
linkage_part statics ls expressions =
    0 ∷ word_with_halves (first_link_at (length statics))
    (length ls) ∷ 0 ∷ 0 ∷ 0 ∷ 0 ∷ 0 ∷ 0 ∷ statics
    ++ link_words ls (first_link_at (length statics)) expressions

-- the words of the linkage section of the object of these parts
unfoldable pub linkage_section : PartsFields → List ℕ
linkage_section p =
    linkage_part (inner_statics p) p.links (first_expression_at (length p.definitions))

-- the offset of the first link of an object in its linkage section
abbrev pub first_link : PartsFields → ℕ
first_link p = first_link_at (length (inner_statics p))

-- ---- the symbol section

-- the number of the left half of a word, as the part that is relocated
abbrev pub left_part : ℕ
left_part = 0

-- the number of the right half of a word, as the part that is relocated
abbrev pub right_part : ℕ
right_part = 1

-- the number of bits 3 to 17 of a word, as the part that is relocated
abbrev pub offset_part : ℕ
offset_part = 2

-- the number in this part of a word
unfoldable pub part_of : ℕ → ℕ → ℕ
part_of part w =
    if nat_eq part left_part then left w
    else if nat_eq part right_part then right w
    else bits_3_to_17 w

-- The unit of the section in the right half of a relocation: its number is multiplied by this. The
-- section, the part and the target have three bits each.
abbrev pub section_unit : ℕ
section_unit = 2 ^ 15

-- the unit of the part in the right half of a relocation
abbrev pub part_unit : ℕ
part_unit = 2 ^ 12

-- the unit of the target section in the right half of a relocation
abbrev pub target_unit : ℕ
target_unit = 2 ^ 9

-- the word of a relocation
unfoldable pub relocation_word : RelocFields → ℕ
relocation_word r =
    word_with_halves r.offset
    (section_number r.section * section_unit + r.part * part_unit
    + section_number r.target * target_unit)

-- the words of relocations, in order
unfoldable pub relocation_words : List RelocFields → List ℕ
relocation_words [] = []
relocation_words (r ∷ rs) = relocation_word r ∷ relocation_words rs

-- the words of a symbol section: the number of relocations, then the relocations
unfoldable pub symbol_part : List RelocFields → List ℕ
symbol_part rs = word_with_halves 0 (length rs) ∷ relocation_words rs

-- the words of the symbol section of the object of these parts
unfoldable pub symbol_section : PartsFields → List ℕ
symbol_section p = symbol_part p.relocations

-- ---- the map and the last word

-- the offset at which the linkage section begins, by the lengths of the sections before it
abbrev pub linkage_at : ℕ → ℕ → ℕ
linkage_at text definition = text + definition

-- the offset at which the static section begins
abbrev pub statics_at : ℕ → ℕ → ℕ → ℕ
statics_at text definition linkage = linkage_at text definition + linkage

-- the offset at which the symbol section begins
abbrev pub symbol_at : ℕ → ℕ → ℕ → ℕ → ℕ
symbol_at text definition linkage statics = statics_at text definition linkage + statics

-- the offset at which the map begins
abbrev pub map_at : ℕ → ℕ → ℕ → ℕ → ℕ → ℕ
map_at text definition linkage statics symbol =
    symbol_at text definition linkage statics + symbol

-- The map of sections of these lengths: the version, the offset and length of each section, and the
-- entry bound. After it comes the last word, with the offset of the map.
unfoldable pub map_part : Bool → ℕ → ℕ → ℕ → ℕ → ℕ → ℕ → List ℕ
map_part newer text definition linkage statics symbol bound =
    word_with_halves 0 (version_of newer)
    ∷ word_with_halves 0 text
    ∷ word_with_halves text definition
    ∷ word_with_halves (linkage_at text definition) linkage
    ∷ (if newer then word_with_halves (statics_at text definition linkage) statics ∷ [] else [])
    ++ word_with_halves (symbol_at text definition linkage statics) symbol
    ∷ word_with_halves bound 0
    ∷ word_with_halves (map_at text definition linkage statics symbol) 0
    ∷ []

-- the map of the object of these parts, with the last word
unfoldable pub map_words : PartsFields → List ℕ
map_words p =
    map_part (is_newer p) (length p.text) (length (definition_section p))
    (length (linkage_section p)) (length (outer_statics p)) (length (symbol_section p))
    p.entry_bound

-- the one list of words for the parts of an object
unfoldable pub words_of : PartsFields → List ℕ
words_of p =
    p.text ++ definition_section p ++ linkage_section p ++ outer_statics p ++ symbol_section p
    ++ map_words p

-- the words of a section
abbrev pub section_words : PartsFields → Section → List ℕ
section_words p Text = p.text
section_words p Linkage = linkage_section p
section_words p Symbol = symbol_section p
section_words p Static = outer_statics p

-- ---- well-formed parts

-- the maximal number of words of a segment, and so of an object
abbrev pub segment_limit : ℕ
segment_limit = 2 ^ 18

-- the maximal number of words of a section of an object that is assembled or bound: 2^18 - 4096
abbrev pub section_limit : ℕ
section_limit = 258048

-- whether a section is within the limit
abbrev pub section_fits : List ℕ → Bool
section_fits words = nat_le (length words) section_limit

-- whether each section of an object is within the limit
unfoldable pub sections_fit : PartsFields → Bool
sections_fit p =
    section_fits p.text && section_fits (definition_section p) && section_fits (linkage_section p)
    && section_fits (outer_statics p) && section_fits (symbol_section p)

-- whether no name occurs twice
unfoldable pub are_distinct : List (List ℕ) → Bool
are_distinct names = are_distinct_by same names

-- the greatest class of a definition, without the mark of an entry, in an object of this version
abbrev pub greatest_class_number : ℕ → ℕ
greatest_class_number version =
    if is_newer_version version then class_number Static else class_number Symbol

-- the greatest number of a section in links and relocations of an object of this version
abbrev pub last_section_number : ℕ → ℕ
last_section_number version =
    if is_newer_version version then section_number Static else section_number Linkage

-- whether an object of this version can have a definition
unfoldable pub is_valid_definition : ℕ → Named → Bool
is_valid_definition version d =
    is_name d.name && nat_lt d.def.value (2 ^ 18)
    && nat_le (class_number d.def.section) (greatest_class_number version)

-- Whether a link of this version can have this section. `used` says whether its type uses one;
-- otherwise it is the text.
abbrev pub is_valid_link_section : Bool → ℕ → Section → Bool
is_valid_link_section used version section =
    nat_le (section_number section) (if used then last_section_number version else 0)

-- Whether a link can have this name. `used` says whether its type uses one; otherwise it is empty.
abbrev pub is_valid_link_name : Bool → List ℕ → Bool
is_valid_link_name used name = if used then is_name name else nat_eq (length name) 0

-- whether an object of this version can have a link
unfoldable pub is_valid_link : ℕ → LinkFields → Bool
is_valid_link version l =
    (has_name l.kind || has_section l.kind)
    && is_valid_link_section (has_section l.kind) version l.section
    && is_valid_link_name (has_name l.kind) l.name
    && is_valid_link_name (has_entry l.kind) l.entry
    && nat_lt l.expr (2 ^ 18)
    && nat_lt l.modifier (2 ^ 6)

-- Whether the offset of a relocation is that of a word of the text or of a static word. `text`,
-- `inner` and `outer` are the numbers of these words.
unfoldable pub is_relocatable : ℕ → ℕ → ℕ → Section → ℕ → Bool
is_relocatable text inner outer Text offset = nat_lt offset text
is_relocatable text inner outer Linkage offset =
    nat_le head_words offset && nat_lt offset (first_link_at inner)
is_relocatable text inner outer Static offset = nat_lt offset outer
is_relocatable text inner outer Symbol offset = false

-- whether an object with these numbers of words can have a relocation
unfoldable pub is_valid_relocation : ℕ → ℕ → ℕ → ℕ → RelocFields → Bool
is_valid_relocation text inner outer version r =
    is_relocatable text inner outer r.section r.offset && nat_lt r.offset (2 ^ 18)
    && nat_le r.part offset_part && nat_le (section_number r.target) (last_section_number version)

-- the number by which relocations are ordered
unfoldable pub order_of : RelocFields → ℕ
order_of r = (section_number r.section * 2 ^ 18 + r.offset) * 4 + r.part

-- Whether relocations are in strictly rising order, from `least` on, and none has the order number
-- `barred`. A relocation of the left half of a word bars that of its bits 3 to 17, since the two
-- overlap.
unfoldable pub are_rising : ℕ → ℕ → List RelocFields → Bool
are_rising least barred [] = true
are_rising least barred (r ∷ rs) =
    nat_le least (order_of r) && not (nat_eq (order_of r) barred)
    && are_rising (order_of r + 1)
    (if nat_eq r.part left_part then order_of r + offset_part else barred) rs

-- Whether relocations are in order. At first nothing is barred, since no part of a word has the
-- number 3.
abbrev pub are_in_order : List RelocFields → Bool
are_in_order rs = are_rising 0 3 rs

-- whether there is an object with these parts
unfoldable pub is_well_formed : PartsFields → Bool
is_well_formed p =
    (nat_eq p.version (version_of false) || nat_eq p.version (version_of true))
    && nat_le (length (words_of p)) segment_limit
    && nat_le p.entry_bound (length p.text)
    && (is_newer p || nat_eq (length p.statics % 2) 0)
    && list_all (is_valid_definition p.version) p.definitions
    && are_distinct (definition_names p.definitions)
    && list_all (is_valid_link p.version) p.links
    && list_all
    (is_valid_relocation (length p.text) (length (inner_statics p))
    (length (outer_statics p)) p.version)
    p.relocations
    && are_in_order p.relocations

-- The words are the object of the parts.
pub record Encodes (p : PartsFields) (words : List ℕ) : Type 0 where
  pub formed : is_well_formed p ≡ true
  pub spelled : words ≡ words_of p

-- ---- lookup in the parts

-- whether a definition has the name
abbrev pub has_definition : List ℕ → List Named → Bool
has_definition name ds = list_any (λ d. same name d.name) ds

-- the place of the first definition with a name
unfoldable pub definition_named : List ℕ → List Named → Option DefFields
definition_named name [] = None
definition_named name (d ∷ ds) = if same d.name name then Some d.def else definition_named name ds

-- The invariant of an object: its parts are well formed, and `d`, `k` and `s` are the words of its
-- definition, linkage and symbol sections.
pub record IsObject (p : PartsFields) (d k s : List ℕ) : Type 0 where
  pub formed : is_well_formed p ≡ true
  pub definition : d ≡ definition_section p
  pub linkage : k ≡ linkage_section p
  pub symbol : s ≡ symbol_section p

-- Different parts have different words. (Parts have only one list of words, since this is
-- `words_of` of them.)
abbrev pub WordsDetermineParts : Type 0
WordsDetermineParts =
    (p q : PartsFields) (words : List ℕ) → Encodes p words → Encodes q words → p ≡ q
