-- The text of the tag of an instruction: a comma after the address, and its modifier. Source:
-- Multics Processor Manual AL39, "Address modification". Tags 00 to 17 are R, 20 to 37 RI, 40 to 57
-- IT and 60 to 77 IR (octal).
use Rattle.std.specs.Prelude.{ℕ, ◌+◌, ◌==◌, Bool, List, [], ◌∷◌, ◌++◌, Option, option_map, codes}
use Rattle.std.specs.List.{find}
use Rattle.m36_model.specs.Tally.{subtract_delta, indirect_only, add_delta, decrement_increment}
use Rattle.m36_model.specs.Tally.{increment_decrement}

-- a tag with its text
pub record Modifier : Type 0 where
  pub tag : ℕ
  pub text : List ℕ

-- the tag with this text, as a list of one modifier
abbrev pub modifier_of_tag : ℕ → List ℕ → List Modifier
modifier_of_tag tag text = record { tag = tag; text = text } ∷ []

-- The fifteen registers for the tags after `first`, each with the texts before and after its name.
abbrev pub register_modifiers : ℕ → List ℕ → List ℕ → List Modifier
register_modifiers first before behind =
    modifier_of_tag (first + 1) (before ++ codes "au" ++ behind)
    ++ modifier_of_tag (first + 2) (before ++ codes "qu" ++ behind)
    ++ modifier_of_tag (first + 3) (before ++ codes "du" ++ behind)
    ++ modifier_of_tag (first + 4) (before ++ codes "ic" ++ behind)
    ++ modifier_of_tag (first + 5) (before ++ codes "al" ++ behind)
    ++ modifier_of_tag (first + 6) (before ++ codes "ql" ++ behind)
    ++ modifier_of_tag (first + 7) (before ++ codes "dl" ++ behind)
    ++ modifier_of_tag (first + 8) (before ++ codes "x0" ++ behind)
    ++ modifier_of_tag (first + 9) (before ++ codes "x1" ++ behind)
    ++ modifier_of_tag (first + 10) (before ++ codes "x2" ++ behind)
    ++ modifier_of_tag (first + 11) (before ++ codes "x3" ++ behind)
    ++ modifier_of_tag (first + 12) (before ++ codes "x4" ++ behind)
    ++ modifier_of_tag (first + 13) (before ++ codes "x5" ++ behind)
    ++ modifier_of_tag (first + 14) (before ++ codes "x6" ++ behind)
    ++ modifier_of_tag (first + 15) (before ++ codes "x7" ++ behind)

-- the IT tag with this Td
abbrev pub tally_tag : ℕ → ℕ
tally_tag td = 0o40 + td

-- the IT tag with this Td and text, as a list
abbrev pub tally_modifier : ℕ → List ℕ → List Modifier
tally_modifier td text = modifier_of_tag (tally_tag td) text

-- Tag 0, R without a register, has an empty text. RI without a register is the asterisk alone, and
-- IR without one names it as `n`. Five of the IT tags have a text.
abbrev pub modifiers : List Modifier
modifiers =
    modifier_of_tag 0o00 []
    ++ register_modifiers 0o00 (codes ",") []
    ++ modifier_of_tag 0o20 (codes ",*")
    ++ register_modifiers 0o20 (codes ",") (codes "*")
    ++ tally_modifier subtract_delta (codes ",sd")
    ++ tally_modifier indirect_only (codes ",i")
    ++ tally_modifier add_delta (codes ",ad")
    ++ tally_modifier decrement_increment (codes ",di")
    ++ tally_modifier increment_decrement (codes ",id")
    ++ modifier_of_tag 0o60 (codes ",*n")
    ++ register_modifiers 0o60 (codes ",*") []

-- whether a modifier has this tag
abbrev pub has_tag : ℕ → Modifier → Bool
has_tag tag m = m.tag == tag

-- the text of a tag, if it has one
unfoldable pub modifier_text : ℕ → Option (List ℕ)
modifier_text tag = option_map (λ m. m.text) (find (has_tag tag) modifiers)
