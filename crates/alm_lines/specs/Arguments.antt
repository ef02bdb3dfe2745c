-- The arguments of operations.
use Rattle.std.specs.Prelude.{ℕ, List, [], ◌∷◌, ◌++◌, take, slice_get, Option, Some, None}
use Rattle.std.specs.Prelude.{unwrap_or}
use Rattle.m36_text.specs.Texts.{name_limit}
use Rattle.alm_tokens.specs.Tokens.{slice_of}
use Rattle.alm_tokens.specs.declared.span.Span.{Span}
use Rattle.alm_tokens.specs.declared.expression.Term.{Term}
use Rattle.alm_parse.specs.declared.args.Arg.{Arg}
use Rattle.alm_parse.specs.declared.args.Arg.TheVariants.{Symbol, Number, Chars, Plain, Operand}
use Rattle.alm_parse.specs.Pairs.{used_section}
use Rattle.obj36_parts.specs.declared.section.Section.{Section}
use Rattle.obj36_parts.specs.declared.section.Section.TheVariants.{Text}

-- the first 32 bytes of a span, as a name
abbrev pub name_at : List ℕ → Span → List ℕ
name_at text span = take name_limit (slice_of text span)

-- ---- arguments

-- the first argument, if there is one
abbrev pub first_arg : List Arg → Option Arg
first_arg arguments = slice_get arguments 0

-- the second argument, if there is one
abbrev pub second_arg : List Arg → Option Arg
second_arg arguments = slice_get arguments 1

-- the symbol in an argument, if it is one
abbrev pub symbol_in : Option Arg → Option Span
symbol_in (Some (Symbol span)) = Some span
symbol_in (Some (Number word)) = None
symbol_in (Some (Chars words)) = None
symbol_in (Some (Plain terms)) = None
symbol_in (Some (Operand pr seg entry terms tag)) = None
symbol_in None = None

-- the terms of the expression in an argument; none if it has no expression
abbrev pub terms_in : Option Arg → List Term
terms_in (Some (Symbol span)) = []
terms_in (Some (Number word)) = []
terms_in (Some (Chars words)) = []
terms_in (Some (Plain terms)) = terms
terms_in (Some (Operand pr seg entry terms tag)) = terms
terms_in None = []

-- the number in an argument; 0 if it is not a number
abbrev pub number_in : Option Arg → ℕ
number_in (Some (Symbol span)) = 0
number_in (Some (Number word)) = word
number_in (Some (Chars words)) = 0
number_in (Some (Plain terms)) = 0
number_in (Some (Operand pr seg entry terms tag)) = 0
number_in None = 0

-- the words that an argument of `dec`, `oct` or `aci` places
abbrev pub words_of_arg : Arg → List ℕ
words_of_arg (Symbol span) = []
words_of_arg (Number word) = word ∷ []
words_of_arg (Chars words) = words
words_of_arg (Plain terms) = []
words_of_arg (Operand pr seg entry terms tag) = []

-- the words of the arguments of `dec`, `oct` or `aci`, after the words so far
unfoldable pub words_of_args : List ℕ → List Arg → List ℕ
words_of_args words [] = words
words_of_args words (arg ∷ more) = words_of_args (words ++ words_of_arg arg) more

-- the section with this name after `use`; the text if there is none
abbrev pub section_named : List ℕ → Section
section_named name = unwrap_or (used_section name) Text

-- the section that a `use` line selects; the text if its operand is no symbol
abbrev pub section_in : List ℕ → Option Span → Section
section_in text (Some span) = section_named (slice_of text span)
section_in text None = Text
