-- The spans of a line are within the text, which has `count` bytes, and its numbers within their
-- ranges.
use Rattle.std.specs.Prelude.{ℕ, ◌<◌, ◌≤◌, ⊤, List, Option, All, IfSome}
use Rattle.alm_tokens.specs.declared.span.Span.{Span}
use Rattle.alm_tokens.specs.declared.expression.Term.{Term}
use Rattle.alm_parse.specs.declared.args.Arg.{Arg}
use Rattle.alm_parse.specs.declared.args.Arg.TheVariants.{Symbol, Number, Chars, Plain, Operand}
use Rattle.alm_parse.specs.declared.line.Line36.{Line36}
use Rattle.alm_tokens.specs.Expressions.{IsSmall}

-- A span is within the text, which has `count` bytes, and does not end before it begins.
pub record IsSpan (count : ℕ) (span : Span) : Type 0 where
  pub ordered : span.from ≤ span.to
  pub inside : span.to ≤ count

-- A term is within the text, and a number in it is within its range.
pub record TermIn (count : ℕ) (term : Term) : Type 0 where
  pub place : IsSpan count term.span
  pub number : IsSmall term.what

-- The parts of the operand of an instruction are within the text and their ranges. There are eight
-- pointer registers, and a tag has six bits.
pub record OperandIn (count : ℕ) (register : Option ℕ) (seg name : Option Span)
    (parts : List Term) (modifier : ℕ) : Type 0 where
  pub pointer : IfSome register (λ n. n < 8)
  pub tag : modifier < 64
  pub segment : IfSome seg (IsSpan count)
  pub entry : IfSome name (IsSpan count)
  pub terms : All (TermIn count) parts

-- an argument is within the text, and its numbers are within their ranges
abbrev pub ArgIn : ℕ → Arg → Type 0
ArgIn count (Symbol span) = IsSpan count span
ArgIn count (Number word) = ⊤
ArgIn count (Chars words) = ⊤
ArgIn count (Plain terms) = All (TermIn count) terms
ArgIn count (Operand pr segment entry terms tag) = OperandIn count pr segment entry terms tag

-- a line is within the text, and its numbers are within their ranges
pub record LineIn (count : ℕ) (line : Line36) : Type 0 where
  pub labels : All (IsSpan count) line.labels
  pub op : IfSome line.op (IsSpan count)
  pub args : All (ArgIn count) line.args
