-- The operation and the operand of a line.
use Rattle.std.proofs.Common.{ℕ, suc, ◌≡◌, ◌+◌, ◌<◌, ◌==◌, false, not, List, [], ◌∷◌, ◌++◌, length, Some, Ok, refl, ap, ◌∙◌, append_assoc, length-append, arith}
use Rattle.std.specs.Prelude.{codes}
use Rattle.std.specs.List.{list_any, position}
use Rattle.std.proofs.lemmas.Bool.{or_parts, ne_eqb}
use Rattle.alm_tokens.specs.declared.span.Span.{Span}
use Rattle.alm_tokens.specs.declared.head.Head.{Head}
use Rattle.alm_tokens.specs.Bytes.{is_blank}
use Rattle.alm_tokens.specs.Tokens.{slice_of, span_at}
use Rattle.alm_parse.specs.declared.operation.Operation.{Operation}
use Rattle.alm_parse.specs.declared.args.Arg.{Arg}
use Rattle.alm_parse.specs.Operations.{operation_of}
use Rattle.alm_parse.specs.Deeds.{effect_named}
use Rattle.alm_parse.specs.Lines.{parse_line, label_refusal, args_of, args_with, operand_for}
use Rattle.alm_tokens.specs.Rows.{row_at}
use Rattle.alm_tokens.specs.Heads.{head_from, head_of, operand_start, operand_end_from, operand_in}
use Rattle.m36_list.proofs.Characters.{is_ending, is_parting}
use Rattle.m36_list.proofs.Spans.{slice_at, position_behind}
use Rattle.m36_list.proofs.WordAlone.{line_of}

abbrev named : List Span → ℕ → ℕ → Head
named marks from to = record { labels = marks; op = Some (span_at from to) }

-- an operation ends at the space after it
head_named : (marks : List Span) (from at : ℕ) (xs ys : List ℕ) → list_any is_parting xs ≡ false → from < at + length xs → head_from marks from at (xs ++ 32 ∷ ys) ≡ record { labels = marks; op = Some (span_at from (at + length xs)) }
unfolding head_from
head_named marks from at [] ys none later =
    let old : (from == at) ≡ false = ne_eqb from at (λ e. absurd (omega arith)) in
    let end : at ≡ at + 0 = omega arith in
    rw (old) (ap (named marks from) end)
head_named marks from at (x ∷ xs) ys none later =
    let parts = or_parts (is_parting x) (list_any is_parting xs) none in
    let colon = or_parts (x == 58) (is_ending x) parts.0 in
    let blank = or_parts (is_blank x) (x == 34) colon.1 in
    let end : at + 1 + length xs ≡ at + suc (length xs) = omega arith in
    rw (colon.0, blank.0, blank.1) (head_named marks from (at + 1) xs ys parts.1 (omega arith) ∙ ap (named marks from) end)

pub head_at_name : (source before name rest after : List ℕ) (from to : ℕ) → source ≡ before ++ ((name ++ 32 ∷ rest) ++ after) → from ≡ length before → to ≡ from + length (name ++ 32 ∷ rest)
    → list_any is_parting name ≡ false → 0 < length name
    → head_of source (span_at from to) ≡ record { labels = []; op = Some (span_at from (from + length name)) }
unfolding head_of
head_at_name source before name rest after from to whole begin end none some =
    rw (slice_at source before (name ++ 32 ∷ rest) after from to whole begin end, head_named [] from from name rest none (omega arith)) refl

-- an operand extends to the end of the line
end_all : (end at : ℕ) (bytes : List ℕ) → list_any is_ending bytes ≡ false → end ≡ at → operand_end_from end at bytes ≡ at + length bytes
unfolding operand_end_from
end_all end at [] none same = omega arith
end_all end at (b ∷ bytes) none same =
    let parts = or_parts (is_ending b) (list_any is_ending bytes) none in
    let here = or_parts (is_blank b) (b == 34) parts.0 in
    let rest = end_all (at + 1) (at + 1) bytes parts.1 refl in
    rw (here.0, here.1) (rest ∙ omega arith)

first_ending : (operand : List ℕ) → list_any is_ending operand ≡ false → 0 < length operand → position (λ b. not (is_blank b)) (32 ∷ operand) ≡ Some 1
first_ending [] none some = absurd (omega arith)
first_ending (b ∷ operand) none some =
    let parts = or_parts (is_ending b) (list_any is_ending operand) none in
    let here = or_parts (is_blank b) (b == 34) parts.0 in
    position_behind (λ c. not (is_blank c)) (32 ∷ []) b operand refl (ap not here.0)

pub operand_behind : (source before operand after : List ℕ) (from to : ℕ) → source ≡ before ++ ((32 ∷ operand) ++ after) → from ≡ length before → to ≡ from + length (32 ∷ operand)
    → list_any is_ending operand ≡ false → 0 < length operand
    → operand_in source (span_at from to) ≡ Some (span_at (from + 1) to)
unfolding operand_in operand_start
operand_behind source before operand after from to whole begin end none some =
    let longer = length-append before (codes " ") in
    let rest = slice_at source (before ++ codes " ") operand after (from + 1) to (whole ∙ simp append_assoc) (omega arith) (omega arith) in
    let last : operand_end_from (from + 1) (from + 1) operand ≡ to = end_all (from + 1) (from + 1) operand none refl ∙ omega arith in
    let apart : (from + 1 == to) ≡ false = ne_eqb (from + 1) to (λ e. absurd (omega arith)) in
    rw (slice_at source before (32 ∷ operand) after from to whole begin end, first_ending operand none some, rest, last, apart) refl

-- the operation of a line
operation_at_name : (source before name rest after : List ℕ) (from to : ℕ) → source ≡ before ++ ((name ++ 32 ∷ rest) ++ after) → from ≡ length before → to ≡ from + length name
    → slice_of source (span_at from to) ≡ name
operation_at_name source before name rest after from to whole begin end = slice_at source before name ((32 ∷ rest) ++ after) from to (whole ∙ simp append_assoc) begin end

-- A line of an operation, one space and an operand is parsed as that operation with the arguments
-- in the operand.
pub record IsLine (number : ℕ) (before text after name : List ℕ) (arguments : List Arg) : Type 0 where
  pub op : Span
  pub named : slice_of (before ++ (text ++ after)) op ≡ name
  pub given : parse_line (before ++ (text ++ after)) (row_at number (length before) (length before + length text)) ≡ Ok (line_of number (length before) op (effect_named name) arguments)

pub line_read : (number : ℕ) (text before name operand after : List ℕ) (operation : Operation) (arguments : List Arg)
    → text ≡ name ++ 32 ∷ operand → list_any is_parting name ≡ false → 0 < length name → list_any is_ending operand ≡ false → 0 < length operand
    → operation_of name ≡ Some operation
    → ((source : List ℕ) (rest : Span) → operand_for operation source rest ≡ operand_in source rest)
    → args_with operation (before ++ (text ++ after)) (span_at (length before + length name + 1) (length before + length text)) ≡ Ok arguments
    → IsLine number before text after name arguments
unfolding parse_line label_refusal args_of
line_read number text before name operand after operation arguments shape plain some closed more known taken said =
    let source = before ++ (text ++ after) in
    let from = length before in
    let to = from + length text in
    let whole : source ≡ before ++ ((name ++ 32 ∷ operand) ++ after) = ap (λ (t : List ℕ). before ++ (t ++ after)) shape in
    let long : length text ≡ length name + suc (length operand) = ap length shape ∙ length-append name (32 ∷ operand) in
    let head = head_at_name source before name operand after from to whole refl (ap (λ (n : ℕ). from + n) (ap length shape)) plain some in
    let op = operation_at_name source before name operand after from (from + length name) whole refl refl in
    let longer = length-append before name in
    let rest = operand_behind source (before ++ name) operand after (from + length name) to (whole ∙ simp append_assoc) (omega arith) (omega arith) closed more in
    record {
      op = span_at from (from + length name);
      named = op;
      given = rw (head, op, known, taken source (span_at (from + length name) to), rest, said, op) refl;
    }
