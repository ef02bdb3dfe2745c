-- In lines that are not refused, each external operand is a link, and the list of links has it.
use Rattle.std.proofs.Common.{◌≡◌, ℕ, true, false, cond, List, [], ◌∷◌, ◌++◌, Option, Some, None, refl, sym, ap, ◌∙◌, true≢false}
use Rattle.std.specs.List.{list_any}
use Rattle.alm_tokens.specs.Tokens.{slice_of}
use Rattle.alm_tokens.specs.declared.span.Span.{Span}
use Rattle.alm_tokens.specs.declared.expression.Term.{Term}
use Rattle.alm_parse.specs.declared.args.Arg.{Arg}
use Rattle.alm_parse.specs.declared.args.Arg.TheVariants as arg
use Rattle.alm_parse.specs.declared.deed.LineEffect.{LineEffect}
use Rattle.alm_parse.specs.declared.deed.LineEffect.TheVariants as deed
use Rattle.alm_parse.specs.declared.line.Line36.{Line36}
use Rattle.alm_parse.specs.Bodies.{own_section}
use Rattle.obj36_parts.specs.Fields.{LinkFields}
use Rattle.obj36_parts.specs.Indexes.{same_link}
use Rattle.obj36_parts.specs.Sections.{is_text_section}
use Rattle.alm_lines.specs.Arguments.{first_arg}
use Rattle.alm_lines.specs.Spots.{start, end_of}
use Rattle.alm_lines.specs.Refusals.{earlier_refusal, refusal_at}
use Rattle.alm_lines.specs.SpotFields.{LocationCounter}
use Rattle.alm_lines.specs.declared.refusal.AlmCode.TheVariants.{E7}
use Rattle.alm_lines.specs.declared.refusal.ValueField.TheVariants.{Half}
use Rattle.alm_asm.specs.Links.{link_of, operand_args, link_in, links_from}
use Rattle.alm_asm.specs.LineRefusals.{refusal_unless, op_place, external_place, may_name, link_expression, link_is_in_reach, external_refusal, operand_refusal, refusal_of_effect, lines_refusal}
use Rattle.alm_asm.specs.Assembles.{is_external}
use Rattle.alm_asm.specs.declared.tables.Tables.{Tables}
use Rattle.alm_asm.proofs.LinksStanding.{link_stands}
use Rattle.alm_asm.proofs.Unrefused.{sooner_none, line_below}
use Rattle.alm_asm.proofs.Valued.{AreKnown, valued}

-- if an external operand is not refused, its expression is not
pub expression_none : (text : List ℕ) (tables : Tables) (spot : LocationCounter) (line : Line36) (segment : Span) (entry : Option Span) (terms : List Term) (tag : ℕ)
    → external_refusal text tables spot line segment entry terms tag ≡ None → link_expression text tables.symbols spot line segment entry terms ≡ None
expression_none text tables spot line segment entry terms tag none =
    let at = refusal_at line segment.from E7 in
    let said = link_expression text tables.symbols spot line segment entry terms in
    let reached = refusal_unless (link_is_in_reach text tables spot segment entry terms tag) at in
    let definition_of_name = refusal_unless (may_name tables (own_section (slice_of text segment))) at in
    (sooner_none said reached (sooner_none (earlier_refusal said reached) definition_of_name none).0).0

-- the link of an external operand that is not refused
given_link : (text : List ℕ) (tables : Tables) (spot : LocationCounter) (line : Line36) (given : Option Arg) → AreKnown tables.symbols → operand_refusal text tables spot line given ≡ None
    → is_external given ≡ true → (link : LinkFields) × (link_in text tables.symbols spot given ≡ Some link)
given_link text tables spot line (Some (arg.Symbol span)) known none e = absurd (true≢false (sym e))
given_link text tables spot line (Some (arg.Number word)) known none e = absurd (true≢false (sym e))
given_link text tables spot line (Some (arg.Chars words)) known none e = absurd (true≢false (sym e))
given_link text tables spot line (Some (arg.Plain terms)) known none e = absurd (true≢false (sym e))
given_link text tables spot line (Some (arg.Operand pr None entry terms tag)) known none e = absurd (true≢false (sym e))
given_link text tables spot line (Some (arg.Operand pr (Some segment) entry terms tag)) known none e =
    let link = link_of text tables.symbols spot segment entry terms tag in
    let free = expression_none text tables spot line segment entry terms tag none in
    let has = valued text tables.symbols spot line terms (external_place segment entry) Half false known free in
    (link, ap (λ b. cond b (Some link) None) has)
given_link text tables spot line None known none e = absurd (true≢false (sym e))

-- if a line is not refused, its operand is not
operand_none : (text : List ℕ) (tables : Tables) (spot : LocationCounter) (line : Line36) (d : LineEffect) → refusal_of_effect text tables spot line d ≡ None
    → operand_refusal text tables spot line (first_arg (operand_args d line.args)) ≡ None
operand_none text tables spot line deed.Nothing e = refl
operand_none text tables spot line (deed.Instruction code bit27) e =
    (sooner_none (refusal_unless (is_text_section spot.section) (refusal_at line (op_place line.op) E7)) (operand_refusal text tables spot line (first_arg line.args)) e).1
operand_none text tables spot line deed.Entry e = refl
operand_none text tables spot line deed.Segdef e = refl
operand_none text tables spot line deed.Equ e = refl
operand_none text tables spot line deed.Use e = refl
operand_none text tables spot line deed.Words e = refl
operand_none text tables spot line deed.Zero e = refl
operand_none text tables spot line deed.Block e = refl
operand_none text tables spot line deed.Even e = refl
operand_none text tables spot line deed.Bound e = refl

pub external_stands : (text : List ℕ) (tables : Tables) (lines above : List Line36) (line : Line36) (others : List Line36) → lines ≡ above ++ line ∷ others
    → AreKnown tables.symbols → lines_refusal text tables [] start lines ≡ None → is_external (first_arg (operand_args line.deed line.args)) ≡ true
    → (link : LinkFields) × (link_in text tables.symbols (end_of text start above) (first_arg (operand_args line.deed line.args)) ≡ Some link)
    × (list_any (same_link link) (links_from text tables.symbols [] start lines) ≡ true)
external_stands text tables lines above line others split known none external =
    let spot = end_of text start above in
    let operand = first_arg (operand_args line.deed line.args) in
    let parted : lines_refusal text tables [] start (above ++ line ∷ others) ≡ None = sym (ap (λ (l : List Line36). lines_refusal text tables [] start l) split) ∙ none in
    let free = operand_none text tables spot line line.deed (line_below text tables [] start above line others parted) in
    let given = given_link text tables spot line operand known free external in
    (given.0, given.1, link_stands text tables.symbols lines above line others given.0 split given.1)
