-- The links of lines that are not refused are valid in an object.
use Rattle.std.proofs.Common.{◌≡◌, ℕ, ◌%◌, ◌^◌, ◌<◌, Bool, true, false, cond, not, ◌&&◌, ◌||◌, ltb, List, [], ◌∷◌, ◌++◌, Option, Some, None, is_some, refl, sym, ◌∙◌, true≢false, arith}
use Rattle.std.specs.List.{list_all, list_any}
use Rattle.std.proofs.lemmas.Bool.{and_parts, and_from, lt-ltb}
use Rattle.std.proofs.lemmas.List.Folds.{list_all-append}
use Rattle.alm_tokens.specs.Tokens.{slice_of, is_text}
use Rattle.alm_tokens.specs.declared.span.Span.{Span}
use Rattle.alm_tokens.specs.declared.expression.Term.{Term}
use Rattle.alm_parse.specs.declared.args.Arg.{Arg}
use Rattle.alm_parse.specs.declared.args.Arg.TheVariants as arg
use Rattle.alm_parse.specs.declared.line.Line36.{Line36}
use Rattle.alm_parse.specs.Bodies.{own_section}
use Rattle.obj36_parts.specs.declared.section.Section.{Section}
use Rattle.obj36_parts.specs.declared.section.Section.TheVariants.{Text, Linkage, Symbol, Static}
use Rattle.obj36_parts.specs.declared.definition.Named.{Named}
use Rattle.obj36_parts.specs.Fields.{LinkFields}
use Rattle.obj36_parts.specs.Names.{is_name}
use Rattle.obj36_parts.specs.Sections.{is_text_section}
use Rattle.obj36_parts.specs.ObjectSegment.{version_of, is_valid_link}
use Rattle.std.specs.Prelude.{codes}
use Rattle.alm_lines.specs.Sums.{half_of}
use Rattle.alm_lines.specs.Arguments.{name_at, first_arg}
use Rattle.alm_lines.specs.Spots.{next_line_spot}
use Rattle.alm_lines.specs.Expressions.{sum_of}
use Rattle.alm_lines.specs.Refusals.{earlier_refusal, refusal_at}
use Rattle.alm_lines.specs.Values.{has_value}
use Rattle.alm_asm.specs.Links.{link_kind, link_section, link_name, entry_name, link_of, operand_args, link_of_parts, link_in, with_link, links_after, links_from}
use Rattle.obj36_parts.specs.Indexes.{same_link}
use Rattle.alm_asm.specs.Definitions.{definitions_after}
use Rattle.alm_asm.specs.LineRefusals.{refusal_unless, op_place, needs_static, may_name, link_expression, link_is_in_reach, operand_refusal, refusal_of_effect, lines_refusal}
use Rattle.alm_asm.specs.Laws.{segment_is_named, entry_is_named, args_are_named, lines_are_named}
use Rattle.alm_lines.specs.SpotFields.{LocationCounter}
use Rattle.alm_asm.specs.declared.tables.Tables.{Tables}
use Rattle.alm_parse.specs.declared.deed.LineEffect.{LineEffect}
use Rattle.alm_parse.specs.declared.deed.LineEffect.TheVariants as deed
use Rattle.alm_lines.specs.declared.refusal.AlmCode.TheVariants.{E7}
use Rattle.alm_lines.specs.declared.refusal.ValueField.TheVariants.{Half}
use Rattle.alm_asm.proofs.Unrefused.{sooner_none, unless_none, line_parts, head_line, other_lines}
use Rattle.alm_asm.proofs.GoodDefinitions.{half_small}

abbrev good_own : Bool → Option Section → Bool
good_own outer None = true
good_own outer (Some Text) = true
good_own outer (Some Linkage) = true
good_own outer (Some Symbol) = false
good_own outer (Some Static) = outer

own_by : (outer a b c : Bool) → (outer || not (needs_static (cond a (Some Text) (cond b (Some Linkage) (cond c (Some Static) None))))) ≡ true
    → good_own outer (cond a (Some Text) (cond b (Some Linkage) (cond c (Some Static) None))) ≡ true
own_by outer true b c e = refl
own_by outer false true c e = refl
own_by true false false true e = refl
own_by false false false true e = absurd (true≢false (sym e))
own_by outer false false false e = refl

own_good : (outer : Bool) (name : List ℕ) → (outer || not (needs_static (own_section name))) ≡ true → good_own outer (own_section name) ≡ true
unfolding own_section
own_good outer name e = own_by outer (is_text (codes "*text") name) (is_text (codes "*link") name) (is_text (codes "*static") name) e

four : (a b c d : Bool) → a ≡ true → b ≡ true → c ≡ true → d ≡ true → (((a && b) && c) && d) ≡ true
four a b c d ea eb ec ed = and_from ((a && b) && c) d (and_from (a && b) c (and_from a b ea eb) ec) ed

link_by_parts : (outer : Bool) (text : List ℕ) (own : Option Section) (name : List ℕ) (entry : Option Span) (expr tag : ℕ) → good_own outer own ≡ true
    → (is_some own || is_name name) ≡ true → entry_is_named text entry ≡ true → ltb expr (2 ^ 18) ≡ true → ltb tag (2 ^ 6) ≡ true
    → is_valid_link (version_of outer) (record { kind = link_kind own entry; section = link_section own; name = link_name own name; entry = entry_name text entry; expr = expr; modifier = tag }) ≡ true
unfolding is_valid_link
link_by_parts outer text None name None expr tag o n e x t = four (is_name name) true (ltb expr (2 ^ 18)) (ltb tag (2 ^ 6)) n refl x t
link_by_parts outer text None name (Some entry) expr tag o n e x t = four (is_name name) (is_name (name_at text entry)) (ltb expr (2 ^ 18)) (ltb tag (2 ^ 6)) n e x t
link_by_parts true text (Some Text) name None expr tag o n e x t = four true true (ltb expr (2 ^ 18)) (ltb tag (2 ^ 6)) refl refl x t
link_by_parts false text (Some Text) name None expr tag o n e x t = four true true (ltb expr (2 ^ 18)) (ltb tag (2 ^ 6)) refl refl x t
link_by_parts true text (Some Text) name (Some entry) expr tag o n e x t = four true (is_name (name_at text entry)) (ltb expr (2 ^ 18)) (ltb tag (2 ^ 6)) refl e x t
link_by_parts false text (Some Text) name (Some entry) expr tag o n e x t = four true (is_name (name_at text entry)) (ltb expr (2 ^ 18)) (ltb tag (2 ^ 6)) refl e x t
link_by_parts true text (Some Linkage) name None expr tag o n e x t = four true true (ltb expr (2 ^ 18)) (ltb tag (2 ^ 6)) refl refl x t
link_by_parts false text (Some Linkage) name None expr tag o n e x t = four true true (ltb expr (2 ^ 18)) (ltb tag (2 ^ 6)) refl refl x t
link_by_parts true text (Some Linkage) name (Some entry) expr tag o n e x t = four true (is_name (name_at text entry)) (ltb expr (2 ^ 18)) (ltb tag (2 ^ 6)) refl e x t
link_by_parts false text (Some Linkage) name (Some entry) expr tag o n e x t = four true (is_name (name_at text entry)) (ltb expr (2 ^ 18)) (ltb tag (2 ^ 6)) refl e x t
link_by_parts outer text (Some Symbol) name entry expr tag o n e x t = absurd (true≢false (sym o))
link_by_parts true text (Some Static) name None expr tag o n e x t = four true true (ltb expr (2 ^ 18)) (ltb tag (2 ^ 6)) refl refl x t
link_by_parts true text (Some Static) name (Some entry) expr tag o n e x t = four true (is_name (name_at text entry)) (ltb expr (2 ^ 18)) (ltb tag (2 ^ 6)) refl e x t
link_by_parts false text (Some Static) name entry expr tag o n e x t = absurd (true≢false (sym o))

tag_small : (tag : ℕ) → tag % 2 ^ 6 < 2 ^ 6
tag_small tag = omega arith

link_good : (text : List ℕ) (tables : Tables) (spot : LocationCounter) (segment : Span) (entry : Option Span) (terms : List Term) (tag : ℕ) → may_name tables (own_section (slice_of text segment)) ≡ true
    → segment_is_named text (Some segment) ≡ true → entry_is_named text entry ≡ true → is_valid_link (version_of tables.uses_outer) (link_of text tables.symbols spot segment entry terms tag) ≡ true
unfolding link_of
link_good text tables spot segment entry terms tag h n e =
    link_by_parts tables.uses_outer text (own_section (slice_of text segment)) (name_at text segment) entry (half_of (sum_of text tables.symbols spot terms).value) (tag % 2 ^ 6)
    (own_good tables.uses_outer (slice_of text segment) h) n e
    (lt-ltb (half_of (sum_of text tables.symbols spot terms).value) (2 ^ 18) (half_small (sum_of text tables.symbols spot terms).value)) (lt-ltb (tag % 2 ^ 6) (2 ^ 6) (tag_small tag))

pushed_by : (version : ℕ) (links : List LinkFields) (link : LinkFields) (there : Bool) → list_all (is_valid_link version) links ≡ true → is_valid_link version link ≡ true
    → list_all (is_valid_link version) (cond there links (links ++ link ∷ [])) ≡ true
pushed_by version links link true all good = all
pushed_by version links link false all good =
    list_all-append (is_valid_link version) links (link ∷ []) ∙ and_from (list_all (is_valid_link version) links) (list_all (is_valid_link version) (link ∷ [])) all (and_from (is_valid_link version link) true good refl)

valued_by : (version : ℕ) (links : List LinkFields) (link : LinkFields) (valued : Bool) → list_all (is_valid_link version) links ≡ true → is_valid_link version link ≡ true
    → list_all (is_valid_link version) (with_link links (cond valued (Some link) None)) ≡ true
valued_by version links link true all good = pushed_by version links link (list_any (same_link link) links) all good
valued_by version links link false all good = all

-- with the link of the operand of an instruction that is not refused
operand_good : (text : List ℕ) (tables : Tables) (links : List LinkFields) (spot : LocationCounter) (line : Line36) (pr : Option ℕ) (segment entry : Option Span) (terms : List Term) (tag : ℕ)
    → operand_refusal text tables spot line (Some (arg.Operand pr segment entry terms tag)) ≡ None → (segment_is_named text segment && entry_is_named text entry) ≡ true
    → list_all (is_valid_link (version_of tables.uses_outer)) links ≡ true → list_all (is_valid_link (version_of tables.uses_outer)) (with_link links (link_of_parts text tables.symbols spot segment entry terms tag)) ≡ true
operand_good text tables links spot line pr None entry terms tag e names all = all
operand_good text tables links spot line pr (Some segment) entry terms tag e names all =
    let parts = and_parts (segment_is_named text (Some segment)) (entry_is_named text entry) names in
    let at = refusal_at line segment.from E7 in
    let reached = earlier_refusal (link_expression text tables.symbols spot line segment entry terms) (refusal_unless (link_is_in_reach text tables spot segment entry terms tag) at) in
    let none = (sooner_none reached (refusal_unless (may_name tables (own_section (slice_of text segment))) at) e).1 in
    let definition_of_name = unless_none (may_name tables (own_section (slice_of text segment))) at none in
    valued_by (version_of tables.uses_outer) links (link_of text tables.symbols spot segment entry terms tag) (has_value text tables.symbols spot terms Half false) all
    (link_good text tables spot segment entry terms tag definition_of_name parts.0 parts.1)

given_good : (text : List ℕ) (tables : Tables) (links : List LinkFields) (spot : LocationCounter) (line : Line36) (arguments : List Arg)
    → operand_refusal text tables spot line (first_arg arguments) ≡ None → args_are_named text arguments ≡ true → list_all (is_valid_link (version_of tables.uses_outer)) links ≡ true
    → list_all (is_valid_link (version_of tables.uses_outer)) (with_link links (link_in text tables.symbols spot (first_arg arguments))) ≡ true
unfolding args_are_named
given_good text tables links spot line [] e names all = all
given_good text tables links spot line (arg.Symbol span ∷ more) e names all = all
given_good text tables links spot line (arg.Number word ∷ more) e names all = all
given_good text tables links spot line (arg.Chars words ∷ more) e names all = all
given_good text tables links spot line (arg.Plain terms ∷ more) e names all = all
given_good text tables links spot line (arg.Operand pr segment entry terms tag ∷ more) e names all =
    operand_good text tables links spot line pr segment entry terms tag e (and_parts (segment_is_named text segment && entry_is_named text entry) (args_are_named text more) names).0 all

deed_good : (text : List ℕ) (tables : Tables) (links : List LinkFields) (spot : LocationCounter) (line : Line36) (d : LineEffect)
    → refusal_of_effect text tables spot line d ≡ None → args_are_named text line.args ≡ true → list_all (is_valid_link (version_of tables.uses_outer)) links ≡ true
    → list_all (is_valid_link (version_of tables.uses_outer)) (with_link links (link_in text tables.symbols spot (first_arg (operand_args d line.args)))) ≡ true
deed_good text tables links spot line deed.Nothing e names all = all
deed_good text tables links spot line (deed.Instruction code bit27) e names all =
    given_good text tables links spot line line.args
    (sooner_none (refusal_unless (is_text_section spot.section) (refusal_at line (op_place line.op) E7)) (operand_refusal text tables spot line (first_arg line.args)) e).1 names all
deed_good text tables links spot line deed.Entry e names all = all
deed_good text tables links spot line deed.Segdef e names all = all
deed_good text tables links spot line deed.Equ e names all = all
deed_good text tables links spot line deed.Use e names all = all
deed_good text tables links spot line deed.Words e names all = all
deed_good text tables links spot line deed.Zero e names all = all
deed_good text tables links spot line deed.Block e names all = all
deed_good text tables links spot line deed.Even e names all = all
deed_good text tables links spot line deed.Bound e names all = all

pub links_good : (text : List ℕ) (tables : Tables) (done : List Named) (links : List LinkFields) (spot : LocationCounter) (lines : List Line36)
    → lines_refusal text tables done spot lines ≡ None → lines_are_named text lines ≡ true → list_all (is_valid_link (version_of tables.uses_outer)) links ≡ true
    → list_all (is_valid_link (version_of tables.uses_outer)) (links_from text tables.symbols links spot lines) ≡ true
unfolding links_from links_after lines_are_named
links_good text tables done links spot [] e names all = all
links_good text tables done links spot (line ∷ lines) e names all =
    let parts = and_parts (args_are_named text line.args) (lines_are_named text lines) names in
    let own = (line_parts text tables done spot line (head_line text tables done spot line lines e)).1 in
    links_good text tables (definitions_after text tables.symbols done line) (links_after text tables.symbols links spot line) (next_line_spot text spot line) lines
    (other_lines text tables done spot line lines e) parts.1 (deed_good text tables links spot line line.deed own parts.0 all)
