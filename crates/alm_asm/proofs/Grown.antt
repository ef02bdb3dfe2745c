-- The sizes of the sections count the links and the relocations, and no section is over the limit.
use Rattle.std.proofs.Common.{◌≡◌, ℕ, ◌+◌, ◌*◌, ◌≤◌, Bool, true, false, cond, ◌||◌, ltb, List, [], ◌∷◌, ◌++◌, length, Option, Some, None, is_some, refl, ap, ◌∙◌, true≢false}
use Rattle.std.specs.List.{list_any}
use Rattle.std.proofs.lemmas.Bool.{or_parts, ltb-false}
use Rattle.alm_parse.specs.declared.args.Arg.{Arg}
use Rattle.alm_parse.specs.declared.args.Arg.TheVariants as arg
use Rattle.alm_parse.specs.declared.line.Line36.{Line36}
use Rattle.obj36_parts.specs.Fields.{LinkFields}
use Rattle.obj36_parts.specs.Names.{name_size}
use Rattle.obj36_parts.specs.Indexes.{same_link}
use Rattle.obj36_parts.specs.ObjectSegment.{head_words, link_names, section_limit}
use Rattle.alm_lines.specs.Sums.{zero_sum}
use Rattle.alm_lines.specs.Symbols.{sum_named, with_symbol}
use Rattle.alm_lines.specs.Arguments.{name_at, first_arg}
use Rattle.alm_lines.specs.Spots.{start, next_line_spot, end_of}
use Rattle.alm_lines.specs.SpotFields.{LocationCounter}
use Rattle.alm_lines.specs.Refusals.{refusal_at}
use Rattle.alm_lines.specs.declared.sum.Sum.{Sum}
use Rattle.alm_lines.specs.declared.refusal.AlmCode.TheVariants.{E8}
use Rattle.alm_lines.specs.declared.refusal.AlmRefusal.{AlmRefusal}
use Rattle.alm_asm.specs.Links.{operand_args, link_in, links_after, links_from}
use Rattle.alm_asm.specs.Links.{with_link}
use Rattle.alm_asm.specs.Definitions.{defines_entries, sum_refusal}
use Rattle.alm_asm.specs.Growth.{first_growth, with_name, with_names, with_definition, with_definition_unless_refused, with_arg, with_args, with_definitions, with_new_link, with_link_once, with_link_if_any, line_relocation_count, with_relocations, growth_after_line, has_section_over_limit, growth_refusal}
use Rattle.alm_asm.specs.declared.growth.Growth.{Growth}

-- ---- the end

-- the sizes of the sections with all lines
unfoldable pub growth_from : List ℕ → List (List ℕ × Sum) → Growth → LocationCounter → List Line36 → Growth
growth_from text symbols g spot [] = g
growth_from text symbols g spot (line ∷ lines) = growth_from text symbols (growth_after_line text symbols spot g line) (next_line_spot text spot line) lines

refused_by : (b : Bool) (refusal : AlmRefusal) (rest : Option AlmRefusal) → cond b (Some refusal) rest ≡ None → (b ≡ false) × (rest ≡ None)
refused_by true refusal rest e = absurd (true≢false (ap is_some e))
refused_by false refusal rest e = (refl, e)

not_over_from : (text : List ℕ) (symbols : List (List ℕ × Sum)) (g : Growth) (spot : LocationCounter) (lines : List Line36) → has_section_over_limit spot g ≡ false → growth_refusal text symbols g spot lines ≡ None
    → has_section_over_limit (end_of text spot lines) (growth_from text symbols g spot lines) ≡ false
unfolding growth_refusal growth_from end_of
not_over_from text symbols g spot [] e none = e
not_over_from text symbols g spot (line ∷ lines) e none =
    let after = growth_after_line text symbols spot g line in
    let parts = refused_by (has_section_over_limit (next_line_spot text spot line) after) (refusal_at line line.start E8) (growth_refusal text symbols after (next_line_spot text spot line) lines) none in
    not_over_from text symbols after (next_line_spot text spot line) lines parts.0 parts.1

-- No section has more words than it may have.
pub record IsWithin (spot : LocationCounter) (g : Growth) : Type 0 where
  pub definition : g.definition ≤ section_limit
  pub linkage : head_words + spot.inner + 2 * length g.links ≤ section_limit
  pub symbol : g.symbol ≤ section_limit

within : (spot : LocationCounter) (g : Growth) → has_section_over_limit spot g ≡ false → IsWithin spot g
unfolding has_section_over_limit
within spot g e =
    let linkage = head_words + spot.inner + 2 * length g.links in
    let last = or_parts (ltb section_limit g.definition || ltb section_limit linkage) (ltb section_limit g.symbol) e in
    let first = or_parts (ltb section_limit g.definition) (ltb section_limit linkage) last.0 in
    record {
      definition = ltb-false section_limit g.definition first.0;
      linkage = ltb-false section_limit linkage first.1;
      symbol = ltb-false section_limit g.symbol last.1;
    }

at_first_within : has_section_over_limit start first_growth ≡ false
unfolding has_section_over_limit
at_first_within = refl

pub end_within : (text : List ℕ) (symbols : List (List ℕ × Sum)) (lines : List Line36) → growth_refusal text symbols first_growth start lines ≡ None
    → IsWithin (end_of text start lines) (growth_from text symbols first_growth start lines)
end_within text symbols lines none =
    within (end_of text start lines) (growth_from text symbols first_growth start lines) (not_over_from text symbols first_growth start lines at_first_within none)

-- ---- names

-- names change neither links nor relocations
pub record Follows (g h : Growth) : Type 0 where
  pub links : h.links ≡ g.links
  pub symbol : h.symbol ≡ g.symbol

stays : (g : Growth) → Follows g g
stays g = record { links = refl; symbol = refl }

onward : (g h k : Growth) → Follows g h → Follows h k → Follows g k
onward g h k a b = record { links = b.links ∙ a.links; symbol = b.symbol ∙ a.symbol }

unless_there : (b : Bool) (g h : Growth) → Follows g h → Follows g (cond b g h)
unless_there true g h a = stays g
unless_there false g h a = a

name_follows : (g : Growth) (name : List ℕ) → Follows g (with_name g name)
unfolding with_name
name_follows g name =
    unless_there (is_some (sum_named name g.names)) g (record g { names = with_symbol g.names name zero_sum; definition = g.definition + name_size name })
    (record { links = refl; symbol = refl })

pub names_follow : (g : Growth) (names : List (List ℕ)) → Follows g (with_names g names)
unfolding with_names
names_follow g [] = stays g
names_follow g (name ∷ names) = onward g (with_name g name) (with_names (with_name g name) names) (name_follows g name) (names_follow (with_name g name) names)

pub definition_follows : (g : Growth) (name : List ℕ) → Follows g (with_definition g name)
unfolding with_definition
definition_follows g name =
    let defined = record g { defined = with_symbol g.defined name zero_sum; definition = g.definition + 2 } in
    unless_there (is_some (sum_named name g.defined)) g (with_name (record g { defined = with_symbol g.defined name zero_sum; definition = g.definition + 2 }) name)
    (onward g defined (with_name defined name) (record { links = refl; symbol = refl }) (name_follows defined name))

unrefused_follows : (refusal : Option AlmRefusal) (g : Growth) (name : List ℕ) → Follows g (with_definition_unless_refused refusal g name)
unrefused_follows (Some refusal) g name = stays g
unrefused_follows None g name = definition_follows g name

arg_follows : (text : List ℕ) (symbols : List (List ℕ × Sum)) (line : Line36) (is_entry : Bool) (g : Growth) (given : Arg) → Follows g (with_arg text symbols line is_entry g given)
arg_follows text symbols line is_entry g (arg.Symbol span) =
    unrefused_follows (sum_refusal line span.from is_entry (sum_named (name_at text span) symbols)) g (name_at text span)
arg_follows text symbols line is_entry g (arg.Number word) = stays g
arg_follows text symbols line is_entry g (arg.Chars words) = stays g
arg_follows text symbols line is_entry g (arg.Plain terms) = stays g
arg_follows text symbols line is_entry g (arg.Operand pr segment entry terms tag) = stays g

args_follow : (text : List ℕ) (symbols : List (List ℕ × Sum)) (line : Line36) (is_entry : Bool) (g : Growth) (arguments : List Arg) → Follows g (with_args text symbols line is_entry g arguments)
unfolding with_args
args_follow text symbols line is_entry g [] = stays g
args_follow text symbols line is_entry g (given ∷ arguments) =
    let after = with_arg text symbols line is_entry g given in
    onward g after (with_args text symbols line is_entry after arguments) (arg_follows text symbols line is_entry g given) (args_follow text symbols line is_entry after arguments)

pub definitions_follow : (text : List ℕ) (symbols : List (List ℕ × Sum)) (line : Line36) (g : Growth) (gives : Option Bool) → Follows g (with_definitions text symbols line g gives)
definitions_follow text symbols line g None = stays g
definitions_follow text symbols line g (Some is_entry) = args_follow text symbols line is_entry g line.args

-- ---- links

-- one more link if it is new, and no relocation
record Links (linked : List LinkFields) (g h : Growth) : Type 0 where
  links : h.links ≡ linked
  pub symbol : h.symbol ≡ g.symbol

once_by : (b : Bool) (g : Growth) (link : LinkFields) → Links (cond b g.links (g.links ++ link ∷ [])) g (cond b g (with_new_link g link))
unfolding with_new_link
once_by true g link = record { links = refl; symbol = refl }
once_by false g link =
    let linked = names_follow (record g { links = g.links ++ link ∷ []; definition = g.definition + 2 }) (link_names link) in
    record { links = linked.links; symbol = linked.symbol }

link_once : (g : Growth) (link : LinkFields) → Links (with_link g.links (Some link)) g (with_link_once g link)
unfolding with_link_once
link_once g link = once_by (list_any (same_link link) g.links) g link

given_links : (g : Growth) (given : Option LinkFields) → Links (with_link g.links given) g (with_link_if_any g given)
given_links g None = record { links = refl; symbol = refl }
given_links g (Some link) = link_once g link

-- ---- a line

pub line_links : (text : List ℕ) (symbols : List (List ℕ × Sum)) (spot : LocationCounter) (g : Growth) (line : Line36) → (growth_after_line text symbols spot g line).links ≡ links_after text symbols g.links spot line
unfolding growth_after_line with_relocations links_after
line_links text symbols spot g line =
    let given = link_in text symbols spot (first_arg (operand_args line.deed line.args)) in
    let definition_of_name = with_definitions text symbols line g (defines_entries line.deed) in
    (given_links definition_of_name given).links
    ∙ ap (λ (links : List LinkFields). with_link links given) (definitions_follow text symbols line g (defines_entries line.deed)).links

pub line_symbol : (text : List ℕ) (symbols : List (List ℕ × Sum)) (spot : LocationCounter) (g : Growth) (line : Line36)
    → (growth_after_line text symbols spot g line).symbol ≡ g.symbol + line_relocation_count text symbols spot line.args line.deed
unfolding growth_after_line with_relocations
line_symbol text symbols spot g line =
    let given = link_in text symbols spot (first_arg (operand_args line.deed line.args)) in
    let definition_of_name = with_definitions text symbols line g (defines_entries line.deed) in
    ap (λ n. n + line_relocation_count text symbols spot line.args line.deed)
    ((given_links definition_of_name given).symbol ∙ (definitions_follow text symbols line g (defines_entries line.deed)).symbol)

-- the links that are counted are those of the object
pub links_grown : (text : List ℕ) (symbols : List (List ℕ × Sum)) (g : Growth) (spot : LocationCounter) (lines : List Line36)
    → (growth_from text symbols g spot lines).links ≡ links_from text symbols g.links spot lines
unfolding growth_from links_from
links_grown text symbols g spot [] = refl
links_grown text symbols g spot (line ∷ lines) =
    links_grown text symbols (growth_after_line text symbols spot g line) (next_line_spot text spot line) lines
    ∙ ap (λ (links : List LinkFields). links_from text symbols links (next_line_spot text spot line) lines) (line_links text symbols spot g line)
